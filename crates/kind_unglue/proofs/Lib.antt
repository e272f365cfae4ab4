pub mod Unglued
