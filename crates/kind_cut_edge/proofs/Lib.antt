pub mod Parting
pub mod OpenCuts
pub mod RingCuts
pub mod Cuts
