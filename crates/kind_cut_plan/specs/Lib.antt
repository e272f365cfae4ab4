pub mod Kinds
pub mod RingPlans
pub mod OpenPlans
pub mod Plans
