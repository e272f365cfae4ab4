pub mod Late
pub mod RingPlans
pub mod OpenPlans
pub mod Plans
