pub mod Bounded
pub mod Outcomes
pub mod Placing
pub mod Raising
pub mod Settings
pub mod Lengths
pub mod Bounds
pub mod Deciding
