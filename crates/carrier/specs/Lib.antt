pub mod Carrying
pub mod Fault
pub mod Harm
pub mod Harming
pub mod Queue
pub mod Straight
