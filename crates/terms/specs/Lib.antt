pub mod Fault
pub mod Mark
pub mod Reply
pub mod Text
