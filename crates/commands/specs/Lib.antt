pub mod Carrying
pub mod Session
pub mod Text
