pub mod Inject
pub mod Law
pub mod Steps
