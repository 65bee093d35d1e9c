mod Numbers
mod Flight
mod Rising
mod Direction
mod Cases
mod Calls
pub mod EveryRun
pub mod WorkedRun
