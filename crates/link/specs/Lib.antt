pub mod End
pub mod Outcome
pub mod Rules
pub mod Runs
pub mod Totals
pub mod Law
pub mod Worked
