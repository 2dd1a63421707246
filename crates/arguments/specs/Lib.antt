pub mod CommandLine
pub mod CsimJob
pub mod DinJob
pub mod Faults
pub mod Job
pub mod Numbers
pub mod Readings
pub mod SweepJob
