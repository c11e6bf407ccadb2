pub mod Refused
pub mod Workload
