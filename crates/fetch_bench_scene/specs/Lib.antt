pub mod Bench
pub mod BenchText
