mod ByBytes
mod Stages
pub mod Lines
