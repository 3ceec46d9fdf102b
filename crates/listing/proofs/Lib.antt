pub mod AllSettled
pub mod Climbed
pub mod Columns
pub mod Fresh
pub mod Noted
pub mod Rowed
pub mod Rows
pub mod Surveyed
