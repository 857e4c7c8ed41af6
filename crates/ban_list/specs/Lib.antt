pub mod Numbers
pub mod Ensured
pub mod BanRecords
