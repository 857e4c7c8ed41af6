pub mod Printed
pub mod Prints
pub mod Examples
