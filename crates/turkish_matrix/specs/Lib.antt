pub mod Printed
pub mod Rules
