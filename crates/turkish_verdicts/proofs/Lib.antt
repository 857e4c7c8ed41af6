-- What the two cases show. These theorems stand here so that a must-fail edit of a case is refused for the check that falls.
pub mod Cases
pub mod Lines
pub mod Answered
