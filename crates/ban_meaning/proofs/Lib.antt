-- What rests on the meaning of a value's bans and on what same records are. These theorems stand here so that a must-fail edit of either is refused for the theorem
-- that falls.
pub mod Given
pub mod SameBans
pub mod Wrong
pub mod Answered
