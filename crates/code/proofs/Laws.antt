-- What the definitions imply of delays, of the first words that symbols tell, of verdicts and of sheets without start fields, for every table. These theorems stand
-- here so that a must-fail edit of a definition is refused for the theorem that falls.
pub mod Openings
pub mod Sharing
pub mod Delays
pub mod NextWords
pub mod Verdicts
pub mod Ones
