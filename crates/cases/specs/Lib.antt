-- The starred codes of 01 and codes of request 1, checked by computation. Starts lists the pairs of words that are rivals or may begin, Steps and Layers the
-- pairs of places that are reached from them, Enumeration the readings of a message; Delays, Messages and Readings say what the lists show; Cases makes one
-- check of it, and Starred has the tables and their lone statement. Banned makes the check of codes with bans, and WithBans has a table of these.
pub mod Members
pub mod Comparing
pub mod Rivals
pub mod Starts
pub mod Steps
pub mod Layers
pub mod Ends
pub mod Delays
pub mod Messages
pub mod Enumeration
pub mod Readings
pub mod Cases
pub mod Starred
pub mod Banned
pub mod WithBans
