pub mod Firsts
pub mod FirstWords
pub mod Choices
