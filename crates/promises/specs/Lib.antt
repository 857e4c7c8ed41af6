pub mod RoundTrip
pub mod Letters
