pub mod Tables
pub mod SixBitCodes
pub mod RoundTrips
pub mod CodeRange
pub mod Addresses
pub mod Appendings
