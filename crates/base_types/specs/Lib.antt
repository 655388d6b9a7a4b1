pub mod Octets
pub mod TextMaps
