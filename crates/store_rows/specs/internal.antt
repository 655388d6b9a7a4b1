pub mod Stripping
