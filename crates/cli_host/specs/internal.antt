pub mod ListingSteps
