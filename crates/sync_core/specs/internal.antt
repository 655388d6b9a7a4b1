pub mod DeviceCodes
