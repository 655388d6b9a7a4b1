pub mod ProperTests
