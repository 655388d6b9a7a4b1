pub mod SchemaTests
pub mod StatedNumber
pub mod MetaCursor
