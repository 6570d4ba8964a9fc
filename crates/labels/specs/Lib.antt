pub mod Label
pub mod Order
pub mod Text
pub mod Spelling
pub mod Bytes
pub mod Table
pub mod Reading
pub mod Printing
