pub mod Operand
pub mod Script
pub mod Item
pub mod Spelling
pub mod Answer
pub mod Reading
pub mod ScriptText
pub mod Noting
