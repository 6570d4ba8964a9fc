pub mod Numbers
pub mod Tables
pub mod Programs
pub mod Validity
