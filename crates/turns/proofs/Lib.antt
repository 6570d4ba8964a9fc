pub mod Looking
pub mod Turning
pub mod Nesting
pub mod Whole
pub mod ByItself
