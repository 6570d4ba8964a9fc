pub mod Headline
pub mod Shows
pub mod Printed
