pub mod ValidInputs
