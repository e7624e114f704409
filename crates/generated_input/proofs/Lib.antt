pub mod States
pub mod Growing
pub mod Fitting
pub mod Measures
