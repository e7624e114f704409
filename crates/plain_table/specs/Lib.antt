pub mod Calls
pub mod Table
pub mod Entering
pub mod Kept
pub mod Calling
pub mod Laws
