pub mod Bucket
pub mod Counting
pub mod Keeps
pub mod Dues
pub mod Making
pub mod Going
pub mod Entering
pub mod Planned
