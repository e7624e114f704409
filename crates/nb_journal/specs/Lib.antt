pub mod Keys
pub mod Fold
pub mod Lawful
pub mod Accounts
pub mod Steps
pub mod Laws
