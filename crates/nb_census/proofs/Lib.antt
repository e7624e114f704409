mod Lists
mod Counted
mod Steps
mod Seats
mod Tokens
mod Walks
