mod CallsBefore
mod Entering
pub mod CallsOf
mod OneCall
mod EachCall
mod Shares
mod OneBucket
mod Room
mod Ready
pub mod Whole
