pub mod SameShown
