pub mod EachTest
pub mod Weighed
pub mod Profiles
