pub mod Known
pub mod Renewed
pub mod Numbers
pub mod NodeLaws
pub mod Local
pub mod Kept
