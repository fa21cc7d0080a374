pub mod Numbers
pub mod Working
