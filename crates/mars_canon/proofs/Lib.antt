pub mod Forms
pub mod Laying
pub mod Plain
