pub mod Tosses
