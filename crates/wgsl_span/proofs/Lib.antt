pub mod Copies
mod Sifts
