mod Counts
mod Plain
