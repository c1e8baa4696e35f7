pub mod MessageLemmas
pub mod StreamLemmas
pub mod Framed
