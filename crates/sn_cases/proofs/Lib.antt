pub mod PlayableLemmas
