pub mod PcmLemmas
