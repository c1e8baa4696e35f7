pub mod GrowingLemmas
pub mod JoiningLemmas
pub mod TakenLemmas
pub mod ServingLemmas
pub mod FaultLemmas
pub mod PacketLemmas
pub mod EventLemmas
