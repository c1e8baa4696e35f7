-- what a reader believes
pub mod Notes
pub mod Reading
pub mod PlayMany
pub mod Written
pub mod Pulses
pub mod Looping
pub mod Serving
-- workings
pub mod Ends
pub mod Delivery
pub mod StopWord
pub mod Answers
pub mod Clients
pub mod Seating
