pub mod TimeLaws
pub mod Order
pub mod Inserting
pub mod Taking
pub mod Clearing
