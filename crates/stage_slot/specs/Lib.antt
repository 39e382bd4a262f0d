pub mod SlotView
pub mod Slots
