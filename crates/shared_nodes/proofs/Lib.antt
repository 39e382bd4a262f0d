pub mod Handing
pub mod JournalRows
pub mod OneMore
pub mod Rising
pub mod Travels
