pub mod Marks
pub mod MarksView
