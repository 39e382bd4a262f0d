pub mod AtPlaces
pub mod OnceByKey
pub mod FailingLaws
pub mod FailingRows
pub mod FirstSections
pub mod Pieces
pub mod NodeRows
pub mod Staying
