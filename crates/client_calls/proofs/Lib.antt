pub mod AlonePlaces
pub mod CopiedPieces
mod LentPlaces
