mod HeadLemmas
mod PlaceLemmas
mod TakenLemmas
