pub mod TimeRows
