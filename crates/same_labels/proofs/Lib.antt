pub mod SameItems
