-- Laws of writing, one for each store or run of stores.
pub mod WritingLaws
