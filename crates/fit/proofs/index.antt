-- Laws of the code in src/index.rt.

-- Buckets of entries: which there are, and where the entries of one owner, kind and name stand.
pub mod BucketLaws
-- Walks over the entries of one bucket, from the last to the first, by the index.
pub mod BucketWalk
