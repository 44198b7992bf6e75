-- The table as the code keeps it.
pub mod code
