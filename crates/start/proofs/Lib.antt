pub mod RowsForCounts
pub mod StartMarks
pub mod StartBack
pub mod StartEnds
pub mod FormKnown
pub mod StartRefusals
pub mod Steps
