pub mod MarkLaws
pub mod HeadLaws
pub mod GapLaws
pub mod LayLaws
