pub mod HospitalSide
pub mod ReadFits
mod ReadLaid
pub mod ReadWritten
pub mod WrittenRead
pub mod RunCalls
pub mod TextCalls
pub mod WriteCalls
pub mod LengthCalls
pub mod LengthSide
pub mod FetchCalls
pub mod ShelfAnswers
pub mod ShelfSide
