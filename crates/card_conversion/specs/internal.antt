pub mod PieceReaders
pub mod States
pub mod ContactStates
