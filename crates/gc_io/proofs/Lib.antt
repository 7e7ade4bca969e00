pub mod ReadPieces
pub mod SinkLaws
pub mod WriteTurns
