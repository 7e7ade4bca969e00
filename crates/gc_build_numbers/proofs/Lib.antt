pub mod GroupsOf
pub mod KeysLaws
pub mod RowTurns
pub mod TermLaws
pub mod WhichLaws
pub mod WholeRowLaws
