pub mod CollectLaws
pub mod Gathering
pub mod KeyOrder
pub mod RankLaws
