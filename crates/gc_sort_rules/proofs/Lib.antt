pub mod ConstructLaws
pub mod ExampleLaws
pub mod ExpressionLaws
pub mod PatternLaws
pub mod Same
pub mod SharedLaws
pub mod TreeLaws
pub mod VerdictLaws
