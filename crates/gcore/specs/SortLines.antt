-- What is told of a sort rule that a query file breaks.
use Rattle.std.specs.Prelude.{ℕ, List, codes}
use Rattle.gc_sorts.specs.declared.breach.SortRule.{SortRule}
use Rattle.gc_sorts.specs.declared.breach.SortRule.TheVariants.{UnknownGraph, UnknownView, UnknownName, SortClash, TwiceBound, SharedOptional, AllNotProjected, LooseEdge, TwiceGrouped, ViewNeedsEdge, KOutOfRange, AggregateHere, ExistsForm, NameTaken, TooLarge}

-- a rule with its code
abbrev pub rule_text : SortRule → List ℕ
rule_text UnknownGraph = codes "S1 UnknownGraph"
rule_text UnknownView = codes "S2 UnknownView"
rule_text UnknownName = codes "S3 UnknownName"
rule_text SortClash = codes "S4 SortClash"
rule_text TwiceBound = codes "S5 TwiceBound"
rule_text SharedOptional = codes "S6 SharedOptional"
rule_text AllNotProjected = codes "S7 AllNotProjected"
rule_text LooseEdge = codes "S8 LooseEdge"
rule_text TwiceGrouped = codes "S9 TwiceGrouped"
rule_text ViewNeedsEdge = codes "S10 ViewNeedsEdge"
rule_text KOutOfRange = codes "S11 KOutOfRange"
rule_text AggregateHere = codes "S12 AggregateHere"
rule_text ExistsForm = codes "S13 ExistsForm"
rule_text NameTaken = codes "S14 NameTaken"
rule_text TooLarge = codes "S15 TooLarge"
