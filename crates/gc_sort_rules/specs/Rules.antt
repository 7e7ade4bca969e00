-- What a query file breaks: a rule at a token, where a place that stands there breaks it.
use Rattle.std.specs.Prelude.{◌≡◌, ℕ, Bool, true, List, Any}
use Rattle.gc_ast.specs.Trees.{Tree, RowOf, AStatement}
use Rattle.gc_sorts.specs.declared.breach.SortRule.{SortRule}
use Rattle.gc_sorts.specs.declared.breach.SortRule.TheVariants.{UnknownGraph, UnknownView, UnknownName, SortClash, TwiceBound}
use Rattle.gc_sorts.specs.declared.breach.SortRule.TheVariants.{SharedOptional, AllNotProjected, LooseEdge, TwiceGrouped, ViewNeedsEdge}
use Rattle.gc_sorts.specs.declared.breach.SortRule.TheVariants.{KOutOfRange, AggregateHere, ExistsForm, NameTaken, TooLarge}
use Rattle.gc_sort_rules.specs.Places.{Occurrence, token_of}
use Rattle.gc_sort_rules.specs.Occurrences.{file_occurrences}
use Rattle.gc_sort_rules.specs.UnknownGraph as unknown_graph
use Rattle.gc_sort_rules.specs.UnknownView as unknown_view
use Rattle.gc_sort_rules.specs.UnknownName as unknown_name
use Rattle.gc_sort_rules.specs.SortClash as sort_clash
use Rattle.gc_sort_rules.specs.TwiceBound as twice_bound
use Rattle.gc_sort_rules.specs.SharedOptional as shared_optional
use Rattle.gc_sort_rules.specs.AllNotProjected as all_not_projected
use Rattle.gc_sort_rules.specs.LooseEdge as loose_edge
use Rattle.gc_sort_rules.specs.TwiceGrouped as twice_grouped
use Rattle.gc_sort_rules.specs.ViewNeedsEdge as view_needs_edge
use Rattle.gc_sort_rules.specs.KOutOfRange as k_out_of_range
use Rattle.gc_sort_rules.specs.AggregateHere as aggregate_here
use Rattle.gc_sort_rules.specs.ExistsForm as exists_form
use Rattle.gc_sort_rules.specs.NameTaken as name_taken
use Rattle.gc_sort_rules.specs.TooLarge as too_large

-- whether a place breaks a rule
abbrev pub breaks : SortRule → Occurrence → Bool
breaks UnknownGraph = unknown_graph.breaks
breaks UnknownView = unknown_view.breaks
breaks UnknownName = unknown_name.breaks
breaks SortClash = sort_clash.breaks
breaks TwiceBound = twice_bound.breaks
breaks SharedOptional = shared_optional.breaks
breaks AllNotProjected = all_not_projected.breaks
breaks LooseEdge = loose_edge.breaks
breaks TwiceGrouped = twice_grouped.breaks
breaks ViewNeedsEdge = view_needs_edge.breaks
breaks KOutOfRange = k_out_of_range.breaks
breaks AggregateHere = aggregate_here.breaks
breaks ExistsForm = exists_form.breaks
breaks NameTaken = name_taken.breaks
breaks TooLarge = too_large.breaks

-- a place stands at a token and breaks a rule
abbrev pub BreaksAt : SortRule → (token : ℕ) → Occurrence → Type 0
BreaksAt rule token o = (token_of o ≡ token) × (breaks rule o ≡ true)

-- the statements of a file over graphs of these names break a rule at a token
abbrev pub Breaks : List (List ℕ) → Tree (RowOf AStatement) → SortRule → (token : ℕ) → Type 0
Breaks graphs statements rule token = Any (BreaksAt rule token) (file_occurrences graphs statements)
