-- Limits: the states of an expression, the patterns of a block, the OPTIONAL blocks of a CONSTRUCT, and
-- the number before SHORTEST.
use Rattle.std.specs.Prelude.{ℕ, ℤ, pos, negsuc, List, [], ◌∷◌, Bool, false, ◌&&◌, not, nat_lt, nat_le, Option, Some, None, slice_get}
use Rattle.gc_regx.specs.Trees.{RegexTree, ARegex}
use Rattle.gc_automata.specs.Automata.{automaton_of}
use Rattle.gc_ast.specs.declared.pattern.CountAt.{CountAt}
use Rattle.gc_ast.specs.Trees as tree
use Rattle.gc_ast.specs.Trees.{Tree, TreeOf, Named, RowOf, ABlock, AnOptional, ALocated, APattern, AnElement, APropertyUse, APathBody}
use Rattle.gc_sorts.specs.declared.breach.SortRule.TheVariants.{KOutOfRange, TooLarge}
use Rattle.gc_sorts.specs.Breaches.{Breaches, none, broken, broken_if}
use Rattle.gc_sorts.specs.Uses.{all_of}

-- an expression's automaton has at most 1,024 states
abbrev pub too_many_states : RegexTree ARegex → ℕ → Breaches
too_many_states r regex_at = broken_if (nat_lt 1024 (automaton_of r).states) TooLarge regex_at

-- the number before SHORTEST is 1 to 1,000
abbrev pub is_in_range : ℤ → Bool
is_in_range (pos n) = nat_le 1 n && nat_le n 1000
is_in_range (negsuc n) = false

abbrev pub out_of_range : Option CountAt → Breaches
out_of_range None = none
out_of_range (Some k) = broken_if (not (is_in_range k.count)) KOutOfRange k.token

-- the first tokens of the patterns of a block, in text order: of each node, edge and path, and of the
-- properties behind an element
abbrev pub property_tokens : Tree APropertyUse → List ℕ
property_tokens (tree.PropertyUse token key value) = token ∷ []

abbrev pub element_tokens : Tree AnElement → List ℕ
element_tokens (tree.Element token name labels properties) = token ∷ all_of property_tokens properties

abbrev pub pattern_tokens : Tree APattern → List ℕ
pattern_tokens (tree.Node element) = element_tokens element
pattern_tokens (tree.Edge way element) = element_tokens element
pattern_tokens (tree.Path token regex_at body) = token ∷ []

abbrev pub located_tokens : Tree ALocated → List ℕ
located_tokens (tree.Located parts on) = all_of pattern_tokens parts

-- at most 100 of these tokens
abbrev pub broken_at_if : Option ℕ → Breaches
broken_at_if None = none
broken_at_if (Some token) = broken TooLarge token

abbrev pub too_many : List ℕ → Breaches
too_many tokens = broken_at_if (slice_get tokens 100)

-- the first of some tokens
abbrev pub first_of : List ℕ → Option ℕ
first_of [] = None
first_of (token ∷ tokens) = Some token

-- the tokens of OPTIONAL blocks
abbrev pub optional_token : Tree AnOptional → ℕ
optional_token (tree.Optional token block) = token

abbrev pub optional_tokens : Tree (RowOf AnOptional) → List ℕ
optional_tokens tree.none = []
optional_tokens (tree.more o os) = optional_token o ∷ optional_tokens os
