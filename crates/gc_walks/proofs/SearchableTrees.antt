-- An expression by which walks can be looked for has an automaton.
use Rattle.std.proofs.Common.{◌≡◌, ◌≤◌, ◌&&◌, ◌==◌, Bool, true, false, not, ℕ, suc, List, [], ◌∷◌, length, map, refl, sym, ap, arith}
use Rattle.std.specs.Prelude.{nat_le}
use Rattle.std.proofs.lemmas.Bool.Decides.{nat_tests}
use Rattle.gc_regx.specs.Expressions.{HasParts, IsFormed, IsSome}
use Rattle.gc_regx.specs.Trees.{Kind, RegexTree, ARegex, ARow, Label, Back, Any, AnyBack, Test, View, Cat, Alt, Star, none, more, row}
use Rattle.gc_regx.specs.Views.{regex_tree}
use Rattle.gc_regx.specs.declared.regex.Regex.{Regex}
use Rattle.gc_automata.specs.Automata.{automaton_of}
use Rattle.gc_walks.specs.Expressions.{has_part, has_parts, is_searchable}

left : (a b : Bool) → (a && b) ≡ true → a ≡ true
left true b h = refl
left false b h = cc

right : (a b : Bool) → (a && b) ≡ true → b ≡ true
right true b h = h
right false b h = cc

not_none : (n : ℕ) → (suc n == 0) ≡ false
not_none n = grind (arith, nat_tests)

pub part_is : (parts : List Regex) → has_part (row (map regex_tree parts)) ≡ not (length parts == 0)
part_is [] = refl
part_is (part ∷ parts) = ap not (sym (not_none (length parts)))

some_part : (parts : RegexTree ARow) → has_part parts ≡ true → IsSome parts
some_part none h = cc
some_part (more part parts) h = tt

all_parts : {k : Kind} (t : RegexTree k) → has_parts t ≡ true → HasParts t
unfolding has_parts IsFormed
all_parts (Label l) h = tt
all_parts (Back l) h = tt
all_parts Any h = tt
all_parts AnyBack h = tt
all_parts (Test l) h = tt
all_parts (View v) h = tt
all_parts (Cat parts) h = (some_part parts (left (has_part parts) (has_parts parts) h), all_parts parts (right (has_part parts) (has_parts parts) h))
all_parts (Alt parts) h = (tt, all_parts parts h)
all_parts (Star part) h = all_parts part h
all_parts none h = tt
all_parts (more part parts) h = (all_parts part (left (has_parts part) (has_parts parts) h), all_parts parts (right (has_parts part) (has_parts parts) h))

pub searchable_parts : (tree : RegexTree ARegex) → is_searchable tree ≡ true → HasParts tree
searchable_parts tree h = all_parts tree (left (has_parts tree) (nat_le (automaton_of {k = ARegex} tree).states 1024) h)

below : (n : ℕ) → nat_le n 1024 ≡ true → n ≤ 1024
below n h = grind (arith, nat_tests)

pub searchable_states : (tree : RegexTree ARegex) → is_searchable tree ≡ true → (automaton_of {k = ARegex} tree).states ≤ 1024
searchable_states tree h = below (automaton_of {k = ARegex} tree).states (right (has_parts tree) (nat_le (automaton_of {k = ARegex} tree).states 1024) h)
