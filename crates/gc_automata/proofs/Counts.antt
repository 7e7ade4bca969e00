-- The states of expressions.
use Rattle.std.proofs.Common.{◌≡◌, ℕ, ◌+◌, ◌-◌, ◌^◌, ◌≤◌, min, arith, length, drop, List, [], ◌∷◌, map, refl, sym, ap, ◌∙◌, Vec, Box, Global}
use Rattle.std.proofs.lemmas.List.{at_drop_all}
use Rattle.gc_regx.specs.Trees.{RegexTree, ARegex, row}
use Rattle.gc_regx.specs.Views.{regex_tree}
use Rattle.gc_regx.proofs.PartTrees.{cat_tree, alt_tree, star_tree}
use Rattle.gc_regx.specs.declared.regex.Regex.{Regex, Cat, Alt, Star}
use Rattle.gc_automata.specs.Automata.{Automaton, automaton_of, states_in, in_turn, one_of, star_of}

-- the automata of a row are those of its expressions
pub row_automata : {X : Type 0} (tree : X → RegexTree ARegex) (xs : List X) → automaton_of (row (map tree xs)) ≡ map (λ x. automaton_of (tree x)) xs
unfolding automaton_of
row_automata tree [] = refl
row_automata tree (x ∷ xs) = ap (λ automata. automaton_of (tree x) ∷ automata) (row_automata tree xs)

pub count_cat : (parts : Vec Regex Global) → states_in (map (λ part. automaton_of (regex_tree part)) parts.items) ≡ (automaton_of {k = ARegex} (regex_tree (Cat parts))).states
unfolding automaton_of
count_cat parts = ap states_in (sym (row_automata regex_tree parts.items)) ∙ ap (λ t. (automaton_of {k = ARegex} t).states) (sym (cat_tree parts))

pub count_alt : (parts : Vec Regex Global) → 2 + states_in (map (λ part. automaton_of (regex_tree part)) parts.items) ≡ (automaton_of {k = ARegex} (regex_tree (Alt parts))).states
unfolding automaton_of
count_alt parts = ap (λ parts. 2 + states_in parts) (sym (row_automata regex_tree parts.items)) ∙ ap (λ t. (automaton_of {k = ARegex} t).states) (sym (alt_tree parts))

pub count_star : (part : Box Regex Global) → 2 + (automaton_of {k = ARegex} (regex_tree part.value)).states ≡ (automaton_of {k = ARegex} (regex_tree (Star part))).states
unfolding automaton_of
count_star part = ap (λ t. (automaton_of {k = ARegex} t).states) (sym (star_tree part))

-- where none are left, what is counted is the whole
pub counted_all : (all i : ℕ) (parts : List Regex) (whole : ℕ) → length parts ≤ i → all ≤ 18446744073709551615
    → min (all + states_in (map (λ part. automaton_of (regex_tree part)) (drop i parts))) 18446744073709551615 ≡ whole → all ≡ whole
counted_all all i parts whole done most counted =
    let none = at_drop_all (λ rest. min (all + states_in (map (λ part. automaton_of (regex_tree part)) rest)) 18446744073709551615) parts i done in
    let left : min (all + 0) 18446744073709551615 ≡ whole = sym none ∙ counted in
    omega (arith, left, most)

-- the automata of expressions that have parts
pub cat_automaton : (parts : Vec Regex Global) → in_turn (map (λ part. automaton_of (regex_tree part)) parts.items) ≡ automaton_of (regex_tree (Cat parts))
unfolding automaton_of
cat_automaton parts = ap in_turn (sym (row_automata regex_tree parts.items)) ∙ ap (automaton_of {k = ARegex}) (sym (cat_tree parts))

pub alt_automaton : (parts : Vec Regex Global) → one_of (map (λ part. automaton_of (regex_tree part)) parts.items) ≡ automaton_of (regex_tree (Alt parts))
unfolding automaton_of
alt_automaton parts = ap one_of (sym (row_automata regex_tree parts.items)) ∙ ap (automaton_of {k = ARegex}) (sym (alt_tree parts))

pub star_automaton : (part : Box Regex Global) → star_of (automaton_of (regex_tree part.value)) ≡ automaton_of (regex_tree (Star part))
unfolding automaton_of
star_automaton part = ap (automaton_of {k = ARegex}) (sym (star_tree part))

pub cat_states : (regex : Regex) (parts : Vec Regex Global) → regex ≡ Cat parts → states_in (map (λ part. automaton_of (regex_tree part)) parts.items) ≡ (automaton_of {k = ARegex} (regex_tree regex)).states
cat_states regex parts is = count_cat parts ∙ ap (λ r. (automaton_of {k = ARegex} (regex_tree r)).states) (sym is)

pub alt_states : (regex : Regex) (parts : Vec Regex Global) → regex ≡ Alt parts → 2 + states_in (map (λ part. automaton_of (regex_tree part)) parts.items) ≡ (automaton_of {k = ARegex} (regex_tree regex)).states
alt_states regex parts is = count_alt parts ∙ ap (λ r. (automaton_of {k = ARegex} (regex_tree r)).states) (sym is)
