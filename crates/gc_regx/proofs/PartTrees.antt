-- The trees of expressions that have parts.
use Rattle.std.proofs.Common.{◌≡◌, map, rules, Vec, Box, Global}
use Rattle.gc_regx.specs.Trees as tree
use Rattle.gc_regx.specs.Trees.{row}
use Rattle.gc_regx.specs.Views.{regex_tree}
use Rattle.gc_regx.specs.declared.regex.Regex.{Regex, Cat, Alt, Star, the_lemmas}

pub cat_tree : (parts : Vec Regex Global) → regex_tree (Cat parts) ≡ tree.Cat (row (map regex_tree parts.items))
unfolding regex_tree
cat_tree parts = search (rules, the_lemmas)

pub alt_tree : (parts : Vec Regex Global) → regex_tree (Alt parts) ≡ tree.Alt (row (map regex_tree parts.items))
unfolding regex_tree
alt_tree parts = search (rules, the_lemmas)

pub star_tree : (part : Box Regex Global) → regex_tree (Star part) ≡ tree.Star (regex_tree part.value)
unfolding regex_tree
star_tree part = search (rules, the_lemmas)
