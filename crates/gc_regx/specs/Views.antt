-- What a regular path expression is as a plain tree.
use Rattle.gc_regx.specs.declared.regex.Regex.{Regex}
use Rattle.gc_regx.specs.declared.regex.Regex.TheOpen.{Regex-F}
use Rattle.gc_regx.specs.declared.regex.Regex.TheOpen as layer
use Rattle.gc_regx.specs.declared.regex.Regex.TheFolds.{fold-Regex}
use Rattle.gc_regx.specs.Trees.{RegexTree, ARegex, Label, Back, Any, AnyBack, Test, View, Cat, Alt, Star, row}

-- one layer of an expression, with the tree of each part in its place
abbrev pub regex_layer : Regex-F (RegexTree ARegex) → RegexTree ARegex
regex_layer (layer.Label l) = Label l
regex_layer (layer.Back l) = Back l
regex_layer layer.Any = Any
regex_layer layer.AnyBack = AnyBack
regex_layer (layer.Test l) = Test l
regex_layer (layer.View v) = View v
regex_layer (layer.Cat parts) = Cat (row parts.items)
regex_layer (layer.Alt parts) = Alt (row parts.items)
regex_layer (layer.Star part) = Star part.value

-- the tree of an expression
unfoldable pub regex_tree : Regex → RegexTree ARegex
regex_tree = fold-Regex (RegexTree ARegex) regex_layer
