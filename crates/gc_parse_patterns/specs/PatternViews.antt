-- What elements of patterns without their tokens are as plain trees.
use Rattle.std.specs.Prelude.{ℕ, map}
use Rattle.gc_base.specs.declared.place.Direction.{Direction}
use Rattle.gc_expr.specs.Views.{Names, name_of}
use Rattle.gc_ast.specs.declared.pattern.Element.{Element}
use Rattle.gc_ast.specs.declared.pattern.PropertyUse.{PropertyUse}
use Rattle.gc_ast.specs.declared.pattern.PathBody.{PathBody}
use Rattle.gc_ast.specs.declared.pattern.Pattern.{Pattern}
use Rattle.gc_ast.specs.Trees.{Tree, AnElement, APathBody, APattern, APropertyUse}
use Rattle.gc_ast.specs.PatternViews.{named_if, pattern_tree, property_use_by, element_by, body_by}
use Rattle.gc_grammar.specs.Patterns.{Unplaced}
use Rattle.gc_grammar.specs.Regexes.{Expression}
use Rattle.gc_parse_patterns.specs.declared.regex_part.Part.{Part}
use Rattle.gc_parse_patterns.specs.RegexViews.{part_view}
use Rattle.gc_parse_patterns.specs.declared.unplaced.PlainElement.{PlainElement}

-- a use of a property
abbrev pub property_use_tree : Names → PropertyUse → Tree APropertyUse
property_use_tree names = property_use_by (name_of names)

-- an element
abbrev pub element_tree : Names → Element → Tree AnElement
element_tree names = element_by (name_of names)

-- an element without its token
abbrev pub plain_element_view : Names → PlainElement → Unplaced
plain_element_view names e = record {
  name = named_if names e.name;
  labels = e.labels;
  properties = map (property_use_tree names) e.properties;
}

-- an edge without its token, and its way
abbrev pub edge_view : Names → PlainElement × Direction → Unplaced × Direction
edge_view names edge = (plain_element_view names edge.0, edge.1)

-- the body of a path, and the token of its expression
abbrev pub body_view : Names → ℕ × PathBody → ℕ × Tree APathBody
body_view names body = (body.0, body_by (name_of names) body.1)

-- the names after the `~` of an expression beside its tree, and the token where it begins
abbrev pub angled_view : Names → ℕ × Part → ℕ × Expression
angled_view names angled = (angled.0, part_view names angled.1)

-- a link and the node after it
abbrev pub pair_tree : Names → Pattern × Pattern → Tree APattern × Tree APattern
pair_tree names pair = (pattern_tree names pair.0, pattern_tree names pair.1)
