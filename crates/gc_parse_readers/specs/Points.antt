-- Places in a list of tokens.
use Rattle.std.specs.Prelude.{ℕ, List, []}
use Rattle.gc_ast.specs.Trees.{Tree, AQuery}
use Rattle.gc_grammar.specs.Words.{Point}

-- a point without EXISTS queries before it
abbrev pub bare : ℕ → Point
bare at = record { token = at; exists = [] }

-- a point with EXISTS queries before it
abbrev pub point : ℕ → List (Tree AQuery) → Point
point at queries = record { token = at; exists = queries }
