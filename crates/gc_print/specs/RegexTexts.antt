-- The texts of regular path expressions.
use Rattle.std.specs.Prelude.{ℕ, zero, suc, nat_lt, List, [], ◌∷◌, ◌++◌, map, codes, if◌then◌else◌}
use Rattle.std.specs.List.{join_with_byte}
use Rattle.gc_regx.specs.Trees.{Kind, RegexTree, ARegex, ARow, Label, Back, Any, AnyBack, Test, View, Cat, Alt, Star, none, more}
use Rattle.gc_print.specs.LooseTrees.{looseness_of, rank}
use Rattle.gc_print.specs.declared.looseness.Looseness.{Looseness}
use Rattle.gc_print.specs.declared.looseness.Looseness.TheVariants as loose

-- a part of a list: how loose it is, and its text
pub record Part : Type 0 where
  pub looseness : Looseness
  pub text : List ℕ

-- the text of a part where only parts up to some looseness stand without parentheses
abbrev pub enclosed : Looseness → Part → List ℕ
enclosed most part = if nat_lt (rank most) (rank part.looseness) then codes "(" ++ part.text ++ codes ")" else part.text

-- an expression has a text, and a row of expressions has that of each
abbrev pub TextOf : Kind → Type 0
TextOf ARegex = List ℕ
TextOf ARow = List Part

-- `:l`, `:l-`, `_`, `_-`, `!:l` and `~v`; parts that follow one another, with a space between them;
-- branches, with `|` between them; and a part with `*` directly after it
unfoldable pub text_of : {k : Kind} → RegexTree k → TextOf k
text_of (Label l) = codes ":" ++ l
text_of (Back l) = codes ":" ++ l ++ codes "-"
text_of Any = codes "_"
text_of AnyBack = codes "_-"
text_of (Test l) = codes "!:" ++ l
text_of (View v) = codes "~" ++ v
text_of (Cat parts) = join_with_byte 32 (map (enclosed loose.Star) (text_of parts))
text_of (Alt parts) = join_with_byte 124 (map (enclosed loose.Juxtaposition) (text_of parts))
text_of (Star part) = enclosed loose.Unit (record { looseness = looseness_of part; text = text_of part }) ++ codes "*"
text_of none = []
text_of (more part parts) = record { looseness = looseness_of part; text = text_of part } ∷ text_of parts

-- the text of an expression
abbrev pub regex_text : RegexTree ARegex → List ℕ
regex_text tree = text_of tree

-- an expression as a part
abbrev pub part_of : RegexTree ARegex → Part
part_of tree = record { looseness = looseness_of tree; text = text_of tree }

-- a byte before each part but the first
abbrev pub byte_before : ℕ → ℕ → List ℕ
byte_before zero c = []
byte_before (suc i) c = c ∷ []
