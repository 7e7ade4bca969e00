-- Literals and their order.
use Rattle.std.specs.Prelude.{ℕ, List, ⊤, IsUtf8, FitsSigned}
use Rattle.std.specs.declared.cmp.Ordering.{Ordering}
use Rattle.std.specs.Ordering.{nat_cmp, int_cmp, bool_cmp}
use Rattle.std.specs.Cmp.Lexicographic.{slice_cmp}
use Rattle.std.specs.Int.{w64}
use Rattle.gc_base.specs.declared.literal.Literal.{Literal}
use Rattle.gc_base.specs.declared.literal.Literal.TheVariants.{Truth, Number, Text}

-- texts and names are ordered by their bytes
abbrev pub text_order : List ℕ → List ℕ → Ordering
text_order = slice_cmp nat_cmp

-- truths are before numbers, and numbers before texts
abbrev pub kind_number : Literal → ℕ
kind_number (Truth t) = 0
kind_number (Number n) = 1
kind_number (Text t) = 2

-- FALSE, TRUE, the numbers by size, the texts by bytes
abbrev pub literal_order : Literal → Literal → Ordering
literal_order (Truth s) (Truth t) = bool_cmp s t
literal_order (Number m) (Number n) = int_cmp m n
literal_order (Text s) (Text t) = text_order s t
literal_order a b = nat_cmp (kind_number a) (kind_number b)

-- a number fits 64 bits, a text is UTF-8
abbrev pub IsLiteral : Literal → Type 0
IsLiteral (Truth t) = ⊤
IsLiteral (Number n) = FitsSigned w64 n
IsLiteral (Text t) = IsUtf8 t
