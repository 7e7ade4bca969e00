-- The texts of regular path expressions are ASCII.
use Rattle.std.proofs.Common.{◌≡◌, ℕ, ◌<◌, Bool, true, false, nat_lt, List, [], ◌∷◌, ◌++◌, map, refl, arith, cond, codes}
use Rattle.std.specs.List.{AllByRecursion, list_all, join_with_byte}
use Rattle.std.specs.Str.{IsAscii, IsUtf8, is_utf8}
use Rattle.std.proofs.lemmas.Str.{IsAscii-append, IsUtf8-from_ascii, is_utf8-from_IsUtf8}
use Rattle.std.proofs.lemmas.Str.Ascii.{IsAscii-nil, IsAscii-cons}
use Rattle.gc_base.specs.Words.{is_word, is_reserved}
use Rattle.gc_base.proofs.WordLaws.{word_ascii}
use Rattle.gc_regx.specs.Trees.{Kind, RegexTree, ARegex, ARow, Label, Back, Any, AnyBack, Test, View, Cat, Alt, Star, none, more}
use Rattle.gc_print.specs.LooseTrees.{looseness_of, rank}
use Rattle.gc_print.specs.declared.looseness.Looseness.{Looseness}
use Rattle.gc_print.specs.declared.looseness.Looseness.TheVariants as loose
use Rattle.gc_print.specs.RegexTexts.{Part, enclosed, text_of}
use Rattle.gc_regx.specs.Expressions.{IsFormed, IsExpression}

AreAscii : List Part → Type 0
AreAscii parts = AllByRecursion (λ part. IsAscii part.text) parts

-- a byte before a text, and one behind it
behind_byte : (c : ℕ) (text : List ℕ) → c < 128 → IsAscii text → IsAscii (c ∷ text)
behind_byte c text low ascii = IsAscii-cons c text low ascii

before_byte : (text : List ℕ) (c : ℕ) → c < 128 → IsAscii text → IsAscii (text ++ c ∷ [])
before_byte text c low ascii = IsAscii-append text (c ∷ []) ascii (IsAscii-cons c [] low IsAscii-nil)

enclosed_ascii : (most : Looseness) (part : Part) → IsAscii part.text → IsAscii (enclosed most part)
enclosed_ascii most part ascii = by (nat_lt (rank most) (rank part.looseness))
  where
    by : (loose : Bool) → IsAscii (cond loose (codes "(" ++ part.text ++ codes ")") part.text)
    by true = behind_byte 40 (part.text ++ 41 ∷ []) (omega arith) (before_byte part.text 41 (omega arith) ascii)
    by false = ascii

joined_ascii : (c : ℕ) (most : Looseness) → c < 128 → (parts : List Part) → AreAscii parts → IsAscii (join_with_byte c (map (enclosed most) parts))
unfolding AreAscii
joined_ascii c most low [] ascii = IsAscii-nil
joined_ascii c most low (part ∷ []) ascii = enclosed_ascii most part ascii.0
joined_ascii c most low (part ∷ other ∷ parts) ascii =
    IsAscii-append (enclosed most part) _ (enclosed_ascii most part ascii.0) (behind_byte c _ low (joined_ascii c most low (other ∷ parts) ascii.1))

Ascii : (k : Kind) → RegexTree k → Type 0
Ascii ARegex tree = IsAscii (text_of tree)
Ascii ARow parts = AreAscii (text_of parts)

-- labels and views are words
module _ (view : List ℕ → Type 0) (turn choice : RegexTree ARow → Type 0) (word : (v : List ℕ) → view v → is_word v ≡ true) where
  text_ascii : {k : Kind} (tree : RegexTree k) → IsFormed (λ l. is_word l ≡ true) view turn choice tree → Ascii k tree
  unfolding Ascii AreAscii text_of IsFormed
  text_ascii (Label l) is = behind_byte 58 l (omega arith) (word_ascii l is)
  text_ascii (Back l) is = behind_byte 58 (l ++ 45 ∷ []) (omega arith) (before_byte l 45 (omega arith) (word_ascii l is))
  text_ascii Any is = behind_byte 95 [] (omega arith) IsAscii-nil
  text_ascii AnyBack is = behind_byte 95 (45 ∷ []) (omega arith) (behind_byte 45 [] (omega arith) IsAscii-nil)
  text_ascii (Test l) is = behind_byte 33 (58 ∷ l) (omega arith) (behind_byte 58 l (omega arith) (word_ascii l is))
  text_ascii (View v) is = behind_byte 126 v (omega arith) (word_ascii v (word v is))
  text_ascii (Cat parts) is = joined_ascii 32 loose.Star (omega arith) (text_of parts) (text_ascii parts is.1)
  text_ascii (Alt parts) is = joined_ascii 124 loose.Juxtaposition (omega arith) (text_of parts) (text_ascii parts is.1)
  text_ascii (Star part) is =
      let ascii = text_ascii part is in
      before_byte _ 42 (omega arith) (enclosed_ascii loose.Unit (record { looseness = looseness_of part; text = text_of part }) ascii)
  text_ascii none is = tt
  text_ascii (more part parts) is = (text_ascii part is.0, text_ascii parts is.1)

  pub formed_utf8 : (tree : RegexTree ARegex) → IsFormed (λ l. is_word l ≡ true) view turn choice tree → IsUtf8 (text_of tree)
  unfolding Ascii
  formed_utf8 tree is = IsUtf8-from_ascii (text_of tree) (text_ascii tree is)

pub text_utf8 : (tree : RegexTree ARegex) → IsExpression tree → is_utf8 (text_of tree) ≡ true
text_utf8 tree is = is_utf8-from_IsUtf8 (text_of tree) (formed_utf8 _ _ _ (λ v named. named.0) tree is)
