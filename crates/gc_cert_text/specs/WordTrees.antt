-- Expressions in which each word is one.
use Rattle.std.specs.Prelude.{◌≡◌, true, ⊤}
use Rattle.gc_base.specs.Words.{is_word}
use Rattle.gc_regx.specs.Expressions.{IsFormed}
use Rattle.gc_regx.specs.Trees.{Kind, RegexTree}

-- labels and the names of views have the form of words, at each depth
abbrev pub HasWords : {k : Kind} → RegexTree k → Type 0
HasWords tree = IsFormed (λ l. is_word l ≡ true) (λ v. is_word v ≡ true) (λ parts. ⊤) (λ parts. ⊤) tree
