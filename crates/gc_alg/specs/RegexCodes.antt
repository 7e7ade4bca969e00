-- A code of regular path expressions, by which proofs tell them apart: the marks of an expression, parts before what they are
-- parts of. They are read back with a stack.
use Rattle.std.specs.Prelude.{◌≡◌, ℕ, ◌==◌, List, [], ◌∷◌, refl, if◌then◌else◌}
use Rattle.std.specs.Coded.{Coded, code_by, coded×, coded_ℕ, coded_list}
use Rattle.gc_regx.specs.Trees.{Kind, RegexTree, ARegex, ARow, Label, Back, Any, AnyBack, Test, View, Cat, Alt, Star, none, more}
use mathlib.Core.Path.{ap, ◌∙◌}

-- a number for what stands there, and its word
abbrev pub Mark : Type 0
Mark = ℕ × List ℕ

-- the marks of a tree, in front of others
abbrev pub marks : {k : Kind} → RegexTree k → List Mark → List Mark
marks (Label l) rest = (0, l) ∷ rest
marks (Back l) rest = (1, l) ∷ rest
marks Any rest = (2, []) ∷ rest
marks AnyBack rest = (3, []) ∷ rest
marks (Test l) rest = (4, l) ∷ rest
marks (View l) rest = (5, l) ∷ rest
marks (Cat parts) rest = marks parts ((6, []) ∷ rest)
marks (Alt parts) rest = marks parts ((7, []) ∷ rest)
marks (Star part) rest = marks part ((8, []) ∷ rest)
marks none rest = (9, []) ∷ rest
marks (more t ts) rest = marks t (marks ts ((10, []) ∷ rest))

-- a tree of either kind
pub data Item : Type 0 where
  expression : RegexTree ARegex → Item
  parts : RegexTree ARow → Item

abbrev pub item : {k : Kind} → RegexTree k → Item
item {k = ARegex} t = expression t
item {k = ARow} ts = parts ts

-- the top of a stack, made a part of a larger tree
abbrev pub of_row : (RegexTree ARow → RegexTree ARegex) → List Item → List Item
of_row f (parts ts ∷ stack) = expression (f ts) ∷ stack
of_row f stack = stack

abbrev pub starred : List Item → List Item
starred (expression t ∷ stack) = expression (Star t) ∷ stack
starred stack = stack

abbrev pub put_before : List Item → List Item
put_before (parts ts ∷ expression t ∷ stack) = parts (more t ts) ∷ stack
put_before stack = stack

-- what a mark makes of a stack
abbrev pub put : ℕ → List ℕ → List Item → List Item
put n l stack =
    if n == 0 then expression (Label l) ∷ stack
    else if n == 1 then expression (Back l) ∷ stack
    else if n == 2 then expression Any ∷ stack
    else if n == 3 then expression AnyBack ∷ stack
    else if n == 4 then expression (Test l) ∷ stack
    else if n == 5 then expression (View l) ∷ stack
    else if n == 6 then of_row Cat stack
    else if n == 7 then of_row Alt stack
    else if n == 8 then starred stack
    else if n == 9 then parts none ∷ stack
    else put_before stack

abbrev pub read : List Mark → List Item → List Item
read [] stack = stack
read (m ∷ ms) stack = read ms (put m.0 m.1 stack)

abbrev pub top : List Item → RegexTree ARegex
top (expression t ∷ stack) = t
top stack = Any

pub reads_back : {k : Kind} (t : RegexTree k) (rest : List Mark) (stack : List Item) → read (marks t rest) stack ≡ read rest (item t ∷ stack)
reads_back (Label l) rest stack = refl
reads_back (Back l) rest stack = refl
reads_back Any rest stack = refl
reads_back AnyBack rest stack = refl
reads_back (Test l) rest stack = refl
reads_back (View l) rest stack = refl
reads_back (Cat ts) rest stack = reads_back ts ((6, []) ∷ rest) stack
reads_back (Alt ts) rest stack = reads_back ts ((7, []) ∷ rest) stack
reads_back (Star t) rest stack = reads_back t ((8, []) ∷ rest) stack
reads_back none rest stack = refl
reads_back (more t ts) rest stack = reads_back t (marks ts ((10, []) ∷ rest)) stack ∙ reads_back ts ((10, []) ∷ rest) (item t ∷ stack)

-- the code
pub regex_code : Coded (RegexTree ARegex)
regex_code =
    code_by (List (ℕ × List ℕ)) (coded_list (coded× coded_ℕ (coded_list coded_ℕ))) (λ t. marks t []) (λ ms. top (read ms []))
    (λ t. ap top (reads_back t [] []))
