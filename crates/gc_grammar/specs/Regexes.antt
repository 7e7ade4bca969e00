-- The grammar of regular path expressions.
use Rattle.std.specs.Prelude.{ℕ, zero, suc, List, [], ◌∷◌, map, flat_map, Option, Some, None}
use Rattle.gc_lex.specs.declared.token.Mark.TheVariants.{Colon, Minus, LowLine, Bang, Tilde, Star, Bar, OpenParenthesis, CloseParenthesis}
use Rattle.gc_regx.specs.Trees as tree
use Rattle.gc_regx.specs.Trees.{RegexTree, ARegex, row}
use Rattle.gc_ast.specs.Trees.{Named}
use Rattle.gc_grammar.specs.Words.{Lang, nothing, ◌⋅◌, ◌∣◌, ◌⇒◌, ◌▸◌, ◌◂◌, optional, several, separated, at_some_depth, mark, word, name}

-- a tree, and the names after its `~` in text order
pub record Expression : Type 0 where
  pub tree : RegexTree ARegex
  pub views : List Named

-- an expression without views
abbrev pub plain : RegexTree ARegex → Expression
plain tree = record { tree = tree; views = [] }

-- the views of a list of parts
abbrev pub views_of : List Expression → List Named
views_of parts = flat_map (λ part. part.views) parts

-- a list of one part is the part itself
abbrev pub chained : (RegexTree tree.ARow → RegexTree ARegex) → List Expression → Expression
chained make (part ∷ []) = part
chained make parts = record { tree = make (row (map (λ part. part.tree) parts)); views = views_of parts }

-- with `-` after it an edge is walked against its direction
abbrev pub turned : {A : Type 0} → A → A → Option (Unit {0}) → A
turned along against None = along
turned along against (Some u) = against

-- with `*` after it a part comes any number of times
abbrev pub starred : Expression → Option (Unit {0}) → Expression
starred part None = part
starred part (Some u) = record { tree = tree.Star part.tree; views = part.views }

-- `:` word [ `-` ]
abbrev pub label : Lang Expression
label = (mark Colon ▸ word ⋅ optional (mark Minus)) ⇒ λ n v. plain (turned (tree.Label v.0) (tree.Back v.0) v.1)

-- `_` [ `-` ]
abbrev pub any : Lang Expression
any = (mark LowLine ▸ optional (mark Minus)) ⇒ λ n v. plain (turned tree.Any tree.AnyBack v)

-- `!` `:` word
abbrev pub test : Lang Expression
test = (mark Bang ▸ mark Colon ▸ word) ⇒ λ n v. plain (tree.Test v)

-- `~` name
abbrev pub view : Lang Expression
view = (mark Tilde ▸ name) ⇒ λ n v. record { tree = tree.View v.name; views = v ∷ [] }

-- `(` regex `)`: the parentheses leave no mark
abbrev pub group : Lang Expression → Lang Expression
group inside = mark OpenParenthesis ▸ inside ◂ mark CloseParenthesis

-- atom = `:` word [ `-` ] | `_` [ `-` ] | `!` `:` word | `~` name | `(` regex `)`
abbrev pub atom : Lang Expression → Lang Expression
atom inside = label ∣ any ∣ test ∣ view ∣ group inside

-- star = atom [ `*` ]
abbrev pub star : Lang Expression → Lang Expression
star inside = (atom inside ⋅ optional (mark Star)) ⇒ λ n v. starred v.0 v.1

-- cat = star { star }
abbrev pub cat : Lang Expression → Lang Expression
cat inside = several (star inside) ⇒ λ n parts. chained tree.Cat parts

-- regex = cat { `|` cat }
abbrev pub alt : Lang Expression → Lang Expression
alt inside = separated (cat inside) (mark Bar) ⇒ λ n parts. chained tree.Alt parts

-- regular path expressions whose parentheses are less than so deep
abbrev pub regex_within : ℕ → Lang Expression
regex_within zero = nothing
regex_within (suc depth) = alt (regex_within depth)

-- regex
abbrev pub regex : Lang Expression
regex = at_some_depth regex_within
