-- The grammar of patterns.
use Rattle.std.specs.Prelude.{ℕ, List, [], ◌∷◌, codes, Option, Some, None}
use Rattle.gc_base.specs.declared.place.Direction.{Direction}
use Rattle.gc_base.specs.declared.place.Direction.TheVariants.{Forward, Backward, Either}
use Rattle.gc_lex.specs.declared.token.Mark.TheVariants.{Colon, Minus, Bar, Equals, Comma, Slash, AtSign, Less, Greater, OpenParenthesis, CloseParenthesis, OpenBracket, CloseBracket, OpenBrace, CloseBrace}
use Rattle.gc_ast.specs.declared.pattern.CountAt.{CountAt}
use Rattle.gc_ast.specs.Trees as tree
use Rattle.gc_ast.specs.Trees.{Tree, AnElement, APropertyUse, APattern, APathBody, ALocated, Named, row}
use Rattle.gc_grammar.specs.Words.{Lang, ◌⋅◌, ◌∣◌, ◌⇒◌, ◌▸◌, ◌◂◌, optional, many, separated, mark, the_word, word, number, name}
use Rattle.gc_grammar.specs.Regexes.{Expression, regex}

-- an element without its token, which is the first one of its pattern
pub record Unplaced : Type 0 where
  pub name : Option Named
  pub labels : List (List (List ℕ))
  pub properties : List (Tree APropertyUse)

-- an element whose pattern begins at this token
abbrev pub placed : ℕ → Unplaced → Tree AnElement
placed token e = tree.Element token e.name e.labels (row e.properties)

-- what stands between braces, or nothing
abbrev pub listed : {A : Type 0} → Option (List A) → List A
listed None = []
listed (Some items) = items

-- with `>` after it an edge goes forward
abbrev pub arrow : Option (Unit {0}) → Direction
arrow None = Either
arrow (Some u) = Forward

-- labels = `:` word { `|` word }
abbrev pub labels : Lang (List (List ℕ))
labels = mark Colon ▸ separated word (mark Bar)

-- word `=` name
abbrev pub property_use : Lang (Tree APropertyUse)
property_use = (word ⋅ mark Equals ▸ name) ⇒ λ n v. tree.PropertyUse n v.0 v.1

-- `{` word `=` name { `,` word `=` name } `}`
abbrev pub property_uses : Lang (List (Tree APropertyUse))
property_uses = mark OpenBrace ▸ separated property_use (mark Comma) ◂ mark CloseBrace

-- element = [ name ] { labels } [ `{` word `=` name { `,` word `=` name } `}` ]
abbrev pub element : Lang Unplaced
element = (optional name ⋅ many labels ⋅ optional property_uses)
    ⇒ λ n v. record { name = v.0; labels = v.1.0; properties = listed v.1.1 }

-- node = `(` element `)`
abbrev pub node : Lang (Tree APattern)
node = (mark OpenParenthesis ▸ element ◂ mark CloseParenthesis) ⇒ λ n v. tree.Node (placed n v)

-- what an edge of a pattern or of a CONSTRUCT has between brackets, and its direction:
-- `-` `[` inside `]` `-` [ `>` ] | `<` `-` `[` inside `]` `-`
abbrev pub edge_of : {A : Type 0} → Lang A → Lang (A × Direction)
edge_of inside =
    (mark Minus ▸ mark OpenBracket ▸ inside ◂ mark CloseBracket ◂ mark Minus ⋅ optional (mark Greater)) ⇒ (λ n v. (v.0, arrow v.1))
    ∣ (mark Less ▸ mark Minus ▸ mark OpenBracket ▸ inside ◂ mark CloseBracket ◂ mark Minus) ⇒ (λ n v. (v, Backward))

-- edge = `-` `[` element `]` `-` [ `>` ] | `<` `-` `[` element `]` `-`
abbrev pub edge : Lang (Tree APattern)
edge = edge_of element ⇒ λ n v. tree.Edge v.1 (placed n v.0)

-- `<` regex `>`, with the token of the `<`
abbrev pub angled : Lang (ℕ × Expression)
angled = (mark Less ▸ regex ◂ mark Greater) ⇒ λ n v. (n, v)

-- number `SHORTEST`
abbrev pub count : Lang CountAt
count = (number ◂ the_word (codes "SHORTEST")) ⇒ λ n v. record { count = v; token = n }

-- `<` regex `>`
abbrev pub reach : Lang (ℕ × Tree APathBody)
reach = angled ⇒ λ n v. (v.0, tree.Reach v.1.tree v.1.views)

-- [ number `SHORTEST` ] name `<` regex `>` [ `COST` name ]
abbrev pub found : Lang (ℕ × Tree APathBody)
found = (optional count ⋅ name ⋅ angled ⋅ optional (the_word (codes "COST") ▸ name))
    ⇒ λ n v. (v.1.1.0.0, tree.Found v.0 v.1.0 v.1.1.0.1.tree v.1.1.0.1.views v.1.1.1)

-- `ALL` name `<` regex `>`
abbrev pub all : Lang (ℕ × Tree APathBody)
all = (the_word (codes "ALL") ▸ name ⋅ angled) ⇒ λ n v. (v.1.0, tree.All v.0 v.1.1.tree v.1.1.views)

-- `@` name { labels }
abbrev pub stored : Lang (ℕ × Tree APathBody)
stored = (mark AtSign ▸ name ⋅ many labels) ⇒ λ n v. (n, tree.Stored v.0 v.1)

-- pathbody = `<` regex `>` | [ number `SHORTEST` ] name `<` regex `>` [ `COST` name ]
--     | `ALL` name `<` regex `>` | `@` name { labels }; with the token of the `<` or the `@`
abbrev pub pathbody : Lang (ℕ × Tree APathBody)
pathbody = reach ∣ found ∣ all ∣ stored

-- path = `-` `/` pathbody `/` `-` `>`
abbrev pub path : Lang (Tree APattern)
path = (mark Minus ▸ mark Slash ▸ pathbody ◂ mark Slash ◂ mark Minus ◂ mark Greater) ⇒ λ n v. tree.Path n v.0 v.1

-- pairs one after another
abbrev pub in_turn : {A : Type 0} → List (A × A) → List A
in_turn [] = []
in_turn (pair ∷ pairs) = pair.0 ∷ pair.1 ∷ in_turn pairs

-- a node, and links each with the node after it: their parts in turn
abbrev pub linked : {A : Type 0} → Lang A → Lang A → Lang (List A)
linked node link = (node ⋅ many (link ⋅ node)) ⇒ λ n v. v.0 ∷ in_turn v.1

-- vchain = node { edge node }
abbrev pub vchain : Lang (List (Tree APattern))
vchain = linked node edge

-- chain = node { (edge | path) node }
abbrev pub chain : Lang (List (Tree APattern))
chain = linked node (edge ∣ path)

-- located = chain [ `ON` name ]
abbrev pub located : Lang (Tree ALocated)
located = (chain ⋅ optional (the_word (codes "ON") ▸ name)) ⇒ λ n v. tree.Located (row v.0) v.1
