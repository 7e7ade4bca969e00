-- The grammar of queries and files.
use Rattle.std.specs.Prelude.{◌≡◌, ℕ, zero, suc, List, [], codes}
use Rattle.gc_lex.specs.declared.token.Token.{Token}
use Rattle.gc_lex.specs.declared.token.Mark.TheVariants as mark
use Rattle.gc_regx.specs.Trees.{RegexTree, ARegex}
use Rattle.gc_ast.specs.declared.query.SetOp.{SetOp}
use Rattle.gc_ast.specs.declared.query.SetOp.TheVariants.{Union, Intersect, Minus}
use Rattle.gc_ast.specs.Trees as tree
use Rattle.gc_ast.specs.Trees.{Tree, AStatement, AQuery, ANextTerm, ATerm, AHead, ABasic, ABlock, AnOptional, row, rows, maybe}
use Rattle.gc_grammar.specs.Words.{Point, Lang, nothing, ◌⋅◌, ◌∣◌, ◌⇒◌, ◌▸◌, ◌◂◌, optional, many, separated, as_value, at_some_depth, mark, the_word, name}
use Rattle.gc_grammar.specs.Regexes.{Expression, regex}
use Rattle.gc_grammar.specs.Patterns.{vchain, located}
use Rattle.gc_grammar.specs.Expressions.{Inside, formula, expr, in_parentheses}
use Rattle.gc_grammar.specs.Constructs.{item}

-- a term that is a query without heads and of one term, in parentheses, is that term
abbrev pub as_term : Tree AQuery → Tree ATerm
as_term (tree.Query tree.none first tree.none) = first
as_term query = tree.QueryTerm query

-- a query without heads whose only term is a query in parentheses is that query
abbrev pub as_query : List (Tree AHead) → Tree ATerm → List (Tree ANextTerm) → Tree AQuery
as_query [] (tree.QueryTerm query) [] = query
as_query heads first rest = tree.Query (row heads) first (row rest)

-- [ `WHERE` expr ]
abbrev pub where_ : Inside → Lang (Tree (tree.RowOf tree.AFormula))
where_ inside = optional (the_word (codes "WHERE") ▸ formula inside) ⇒ λ n v. maybe v

-- block = located { `,` located } [ `WHERE` expr ]: a WHERE belongs to the block that it ends
abbrev pub block : Inside → Lang (Tree ABlock)
block inside = (separated located (mark mark.Comma) ⋅ where_ inside) ⇒ λ n v. tree.Block (row v.0) v.1

-- `OPTIONAL` block
abbrev pub optional_block : Inside → Lang (Tree AnOptional)
optional_block inside = (the_word (codes "OPTIONAL") ▸ block inside) ⇒ λ n v. tree.Optional n v

-- basic = `CONSTRUCT` item { `,` item } `MATCH` block { `OPTIONAL` block }
abbrev pub basic : Inside → Lang (Tree ABasic)
basic inside =
    (the_word (codes "CONSTRUCT") ▸ separated (item inside) (mark mark.Comma)
    ⋅ the_word (codes "MATCH") ▸ block inside
    ⋅ many (optional_block inside))
    ⇒ λ n v. tree.Basic n (row v.0) v.1.0 (row v.1.1)

-- term = basic | name | `(` query `)`
abbrev pub term : Inside → Lang (Tree ATerm)
term inside =
    basic inside ⇒ (λ n v. tree.BasicTerm v)
    ∣ name ⇒ (λ n v. tree.GraphTerm v)
    ∣ in_parentheses inside.query ⇒ (λ n v. as_term v)

-- name `AS` `(` query `)`
abbrev pub named_query : Inside → Lang (tree.Named × Tree AQuery)
named_query inside = name ⋅ the_word (codes "AS") ▸ in_parentheses inside.query

-- `PATH` name `=` vchain { `,` vchain } [ `WHERE` expr ] [ `COST` expr ]
abbrev pub path_head : Inside → Lang (Tree AHead)
path_head inside =
    (the_word (codes "PATH") ▸ name ⋅ mark mark.Equals ▸ separated vchain (mark mark.Comma)
    ⋅ where_ inside
    ⋅ optional (the_word (codes "COST") ▸ formula inside))
    ⇒ λ n v. tree.PathHead v.0 (rows v.1.0) v.1.1.0 (maybe v.1.1.1)

-- head = `PATH` name `=` vchain { `,` vchain } [ `WHERE` expr ] [ `COST` expr ]
--     | `GRAPH` name `AS` `(` query `)`
abbrev pub head : Inside → Lang (Tree AHead)
head inside =
    path_head inside
    ∣ (the_word (codes "GRAPH") ▸ named_query inside) ⇒ (λ n v. tree.GraphHead v.0 v.1)

-- `UNION` | `INTERSECT` | `MINUS`
abbrev pub set_op : Lang SetOp
set_op =
    as_value (the_word (codes "UNION")) Union ∣ as_value (the_word (codes "INTERSECT")) Intersect
    ∣ as_value (the_word (codes "MINUS")) Minus

-- (`UNION` | `INTERSECT` | `MINUS`) term
abbrev pub next_term : Inside → Lang (Tree ANextTerm)
next_term inside = (set_op ⋅ term inside) ⇒ λ n v. tree.NextTerm v.0 v.1

-- query = { head } term { (`UNION` | `INTERSECT` | `MINUS`) term }
abbrev pub query : Inside → Lang (Tree AQuery)
query inside = (many (head inside) ⋅ term inside ⋅ many (next_term inside)) ⇒ λ n v. as_query v.0 v.1.0 v.1.1

-- statement = `GRAPH` `VIEW` name `AS` `(` query `)` | query
abbrev pub statement : Inside → Lang (Tree AStatement)
statement inside =
    (the_word (codes "GRAPH") ▸ the_word (codes "VIEW") ▸ named_query inside) ⇒ (λ n v. tree.View v.0 v.1)
    ∣ query inside ⇒ (λ n v. tree.Ask v)

-- the expressions and queries whose brackets are less than so deep
abbrev pub within : ℕ → Inside
within zero = record { expr = nothing; query = nothing }
within (suc depth) = record { expr = expr (within depth); query = query (within depth) }

-- file = statement { `;` statement } [ `;` ]
abbrev pub file : Inside → Lang (List (Tree AStatement))
file inside = separated (statement inside) (mark mark.Semicolon) ◂ optional (mark mark.Semicolon)

-- before the first token
abbrev pub start : Point
start = record { token = 0; exists = [] }

-- a list of tokens spells the statements of a file
abbrev pub SpellsFile : List Token → List (Tree AStatement) → Type 0
SpellsFile ts statements = (end : Point) × at_some_depth (λ depth. file (within depth)) start ts statements end

-- a list of tokens spells a regular path expression
abbrev pub SpellsRegex : List Token → RegexTree ARegex → Type 0
SpellsRegex ts tree = (end : Point) × (e : Expression) × regex start ts e end × (e.tree ≡ tree)
