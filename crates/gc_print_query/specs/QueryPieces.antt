-- The pieces of query files.
use Rattle.std.specs.Prelude.{ℕ, ◌+◌, List, [], ◌∷◌, ◌++◌, map, codes, Option, Some, None}
use Rattle.std.specs.List.{flat_map}
use Rattle.gc_base.specs.declared.place.Direction.{Direction}
use Rattle.gc_base.specs.declared.place.Direction.TheVariants.{Forward, Backward, Either}
use Rattle.gc_lex.specs.declared.token.Token.TheVariants.{Number}
use Rattle.gc_lex.specs.declared.token.Mark.TheVariants as mark
use Rattle.gc_ast.specs.declared.pattern.CountAt.{CountAt}
use Rattle.gc_ast.specs.declared.query.SetOp.{SetOp}
use Rattle.gc_ast.specs.declared.query.SetOp.TheVariants as op
use Rattle.gc_ast.specs.Trees as tree
use Rattle.gc_ast.specs.Trees.{Kind, RowOf, Tree, AStatement, Named}
use Rattle.gc_print_query.specs.Pieces.{Piece, Blank, Line, Lexeme, Angled, joined}
use Rattle.gc_print_query.specs.ExpressionPieces.{word, mark_piece, parenthesized, parts_of}

-- a name, if there is one
abbrev pub name_if : Option Named → List Piece
name_if None = []
name_if (Some name) = word name.name ∷ []

-- `:A|B`
abbrev pub label_group : List (List ℕ) → List Piece
label_group words = mark_piece mark.Colon ∷ joined (mark_piece mark.Bar ∷ []) (map (λ w. word w ∷ []) words)

-- `:A`
abbrev pub label : List ℕ → List Piece
label bytes = mark_piece mark.Colon ∷ word bytes ∷ []

-- one after another, with commas between them
abbrev pub listed : List (List Piece) → List Piece
listed lists = joined (mark_piece mark.Comma ∷ Blank ∷ []) lists

-- the same with a line for each
abbrev pub lined : ℕ → List (List Piece) → List Piece
lined depth lists = joined (mark_piece mark.Comma ∷ Line depth ∷ []) lists

-- what has braces around it, if there is any
abbrev pub braced : List (List Piece) → List Piece
braced [] = []
braced (pieces ∷ lists) = Blank ∷ mark_piece mark.OpenBrace ∷ (listed (pieces ∷ lists) ++ mark_piece mark.CloseBrace ∷ [])

-- the arrow of an edge, up to its brackets and behind what is between them
abbrev pub edge_start : Direction → List Piece
edge_start Forward = mark_piece mark.Minus ∷ mark_piece mark.OpenBracket ∷ []
edge_start Either = mark_piece mark.Minus ∷ mark_piece mark.OpenBracket ∷ []
edge_start Backward = mark_piece mark.Less ∷ mark_piece mark.Minus ∷ mark_piece mark.OpenBracket ∷ []

abbrev pub edge_end : Direction → List Piece
edge_end Forward = mark_piece mark.CloseBracket ∷ mark_piece mark.Minus ∷ mark_piece mark.Greater ∷ []
edge_end Either = mark_piece mark.CloseBracket ∷ mark_piece mark.Minus ∷ []
edge_end Backward = mark_piece mark.CloseBracket ∷ mark_piece mark.Minus ∷ []

abbrev pub edge : Direction → List Piece → List Piece
edge way inside = edge_start way ++ (inside ++ edge_end way)

-- the arrow of a path
abbrev pub path_start : List Piece
path_start = mark_piece mark.Minus ∷ mark_piece mark.Slash ∷ []

abbrev pub path_end : List Piece
path_end = mark_piece mark.Slash ∷ mark_piece mark.Minus ∷ mark_piece mark.Greater ∷ []

abbrev pub path : List Piece → List Piece
path inside = path_start ++ (inside ++ path_end)

-- `3 SHORTEST`
abbrev pub count_if : Option CountAt → List Piece
count_if None = []
count_if (Some k) = Lexeme (Number k.count) ∷ Blank ∷ word (codes "SHORTEST") ∷ Blank ∷ []

-- a word and a name behind it
abbrev pub named_if : List ℕ → Option Named → List Piece
named_if bytes None = []
named_if bytes (Some name) = Blank ∷ word bytes ∷ Blank ∷ word name.name ∷ []

-- `=x`
abbrev pub copy_if : Option Named → List Piece
copy_if None = []
copy_if (Some name) = mark_piece mark.Equals ∷ word name.name ∷ []

-- `GROUP a, b.k`
abbrev pub grouped : List (List Piece) → List Piece
grouped [] = []
grouped (term ∷ terms) = Blank ∷ word (codes "GROUP") ∷ Blank ∷ listed (term ∷ terms)

-- `.k`
abbrev pub property_if : Option (List ℕ) → List Piece
property_if None = []
property_if (Some k) = mark_piece mark.Dot ∷ word k ∷ []

-- an expression on a line of its own, behind a word, if there is one
abbrev pub clause : ℕ → List ℕ → List (List Piece) → List Piece
clause depth bytes [] = []
clause depth bytes (expression ∷ others) = Line depth ∷ word bytes ∷ Blank ∷ expression

-- the pieces of a query between parentheses, each on a line of its own
abbrev pub enclosed : ℕ → List Piece → List Piece
enclosed depth query = parenthesized (Line (depth + 1) ∷ (query ++ Line depth ∷ []))

-- `GRAPH g AS (q)` and `GRAPH VIEW g AS (q)` behind their first words
abbrev pub named_query : ℕ → Named → List Piece → List Piece
named_query depth name query = word name.name ∷ Blank ∷ word (codes "AS") ∷ Blank ∷ enclosed depth query

abbrev pub op_word : SetOp → List ℕ
op_word op.Union = codes "UNION"
op_word op.Intersect = codes "INTERSECT"
op_word op.Minus = codes "MINUS"

-- a tree has pieces, and a row has those of each
abbrev pub PiecesOf : Kind → Type 0
PiecesOf (RowOf k) = List (PiecesOf k)
PiecesOf k = List Piece

-- the pieces of a tree whose clauses stand on lines of this depth
unfoldable pub pieces_of : {k : Kind} → ℕ → Tree k → PiecesOf k
pieces_of n (tree.View name query) =
    word (codes "GRAPH") ∷ Blank ∷ word (codes "VIEW") ∷ Blank ∷ named_query n name (pieces_of (n + 1) query)
pieces_of n (tree.Ask query) = pieces_of n query
pieces_of n (tree.Query heads first rest) =
    flat_map (λ head. head) (pieces_of n heads) ++ (pieces_of n first ++ flat_map (λ next. next) (pieces_of n rest))
pieces_of n (tree.NextTerm how term) = Line n ∷ word (op_word how) ∷ Blank ∷ pieces_of n term
pieces_of n (tree.BasicTerm basic) = pieces_of n basic
pieces_of n (tree.GraphTerm name) = word name.name ∷ []
pieces_of n (tree.QueryTerm query) = enclosed n (pieces_of (n + 1) query)
pieces_of n (tree.PathHead name chains filter cost) =
    word (codes "PATH") ∷ Blank ∷ word name.name ∷ Blank ∷ mark_piece mark.Equals ∷ Blank
    ∷ (lined (n + 1) (map (flat_map (λ part. part)) (pieces_of n chains))
    ++ (clause (n + 1) (codes "WHERE") (pieces_of n filter) ++ (clause (n + 1) (codes "COST") (pieces_of n cost) ++ Line n ∷ [])))
pieces_of n (tree.GraphHead name query) =
    word (codes "GRAPH") ∷ Blank ∷ (named_query n name (pieces_of (n + 1) query) ++ Line n ∷ [])
pieces_of n (tree.Formula expression queries) = (parts_of (map (enclosed n) (pieces_of (n + 1) queries)) expression).pieces
pieces_of n (tree.Basic token items main optionals) =
    word (codes "CONSTRUCT") ∷ Blank
    ∷ (lined (n + 1) (pieces_of n items)
    ++ Line n ∷ word (codes "MATCH") ∷ Blank ∷ (pieces_of n main ++ flat_map (λ optional. Line n ∷ optional) (pieces_of n optionals)))
pieces_of n (tree.Block patterns filter) = lined (n + 1) (pieces_of n patterns) ++ clause n (codes "WHERE") (pieces_of n filter)
pieces_of n (tree.Optional token block) = word (codes "OPTIONAL") ∷ Blank ∷ pieces_of n block
pieces_of n (tree.Located chain on) = flat_map (λ part. part) (pieces_of n chain) ++ named_if (codes "ON") on
pieces_of n (tree.Node element) = parenthesized (pieces_of n element)
pieces_of n (tree.Edge way element) = edge way (pieces_of n element)
pieces_of n (tree.Path token regex_at body) = path (pieces_of n body)
pieces_of n (tree.Element token name labels properties) = name_if name ++ (flat_map label_group labels ++ braced (pieces_of n properties))
pieces_of n (tree.PropertyUse token property value) = word property ∷ Blank ∷ mark_piece mark.Equals ∷ Blank ∷ word value.name ∷ []
pieces_of n (tree.Reach regex views) = Angled regex ∷ []
pieces_of n (tree.Found k name regex views cost) = count_if k ++ word name.name ∷ Angled regex ∷ named_if (codes "COST") cost
pieces_of n (tree.All name regex views) = word (codes "ALL") ∷ Blank ∷ word name.name ∷ Angled regex ∷ []
pieces_of n (tree.Stored name labels) = mark_piece mark.AtSign ∷ word name.name ∷ flat_map label_group labels
pieces_of n (tree.GraphItem name) = word name.name ∷ []
pieces_of n (tree.ChainItem parts changes condition) =
    flat_map (λ part. part) (pieces_of n parts)
    ++ (flat_map (λ change. Line (n + 1) ∷ change) (pieces_of n changes) ++ clause (n + 1) (codes "WHEN") (pieces_of n condition))
pieces_of n (tree.NewNode element) = parenthesized (pieces_of n element)
pieces_of n (tree.NewEdge way element) = edge way (pieces_of n element)
pieces_of n (tree.Projected token name) = path (word name.name ∷ [])
pieces_of n (tree.NewStored token name labels assigns) =
    path (mark_piece mark.AtSign ∷ word name.name ∷ (flat_map label labels ++ braced (pieces_of n assigns)))
pieces_of n (tree.NewElement token name copy group labels assigns) =
    name_if name ++ (copy_if copy ++ (grouped (pieces_of n group) ++ (flat_map label labels ++ braced (pieces_of n assigns))))
pieces_of n (tree.GroupTerm name property) = word name.name ∷ property_if property
pieces_of n (tree.Assign token property value) = word property ∷ Blank ∷ mark_piece mark.Assign ∷ Blank ∷ pieces_of n value
pieces_of n (tree.SetProperty name assign) = word (codes "SET") ∷ Blank ∷ word name.name ∷ mark_piece mark.Dot ∷ pieces_of n assign
pieces_of n (tree.AddLabel name bytes) = word (codes "SET") ∷ Blank ∷ word name.name ∷ label bytes
pieces_of n (tree.DropProperty name k) = word (codes "REMOVE") ∷ Blank ∷ word name.name ∷ mark_piece mark.Dot ∷ word k ∷ []
pieces_of n (tree.DropLabel name bytes) = word (codes "REMOVE") ∷ Blank ∷ word name.name ∷ label bytes
pieces_of n tree.none = []
pieces_of n (tree.more t ts) = pieces_of n t ∷ pieces_of n ts

-- a statement and the `;` that ends it
abbrev pub statement_pieces : Tree AStatement → List Piece
statement_pieces statement = pieces_of 0 statement ++ mark_piece mark.Semicolon ∷ Line 0 ∷ []

-- the pieces of a file
abbrev pub file_pieces : List (Tree AStatement) → List Piece
file_pieces statements = flat_map statement_pieces statements
