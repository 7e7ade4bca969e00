-- What queries are as plain trees: by what stands for a name, by the name table that their names are
-- numbers of, and by those numbers.
use Rattle.std.specs.Prelude.{List, map}
use Rattle.gc_base.specs.declared.place.Sym.{Sym}
use Rattle.gc_expr.specs.Trees.{renamed}
use Rattle.gc_expr.specs.Views.{Names, name_of, numbered_expr}
use Rattle.gc_ast.specs.declared.construct.Change.{Change}
use Rattle.gc_ast.specs.declared.construct.ConstructPart.{ConstructPart}
use Rattle.gc_ast.specs.declared.construct.Item.{Item}
use Rattle.gc_ast.specs.declared.query.Head.{Head}
use Rattle.gc_ast.specs.declared.query.Term.{Term}
use Rattle.gc_ast.specs.declared.construct.Assign.{Assign}
use Rattle.gc_ast.specs.declared.construct.NewElement.{NewElement}
use Rattle.gc_ast.specs.declared.query.Basic.{Basic}
use Rattle.gc_ast.specs.declared.query.Formula.{Formula}
use Rattle.gc_ast.specs.declared.query.MatchBlock.{MatchBlock}
use Rattle.gc_ast.specs.declared.query.NextTerm.{NextTerm}
use Rattle.gc_ast.specs.declared.query.OptionalBlock.{OptionalBlock}
use Rattle.gc_ast.specs.declared.query.Query.{Query}
use Rattle.gc_ast.specs.declared.construct.Change.TheOpen.{Change-F, ConstructPart-F, Item-F, Head-F, Term-F, Assign-F, NewElement-F, Basic-F, Formula-F, MatchBlock-F, NextTerm-F, OptionalBlock-F, Query-F}
use Rattle.gc_ast.specs.declared.construct.Change.TheOpen as layer
use Rattle.gc_ast.specs.declared.construct.Change.TheFolds.{fold-Item, fold-Change, fold-ConstructPart, fold-Head, fold-Term, fold-Assign, fold-NewElement, fold-Basic, fold-Formula, fold-MatchBlock, fold-NextTerm, fold-OptionalBlock, fold-Query}
use Rattle.gc_ast.specs.declared.file.File.{File}
use Rattle.gc_ast.specs.declared.query.Statement.{Statement}
use Rattle.gc_ast.specs.declared.query.Statement.TheVariants as statement
use Rattle.gc_ast.specs.Trees as tree
use Rattle.gc_ast.specs.Trees.{TreeOf, Tree, AStatement, AChange, AConstructPart, AnItem, AHead, ATerm, AnAssign, ANewElement, ABasic, AFormula, ABlock, ANextTerm, AnOptional, AQuery, row, rows, maybe}
use Rattle.gc_ast.specs.PatternViews.{named_by, named_if_by, pattern_by, located_by, group_term_by}

-- one layer of a type, with the tree of each part in its place
abbrev pub Layer : Type 0 → (Type 0 → Type 0 → Type 0 → Type 0 → Type 0 → Type 0 → Type 0 → Type 0 → Type 0 → Type 0 → Type 0 → Type 0 → Type 0 → Type 0) → Type 0
Layer N F =
    F (TreeOf N AChange) (TreeOf N AConstructPart) (TreeOf N AnItem) (TreeOf N AHead) (TreeOf N ATerm) (TreeOf N AnAssign) (TreeOf N ANewElement) (TreeOf N ABasic) (TreeOf N AFormula) (TreeOf N ABlock) (TreeOf N ANextTerm) (TreeOf N AnOptional) (TreeOf N AQuery)

abbrev pub change_layer : {N : Type 0} → (Sym → N) → Layer N Change-F → TreeOf N AChange
change_layer f (layer.Assign x a) = tree.SetProperty (named_by f x) a
change_layer f (layer.AddLabel x l) = tree.AddLabel (named_by f x) l
change_layer f (layer.DropProperty x k) = tree.DropProperty (named_by f x) k
change_layer f (layer.DropLabel x l) = tree.DropLabel (named_by f x) l

abbrev pub part_layer : {N : Type 0} → (Sym → N) → Layer N ConstructPart-F → TreeOf N AConstructPart
part_layer f (layer.Node e) = tree.NewNode e
part_layer f (layer.Edge way e) = tree.NewEdge way e
part_layer f (layer.Projected token p) = tree.Projected token (named_by f p)
part_layer f (layer.Stored token p labels assigns) = tree.NewStored token (named_by f p) labels (row assigns.items)

abbrev pub item_layer : {N : Type 0} → (Sym → N) → Layer N Item-F → TreeOf N AnItem
item_layer f (layer.«Item::Graph» g) = tree.GraphItem (named_by f g)
item_layer f (layer.Chain parts changes when_) = tree.ChainItem (row parts.items) (row changes.items) (maybe when_)

abbrev pub head_layer : {N : Type 0} → (Sym → N) → Layer N Head-F → TreeOf N AHead
head_layer f (layer.Path v chains filter cost) =
    tree.PathHead (named_by f v) (rows (map (λ c. map (pattern_by f) c.parts) chains)) (maybe filter) (maybe cost)
head_layer f (layer.«Head::Graph» g q) = tree.GraphHead (named_by f g) q

abbrev pub term_layer : {N : Type 0} → (Sym → N) → Layer N Term-F → TreeOf N ATerm
term_layer f (layer.Basic b) = tree.BasicTerm b.value
term_layer f (layer.«Term::Graph» g) = tree.GraphTerm (named_by f g)
term_layer f (layer.Query q) = tree.QueryTerm q.value

abbrev pub assign_layer : {N : Type 0} → Layer N Assign-F → TreeOf N AnAssign
assign_layer a = tree.Assign a.token a.property a.value

abbrev pub new_element_layer : {N : Type 0} → (Sym → N) → Layer N NewElement-F → TreeOf N ANewElement
new_element_layer f e =
    tree.NewElement e.token (named_if_by f e.name) (named_if_by f e.copy) (row (map (group_term_by f) e.group)) e.labels (row e.assigns.items)

abbrev pub basic_layer : {N : Type 0} → Layer N Basic-F → TreeOf N ABasic
basic_layer b = tree.Basic b.token (row b.items.items) b.main (row b.optionals.items)

abbrev pub formula_layer : {N : Type 0} → (Sym → N) → Layer N Formula-F → TreeOf N AFormula
formula_layer f e = tree.Formula (renamed f (numbered_expr e.expr)) (row e.exists.items)

abbrev pub block_layer : {N : Type 0} → (Sym → N) → Layer N MatchBlock-F → TreeOf N ABlock
block_layer f b = tree.Block (row (map (located_by f) b.patterns)) (maybe b.filter)

abbrev pub next_term_layer : {N : Type 0} → Layer N NextTerm-F → TreeOf N ANextTerm
next_term_layer t = tree.NextTerm t.op t.term

abbrev pub optional_layer : {N : Type 0} → Layer N OptionalBlock-F → TreeOf N AnOptional
optional_layer o = tree.Optional o.token o.block

abbrev pub query_layer : {N : Type 0} → Layer N Query-F → TreeOf N AQuery
query_layer q = tree.Query (row q.heads.items) q.first (row q.rest.items)

-- the tree of a change
unfoldable pub change_by : {N : Type 0} → (Sym → N) → Change → TreeOf N AChange
change_by {N} f =
    fold-Change (TreeOf N AChange) (TreeOf N AConstructPart) (TreeOf N AnItem) (TreeOf N AHead) (TreeOf N ATerm) (TreeOf N AnAssign) (TreeOf N ANewElement) (TreeOf N ABasic) (TreeOf N AFormula) (TreeOf N ABlock) (TreeOf N ANextTerm) (TreeOf N AnOptional) (TreeOf N AQuery)
    (change_layer f) (part_layer f) (item_layer f) (head_layer f) (term_layer f) assign_layer (new_element_layer f)
    basic_layer (formula_layer f) (block_layer f) next_term_layer optional_layer query_layer

-- the tree of a part of a construct chain
unfoldable pub part_by : {N : Type 0} → (Sym → N) → ConstructPart → TreeOf N AConstructPart
part_by {N} f =
    fold-ConstructPart (TreeOf N AChange) (TreeOf N AConstructPart) (TreeOf N AnItem) (TreeOf N AHead) (TreeOf N ATerm) (TreeOf N AnAssign) (TreeOf N ANewElement) (TreeOf N ABasic) (TreeOf N AFormula) (TreeOf N ABlock) (TreeOf N ANextTerm) (TreeOf N AnOptional) (TreeOf N AQuery)
    (change_layer f) (part_layer f) (item_layer f) (head_layer f) (term_layer f) assign_layer (new_element_layer f)
    basic_layer (formula_layer f) (block_layer f) next_term_layer optional_layer query_layer

-- the tree of an item
unfoldable pub item_by : {N : Type 0} → (Sym → N) → Item → TreeOf N AnItem
item_by {N} f =
    fold-Item (TreeOf N AChange) (TreeOf N AConstructPart) (TreeOf N AnItem) (TreeOf N AHead) (TreeOf N ATerm) (TreeOf N AnAssign) (TreeOf N ANewElement) (TreeOf N ABasic) (TreeOf N AFormula) (TreeOf N ABlock) (TreeOf N ANextTerm) (TreeOf N AnOptional) (TreeOf N AQuery)
    (change_layer f) (part_layer f) (item_layer f) (head_layer f) (term_layer f) assign_layer (new_element_layer f)
    basic_layer (formula_layer f) (block_layer f) next_term_layer optional_layer query_layer

-- the tree of a head
unfoldable pub head_by : {N : Type 0} → (Sym → N) → Head → TreeOf N AHead
head_by {N} f =
    fold-Head (TreeOf N AChange) (TreeOf N AConstructPart) (TreeOf N AnItem) (TreeOf N AHead) (TreeOf N ATerm) (TreeOf N AnAssign) (TreeOf N ANewElement) (TreeOf N ABasic) (TreeOf N AFormula) (TreeOf N ABlock) (TreeOf N ANextTerm) (TreeOf N AnOptional) (TreeOf N AQuery)
    (change_layer f) (part_layer f) (item_layer f) (head_layer f) (term_layer f) assign_layer (new_element_layer f)
    basic_layer (formula_layer f) (block_layer f) next_term_layer optional_layer query_layer

-- the tree of a term
unfoldable pub term_by : {N : Type 0} → (Sym → N) → Term → TreeOf N ATerm
term_by {N} f =
    fold-Term (TreeOf N AChange) (TreeOf N AConstructPart) (TreeOf N AnItem) (TreeOf N AHead) (TreeOf N ATerm) (TreeOf N AnAssign) (TreeOf N ANewElement) (TreeOf N ABasic) (TreeOf N AFormula) (TreeOf N ABlock) (TreeOf N ANextTerm) (TreeOf N AnOptional) (TreeOf N AQuery)
    (change_layer f) (part_layer f) (item_layer f) (head_layer f) (term_layer f) assign_layer (new_element_layer f)
    basic_layer (formula_layer f) (block_layer f) next_term_layer optional_layer query_layer

-- the tree of a property that is given
unfoldable pub assign_by : {N : Type 0} → (Sym → N) → Assign → TreeOf N AnAssign
assign_by {N} f =
    fold-Assign (TreeOf N AChange) (TreeOf N AConstructPart) (TreeOf N AnItem) (TreeOf N AHead) (TreeOf N ATerm) (TreeOf N AnAssign) (TreeOf N ANewElement) (TreeOf N ABasic) (TreeOf N AFormula) (TreeOf N ABlock) (TreeOf N ANextTerm) (TreeOf N AnOptional) (TreeOf N AQuery)
    (change_layer f) (part_layer f) (item_layer f) (head_layer f) (term_layer f) assign_layer (new_element_layer f)
    basic_layer (formula_layer f) (block_layer f) next_term_layer optional_layer query_layer

-- the tree of an element of a construct chain
unfoldable pub new_element_by : {N : Type 0} → (Sym → N) → NewElement → TreeOf N ANewElement
new_element_by {N} f =
    fold-NewElement (TreeOf N AChange) (TreeOf N AConstructPart) (TreeOf N AnItem) (TreeOf N AHead) (TreeOf N ATerm) (TreeOf N AnAssign) (TreeOf N ANewElement) (TreeOf N ABasic) (TreeOf N AFormula) (TreeOf N ABlock) (TreeOf N ANextTerm) (TreeOf N AnOptional) (TreeOf N AQuery)
    (change_layer f) (part_layer f) (item_layer f) (head_layer f) (term_layer f) assign_layer (new_element_layer f)
    basic_layer (formula_layer f) (block_layer f) next_term_layer optional_layer query_layer

-- the tree of a CONSTRUCT
unfoldable pub basic_by : {N : Type 0} → (Sym → N) → Basic → TreeOf N ABasic
basic_by {N} f =
    fold-Basic (TreeOf N AChange) (TreeOf N AConstructPart) (TreeOf N AnItem) (TreeOf N AHead) (TreeOf N ATerm) (TreeOf N AnAssign) (TreeOf N ANewElement) (TreeOf N ABasic) (TreeOf N AFormula) (TreeOf N ABlock) (TreeOf N ANextTerm) (TreeOf N AnOptional) (TreeOf N AQuery)
    (change_layer f) (part_layer f) (item_layer f) (head_layer f) (term_layer f) assign_layer (new_element_layer f)
    basic_layer (formula_layer f) (block_layer f) next_term_layer optional_layer query_layer

-- the tree of an expression with its EXISTS queries
unfoldable pub formula_by : {N : Type 0} → (Sym → N) → Formula → TreeOf N AFormula
formula_by {N} f =
    fold-Formula (TreeOf N AChange) (TreeOf N AConstructPart) (TreeOf N AnItem) (TreeOf N AHead) (TreeOf N ATerm) (TreeOf N AnAssign) (TreeOf N ANewElement) (TreeOf N ABasic) (TreeOf N AFormula) (TreeOf N ABlock) (TreeOf N ANextTerm) (TreeOf N AnOptional) (TreeOf N AQuery)
    (change_layer f) (part_layer f) (item_layer f) (head_layer f) (term_layer f) assign_layer (new_element_layer f)
    basic_layer (formula_layer f) (block_layer f) next_term_layer optional_layer query_layer

-- the tree of a block
unfoldable pub block_by : {N : Type 0} → (Sym → N) → MatchBlock → TreeOf N ABlock
block_by {N} f =
    fold-MatchBlock (TreeOf N AChange) (TreeOf N AConstructPart) (TreeOf N AnItem) (TreeOf N AHead) (TreeOf N ATerm) (TreeOf N AnAssign) (TreeOf N ANewElement) (TreeOf N ABasic) (TreeOf N AFormula) (TreeOf N ABlock) (TreeOf N ANextTerm) (TreeOf N AnOptional) (TreeOf N AQuery)
    (change_layer f) (part_layer f) (item_layer f) (head_layer f) (term_layer f) assign_layer (new_element_layer f)
    basic_layer (formula_layer f) (block_layer f) next_term_layer optional_layer query_layer

-- the tree of a later term
unfoldable pub next_term_by : {N : Type 0} → (Sym → N) → NextTerm → TreeOf N ANextTerm
next_term_by {N} f =
    fold-NextTerm (TreeOf N AChange) (TreeOf N AConstructPart) (TreeOf N AnItem) (TreeOf N AHead) (TreeOf N ATerm) (TreeOf N AnAssign) (TreeOf N ANewElement) (TreeOf N ABasic) (TreeOf N AFormula) (TreeOf N ABlock) (TreeOf N ANextTerm) (TreeOf N AnOptional) (TreeOf N AQuery)
    (change_layer f) (part_layer f) (item_layer f) (head_layer f) (term_layer f) assign_layer (new_element_layer f)
    basic_layer (formula_layer f) (block_layer f) next_term_layer optional_layer query_layer

-- the tree of an OPTIONAL block
unfoldable pub optional_by : {N : Type 0} → (Sym → N) → OptionalBlock → TreeOf N AnOptional
optional_by {N} f =
    fold-OptionalBlock (TreeOf N AChange) (TreeOf N AConstructPart) (TreeOf N AnItem) (TreeOf N AHead) (TreeOf N ATerm) (TreeOf N AnAssign) (TreeOf N ANewElement) (TreeOf N ABasic) (TreeOf N AFormula) (TreeOf N ABlock) (TreeOf N ANextTerm) (TreeOf N AnOptional) (TreeOf N AQuery)
    (change_layer f) (part_layer f) (item_layer f) (head_layer f) (term_layer f) assign_layer (new_element_layer f)
    basic_layer (formula_layer f) (block_layer f) next_term_layer optional_layer query_layer

-- the tree of a query
unfoldable pub query_by : {N : Type 0} → (Sym → N) → Query → TreeOf N AQuery
query_by {N} f =
    fold-Query (TreeOf N AChange) (TreeOf N AConstructPart) (TreeOf N AnItem) (TreeOf N AHead) (TreeOf N ATerm) (TreeOf N AnAssign) (TreeOf N ANewElement) (TreeOf N ABasic) (TreeOf N AFormula) (TreeOf N ABlock) (TreeOf N ANextTerm) (TreeOf N AnOptional) (TreeOf N AQuery)
    (change_layer f) (part_layer f) (item_layer f) (head_layer f) (term_layer f) assign_layer (new_element_layer f)
    basic_layer (formula_layer f) (block_layer f) next_term_layer optional_layer query_layer

-- the same by a name table
abbrev pub change_tree : Names → Change → Tree AChange
change_tree names = change_by (name_of names)

abbrev pub part_tree : Names → ConstructPart → Tree AConstructPart
part_tree names = part_by (name_of names)

abbrev pub item_tree : Names → Item → Tree AnItem
item_tree names = item_by (name_of names)

abbrev pub head_tree : Names → Head → Tree AHead
head_tree names = head_by (name_of names)

abbrev pub term_tree : Names → Term → Tree ATerm
term_tree names = term_by (name_of names)

abbrev pub assign_tree : Names → Assign → Tree AnAssign
assign_tree names = assign_by (name_of names)

abbrev pub new_element_tree : Names → NewElement → Tree ANewElement
new_element_tree names = new_element_by (name_of names)

abbrev pub basic_tree : Names → Basic → Tree ABasic
basic_tree names = basic_by (name_of names)

abbrev pub formula_tree : Names → Formula → Tree AFormula
formula_tree names = formula_by (name_of names)

abbrev pub block_tree : Names → MatchBlock → Tree ABlock
block_tree names = block_by (name_of names)

abbrev pub next_term_tree : Names → NextTerm → Tree ANextTerm
next_term_tree names = next_term_by (name_of names)

abbrev pub optional_tree : Names → OptionalBlock → Tree AnOptional
optional_tree names = optional_by (name_of names)

abbrev pub query_tree : Names → Query → Tree AQuery
query_tree names = query_by (name_of names)

-- the same by the numbers of the names
abbrev pub numbered_change : Change → TreeOf Sym AChange
numbered_change = change_by (λ sym. sym)

abbrev pub numbered_part : ConstructPart → TreeOf Sym AConstructPart
numbered_part = part_by (λ sym. sym)

abbrev pub numbered_item : Item → TreeOf Sym AnItem
numbered_item = item_by (λ sym. sym)

abbrev pub numbered_head : Head → TreeOf Sym AHead
numbered_head = head_by (λ sym. sym)

abbrev pub numbered_term : Term → TreeOf Sym ATerm
numbered_term = term_by (λ sym. sym)

abbrev pub numbered_assign : Assign → TreeOf Sym AnAssign
numbered_assign = assign_by (λ sym. sym)

abbrev pub numbered_new_element : NewElement → TreeOf Sym ANewElement
numbered_new_element = new_element_by (λ sym. sym)

abbrev pub numbered_basic : Basic → TreeOf Sym ABasic
numbered_basic = basic_by (λ sym. sym)

abbrev pub numbered_formula : Formula → TreeOf Sym AFormula
numbered_formula = formula_by (λ sym. sym)

abbrev pub numbered_block : MatchBlock → TreeOf Sym ABlock
numbered_block = block_by (λ sym. sym)

abbrev pub numbered_next_term : NextTerm → TreeOf Sym ANextTerm
numbered_next_term = next_term_by (λ sym. sym)

abbrev pub numbered_optional : OptionalBlock → TreeOf Sym AnOptional
numbered_optional = optional_by (λ sym. sym)

abbrev pub numbered_query : Query → TreeOf Sym AQuery
numbered_query = query_by (λ sym. sym)

-- the tree of a statement
abbrev pub statement_by : {N : Type 0} → (Sym → N) → Statement → TreeOf N AStatement
statement_by f (statement.View g q) = tree.View (named_by f g) (query_by f q)
statement_by f (statement.Ask q) = tree.Ask (query_by f q)

abbrev pub statement_tree : Names → Statement → Tree AStatement
statement_tree names = statement_by (name_of names)

abbrev pub numbered_statement : Statement → TreeOf Sym AStatement
numbered_statement = statement_by (λ sym. sym)

-- the trees of a file's statements
abbrev pub file_trees : File → List (Tree AStatement)
file_trees f = map (statement_tree f.names) f.statements.items
