-- The regular path expressions of a query file.
use Rattle.std.specs.Prelude.{⊤}
use Rattle.gc_regx.specs.Expressions.{HasParts}
use Rattle.gc_regx.specs.Trees.{RegexTree, ARegex}
use Rattle.gc_ast.specs.Trees as tree
use Rattle.gc_ast.specs.Trees.{Tree, Kind}

-- each expression of the path patterns in a tree is so, also in EXISTS queries
unfoldable pub EachExpression : (RegexTree ARegex → Type 0) → {k : Kind} → Tree k → Type 0
EachExpression P (tree.View name query) = EachExpression P query
EachExpression P (tree.Ask query) = EachExpression P query
EachExpression P (tree.Query heads first rest) = EachExpression P heads × EachExpression P first × EachExpression P rest
EachExpression P (tree.NextTerm op term) = EachExpression P term
EachExpression P (tree.BasicTerm basic) = EachExpression P basic
EachExpression P (tree.QueryTerm query) = EachExpression P query
EachExpression P (tree.PathHead name chains filter cost) = EachExpression P chains × EachExpression P filter × EachExpression P cost
EachExpression P (tree.GraphHead name query) = EachExpression P query
EachExpression P (tree.Formula condition queries) = EachExpression P queries
EachExpression P (tree.Basic token items main optionals) = EachExpression P items × EachExpression P main × EachExpression P optionals
EachExpression P (tree.Block patterns filter) = EachExpression P patterns × EachExpression P filter
EachExpression P (tree.Optional token block) = EachExpression P block
EachExpression P (tree.Located parts on) = EachExpression P parts
EachExpression P (tree.Path token regex_at body) = EachExpression P body
EachExpression P (tree.Reach regex views) = P regex
EachExpression P (tree.Found k path regex views cost) = P regex
EachExpression P (tree.All path regex views) = P regex
EachExpression P (tree.ChainItem parts changes condition) = EachExpression P parts × EachExpression P changes × EachExpression P condition
EachExpression P (tree.NewNode element) = EachExpression P element
EachExpression P (tree.NewEdge way element) = EachExpression P element
EachExpression P (tree.NewStored token name labels assigns) = EachExpression P assigns
EachExpression P (tree.NewElement token name copy group labels assigns) = EachExpression P assigns
EachExpression P (tree.Assign token property value) = EachExpression P value
EachExpression P (tree.SetProperty name assign) = EachExpression P assign
EachExpression P tree.none = ⊤
EachExpression P (tree.more t ts) = EachExpression P t × EachExpression P ts
EachExpression P other = ⊤

-- no juxtaposition in them is of no parts
abbrev pub EachHasParts : {k : Kind} → Tree k → Type 0
EachHasParts t = EachExpression HasParts t
