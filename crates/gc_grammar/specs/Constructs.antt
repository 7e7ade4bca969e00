-- The grammar of what a CONSTRUCT makes.
use Rattle.std.specs.Prelude.{ℕ, List, codes, Option}
use Rattle.gc_lex.specs.declared.token.Mark.TheVariants as mark
use Rattle.gc_ast.specs.Trees as tree
use Rattle.gc_ast.specs.Trees.{Tree, AnItem, AConstructPart, ANewElement, AGroupTerm, AnAssign, AChange, Named, row, maybe}
use Rattle.gc_grammar.specs.Words.{Lang, ◌⋅◌, ◌∣◌, ◌⇒◌, ◌▸◌, ◌◂◌, optional, many, separated, mark, the_word, word, name}
use Rattle.gc_grammar.specs.Patterns.{listed, edge_of, linked}
use Rattle.gc_grammar.specs.Expressions.{Inside, formula}

-- a new element without its token, which is the first one of its pattern
pub record Unplaced : Type 0 where
  pub name : Option Named
  pub copy : Option Named
  pub group : List (Tree AGroupTerm)
  pub labels : List (List ℕ)
  pub assigns : List (Tree AnAssign)

-- a new element whose pattern begins at this token
abbrev pub placed : ℕ → Unplaced → Tree ANewElement
placed token e = tree.NewElement token e.name e.copy (row e.group) e.labels (row e.assigns)

-- gterm = name [ `.` word ]
abbrev pub gterm : Lang (Tree AGroupTerm)
gterm = (name ⋅ optional (mark mark.Dot ▸ word)) ⇒ λ n v. tree.GroupTerm v.0 v.1

-- word `:=` expr
abbrev pub assign : Inside → Lang (Tree AnAssign)
assign inside = (word ⋅ mark mark.Assign ▸ formula inside) ⇒ λ n v. tree.Assign n v.0 v.1

-- assigns = `{` word `:=` expr { `,` word `:=` expr } `}`
abbrev pub assigns : Inside → Lang (List (Tree AnAssign))
assigns inside = mark mark.OpenBrace ▸ separated (assign inside) (mark mark.Comma) ◂ mark mark.CloseBrace

-- `GROUP` gterm { `,` gterm }
abbrev pub group : Lang (List (Tree AGroupTerm))
group = the_word (codes "GROUP") ▸ separated gterm (mark mark.Comma)

-- `:` word
abbrev pub label : Lang (List ℕ)
label = mark mark.Colon ▸ word

-- celement = [ name ] [ `=` name ] [ `GROUP` gterm { `,` gterm } ] { `:` word } [ assigns ]
abbrev pub celement : Inside → Lang Unplaced
celement inside =
    (optional name ⋅ optional (mark mark.Equals ▸ name) ⋅ optional group ⋅ many label ⋅ optional (assigns inside))
    ⇒ λ n v. record {
      name = v.0;
      copy = v.1.0;
      group = listed v.1.1.0;
      labels = v.1.1.1.0;
      assigns = listed v.1.1.1.1;
    }

-- cnode = `(` celement `)`
abbrev pub cnode : Inside → Lang (Tree AConstructPart)
cnode inside =
    (mark mark.OpenParenthesis ▸ celement inside ◂ mark mark.CloseParenthesis) ⇒ λ n v. tree.NewNode (placed n v)

-- `-` `[` celement `]` `-` [ `>` ] | `<` `-` `[` celement `]` `-`
abbrev pub new_edge : Inside → Lang (Tree AConstructPart)
new_edge inside = edge_of (celement inside) ⇒ λ n v. tree.NewEdge v.1 (placed n v.0)

-- `-` `/` L `/` `-` `>`
abbrev pub in_slashes : {A : Type 0} → Lang A → Lang A
in_slashes L = mark mark.Minus ▸ mark mark.Slash ▸ L ◂ mark mark.Slash ◂ mark mark.Minus ◂ mark mark.Greater

-- `-` `/` name `/` `-` `>`
abbrev pub projected : Lang (Tree AConstructPart)
projected = in_slashes name ⇒ λ n v. tree.Projected n v

-- `-` `/` `@` name { `:` word } [ assigns ] `/` `-` `>`
abbrev pub new_stored : Inside → Lang (Tree AConstructPart)
new_stored inside =
    in_slashes (mark mark.AtSign ▸ name ⋅ many label ⋅ optional (assigns inside))
    ⇒ λ n v. tree.NewStored n v.0 v.1.0 (row (listed v.1.1))

-- clink = `-` `[` celement `]` `-` [ `>` ] | `<` `-` `[` celement `]` `-`
--     | `-` `/` name `/` `-` `>` | `-` `/` `@` name { `:` word } [ assigns ] `/` `-` `>`
abbrev pub clink : Inside → Lang (Tree AConstructPart)
clink inside = new_edge inside ∣ projected ∣ new_stored inside

-- cchain = cnode { clink cnode }
abbrev pub cchain : Inside → Lang (List (Tree AConstructPart))
cchain inside = linked (cnode inside) (clink inside)

-- sub = `SET` name `.` word `:=` expr | `SET` name `:` word | `REMOVE` name `.` word
--     | `REMOVE` name `:` word
abbrev pub sub : Inside → Lang (Tree AChange)
sub inside =
    (the_word (codes "SET") ▸ name ⋅ mark mark.Dot ▸ assign inside) ⇒ (λ n v. tree.SetProperty v.0 v.1)
    ∣ (the_word (codes "SET") ▸ name ⋅ label) ⇒ (λ n v. tree.AddLabel v.0 v.1)
    ∣ (the_word (codes "REMOVE") ▸ name ⋅ mark mark.Dot ▸ word) ⇒ (λ n v. tree.DropProperty v.0 v.1)
    ∣ (the_word (codes "REMOVE") ▸ name ⋅ label) ⇒ (λ n v. tree.DropLabel v.0 v.1)

-- cchain { sub } [ `WHEN` expr ]
abbrev pub chain_item : Inside → Lang (Tree AnItem)
chain_item inside =
    (cchain inside ⋅ many (sub inside) ⋅ optional (the_word (codes "WHEN") ▸ formula inside))
    ⇒ λ n v. tree.ChainItem (row v.0) (row v.1.0) (maybe v.1.1)

-- item = name | cchain { sub } [ `WHEN` expr ]
abbrev pub item : Inside → Lang (Tree AnItem)
item inside = name ⇒ (λ n v. tree.GraphItem v) ∣ chain_item inside
