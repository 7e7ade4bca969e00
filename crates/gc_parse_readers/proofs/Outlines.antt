-- How productions begin and with what they would go on, in as few kinds as say it.
use Rattle.std.proofs.Common.{◌≡◌, ◌∙◌, ℕ, true, false, List, [], ◌∷◌, ◌++◌, codes}
use Rattle.gc_lex.specs.declared.token.Mark.TheVariants as mark
use Rattle.gc_lex.specs.declared.token.Token.{Token}
use Rattle.gc_grammar.specs.Words.{Lang}
use Rattle.gc_parse_readers.specs.Kinds.{mark_kind, word_kind, number_kind, text_kind, name_kind, kind, covers}
use Rattle.gc_parse_readers.specs.Readers.{Reader}
use Rattle.gc_grammar.specs.Expressions.{Inside}
use Rattle.gc_parse_readers.specs.Right.{Right, Outline, Opens, one_of}
use Rattle.gc_parse_readers.proofs.KindLaws.{covered, not_covered}
use Rattle.gc_parse_readers.specs.ExpressionReaders.{Nested, product_kinds, comparison_kinds}
use Rattle.gc_parse_readers.specs.PatternReaders.{link_kinds}
use Rattle.gc_parse_readers.specs.QueryReaders.{set_op_kinds}

-- what opens as one outline says opens as a wider one does
opens_wider : (o o' : Outline) (ts : List Token) → covers o'.first o.first ≡ true → o'.empty ≡ o.empty → Opens o ts → Opens o' ts
opens_wider o o' [] c empty opens = empty ∙ opens
opens_wider o o' (token ∷ ts) c empty opens = covered o'.first o.first (kind token) c opens

-- a reader is right with a wider outline too
pub right_outlined : {j J : ℕ} {A : Type 0} {L M : Lang A} {p q : Reader A} {o o' : Outline}
    → covers o'.first o.first ≡ true → o'.empty ≡ o.empty → covers o'.more o.more ≡ true → Right j J L M p q o → Right j J L M p q o'
right_outlined {o = o} {o' = o'} c empty d right = record {
  sound = right.sound;
  complete = λ start end used rest a m short behind. right.complete start end used rest a m short (not_covered o'.more o.more rest d behind);
  opened = λ start end ts a l. opens_wider o o' ts c empty (right.opened start end ts a l);
  opened_by = λ start end ts a m. opens_wider o o' ts c empty (right.opened_by start end ts a m);
}

-- the words that fold the values of an operand
abbrev pub folding_kinds : List ℕ
folding_kinds =
    word_kind (codes "COUNT") ∷ word_kind (codes "SUM") ∷ word_kind (codes "MIN") ∷ word_kind (codes "MAX")
    ∷ word_kind (codes "COLLECT") ∷ []

-- what a primary begins with
abbrev pub prim_kinds : List ℕ
prim_kinds =
    number_kind ∷ text_kind ∷ word_kind (codes "TRUE") ∷ word_kind (codes "FALSE") ∷ name_kind ∷ mark_kind mark.OpenParenthesis
    ∷ word_kind (codes "EXISTS") ∷ word_kind (codes "nodes") ∷ word_kind (codes "edges") ∷ word_kind (codes "length")
    ∷ word_kind (codes "COUNT") ∷ folding_kinds

-- what operands would go on with
abbrev pub post_more : List ℕ
post_more = mark_kind mark.Dot ∷ mark_kind mark.Colon ∷ []

abbrev pub prod_more : List ℕ
prod_more = product_kinds ++ post_more

abbrev pub sum_more : List ℕ
sum_more = mark_kind mark.Plus ∷ mark_kind mark.Minus ∷ prod_more

abbrev pub cmp_more : List ℕ
cmp_more = comparison_kinds ++ sum_more

abbrev pub and_more : List ℕ
and_more = word_kind (codes "AND") ∷ cmp_more

-- primaries, operands that may have a sign, and operands that may have a NOT, by what they would go on with
abbrev pub prim_outline : List ℕ → Outline
prim_outline more = record { first = prim_kinds; empty = false; more = more }

abbrev pub neg_outline : List ℕ → Outline
neg_outline more = record { first = mark_kind mark.Minus ∷ prim_kinds; empty = false; more = more }

abbrev pub not_outline : List ℕ → Outline
not_outline more = record { first = word_kind (codes "NOT") ∷ mark_kind mark.Minus ∷ prim_kinds; empty = false; more = more }

-- expressions
abbrev pub expr_more : List ℕ
expr_more = word_kind (codes "OR") ∷ and_more

abbrev pub expr_outline : Outline
expr_outline = not_outline expr_more

-- nodes, which have parentheses
abbrev pub node_outline : Outline
node_outline = one_of (mark_kind mark.OpenParenthesis ∷ [])

-- links, whose last token may be absent
abbrev pub link_outline : Outline
link_outline = record { first = link_kinds; empty = false; more = mark_kind mark.Greater ∷ [] }

-- chains, which would go on with a link
abbrev pub chain_outline : Outline
chain_outline = record { first = mark_kind mark.OpenParenthesis ∷ []; empty = false; more = link_kinds }

-- chains of a MATCH
abbrev pub located_more : List ℕ
located_more = link_kinds ++ word_kind (codes "ON") ∷ []

abbrev pub located_outline : Outline
located_outline = record { first = mark_kind mark.OpenParenthesis ∷ []; empty = false; more = located_more }

-- what a CONSTRUCT makes
abbrev pub item_more : List ℕ
item_more = word_kind (codes "SET") ∷ word_kind (codes "REMOVE") ∷ word_kind (codes "WHEN") ∷ link_kinds ++ expr_more

abbrev pub item_outline : Outline
item_outline = record { first = name_kind ∷ mark_kind mark.OpenParenthesis ∷ []; empty = false; more = item_more }

-- blocks
abbrev pub block_more : List ℕ
block_more = word_kind (codes "WHERE") ∷ mark_kind mark.Comma ∷ located_more ++ expr_more

abbrev pub block_outline : Outline
block_outline = record { first = mark_kind mark.OpenParenthesis ∷ []; empty = false; more = block_more }

-- terms of a query, and queries
abbrev pub term_more : List ℕ
term_more = word_kind (codes "OPTIONAL") ∷ block_more

abbrev pub term_kinds : List ℕ
term_kinds = word_kind (codes "CONSTRUCT") ∷ name_kind ∷ mark_kind mark.OpenParenthesis ∷ []

abbrev pub term_outline : Outline
term_outline = record { first = term_kinds; empty = false; more = term_more }

abbrev pub head_kinds : List ℕ
head_kinds = word_kind (codes "PATH") ∷ word_kind (codes "GRAPH") ∷ []

abbrev pub head_more : List ℕ
head_more = word_kind (codes "WHERE") ∷ word_kind (codes "COST") ∷ mark_kind mark.Comma ∷ link_kinds ++ expr_more

abbrev pub query_outline : Outline
query_outline = record { first = head_kinds ++ term_kinds; empty = false; more = set_op_kinds ++ term_more }

-- statements
abbrev pub statement_outline : Outline
statement_outline = query_outline

-- the readers of what brackets hold are right
pub record InsideRight (j J : ℕ) (L M : Inside) (p q : Nested) : Type 0 where
  pub expr : Right j J L.expr M.expr p.expr q.expr expr_outline
  pub query : Right j J L.query M.query p.query q.query query_outline
