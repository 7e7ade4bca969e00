-- Expressions with their EXISTS queries, and what a CONSTRUCT makes, spelled anew.
use Rattle.std.proofs.Common.{◌≡◌, ℕ, ◌+◌, true, List, [], ◌∷◌, ◌++◌, map, Option, Some, None, refl, sym, ap, subst, ◌∙◌, codes}
use Rattle.std.specs.List.{flat_map}
use Rattle.std.specs.Option.{option_map}
use Rattle.gc_base.specs.Words.{is_word}
use Rattle.gc_base.specs.declared.place.Direction.{Direction}
use Rattle.gc_lex.specs.declared.token.Token.{Token}
use Rattle.gc_lex.specs.declared.token.Mark.TheVariants as mark
use Rattle.gc_ast.specs.Trees as tree
use Rattle.gc_ast.specs.Trees.{Kind, RowOf, Tree, AQuery, AFormula, AnItem, AConstructPart, ANewElement, AGroupTerm, AnAssign, AChange, Named, row, maybe, Formula}
use Rattle.gc_grammar.specs.Words as words
use Rattle.gc_grammar.specs.Words.{Point, Lang, ◌⋅◌, ◌∣◌, ◌⇒◌, ◌▸◌, ◌◂◌, Alone, optional, many, separated}
use Rattle.gc_grammar.specs.Expressions.{Expr, expr, formula}
use Rattle.gc_grammar.specs.Patterns.{listed}
use Rattle.gc_grammar.specs.Constructs as construct
use Rattle.gc_grammar.specs.Constructs.{Unplaced, placed}
use Rattle.gc_grammar.specs.Queries.{within}
use Rattle.gc_print_query.specs.Pieces.{Piece, Blank, Line, joined}
use Rattle.gc_print_query.specs.ExpressionPieces.{word, mark_piece, parenthesized}
use Rattle.gc_print_query.specs.QueryPieces.{pieces_of, name_if, label, braced, edge, path, copy_if, grouped, property_if, clause, enclosed}
use Rattle.gc_print_query.specs.Tokens.{AreWritable}
use Rattle.gc_print_query.specs.Unnumbered.{unnumbered, unnumbered_name}
use Rattle.gc_print_query.proofs.Rereading.{Grows, listed_own, grows_none, Read, Reads, converted, made, rewritten, restated, both, past, either, at_most_once, if_some, any_times, with_separators, nothing_read, a_word, a_name}
use Rattle.gc_print_query.proofs.TokensRead.{lone_mark, spaced_mark, mark_blank, spaced_word, line_word}
use Rattle.gc_print_query.proofs.Primaries.{InsideFine, expressions_read, parenthesized_reads}
use Rattle.gc_print_query.proofs.PatternsRead.{row_pieces, row_unnumbered, row_flat, braced_reads, edge_of_reads, in_slashes_read, linked_read}

-- ---- an expression with its EXISTS queries

map_map : {X Y Z : Type 0} (f : Y → Z) (g : X → Y) (xs : List X) → map f (map g xs) ≡ map (λ x. f (g x)) xs
map_map f g [] = refl
map_map f g (x ∷ xs) = ap (λ ys. f (g x) ∷ ys) (map_map f g xs)

formula_alone : {n D : ℕ} → InsideFine n D → (p q : Point) (ts : List Token) (e : Expr) (queries : List (Tree AQuery)) → AreWritable ts → Alone (expr (within D)) p ts (e, queries) q
    → Read n D (λ d. formula (within d)) (λ x v. pieces_of n v) unnumbered p q (Formula e (row queries))
unfolding pieces_of unnumbered
formula_alone {n = n} inside p q ts e queries w s =
    let own = (expressions_read inside).read (record { token = p.token; exists = [] }) s.last ts e w s.spelled in
    let lists = map (enclosed n) (pieces_of (n + 1) (row queries)) in
    let lists_are : lists ≡ map (λ query. enclosed n (pieces_of (n + 1) query)) s.last.exists =
    ap (map (enclosed n)) (row_pieces (n + 1) queries) ∙ map_map (enclosed n) (pieces_of (n + 1)) queries ∙ ap (map (λ query. enclosed n (pieces_of (n + 1) query))) s.queries in
    let end_is : q.exists ≡ p.exists = ap (λ (t : Point). t.exists) s.after in
    record {
      grows = subst (Grows p.exists) (sym end_is) (grows_none p.exists);
      again = λ d deep x listed r same.
          let a = own.again d deep lists (listed_own n s.last.exists lists lists_are) (record { token = r.token; exists = [] }) refl in
          record {
            value = Formula a.value (row a.end.exists);
            end = record { token = a.end.token; exists = r.exists };
            spelled = record { value = (a.value, a.end.exists); spelled = record { last = a.end; spelled = a.spelled; queries = refl; after = refl }; made = refl };
            same = λ i. Formula (a.same i) ((row_unnumbered a.end.exists ∙ ap row (a.kept ∙ ap (map unnumbered) (sym s.queries)) ∙ sym (row_unnumbered queries)) i);
            kept = same ∙ ap (map unnumbered) (sym end_is);
            sound = a.sound;
          };
    }

pub formula_reads : {n D : ℕ} → InsideFine n D → Reads n D (λ d. formula (within d)) (λ x v. pieces_of n v) unnumbered
formula_reads {n = n} {D = D} inside = record {
  read = λ p q ts v w s.
      subst (λ v. Read n D (λ d. formula (within d)) (λ x v. pieces_of n v) unnumbered p q v) (sym s.made) (formula_alone inside p q ts s.value.0 s.value.1 w s.spelled);
}

pub maybe_unnumbered : {k : Kind} (o : Option (Tree k)) → unnumbered (maybe o) ≡ maybe (option_map unnumbered o)
unfolding unnumbered
maybe_unnumbered None = refl
maybe_unnumbered (Some t) = refl

-- an expression on a line of its own, behind a word, if there is one
pub clause_reads : {n D : ℕ} (depth : ℕ) (w : List ℕ) → is_word w ≡ true → InsideFine n D
    → Reads n D (λ d. optional (words.the_word w ▸ formula (within d))) (λ x o. clause depth w (pieces_of n (maybe o))) (option_map unnumbered)
unfolding pieces_of
clause_reads {n = n} depth w is inside = rewritten (λ x o. clause depth w (pieces_of n (maybe o))) (λ x o. by o) (at_most_once (past (line_word depth w is) (formula_reads inside)))
  where
    by : (o : Option (Tree AFormula)) → clause depth w (pieces_of n (maybe o)) ≡ if_some (λ (v : Tree AFormula). Line depth ∷ word w ∷ Blank ∷ pieces_of n v) o
    by None = refl
    by (Some v) = refl

-- ---- elements

option_id : {X : Type 0} (o : Option X) → o ≡ option_map (λ x. x) o
option_id None = refl
option_id (Some x) = refl

map_id : {X : Type 0} (xs : List X) → xs ≡ map (λ x. x) xs
map_id [] = refl
map_id (x ∷ xs) = ap (λ ys. x ∷ ys) (map_id xs)

property_if_reads : {n D : ℕ} → Reads n D (λ d. optional (words.mark mark.Dot ▸ words.word)) (λ x o. property_if o) (λ o. o)
property_if_reads = rewritten (λ x o. property_if o) (λ x o. by o) (restated (λ o. o) (λ o. o) option_id (at_most_once (past (lone_mark mark.Dot) a_word)))
  where
    by : (o : Option (List ℕ)) → property_if o ≡ if_some (λ v. mark_piece mark.Dot ∷ word v ∷ []) o
    by None = refl
    by (Some v) = refl

gterm_reads : {n D : ℕ} → Reads n D (λ d. construct.gterm) (λ x v. pieces_of n v) unnumbered
unfolding pieces_of unnumbered
gterm_reads {n = n} =
    made (λ m (v : Named × Option (List ℕ)). tree.GroupTerm v.0 v.1) (λ x v. pieces_of n v) unnumbered (λ (v : Named × Option (List ℕ)). tree.GroupTerm v.0 v.1) (λ x m v. refl) (λ m v. refl)
    (both a_name property_if_reads)

name_if_reads : {n D : ℕ} → Reads n D (λ d. optional words.name) (λ x o. name_if o) (option_map unnumbered_name)
name_if_reads = rewritten (λ x o. name_if o) (λ x o. by o) (at_most_once a_name)
  where
    by : (o : Option Named) → name_if o ≡ if_some (λ (v : Named). word v.name ∷ []) o
    by None = refl
    by (Some v) = refl

copy_if_reads : {n D : ℕ} → Reads n D (λ d. optional (words.mark mark.Equals ▸ words.name)) (λ x o. copy_if o) (option_map unnumbered_name)
copy_if_reads = rewritten (λ x o. copy_if o) (λ x o. by o) (at_most_once (past (lone_mark mark.Equals) a_name))
  where
    by : (o : Option Named) → copy_if o ≡ if_some (λ (v : Named). mark_piece mark.Equals ∷ word v.name ∷ []) o
    by None = refl
    by (Some v) = refl

grouped_reads : {n D : ℕ} → Reads n D (λ d. optional construct.group) (λ x o. grouped (map (pieces_of n) (listed o))) (λ o. map unnumbered (listed o))
grouped_reads {n = n} {D = D} = record { read = by }
  where
    in_list : (vs ws : List (Tree AGroupTerm)) (v : Tree AGroupTerm) → vs ≡ v ∷ ws → grouped (map (pieces_of n) vs) ≡ Blank ∷ word (codes "GROUP") ∷ Blank ∷ joined (mark_piece mark.Comma ∷ Blank ∷ []) (map (pieces_of n) vs)
    in_list [] ws v is = absurd (cc)
    in_list (u ∷ us) ws v is = refl

    by : (p q : Point) (ts : List Token) (o : Option (List (Tree AGroupTerm))) → AreWritable ts → optional construct.group p ts o q
        → Read n D (λ d. optional construct.group) (λ x o. grouped (map (pieces_of n) (listed o))) (λ o. map unnumbered (listed o)) p q o
    by p q ts None w s = nothing_read (λ d. optional construct.group) (λ x o. grouped (map (pieces_of n) (listed o))) (λ o. map unnumbered (listed o)) p q None s.1 (λ d r. (refl, refl)) (λ x. refl)
    by p q ts (Some vs) w s =
        converted (λ d. optional construct.group) (λ x o. grouped (map (pieces_of n) (listed o))) (λ o. map unnumbered (listed o))
        (λ m b. Some b) (λ b. b) (Some vs) (λ d r t us b l. l) (λ m b. refl) refl
        (λ x. in_list vs _ _ (s.made ∙ s.spelled.behind.made))
        ((past (spaced_word (codes "GROUP") refl) (with_separators gterm_reads (mark_blank mark.Comma))).read p q ts vs w s)

label_reads : {n D : ℕ} → Reads n D (λ d. construct.label) (λ x v. label v) (λ v. v)
label_reads = past (lone_mark mark.Colon) a_word

all_labels_read : {n D : ℕ} → Reads n D (λ d. many construct.label) (λ x v. flat_map label v) (λ v. v)
all_labels_read = restated (λ v. v) (λ v. v) map_id (any_times label_reads)

module _ {n D : ℕ} (inside : InsideFine n D) where
  assign_reads : Reads n D (λ d. construct.assign (within d)) (λ x v. pieces_of n v) unnumbered
  unfolding pieces_of unnumbered
  assign_reads =
      made (λ m (v : List ℕ × Tree AFormula). tree.Assign m v.0 v.1) (λ x v. pieces_of n v) unnumbered (λ (v : List ℕ × Tree AFormula). tree.Assign 0 v.0 v.1) (λ x m v. refl) (λ m v. refl)
      (both a_word (past (spaced_mark mark.Assign) (formula_reads inside)))

  assigns_read : Reads n D (λ d. optional (construct.assigns (within d))) (λ x o. braced (map (pieces_of n) (listed o))) (λ o. map unnumbered (listed o))
  assigns_read = braced_reads assign_reads

  -- an element without the numbers
  abbrev unnumbered_element : Unplaced → Unplaced
  unnumbered_element v = record {
    name = option_map unnumbered_name v.name;
    copy = option_map unnumbered_name v.copy;
    group = map unnumbered v.group;
    labels = v.labels;
    assigns = map unnumbered v.assigns;
  }

  abbrev element_pieces : Unplaced → List Piece
  element_pieces v =
      name_if v.name ++ (copy_if v.copy ++ (grouped (map (pieces_of n) v.group) ++ (flat_map label v.labels ++ braced (map (pieces_of n) v.assigns))))

  celement_reads : Reads n D (λ d. construct.celement (within d)) (λ x v. element_pieces v) unnumbered_element
  celement_reads =
      made
      (λ m (v : Option Named × (Option Named × (Option (List (Tree AGroupTerm)) × (List (List ℕ) × Option (List (Tree AnAssign)))))). record { name = v.0; copy = v.1.0; group = listed v.1.1.0; labels = v.1.1.1.0; assigns = listed v.1.1.1.1 })
      (λ x v. element_pieces v) unnumbered_element
      (λ (v : Option Named × (Option Named × (List (Tree AGroupTerm) × (List (List ℕ) × List (Tree AnAssign))))). record { name = v.0; copy = v.1.0; group = v.1.1.0; labels = v.1.1.1.0; assigns = v.1.1.1.1 })
      (λ x m v. refl) (λ m v. refl)
      (both name_if_reads (both copy_if_reads (both grouped_reads (both all_labels_read assigns_read))))

  placed_pieces : (m : ℕ) (v : Unplaced) → pieces_of n (placed m v) ≡ element_pieces v
  unfolding pieces_of
  placed_pieces m v =
      λ i. name_if v.name ++ (copy_if v.copy ++ (grouped (row_pieces n v.group i) ++ (flat_map label v.labels ++ braced (row_pieces n v.assigns i))))

  placed_same : (m : ℕ) (v : Unplaced) → unnumbered (placed m v) ≡ placed 0 (unnumbered_element v)
  unfolding unnumbered
  placed_same m v =
      λ i. tree.NewElement 0 (option_map unnumbered_name v.name) (option_map unnumbered_name v.copy) (row_unnumbered v.group i) v.labels (row_unnumbered v.assigns i)

  -- ---- chains

  cnode_reads : Reads n D (λ d. construct.cnode (within d)) (λ x v. pieces_of n v) unnumbered
  unfolding pieces_of unnumbered
  cnode_reads =
      made (λ m v. tree.NewNode (placed m v)) (λ x v. pieces_of n v) unnumbered (λ v. tree.NewNode (placed 0 v)) (λ x m v. ap parenthesized (placed_pieces m v)) (λ m v. ap tree.NewNode (placed_same m v))
      (parenthesized_reads celement_reads)

  new_edge_reads : Reads n D (λ d. construct.new_edge (within d)) (λ x v. pieces_of n v) unnumbered
  unfolding pieces_of unnumbered
  new_edge_reads =
      made (λ m (v : Unplaced × Direction). tree.NewEdge v.1 (placed m v.0)) (λ x v. pieces_of n v) unnumbered (λ (v : Unplaced × Direction). tree.NewEdge v.1 (placed 0 v.0))
      (λ x m v. ap (edge v.1) (placed_pieces m v.0)) (λ m v. ap (tree.NewEdge v.1) (placed_same m v.0)) (edge_of_reads celement_reads)

  projected_reads : Reads n D (λ d. construct.projected) (λ x v. pieces_of n v) unnumbered
  unfolding pieces_of unnumbered
  projected_reads =
      made (λ m (v : Named). tree.Projected m v) (λ x v. pieces_of n v) unnumbered (λ (v : Named). tree.Projected 0 v) (λ x m v. refl) (λ m v. refl) (in_slashes_read a_name)

  new_stored_reads : Reads n D (λ d. construct.new_stored (within d)) (λ x v. pieces_of n v) unnumbered
  unfolding pieces_of unnumbered
  new_stored_reads =
      made (λ m (v : Named × (List (List ℕ) × Option (List (Tree AnAssign)))). tree.NewStored m v.0 v.1.0 (row (listed v.1.1))) (λ x v. pieces_of n v) unnumbered
      (λ (v : Named × (List (List ℕ) × List (Tree AnAssign))). tree.NewStored 0 v.0 v.1.0 (row v.1.1))
      (λ x m v. ap (λ ps. path (mark_piece mark.AtSign ∷ word v.0.name ∷ (flat_map label v.1.0 ++ braced ps))) (row_pieces n (listed v.1.1)))
      (λ m v. ap (tree.NewStored 0 (unnumbered_name v.0) v.1.0) (row_unnumbered (listed v.1.1)))
      (in_slashes_read (both (past (lone_mark mark.AtSign) a_name) (both all_labels_read assigns_read)))

  cchain_reads : Reads n D (λ d. construct.cchain (within d)) (λ x vs. flat_map (pieces_of n) vs) (map unnumbered)
  cchain_reads = linked_read cnode_reads (either new_edge_reads (either projected_reads new_stored_reads))

  -- ---- changes

  set_property_reads : Reads n D (λ d. (words.the_word (codes "SET") ▸ words.name ⋅ words.mark mark.Dot ▸ construct.assign (within d)) ⇒ (λ n v. tree.SetProperty v.0 v.1)) (λ x v. Line (n + 1) ∷ pieces_of n v) unnumbered
  unfolding pieces_of unnumbered
  set_property_reads =
      made (λ m (v : Named × Tree AnAssign). tree.SetProperty v.0 v.1) (λ x v. Line (n + 1) ∷ pieces_of n v) unnumbered (λ (v : Named × Tree AnAssign). tree.SetProperty v.0 v.1) (λ x m v. refl) (λ m v. refl)
      (both (past (line_word (n + 1) (codes "SET") refl) a_name) (past (lone_mark mark.Dot) assign_reads))

  add_label_reads : Reads n D (λ d. (words.the_word (codes "SET") ▸ words.name ⋅ construct.label) ⇒ (λ n v. tree.AddLabel v.0 v.1)) (λ x v. Line (n + 1) ∷ pieces_of n v) unnumbered
  unfolding pieces_of unnumbered
  add_label_reads =
      made (λ m (v : Named × List ℕ). tree.AddLabel v.0 v.1) (λ x v. Line (n + 1) ∷ pieces_of n v) unnumbered (λ (v : Named × List ℕ). tree.AddLabel v.0 v.1) (λ x m v. refl) (λ m v. refl)
      (both (past (line_word (n + 1) (codes "SET") refl) a_name) label_reads)

  drop_property_reads : Reads n D (λ d. (words.the_word (codes "REMOVE") ▸ words.name ⋅ words.mark mark.Dot ▸ words.word) ⇒ (λ n v. tree.DropProperty v.0 v.1)) (λ x v. Line (n + 1) ∷ pieces_of n v) unnumbered
  unfolding pieces_of unnumbered
  drop_property_reads =
      made (λ m (v : Named × List ℕ). tree.DropProperty v.0 v.1) (λ x v. Line (n + 1) ∷ pieces_of n v) unnumbered (λ (v : Named × List ℕ). tree.DropProperty v.0 v.1) (λ x m v. refl) (λ m v. refl)
      (both (past (line_word (n + 1) (codes "REMOVE") refl) a_name) (past (lone_mark mark.Dot) a_word))

  drop_label_reads : Reads n D (λ d. (words.the_word (codes "REMOVE") ▸ words.name ⋅ construct.label) ⇒ (λ n v. tree.DropLabel v.0 v.1)) (λ x v. Line (n + 1) ∷ pieces_of n v) unnumbered
  unfolding pieces_of unnumbered
  drop_label_reads =
      made (λ m (v : Named × List ℕ). tree.DropLabel v.0 v.1) (λ x v. Line (n + 1) ∷ pieces_of n v) unnumbered (λ (v : Named × List ℕ). tree.DropLabel v.0 v.1) (λ x m v. refl) (λ m v. refl)
      (both (past (line_word (n + 1) (codes "REMOVE") refl) a_name) label_reads)

  sub_reads : Reads n D (λ d. construct.sub (within d)) (λ x v. Line (n + 1) ∷ pieces_of n v) unnumbered
  sub_reads = either set_property_reads (either add_label_reads (either drop_property_reads drop_label_reads))

  -- ---- items

  graph_item_reads : Reads n D (λ d. words.name ⇒ (λ n v. tree.GraphItem v)) (λ x v. pieces_of n v) unnumbered
  unfolding pieces_of unnumbered
  graph_item_reads = made (λ m (v : Named). tree.GraphItem v) (λ x v. pieces_of n v) unnumbered (λ (v : Named). tree.GraphItem v) (λ x m v. refl) (λ m v. refl) a_name

  chain_item_reads : Reads n D (λ d. construct.chain_item (within d)) (λ x v. pieces_of n v) unnumbered
  unfolding pieces_of unnumbered
  chain_item_reads =
      made (λ m (v : List (Tree AConstructPart) × (List (Tree AChange) × Option (Tree AFormula))). tree.ChainItem (row v.0) (row v.1.0) (maybe v.1.1)) (λ x v. pieces_of n v) unnumbered
      (λ (v : List (Tree AConstructPart) × (List (Tree AChange) × Option (Tree AFormula))). tree.ChainItem (row v.0) (row v.1.0) (maybe v.1.1))
      (λ x m v. λ i. row_flat n (λ part. part) v.0 i ++ (row_flat n (λ change. Line (n + 1) ∷ change) v.1.0 i ++ clause (n + 1) (codes "WHEN") (pieces_of n (maybe v.1.1))))
      (λ m v. λ i. tree.ChainItem (row_unnumbered v.0 i) (row_unnumbered v.1.0 i) (maybe_unnumbered v.1.1 i))
      (both cchain_reads (both (any_times sub_reads) (clause_reads (n + 1) (codes "WHEN") refl inside)))

  pub item_reads : Reads n D (λ d. construct.item (within d)) (λ x v. pieces_of n v) unnumbered
  item_reads = either graph_item_reads chain_item_reads
