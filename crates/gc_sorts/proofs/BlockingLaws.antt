-- The ways to the blocks of queries, terms and parts, by what these are made of.
use Rattle.std.proofs.Common.{◌≡◌, ◌<◌, ℕ, ◌+◌, List, [], ◌∷◌, ◌++◌, map, drop, get_or, length, Box, Global, Some, None, Result, Ok, Err, refl, sym, ap, ◌∙◌, rules, subst}
use Rattle.std.specs.Prelude.{IfOk, OnOk, slice_get}
use Rattle.std.specs.Option.{option_map}
use Rattle.std.proofs.lemmas.Option.{slice_get_read}
use Rattle.gc_expr.specs.Views.{Names}
use Rattle.gc_ast.specs.declared.query.Statement.{Statement}
use Rattle.gc_ast.specs.declared.query.NextTerm.{NextTerm, out-NextTerm}
use Rattle.gc_ast.specs.declared.query.OptionalBlock.{OptionalBlock, out-OptionalBlock}
use Rattle.gc_ast.specs.declared.query.MatchBlock.{MatchBlock, out-MatchBlock}
use Rattle.gc_ast.specs.declared.query.Formula.{Formula, out-Formula}
use Rattle.gc_ast.specs.declared.query.Basic.{Basic, out-Basic}
use Rattle.gc_ast.specs.declared.query.Query.{Query, out-Query}
use Rattle.gc_ast.specs.declared.query.Term.{Term}
use Rattle.gc_ast.specs.declared.construct.Change.{the_lemmas}
use Rattle.gc_ast.specs.declared.construct.Change.TheViews as part
use Rattle.gc_ast.specs.PatternViews.{located_tree}
use Rattle.gc_ast.specs.QueryViews.{basic_by, basic_tree, block_by, block_tree, formula_tree, head_tree, next_term_by, next_term_tree, optional_by, optional_tree, query_by, query_tree, statement_tree, term_by, term_tree}
use Rattle.gc_ast.specs.Trees as tree
use Rattle.gc_ast.specs.Trees.{Tree, row, maybe}
use Rattle.gc_sorts.specs.declared.step.Step.{Step}
use Rattle.gc_sorts.specs.declared.step.Step.TheVariants as to
use Rattle.gc_sorts.specs.Ways.{Walk, Ways, asked, basic_ways, exists_ways, head_ways, later_ways, of_head, optional_ways, part_ways, queries_in, query_ways, statement_ways, term_ways, with_ways}
use Rattle.gc_sorts.specs.Ways as way
use Rattle.gc_sorts.proofs.ListSteps.{drop_at}
use Rattle.gc_sorts.proofs.NextLaws.{queries_of}
use Rattle.gc_sorts.proofs.RuleTrees as trees

pub on_ok : {A E P Q : Type 0} (r : Result A E) → (P → Q) → OnOk r P → OnOk r Q
on_ok (Ok x) f h = f h
on_ok (Err e) f h = tt

pub if_ok : {A E : Type 0} {P Q : A → Type 0} (r : Result A E) → ((x : A) → P x → Q x) → IfOk r P → IfOk r Q
if_ok (Ok x) f h = f x h
if_ok (Err e) f h = tt

pub query_made : (names : Names) (q : Query) (here h1 h2 : List Step) (w0 w1 w2 w3 : List (List Step)) → h1 ≡ here → h2 ≡ h1
    → w1 ≡ with_ways w0 (head_ways here 0 (row (map (head_tree names) (out-Query q).heads.items)))
    → w2 ≡ with_ways w1 (term_ways (h1 ++ to.Term 0 ∷ []) (term_tree names (out-Query q).first))
    → w3 ≡ with_ways w2 (later_ways h2 1 (row (map (next_term_tree names) (out-Query q).rest.items)))
    → w3 ≡ with_ways w0 (query_ways here (query_tree names q))
unfolding query_ways
query_made names q here h1 h2 w0 w1 w2 w3 a b e1 e2 e3 =
    let first = term_tree names (out-Query q).first in
    let rest = row (map (next_term_tree names) (out-Query q).rest.items) in
    e3 ∙ (ap (λ h. with_ways w2 (later_ways h 1 rest)) (b ∙ a)
    ∙ (ap (λ w. with_ways w (later_ways here 1 rest)) (e2 ∙ (ap (λ h. with_ways w1 (term_ways (h ++ to.Term 0 ∷ []) first)) a ∙ ap (λ w. with_ways w (term_ways (here ++ to.Term 0 ∷ []) first)) e1))
    ∙ sym (ap (λ t. with_ways w0 (query_ways here t)) (trees.query_of names q))))

pub basic_made : (names : Names) (b : Basic) (k0 k1 : Walk) (h2 : List Step) (w2 w3 : List (List Step)) → k1 ≡ record { ways = k0.ways ++ k0.here ∷ []; here = k0.here } → h2 ≡ k1.here
    → w2 ≡ with_ways k1.ways (part_ways k1.here 0 (block_tree names (out-Basic b).main))
    → w3 ≡ with_ways w2 (optional_ways h2 1 (row (map (optional_tree names) (out-Basic b).optionals.items)))
    → w3 ≡ with_ways k0.ways (basic_ways k0.here (basic_tree names b))
unfolding query_ways
basic_made names b k0 k1 h2 w2 w3 a e h g =
    let main = block_tree names (out-Basic b).main in
    let optionals = row (map (optional_tree names) (out-Basic b).optionals.items) in
    g ∙ (ap (λ x. with_ways w2 (optional_ways x 1 optionals)) (e ∙ ap (λ (k : Walk). k.here) a)
    ∙ (ap (λ w. with_ways w (optional_ways k0.here 1 optionals)) (h ∙ ap (λ (k : Walk). with_ways k.ways (part_ways k.here 0 main)) a)
    ∙ sym (ap (λ t. with_ways k0.ways (basic_ways k0.here t)) (trees.basic_of names b))))

pub graph_head : (here : List Step) (head : Tree tree.AHead) (name : tree.Named) (q : Tree tree.AQuery) → head ≡ tree.GraphHead name q → query_ways here q ≡ of_head here head
unfolding query_ways
graph_head here head name q is = sym (ap (of_head here) is)

pub basic_term : (names : Names) (here : List Step) (b : Box Basic Global) (c : Basic) (t : Term) → t ≡ part.Basic b → c ≡ b.value
    → basic_ways here (basic_tree names c) ≡ term_ways here (term_tree names t)
unfolding query_ways term_by basic_by
basic_term names here b c t is same =
    let e : term_tree names t ≡ tree.BasicTerm (basic_tree names b.value) = rw is (search (rules, the_lemmas)) in
    ap (λ x. basic_ways here (basic_tree names x)) same ∙ sym (ap (term_ways here) e)

pub query_term : (names : Names) (here : List Step) (b : Box Query Global) (c : Query) (t : Term) → t ≡ part.Query b → c ≡ b.value
    → query_ways here (query_tree names c) ≡ term_ways here (term_tree names t)
unfolding query_ways term_by query_by
query_term names here b c t is same =
    let e : term_tree names t ≡ tree.QueryTerm (query_tree names b.value) = rw is (search (rules, the_lemmas)) in
    ap (λ x. query_ways here (query_tree names x)) same ∙ sym (ap (term_ways here) e)

part_is : (here : List Step) (n : ℕ) (b : Tree tree.ABlock) → part_ways here n b ≡ exists_ways here n 0 (queries_in b)
unfolding query_ways
part_is here n (tree.Block patterns tree.none) = refl
part_is here n (tree.Block patterns (tree.more (tree.Formula condition queries) others)) = refl

pub no_filter : (names : Names) (here : List Step) (n : ℕ) (b : MatchBlock) → (out-MatchBlock b).filter ≡ None → part_ways here n (block_tree names b) ≡ way.none
unfolding query_ways
no_filter names here n b is =
    ap (part_ways here n) (trees.block_of names b) ∙ ap (λ o. part_ways here n (tree.Block (row (map (located_tree names) (out-MatchBlock b).patterns)) (maybe (option_map (formula_tree names) o)))) is

pub filtered : (names : Names) (here : List Step) (n : ℕ) (b : MatchBlock) (f : Formula) → (out-MatchBlock b).filter ≡ Some f
    → exists_ways here n 0 (row (map (query_tree names) (out-Formula f).exists.items)) ≡ part_ways here n (block_tree names b)
filtered names here n b f is = sym (part_is here n (block_tree names b) ∙ ap (exists_ways here n 0) (queries_of names b f is))

-- one item of a list, and those behind it
item_at : {X : Type 0} (xs items : List X) → xs ≡ items → (i : ℕ) (x : X) → i < length xs → x ≡ get_or xs i x → drop i items ≡ x ∷ drop (i + 1) items
item_at xs items same i x within read = drop_at items i x (subst (λ l. slice_get l i ≡ Some x) same (slice_get_read xs (length xs) i x refl within read))

next_of : (names : Names) (t : NextTerm) → next_term_tree names t ≡ tree.NextTerm (out-NextTerm t).op (term_tree names (out-NextTerm t).term)
unfolding next_term_by term_by
next_of names t = search (rules, the_lemmas)

next_is : (names : Names) (here : List Step) (n : ℕ) (t : NextTerm) (later : Tree (tree.RowOf tree.ANextTerm))
    → later_ways here n (tree.more (next_term_tree names t) later) ≡ way.both (term_ways (here ++ to.Term n ∷ []) (term_tree names (out-NextTerm t).term)) (later_ways here (n + 1) later)
unfolding query_ways
next_is names here n t later = ap (λ x. later_ways here n (tree.more x later)) (next_of names t)

pub rest_on : (names : Names) (here h : List Step) (xs items : List NextTerm) → xs ≡ items → (i : ℕ) (x : NextTerm) → i < length xs → x ≡ get_or xs i x → (n : ℕ) → n ≡ i + 1 → h ≡ here
    → (w w1 whole : List (List Step)) → w1 ≡ with_ways w (term_ways (h ++ to.Term n ∷ []) (term_tree names (out-NextTerm x).term))
    → with_ways w (later_ways here (i + 1) (row (map (next_term_tree names) (drop i items)))) ≡ whole
    → with_ways w1 (later_ways here ((i + 1) + 1) (row (map (next_term_tree names) (drop (i + 1) items)))) ≡ whole
rest_on names here h xs items same i x within read n number stays w w1 whole made so_far =
    let later = row (map (next_term_tree names) (drop (i + 1) items)) in
    let term = term_tree names (out-NextTerm x).term in
    let now : w1 ≡ with_ways w (term_ways (here ++ to.Term (i + 1) ∷ []) term) = made ∙ (ap (λ k. with_ways w (term_ways (k ++ to.Term n ∷ []) term)) stays ∙ ap (λ m. with_ways w (term_ways (here ++ to.Term m ∷ []) term)) number) in
    ap (λ v. with_ways v (later_ways here ((i + 1) + 1) later)) now
    ∙ (sym (ap (with_ways w) (next_is names here (i + 1) x later))
    ∙ (sym (ap (λ ts. with_ways w (later_ways here (i + 1) (row (map (next_term_tree names) ts)))) (item_at xs items same i x within read)) ∙ so_far))

optional_of : (names : Names) (o : OptionalBlock) → optional_tree names o ≡ tree.Optional (out-OptionalBlock o).token (block_tree names (out-OptionalBlock o).block)
unfolding optional_by block_by
optional_of names o = search (rules, the_lemmas)

optional_is : (names : Names) (here : List Step) (n : ℕ) (o : OptionalBlock) (later : Tree (tree.RowOf tree.AnOptional))
    → optional_ways here n (tree.more (optional_tree names o) later) ≡ way.both (part_ways here n (block_tree names (out-OptionalBlock o).block)) (optional_ways here (n + 1) later)
unfolding query_ways
optional_is names here n o later = ap (λ x. optional_ways here n (tree.more x later)) (optional_of names o)

pub optionals_on : (names : Names) (here h : List Step) (xs items : List OptionalBlock) → xs ≡ items → (i : ℕ) (x : OptionalBlock) → i < length xs → x ≡ get_or xs i x → (n : ℕ) → n ≡ i + 1 → h ≡ here
    → (w w1 whole : List (List Step)) → w1 ≡ with_ways w (part_ways h n (block_tree names (out-OptionalBlock x).block))
    → with_ways w (optional_ways here (i + 1) (row (map (optional_tree names) (drop i items)))) ≡ whole
    → with_ways w1 (optional_ways here ((i + 1) + 1) (row (map (optional_tree names) (drop (i + 1) items)))) ≡ whole
optionals_on names here h xs items same i x within read n number stays w w1 whole made so_far =
    let later = row (map (optional_tree names) (drop (i + 1) items)) in
    let main = block_tree names (out-OptionalBlock x).block in
    let now : w1 ≡ with_ways w (part_ways here (i + 1) main) = made ∙ (ap (λ k. with_ways w (part_ways k n main)) stays ∙ ap (λ m. with_ways w (part_ways here m main)) number) in
    ap (λ v. with_ways v (optional_ways here ((i + 1) + 1) later)) now
    ∙ (sym (ap (with_ways w) (optional_is names here (i + 1) x later))
    ∙ (sym (ap (λ os. with_ways w (optional_ways here (i + 1) (row (map (optional_tree names) os)))) (item_at xs items same i x within read)) ∙ so_far))

statement_is : (n : ℕ) (s : Tree tree.AStatement) (later : Tree (tree.RowOf tree.AStatement)) → statement_ways n (tree.more s later) ≡ way.both (query_ways (to.Statement n ∷ []) (asked s)) (statement_ways (n + 1) later)
unfolding statement_ways
statement_is n (tree.View g query) later = refl
statement_is n (tree.Ask query) later = refl

pub statements_on : (names : Names) (h : List Step) (xs items : List Statement) → xs ≡ items → (i : ℕ) (x : Statement) → i < length xs → x ≡ get_or xs i x → (n : ℕ) → n ≡ i → h ≡ to.Statement n ∷ []
    → (w w1 whole : List (List Step)) → w1 ≡ with_ways w (query_ways h (asked (statement_tree names x)))
    → with_ways w (statement_ways i (row (map (statement_tree names) (drop i items)))) ≡ whole
    → with_ways w1 (statement_ways (i + 1) (row (map (statement_tree names) (drop (i + 1) items)))) ≡ whole
statements_on names h xs items same i x within read n number stands w w1 whole made so_far =
    let later = row (map (statement_tree names) (drop (i + 1) items)) in
    let q = asked (statement_tree names x) in
    let now : w1 ≡ with_ways w (query_ways (to.Statement i ∷ []) q) = made ∙ ap (λ k. with_ways w (query_ways k q)) (stands ∙ ap (λ m. to.Statement m ∷ []) number) in
    ap (λ v. with_ways v (statement_ways (i + 1) later)) now
    ∙ (sym (ap (with_ways w) (statement_is i (statement_tree names x) later))
    ∙ (sym (ap (λ ss. with_ways w (statement_ways i (row (map (statement_tree names) ss)))) (item_at xs items same i x within read)) ∙ so_far))

-- none are left
pub no_rest : (here : List Step) (n : ℕ) (items : List NextTerm) (f : NextTerm → Tree tree.ANextTerm) → items ≡ [] → later_ways here n (row (map f items)) ≡ way.none
unfolding query_ways
no_rest here n items f e = ap (λ xs. later_ways here n (row (map f xs))) e

pub no_optionals : (here : List Step) (n : ℕ) (items : List OptionalBlock) (f : OptionalBlock → Tree tree.AnOptional) → items ≡ [] → optional_ways here n (row (map f items)) ≡ way.none
unfolding query_ways
no_optionals here n items f e = ap (λ xs. optional_ways here n (row (map f xs))) e

pub no_statements : (n : ℕ) (items : List Statement) (f : Statement → Tree tree.AStatement) → items ≡ [] → statement_ways n (row (map f items)) ≡ way.none
unfolding statement_ways
no_statements n items f e = ap (λ xs. statement_ways n (row (map f xs))) e
