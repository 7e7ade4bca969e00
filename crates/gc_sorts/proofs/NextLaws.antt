-- Where a step leads from a query, a file and a part, by the lists that they are made of.
use Rattle.std.proofs.Common.{◌≡◌, ℕ, suc, ◌+◌, List, map, Option, Some, None, refl, sym, ap, ◌∙◌, rules, arith}
use Rattle.std.specs.Prelude.{slice_get}
use Rattle.std.specs.Option.{option_map}
use Rattle.gc_expr.specs.Views.{Names}
use Rattle.gc_ast.specs.declared.query.Statement.{Statement}
use Rattle.gc_ast.specs.declared.query.Head.{Head}
use Rattle.gc_ast.specs.declared.query.NextTerm.{NextTerm, out-NextTerm}
use Rattle.gc_ast.specs.declared.query.OptionalBlock.{OptionalBlock, out-OptionalBlock}
use Rattle.gc_ast.specs.declared.query.MatchBlock.{MatchBlock, out-MatchBlock}
use Rattle.gc_ast.specs.declared.query.Formula.{Formula, out-Formula}
use Rattle.gc_ast.specs.declared.query.Basic.{Basic, out-Basic}
use Rattle.gc_ast.specs.declared.query.Query.{Query, out-Query}
use Rattle.gc_ast.specs.declared.construct.Change.{the_lemmas}
use Rattle.gc_ast.specs.PatternViews.{located_tree}
use Rattle.gc_ast.specs.QueryViews.{basic_tree, block_by, block_tree, formula_by, formula_tree, head_tree, next_term_by, next_term_tree, optional_by, optional_tree, query_tree, query_by, statement_tree, term_by, term_tree}
use Rattle.gc_ast.specs.Trees as tree
use Rattle.gc_ast.specs.Trees.{Tree, AnOptional, ABlock, row, maybe}
use Rattle.gc_sorts.specs.Blocks.{nth, optional_part, part_of}
use Rattle.gc_sorts.specs.Ways.{AtQuery, AtStatements, asked, declared, from_term, next, operand, queries_in, query_in}
use Rattle.gc_sorts.specs.declared.step.Step.TheVariants as to
use Rattle.gc_sorts.proofs.NthRows.{nth_row}
use Rattle.gc_sorts.proofs.RuleTrees as trees

pub statements_next : (names : Names) (all : List Statement) (n : ℕ) (o : Option Statement) → slice_get all n ≡ o
    → option_map (λ s. AtQuery (asked (statement_tree names s))) o ≡ next (AtStatements (row (map (statement_tree names) all))) (to.Statement n)
statements_next names all n o is =
    by o is ∙ sym (ap (option_map (λ s. AtQuery (asked s))) (nth_row (statement_tree names) all n))
  where
    by : (p : Option Statement) → slice_get all n ≡ p → option_map (λ s. AtQuery (asked (statement_tree names s))) p ≡ option_map (λ s. AtQuery (asked s)) (option_map (statement_tree names) (slice_get all n))
    by None e = sym (ap (λ x. option_map (λ s. AtQuery (asked s)) (option_map (statement_tree names) x)) e)
    by (Some s) e = sym (ap (λ x. option_map (λ s. AtQuery (asked s)) (option_map (statement_tree names) x)) e)

pub heads_next : (names : Names) (q : Query) (items : List Head) → items ≡ (out-Query q).heads.items → (n : ℕ) (o : Option Head) → slice_get items n ≡ o
    → option_map declared (option_map (head_tree names) o) ≡ next (AtQuery (query_tree names q)) (to.Head n)
heads_next names q items e n o is =
    sym (ap (λ t. next (AtQuery t) (to.Head n)) (trees.query_of names q)
    ∙ (ap (option_map declared) (nth_row (head_tree names) (out-Query q).heads.items n) ∙ (ap (λ hs. option_map declared (option_map (head_tree names) (slice_get hs n))) (sym e) ∙ ap (λ x. option_map declared (option_map (head_tree names) x)) is)))

pub first_next : (names : Names) (q : Query) (n : ℕ) → n ≡ 0 → from_term (Some (term_tree names (out-Query q).first)) ≡ next (AtQuery (query_tree names q)) (to.Term n)
first_next names q n e = sym (ap (λ m. next (AtQuery (query_tree names q)) (to.Term m)) e ∙ ap (λ t. next (AtQuery t) (to.Term 0)) (trees.query_of names q))

term_of : (names : Names) (t : NextTerm) → operand (next_term_tree names t) ≡ term_tree names (out-NextTerm t).term
unfolding next_term_by term_by
term_of names t = search (rules, the_lemmas)

operands : (names : Names) (o : Option NextTerm) → option_map operand (option_map (next_term_tree names) o) ≡ option_map (λ t. term_tree names (out-NextTerm t).term) o
operands names None = refl
operands names (Some t) = ap Some (term_of names t)

pub rest_next : (names : Names) (q : Query) (items : List NextTerm) → items ≡ (out-Query q).rest.items → (m n : ℕ) → n ≡ m + 1 → (o : Option NextTerm) → slice_get items m ≡ o
    → from_term (option_map (λ t. term_tree names (out-NextTerm t).term) o) ≡ next (AtQuery (query_tree names q)) (to.Term n)
rest_next names q items e m n more o is =
    sym (ap (λ k. next (AtQuery (query_tree names q)) (to.Term k)) (omega (arith, more))
    ∙ (ap (λ t. next (AtQuery t) (to.Term (suc m))) (trees.query_of names q)
    ∙ (ap (λ x. from_term (option_map operand x)) (nth_row (next_term_tree names) (out-Query q).rest.items m)
    ∙ (ap (λ ts. from_term (option_map operand (option_map (next_term_tree names) (slice_get ts m)))) (sym e)
    ∙ (ap (λ x. from_term (option_map operand (option_map (next_term_tree names) x))) is ∙ ap from_term (operands names o))))))

part_in : (names : Names) (o : OptionalBlock) → optional_part (optional_tree names o) ≡ block_tree names (out-OptionalBlock o).block
unfolding optional_by block_by
part_in names o = search (rules, the_lemmas)

parts_in : (names : Names) (o : Option OptionalBlock) → option_map optional_part (option_map (optional_tree names) o) ≡ option_map (λ b. block_tree names (out-OptionalBlock b).block) o
parts_in names None = refl
parts_in names (Some b) = ap Some (part_in names b)

pub optional_at : (names : Names) (b : Basic) (items : List OptionalBlock) → items ≡ (out-Basic b).optionals.items → (m n : ℕ) → n ≡ m + 1 → (o : Option OptionalBlock) → slice_get items m ≡ o
    → option_map (λ p. block_tree names (out-OptionalBlock p).block) o ≡ part_of (basic_tree names b) n
optional_at names b items e m n more o is =
    sym (ap (part_of (basic_tree names b)) (omega (arith, more))
    ∙ (ap (λ t. part_of t (suc m)) (trees.basic_of names b)
    ∙ (ap (option_map optional_part) (nth_row (optional_tree names) (out-Basic b).optionals.items m)
    ∙ (ap (λ ps. option_map optional_part (option_map (optional_tree names) (slice_get ps m))) (sym e)
    ∙ (ap (λ x. option_map optional_part (option_map (optional_tree names) x)) is ∙ parts_in names o)))))

queries_made : (names : Names) (f : Formula) → queries_in (tree.Block tree.none (maybe (option_map (formula_tree names) (Some f)))) ≡ row (map (query_tree names) (out-Formula f).exists.items)
unfolding formula_by query_by
queries_made names f = search (rules, the_lemmas)

in_any : (patterns : Tree (tree.RowOf tree.ALocated)) (filter : Tree (tree.RowOf tree.AFormula)) → queries_in (tree.Block patterns filter) ≡ queries_in (tree.Block tree.none filter)
in_any patterns tree.none = refl
in_any patterns (tree.more (tree.Formula e queries) others) = refl

pub queries_of : (names : Names) (b : MatchBlock) (f : Formula) → (out-MatchBlock b).filter ≡ Some f → queries_in (block_tree names b) ≡ row (map (query_tree names) (out-Formula f).exists.items)
queries_of names b f is =
    ap queries_in (trees.block_of names b)
    ∙ (in_any (row (map (located_tree names) (out-MatchBlock b).patterns)) (maybe (option_map (formula_tree names) (out-MatchBlock b).filter))
    ∙ (ap (λ o. queries_in (tree.Block tree.none (maybe (option_map (formula_tree names) o)))) is ∙ queries_made names f))

pub exists_at : (names : Names) (b : MatchBlock) (f : Formula) → (out-MatchBlock b).filter ≡ Some f → (items : List Query) → items ≡ (out-Formula f).exists.items → (n : ℕ) (o : Option Query) → slice_get items n ≡ o
    → option_map (λ q. AtQuery (query_tree names q)) o ≡ option_map AtQuery (query_in (Some (block_tree names b)) n)
exists_at names b f filter items e n o is =
    sym (ap (λ qs. option_map AtQuery (nth qs n)) (queries_of names b f filter)
    ∙ (ap (option_map AtQuery) (nth_row (query_tree names) (out-Formula f).exists.items n)
    ∙ (ap (λ qs. option_map AtQuery (option_map (query_tree names) (slice_get qs n))) (sym e) ∙ (ap (λ x. option_map AtQuery (option_map (query_tree names) x)) is ∙ by o))))
  where
    by : (p : Option Query) → option_map AtQuery (option_map (query_tree names) p) ≡ option_map (λ q. AtQuery (query_tree names q)) p
    by None = refl
    by (Some q) = refl
