use Rattle.std.proofs.Common.{◌≡◌, ℕ, List, [], ◌∷◌, ◌++◌, length, take, append-nil, Ok, Err, refl, sym, ap, ◌∙◌, subst}
use Rattle.std.specs.List.{AllByRecursion}
use Rattle.gc_ast.specs.PatternViews.{named}
use Rattle.gc_ast.specs.QueryViews.{query_tree}
use Rattle.gc_ast.specs.Trees.{View}
use Rattle.gc_catalog.specs.NamedGraphs.{NamedGraphs, AreBelow, IsCatalog}
use Rattle.gc_lower.specs.Namings.{scope_of}
use Rattle.gc_spec.specs.Coherence.{AreCoherent}
use Rattle.gc_spec.specs.PropertyGraph.{PropertyGraph}
use Rattle.gc_query.specs.Evaluations.{Evaluates, Evaluation}
use Rattle.gc_query.specs.Logs.{Log, Tells, taken_as, with_told}
use Rattle.gc_query.specs.declared.log.Wants.{Wants}
use Rattle.gc_query.specs.declared.log.Wants.TheVariants.{Nothing, Plans, Searches}
use Rattle.gc_query.specs.Queries.{Denotes}
use Rattle.gc_query.specs.Standings.{Made}
use Rattle.gc_query.specs.Steps.{free_word, standing, with_named, with_next}
use Rattle.gc_query.proofs.EvaluationLaws.{tells_taken}
use Rattle.gc_query.proofs.Standings.{below, coherent}
use Rattle.gc_query.proofs.StepLaws.{step_refused, view_fails, view_names}
use Rattle.gc_query.proofs.graph_views.view_step.Goals as goal

pub returns-in_err-made-clause-step : goal.returns-in_err-made-clause-step
returns-in_err-made-clause-step g c =
    let s = scope_of c.args.checked.now 0 in
    let query = query_tree c.args.checked.now.file.names c.args.query.now in
    let name = named c.args.checked.now.file.names c.args.name in
    step_refused s c.args.catalog.now c.answered.new.catalog c.in_err-made.ensures.kept (View name query) (λ fault. Denotes s (standing c.args.catalog.now) query (Err fault)) (view_fails s (standing c.args.catalog.now) query name)
    c.from_residual.result c.in_err-made.field-0.0 c.from_residual.ensures.0 c.from_residual.ensures.1 c.in_err-made.ensures.due

pub stand_named-requires-clause-coherent : goal.stand_named-requires-clause-coherent
stand_named-requires-clause-coherent g c =
    let before : NamedGraphs = c.args.catalog.now in
    let made : Made = record { graph = c.made.inside.graph; next = c.made.inside.next } in
    let same : made ≡ c.in_ok-made.made = c.made.view_is in
    let kept : c.answered.new.catalog ≡ before = c.in_ok-made.ensures.kept in
    let is : IsCatalog before = subst IsCatalog kept c.next-free.ensures.valid in
    let now : c.set_next.new.self.graphs ≡ before.graphs = ap (λ (n : NamedGraphs). n.graphs) c.set_next.ensures ∙ ap (λ (n : NamedGraphs). n.graphs) kept in
    subst (λ (gs : List PropertyGraph). AllByRecursion (λ h. AreCoherent h c.made.inside.graph) gs) (sym now)
    (subst (λ (m : Made). AllByRecursion (λ h. AreCoherent h m.graph) before.graphs) (sym same)
    (coherent before is c.in_ok-made.made.next c.in_ok-made.ensures.rises.0 c.in_ok-made.made.graph c.in_ok-made.ensures.comes))

pub stand_named-requires-clause-below : goal.stand_named-requires-clause-below
stand_named-requires-clause-below g c =
    let before : NamedGraphs = c.args.catalog.now in
    let made : Made = record { graph = c.made.inside.graph; next = c.made.inside.next } in
    let same : made ≡ c.in_ok-made.made = c.made.view_is in
    let kept : c.answered.new.catalog ≡ before = c.in_ok-made.ensures.kept in
    let is : IsCatalog before = subst IsCatalog kept c.next-free.ensures.valid in
    subst (λ n. AreBelow n c.made.inside.graph) (sym (ap (λ (n : NamedGraphs). n.next) c.set_next.ensures))
    (subst (λ (m : Made). AreBelow m.next m.graph) (sym same)
    (below before is c.in_ok-made.made.next c.in_ok-made.ensures.rises.0 c.in_ok-made.made.graph c.in_ok-made.ensures.comes))

pub returns-in-Ok-clause-step : goal.returns-in-Ok-clause-step
returns-in-Ok-clause-step g c =
    let s = scope_of c.args.checked.now 0 in
    let query = query_tree c.args.checked.now.file.names c.args.query.now in
    let name = named c.args.checked.now.file.names c.args.name in
    let before : NamedGraphs = c.args.catalog.now in
    let made : Made = record { graph = c.made.inside.graph; next = c.made.inside.next } in
    let same : made ≡ c.in_ok-made.made = c.made.view_is in
    let kept : c.answered.new.catalog ≡ before = c.in_ok-made.ensures.kept in
    let now : c.set_next.new.self ≡ with_next before made.next = c.set_next.ensures ∙ ap (λ n. with_next n made.next) kept in (
      made,
      view_names s (standing before) query name made (subst (λ m. Denotes s (standing before) query (Ok m)) (sym same) c.in_ok-made.ensures.due),
      c.in-Ok.ensures.added ∙ ap (λ (n : NamedGraphs). with_named n (free_word n.names name.name) made.graph) now,
    )

pub returns-in-Ok-clause-log : goal.returns-in-Ok-clause-log
returns-in-Ok-clause-log g c =
    let s = scope_of c.args.checked.now 0 in
    let query = query_tree c.args.checked.now.file.names c.args.query.now in
    let are : List Evaluation → Type 0 = Evaluates s c.args.catalog.now.names (standing c.args.catalog.now) query in
    subst (Tells s are c.args.log.now) (sym c.in_ok-take.ensures.taken)
    (tells_taken s are c.args.log.now c.answered.new.told c.behind-told.ensures.begins
    (subst (λ (l : Log). Tells s are l c.answered.new.told) c.behind-told.ensures.told c.in_ok-made.ensures.told))

-- the first lines and documents of a log that took more are those that it had
first_ones : {X : Type 0} (xs ys : List X) (n : ℕ) → n ≡ length xs → take n (xs ++ ys) ≡ xs
first_ones xs ys n many = ap (λ k. take k (xs ++ ys)) many ∙ take_all xs ys
  where
    take_all : {X : Type 0} (xs ys : List X) → take (length xs) (xs ++ ys) ≡ xs
    take_all [] ys = refl
    take_all (x ∷ xs) ys = ap (λ zs. x ∷ zs) (take_all xs ys)

all_ones : {X : Type 0} (xs : List X) (n : ℕ) → n ≡ length xs → take n xs ≡ xs
all_ones xs n many = ap (take n) (sym (append-nil xs)) ∙ first_ones xs [] n many

first_again : (log told : Log) (n m : ℕ) → n ≡ length log.lines → m ≡ length log.searches
    → record (with_told log told) { lines = take n (with_told log told).lines; searches = take m (with_told log told).searches } ≡ log
first_again log told n m many more = by log.wants
  where
    by : (w : Wants) → record (taken_as w log told) { lines = take n (taken_as w log told).lines; searches = take m (taken_as w log told).searches } ≡ log
    by Nothing = λ i. record log { lines = all_ones log.lines n many i; searches = all_ones log.searches m more i }
    by Plans = λ i. record log { lines = first_ones log.lines told.lines n many i; searches = all_ones log.searches m more i }
    by Searches = λ i. record log { lines = all_ones log.lines n many i; searches = first_ones log.searches told.searches m more i }

pub returns-in-Err-clause-log : goal.returns-in-Err-clause-log
returns-in-Err-clause-log g c =
    let n = length c.lines.result.now in
    let m = length c.searches.result.now in
    c.back_to-in-Err.ensures
    ∙ (ap (λ (l : Log). record l { lines = take n l.lines; searches = take m l.searches }) c.in_ok-take.ensures.taken
    ∙ first_again c.args.log.now c.answered.new.told n m (ap length c.lines.ensures) (ap length c.searches.ensures))
