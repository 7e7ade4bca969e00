use Rattle.std.proofs.Common.{◌≡◌, ◌≤◌, ◌∙◌, ℕ, List, [], ◌∷◌, ◌++◌, Ok, sym, ap, subst, arith}
use Rattle.gc_ast.specs.PatternViews.{named}
use Rattle.std.specs.List.{AllByRecursion}
use Rattle.gc_catalog.specs.NamedGraphs.{NamedGraphs, AreBelow}
use Rattle.gc_spec.specs.Coherence.{AreCoherent}
use Rattle.gc_query.specs.Answered.{standing_at}
use Rattle.gc_query.specs.Queries.{with_made}
use Rattle.gc_query.specs.Standings.{Made, Standing}
use Rattle.gc_query.specs.Steps.{free_word, with_named, with_next}
use Rattle.gc_spec.specs.PropertyGraph.{PropertyGraph}
use Rattle.gc_query.proofs.Standings.{below, coherent, graphs_with, longer_with, names_with, next_with}
use Rattle.gc_query.proofs.standing.stand.Goals as goal

pub stand_named-requires-clause-coherent : goal.stand_named-requires-clause-coherent
stand_named-requires-clause-coherent c =
    let made : Made = record { graph = c.made.inside.graph; next = c.made.inside.next } in
    let same : made ≡ c.args.made = c.made.view_is in
    subst (λ (n : NamedGraphs). AllByRecursion (λ h. AreCoherent h c.made.inside.graph) n.graphs) (sym c.set_next.ensures)
    (subst (λ (m : Made). AllByRecursion (λ h. AreCoherent h m.graph) c.args.catalog.now.graphs) (sym same)
    (coherent c.args.catalog.now c.next-valid.ensures.valid c.args.made.next c.requires.later c.args.made.graph c.requires.comes))

pub stand_named-requires-clause-below : goal.stand_named-requires-clause-below
stand_named-requires-clause-below c =
    let made : Made = record { graph = c.made.inside.graph; next = c.made.inside.next } in
    let same : made ≡ c.args.made = c.made.view_is in
    subst (λ n. AreBelow n c.made.inside.graph) (sym (ap (λ (n : NamedGraphs). n.next) c.set_next.ensures))
    (subst (λ (m : Made). AreBelow m.next m.graph) (sym same)
    (below c.args.catalog.now c.next-valid.ensures.valid c.args.made.next c.requires.later c.args.made.graph c.requires.comes))

-- the catalog with the graph, under its name
with_it : (before now after : NamedGraphs) (next : ℕ) (name : List ℕ) (g : PropertyGraph) → now ≡ with_next before next → after ≡ with_named now (free_word now.names name) g
    → after ≡ with_named (with_next before next) (free_word before.names name) g
with_it before now after next name g same added = added ∙ ap (λ (n : NamedGraphs). with_named n (free_word n.names name) g) same

pub returns-clause-due : goal.returns-clause-due
returns-clause-due c =
    let made : Made = record { graph = c.made.inside.graph; next = c.made.inside.next } in
    let same : made ≡ c.args.made = c.made.view_is in
    let name = (named c.args.checked.now.file.names c.args.name).name in
    let before : NamedGraphs = c.args.catalog.now in
    let word = free_word before.names name in
    let is = with_it before c.set_next.new.self c.stand_named.new.catalog made.next name made.graph c.set_next.ensures c.in_ok-stand_named.ensures.added in
    let graphs : c.stand_named.new.catalog.graphs ≡ before.graphs ++ made.graph ∷ [] = ap (λ (n : NamedGraphs). n.graphs) is ∙ graphs_with (with_next before made.next) word made.graph in
    let here : Standing = record { graphs = c.stand_named.new.catalog.graphs; next = made.next } in
    let there : here ≡ with_made (standing_at before made.next) made = ap (λ gs. record { graphs = gs; next = made.next }) graphs in
    ap (λ (st : Standing). Ok st) (there ∙ ap (λ (m : Made). with_made (standing_at before m.next) m) same)

pub returns-clause-rises : goal.returns-clause-rises
returns-clause-rises c =
    let made : Made = record { graph = c.made.inside.graph; next = c.made.inside.next } in
    let same : made ≡ c.args.made = c.made.view_is in
    let name = (named c.args.checked.now.file.names c.args.name).name in
    let before : NamedGraphs = c.args.catalog.now in
    let word = free_word before.names name in
    let is = with_it before c.set_next.new.self c.stand_named.new.catalog made.next name made.graph c.set_next.ensures c.in_ok-stand_named.ensures.added in
    let next : c.stand_named.new.catalog.next ≡ made.next = ap (λ (n : NamedGraphs). n.next) is ∙ next_with (with_next before made.next) word made.graph in
    (omega (arith, ap (λ (m : Made). m.next) same), omega (arith, next), omega (arith, ap (λ (m : Made). m.next) same, c.requires.most))

pub returns-clause-longer : goal.returns-clause-longer
returns-clause-longer c =
    let made : Made = record { graph = c.made.inside.graph; next = c.made.inside.next } in
    let same : made ≡ c.args.made = c.made.view_is in
    let name = (named c.args.checked.now.file.names c.args.name).name in
    let before : NamedGraphs = c.args.catalog.now in
    longer_with before c.stand_named.new.catalog made.next (free_word before.names name) made.graph (subst (λ (m : Made). before.next ≤ m.next) (sym same) c.requires.later)
    (with_it before c.set_next.new.self c.stand_named.new.catalog made.next name made.graph c.set_next.ensures c.in_ok-stand_named.ensures.added)

pub returns-clause-added : goal.returns-clause-added
returns-clause-added c =
    let made : Made = record { graph = c.made.inside.graph; next = c.made.inside.next } in
    let same : made ≡ c.args.made = c.made.view_is in
    let name = (named c.args.checked.now.file.names c.args.name).name in
    let before : NamedGraphs = c.args.catalog.now in
    let is = with_it before c.set_next.new.self c.stand_named.new.catalog made.next name made.graph c.set_next.ensures c.in_ok-stand_named.ensures.added in
    ap (λ (n : NamedGraphs). n.graphs) is
    ∙ (graphs_with (with_next before made.next) (free_word before.names name) made.graph ∙ ap (λ (m : Made). before.graphs ++ m.graph ∷ []) same)

pub returns-clause-names : goal.returns-clause-names
returns-clause-names c =
    let made : Made = record { graph = c.made.inside.graph; next = c.made.inside.next } in
    let name = (named c.args.checked.now.file.names c.args.name).name in
    let before : NamedGraphs = c.args.catalog.now in
    let is = with_it before c.set_next.new.self c.stand_named.new.catalog made.next name made.graph c.set_next.ensures c.in_ok-stand_named.ensures.added in
    ap (λ (n : NamedGraphs). n.names) is ∙ names_with (with_next before made.next) (free_word before.names name) made.graph
