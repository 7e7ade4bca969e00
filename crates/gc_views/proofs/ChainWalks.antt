-- The walk along a chain of a row that meets the chain is a walk of the graph.
use Rattle.std.proofs.Common.{◌≡◌, ℕ, true, List, [], ◌∷◌, ◌++◌, Option, None, Some, refl, ap, ◌∙◌, subst, slice_get}
use Rattle.std.specs.List.{AllByRecursion}
use Rattle.std.specs.Option.{option_map}
use Rattle.std.proofs.lemmas.Option.{none-some, option_and_then_some, same_Some}
use Rattle.gc_alg.specs.Instances.{Meets, MeetsIn, Satisfies}
use Rattle.gc_alg.specs.Networks.{Database, network_on}
use Rattle.gc_alg.specs.declared.atom.Atom.{Atom}
use Rattle.gc_alg.specs.declared.atom.AtomWhat.TheVariants as atom
use Rattle.gc_ast.specs.Trees as tree
use Rattle.gc_ast.specs.Trees.{Tree, RowOf, APattern, AnElement}
use Rattle.gc_base.specs.declared.place.Sym.{Sym}
use Rattle.gc_base.specs.declared.walk.Step.{Step}
use Rattle.gc_base.specs.declared.walk.Walk.{Walk}
use Rattle.gc_lower.specs.Chains.{chain_atoms, element_variable, node_atoms, part_atoms}
use Rattle.gc_lower.specs.Scopes.{Scope}
use Rattle.gc_rows.specs.Rows.{datum_at}
use Rattle.gc_rows.specs.declared.row.Binding.{Binding}
use Rattle.gc_spec.specs.PropertyGraph.{PropertyGraph, are_steps_from, is_among, is_joined, is_walk, node_ids}
use Rattle.gc_views.specs.Segments.{edge_of, joined_step, node_of, step_on, steps_on, walk_along}
use Rattle.gc_views.specs.Views.{legs_of, trail_of}
use Rattle.gc_views.specs.declared.trail.Leg.{Leg}
use Rattle.gc_views.specs.declared.trail.Trail.{Trail}
use Rattle.gc_views.proofs.EdgeSteps.{and_true, edge_joins, node_among}

pub split_append : {X : Type 0} (P : X → Type 0) (xs ys : List X) → AllByRecursion P (xs ++ ys) → AllByRecursion P xs × AllByRecursion P ys
split_append P [] ys h = (tt, h)
split_append P (x ∷ xs) ys h = let rest = split_append P xs ys h.1 in ((h.0, rest.0), rest.1)

pub option_map_some : {A B P : Type 0} (f : A → B) (o : Option A) (y : B) → option_map f o ≡ Some y → ((x : A) → o ≡ Some x → f x ≡ y → P) → P
option_map_some f None y h go = absurd (none-some y h)
option_map_some f (Some x) y h go = go x refl (same_Some (f x) y h)

-- a step that a row has for two data
joined_from : {P : Type 0} (e n : Option ℕ) (step : Step) → joined_step e n ≡ Some step
    → (e ≡ Some step.edge → n ≡ Some step.node → P) → P
joined_from None n step h go = absurd (none-some step h)
joined_from (Some e) None step h go = absurd (none-some step h)
joined_from (Some e) (Some n) step h go =
    let is : record { edge = e; node = n } ≡ step = same_Some _ step h in
    go (ap (λ (s : Step). Some s.edge) is) (ap (λ (s : Step). Some s.node) is)

module _ (db : Database) (s : Scope) (graph : ℕ) (g : PropertyGraph) (there : slice_get db.graphs graph ≡ Some g) (row : List Binding) where
  -- an atom on the graph is met in its network
  met : (a : Atom) → a.graph ≡ graph → Satisfies db row a → Meets (network_on db a g) a.what row
  met a on h = subst (λ (network : Option _). MeetsIn network a.what row) (ap (option_map (network_on db a)) (ap (slice_get db.graphs) on ∙ there)) h

  -- the steps along what is behind a node
  steps_law : (ps : Tree (RowOf APattern)) (x : Sym) (legs : List Leg) (steps : List Step) (a : ℕ)
      → AllByRecursion (Satisfies db row) (chain_atoms s graph (Some x) ps) → legs_of s ps ≡ Some legs
      → node_of (datum_at row x) ≡ Some a → steps_on row legs ≡ Some steps → are_steps_from g.edges a steps ≡ true
  steps_law tree.none x legs steps a all trail at made =
      let no_legs : [] ≡ legs = same_Some [] legs trail in
      let no_steps : [] ≡ steps = same_Some [] steps (ap (steps_on row) no_legs ∙ made) in
      subst (λ ss. are_steps_from g.edges a ss ≡ true) no_steps refl
  steps_law (tree.more p tree.none) x legs steps a all trail at made = absurd (none-some legs trail)
  steps_law
      (tree.more (tree.Edge way (tree.Element token name labels properties)) (tree.more (tree.Node n) ps))
      x legs steps a all trail at made =
      let e = element_variable s (tree.Element token name labels properties) in
      let y = element_variable s n in
      let leg : Leg = record { edge = e; node = y } in
      let edge : Atom = record { graph = graph; what = atom.Edge x e y way labels } in
      let behind =
      split_append (Satisfies db row) (part_atoms s graph (Some x) (Some y) (tree.Edge way (tree.Element token name labels properties)))
      (node_atoms s graph n ++ chain_atoms s graph (Some y) ps) all in
      let later = split_append (Satisfies db row) (node_atoms s graph n) (chain_atoms s graph (Some y) ps) behind.1 in
      option_map_some (λ legs. leg ∷ legs) (legs_of s ps) legs trail (λ rest rest_is legs_are.
      option_and_then_some (λ step. option_map (λ steps. step ∷ steps) (steps_on row rest)) (step_on row leg) steps
      (ap (steps_on row) legs_are ∙ made) (λ step step_is whole.
      option_map_some (λ steps. step ∷ steps) (steps_on row rest) steps whole (λ more more_is steps_are.
      joined_from (edge_of (datum_at row e)) (node_of (datum_at row y)) step step_is (λ edge_is node_is.
      let joins : is_joined g.edges step.edge a step.node ≡ true =
      edge_joins (network_on db edge g) row x e y way labels (met edge refl behind.0.0) a step.edge step.node at edge_is node_is in
      let on : are_steps_from g.edges step.node more ≡ true = steps_law ps y rest more step.node later.1 rest_is node_is more_is in
      subst (λ ss. are_steps_from g.edges a ss ≡ true) steps_are (and_true _ _ joins on)))))
  steps_law (tree.more p (tree.more q ps)) x legs steps a all trail at made = absurd (none-some legs trail)

  -- the walk along a chain
  pub walk_law : (ps : Tree (RowOf APattern)) (trail : Trail) (walk : Walk) → AllByRecursion (Satisfies db row) (chain_atoms s graph None ps)
      → trail_of s ps ≡ Some trail → walk_along row trail ≡ Some walk → is_walk g.nodes g.edges walk ≡ true
  walk_law tree.none trail walk all is made = absurd (none-some trail is)
  walk_law (tree.more (tree.Node (tree.Element token name labels properties)) ps) trail walk all is made =
      let x = element_variable s (tree.Element token name labels properties) in
      let node : Atom = record { graph = graph; what = atom.Node x labels } in
      let parts = split_append (Satisfies db row) (node_atoms s graph (tree.Element token name labels properties)) (chain_atoms s graph (Some x) ps) all in
      option_map_some (λ legs. record { start = x; legs = legs }) (legs_of s ps) trail is (λ legs legs_are trail_is.
      option_and_then_some (λ start. option_map (λ steps. record { start = start; steps = steps }) (steps_on row legs)) (node_of (datum_at row x)) walk
      (ap (walk_along row) trail_is ∙ made) (λ a at whole.
      option_map_some (λ steps. record { start = a; steps = steps }) (steps_on row legs) walk whole (λ steps steps_are walk_is.
      let starts : is_among (node_ids g.nodes) a ≡ true = node_among (network_on db node g) row x labels (met node refl parts.0.0) a at in
      let on : are_steps_from g.edges a steps ≡ true = steps_law ps x legs steps a parts.1 legs_are at steps_are in
      subst (λ w. is_walk g.nodes g.edges w ≡ true) walk_is (and_true _ _ starts on))))
  walk_law (tree.more p ps) trail walk all is made = absurd (none-some trail is)
