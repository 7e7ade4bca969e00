-- The walks that the table of a block binds to the variable of a pattern are the first by it.
use Rattle.std.proofs.Common.{◌≡◌, ◌==◌, ◌≤◌, ⊎_elim, ℕ, true, false, cond, List, [], ◌∷◌, length, Option, None, Some, refl, sym, ap, ◌∙◌, subst, slice_get, arith}
use Rattle.std.specs.List.{AllByRecursion, Contains}
use Rattle.std.specs.Option.{option_map}
use Rattle.std.proofs.lemmas.Bool.{eqb-true}
use Rattle.gc_base.specs.Walks.{end_of}
use Rattle.gc_base.specs.declared.place.Sym.{Sym}
use Rattle.gc_base.specs.declared.walk.Walk.{Walk}
use Rattle.gc_spec.specs.PropertyGraph.{PropertyGraph}
use Rattle.gc_automata.specs.Moves.{Network}
use Rattle.gc_automata.proofs.Inclusion.{among_more, among_none}
use Rattle.gc_regx.specs.Trees.{RegexTree, ARegex}
use Rattle.gc_rows.specs.Rows.{datum_at}
use Rattle.gc_rows.specs.Tables.{Relation}
use Rattle.gc_rows.specs.declared.datum.Datum.{Datum}
use Rattle.gc_rows.specs.declared.datum.Datum.TheVariants as datum
use Rattle.gc_rows.specs.declared.row.Binding.{Binding}
use Rattle.gc_rows.proofs.Members.{each_member, of_member, to_flat_map}
use Rattle.gc_prod.specs.Segments.{Segments}
use Rattle.gc_alg.specs.FirstWalks.{AreFirst, CostedWalk}
use Rattle.gc_alg.specs.Instances.{Meets, MeetsIn, Satisfies, search}
use Rattle.gc_alg.specs.Networks.{Database, network_of, network_on}
use Rattle.gc_alg.specs.Tables.{IsTableOfBlock, block_atoms}
use Rattle.gc_alg.specs.Trees.{Tree, ABlock, atoms_of, items, parts_of}
use Rattle.gc_alg.specs.declared.atom.Atom.{Atom}
use Rattle.gc_alg.specs.declared.atom.AtomWhat.{AtomWhat}
use Rattle.gc_alg.specs.declared.atom.AtomWhat.TheVariants as atom
use Rattle.gc_walks.specs.Databases.{database}
use Rattle.gc_cert_searches.specs.Found.{AreFirstBy, IsFirst, IsFirstBy}
use Rattle.gc_cert_searches.specs.Found as found
use Rattle.gc_cert_searches.specs.Patterns.{Pattern, AreOnly, IsOnly, pattern_by, pattern_of, patterns_of}
use Rattle.gc_cert_searches.specs.Searches.{Matched, matched}
use Rattle.gc_cert_searches.proofs.BoundRows.{bound_is_met}

-- one walk of a list of at most one is all of it
alone : {X : Type 0} (xs : List X) (x : X) → length xs ≤ 1 → Contains xs x → xs ≡ x ∷ []
alone [] x few h = absurd (among_none x h)
alone (y ∷ []) x few h = ⊎_elim (λ e. ap (λ z. z ∷ []) e) (λ k. absurd (among_none x k)) (among_more y [] x h)
alone (y ∷ z ∷ zs) x few h = absurd (omega arith)

walk_of : Datum → Walk
walk_of (datum.Found w) = w
walk_of d = record { start = 0; steps = [] }

same_walk : (v w : Walk) → Some (datum.Found v) ≡ Some (datum.Found w) → v ≡ w
unfolding walk_of
same_walk v w h = let e : datum.Found v ≡ datum.Found w = cc in ap walk_of e

no_pattern : {P : Type 0} (f : Pattern) → [] ≡ f ∷ [] → P
no_pattern f h = absurd (cc h)

head_is : (f g : Pattern) → f ∷ [] ≡ g ∷ [] → f ≡ g
head_is f g h = cc

module _ (graphs : List PropertyGraph) (segments : List Segments) (row : List Binding) where
  abbrev db : Database
  db = database graphs segments

  abbrev m : List (List Binding) → Matched
  m rows = record { graphs = graphs; segments = segments; rows = rows }

  -- the walk of an instance
  of_instance : (network : Network) (x p y : Sym) (k : ℕ) (cost : Option Sym) (tree : RegexTree ARegex) (views : _) (w : Walk) → k ≡ 1
      → Meets network (atom.Found x p y k cost tree views) row → datum_at row p ≡ Some (datum.Found w) → IsFirst network tree w
  of_instance network x p y k cost tree views w one meets at =
      let i = meets.there in
      let has = subst (AllByRecursion (λ (b : Binding). datum_at row b.var ≡ Some b.datum)) i.bindings meets.holds in
      let same : i.found.walk ≡ w = same_walk i.found.walk w (sym has.1.0 ∙ at) in
      let conforming = i.first.sound i.found i.among in
      let few : length i.walks ≤ 1 = omega (arith, one, i.first.few) in
      let all : i.walks ≡ i.found ∷ [] = alone i.walks i.found few i.among in
      let costed : i.found ≡ record { walk = w; cost = i.found.cost } = λ j. record { walk = same j; cost = i.found.cost } in
      let start : i.start ≡ w.start = sym conforming.starts ∙ ap (λ (v : Walk). v.start) same in
      let target : i.target ≡ end_of w = sym conforming.ends ∙ ap (λ (v : Walk). end_of v) same in
      let P : ℕ → ℕ → ℕ → List CostedWalk → Type 0 = λ a b n ws. AreFirst (search network tree a b) n ws in
      record {
        cost = i.found.cost;
        first =
            subst (λ (v : CostedWalk). P w.start (end_of w) 1 (v ∷ [])) costed
            (subst (λ ws. P w.start (end_of w) 1 ws) all
            (subst (λ n. P w.start (end_of w) n i.walks) one
            (subst (λ b. P w.start b k i.walks) target (subst (λ a. P a i.target k i.walks) start i.first))));
      }

  -- the same, where the graph has to be there
  of_graph : (rows : List (List Binding)) (graph : ℕ) (o : Option PropertyGraph) (x p y : Sym) (k : ℕ) (cost : Option Sym) (tree : RegexTree ARegex) (views : _) (w : Walk) → k ≡ 1
      → slice_get graphs graph ≡ o
      → MeetsIn (option_map (network_on db (record { graph = graph; what = atom.Found x p y k cost tree views })) o) (atom.Found x p y k cost tree views) row
      → datum_at row p ≡ Some (datum.Found w) → IsFirstBy (m rows) (record { path = p; expression = tree; graph = graph; views = views }) w
  of_graph rows graph None x p y k cost tree views w one is meets at = absurd meets
  of_graph rows graph (Some g) x p y k cost tree views w one is meets at = record {
    graph = g;
    there = is;
    first = of_instance (found.network_on (m rows) (record { path = p; expression = tree; graph = graph; views = views }) g) x p y k cost tree views w one meets at;
  }

  -- an atom of a pattern that a row meets
  of_atom : (rows : List (List Binding)) (a : Atom) (f : Pattern) (w : Walk) → pattern_by a ≡ f ∷ [] → Satisfies db row a
      → datum_at row f.path ≡ Some (datum.Found w) → IsFirstBy (m rows) f w
  of_atom rows a f w = by a.what
    where
      by : (what : AtomWhat) → pattern_of a.graph what ≡ f ∷ [] → MeetsIn (network_of db (record { graph = a.graph; what = what })) what row
          → datum_at row f.path ≡ Some (datum.Found w) → IsFirstBy (m rows) f w
      by (atom.Found x p y k cost tree views) is meets at =
          elim (k == 1) as (λ t. (k == 1) ≡ t → cond t (record { path = p; expression = tree; graph = a.graph; views = views } ∷ []) [] ≡ f ∷ [] → IsFirstBy (m rows) f w) [
            | true ↦ λ e h.
                let same = head_is (record { path = p; expression = tree; graph = a.graph; views = views }) f h in
                subst (λ (g : Pattern). IsFirstBy (m rows) g w) same
                (of_graph rows a.graph (slice_get graphs a.graph) x p y k cost tree views w (eqb-true k 1 e) refl meets (ap (λ (g : Pattern). datum_at row g.path) same ∙ at))
            | false ↦ λ e h. no_pattern f h
          ] refl is
      by (atom.Node x labels) is meets at = no_pattern f is
      by (atom.Edge x e y way labels) is meets at = no_pattern f is
      by (atom.Property x kind name v) is meets at = no_pattern f is
      by (atom.Stored x p y labels) is meets at = no_pattern f is
      by (atom.Reach x y regex views) is meets at = no_pattern f is
      by (atom.All x p y regex views) is meets at = no_pattern f is

-- where each pattern of a block is the only one with its variable, the walks that the table binds to it are the first
pub all_first : (graphs : List PropertyGraph) (segments : List Segments) (block : Tree ABlock) (table : Relation) → AreOnly block
    → IsTableOfBlock (record { database = database graphs segments; block = block; given = [] }) table
    → AllByRecursion (AreFirstBy (matched graphs segments table)) (patterns_of block)
all_first graphs segments block table only is =
    each_member (AreFirstBy (matched graphs segments table)) (patterns_of block) (λ f among w bound.
    let met = bound_is_met (database graphs segments) block bound.row (is.sound bound.row bound.among) f.path (datum.Found w) bound.bound in
    let a = met.has.atom in
    let there = to_flat_map atoms_of (items (parts_of block)) met.part a met.among met.has.among in
    let one = of_member (IsOnly (block_atoms block)) (patterns_of block) f only among a there met.has.listed in
    of_atom graphs segments bound.row table.rows a f w one (of_member (Satisfies (database graphs segments) bound.row) (atoms_of met.part) a met.meets met.has.among) bound.bound)
