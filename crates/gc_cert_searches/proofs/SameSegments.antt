-- Conformance hangs on which segments there are, not on their order or number.
use Rattle.std.proofs.Common.{ℕ, zero, suc, List}
use Rattle.std.specs.List.{Contains}
use Rattle.gc_base.specs.declared.walk.Walk.{Walk}
use Rattle.gc_spec.specs.PropertyGraph.{PropertyGraph}
use Rattle.gc_regx.specs.Expressions.{HasParts}
use Rattle.gc_regx.specs.Trees.{RegexTree, ARegex}
use Rattle.gc_automata.specs.Automata.{automaton_of}
use Rattle.gc_automata.specs.Conformance.{Conforms}
use Rattle.gc_automata.specs.Moves.{Network, Segment, IsNetwork, Goes}
use Rattle.gc_automata.specs.Runs.{RunsIn}
use Rattle.gc_automata.specs.declared.transition.On.{On}
use Rattle.gc_automata.specs.declared.transition.On.TheVariants as on
use Rattle.gc_automata.specs.declared.transition.Transition.{Transition}
use Rattle.gc_automata.proofs.Entering.{conforming_runs}
use Rattle.gc_automata.proofs.Leaving.{runs_conform}
use Rattle.gc_rows.specs.Tables.{HasExactly}
use Rattle.gc_alg.specs.FirstWalks.{AreFirst, CostedWalk, IsConforming, Search}
use Rattle.gc_alg.specs.Instances.{search}

module _ (g : PropertyGraph) (xs ys : List Segment) (part : (s : Segment) → Contains xs s → Contains ys s) where
  abbrev few : Network
  few = record { graph = g; segments = xs }

  abbrev many : Network
  many = record { graph = g; segments = ys }

  goes_too : (label : On) (w : Walk) (c : ℕ) → Goes few label w c → Goes many label w c
  goes_too on.Empty w c h = record { there = h.there; still = h.still; free = h.free }
  goes_too (on.Label l) w c h = record { edge = h.edge; there = h.there; fits = h.fits; goes = h.goes; cost = h.cost }
  goes_too (on.Back l) w c h = record { edge = h.edge; there = h.there; fits = h.fits; goes = h.goes; cost = h.cost }
  goes_too on.Any w c h = record { edge = h.edge; there = h.there; fits = h.fits; goes = h.goes; cost = h.cost }
  goes_too on.AnyBack w c h = record { edge = h.edge; there = h.there; fits = h.fits; goes = h.goes; cost = h.cost }
  goes_too (on.Test l) w c h = record { node = h.node; there = h.there; labelled = h.labelled; still = h.still; free = h.free }
  goes_too (on.View v) w c h = part (record { view = v; walk = w; cost = c }) h

  runs_too : (ts : List Transition) (n from to : ℕ) (w : Walk) (c : ℕ) → RunsIn few ts n from to w c → RunsIn many ts n from to w c
  runs_too ts zero from to w c run = (run.0, record { there = run.1.there; still = run.1.still; free = run.1.free })
  runs_too ts (suc n) from to w c run = record {
    transition = run.transition;
    among = run.among;
    leaves = run.leaves;
    first = run.first;
    second = run.second;
    first_cost = run.first_cost;
    second_cost = run.second_cost;
    early = goes_too run.transition.on run.first run.first_cost run.early;
    late = runs_too ts n run.transition.to to run.second run.second_cost run.late;
    meets = run.meets;
    whole = run.whole;
    cost = run.cost;
  }

  pub conforms_too : IsNetwork few → IsNetwork many → (tree : RegexTree ARegex) → HasParts tree → (w : Walk) (c : ℕ) → Conforms few tree w c → Conforms many tree w c
  conforms_too law more_law tree parts w c h =
      let run = conforming_runs few law tree w c h in
      runs_conform many more_law tree parts w c (run.0, runs_too ((automaton_of tree).transitions 0) run.0 0 _ w c run.1)

module _ (g : PropertyGraph) (xs ys : List Segment) (same : HasExactly xs ys) (law : IsNetwork (record { graph = g; segments = xs })) (other_law : IsNetwork (record { graph = g; segments = ys }))
    (tree : RegexTree ARegex) (parts : HasParts tree) (start target : ℕ) where
  abbrev ours : Search
  ours = search (record { graph = g; segments = xs }) tree start target

  abbrev theirs : Search
  theirs = search (record { graph = g; segments = ys }) tree start target

  forth : (w : Walk) (c : ℕ) → Conforms (record { graph = g; segments = xs }) tree w c → Conforms (record { graph = g; segments = ys }) tree w c
  forth = conforms_too g xs ys same.complete law other_law tree parts

  back : (w : Walk) (c : ℕ) → Conforms (record { graph = g; segments = ys }) tree w c → Conforms (record { graph = g; segments = xs }) tree w c
  back = conforms_too g ys xs same.sound other_law law tree parts

  pub conforming_too : (w : CostedWalk) → IsConforming ours w → IsConforming theirs w
  conforming_too w h = record { starts = h.starts; ends = h.ends; conforms = forth w.walk w.cost h.conforms; least = λ c k. h.least c (back w.walk c k) }

  pub conforming_back : (w : CostedWalk) → IsConforming theirs w → IsConforming ours w
  conforming_back w h = record { starts = h.starts; ends = h.ends; conforms = back w.walk w.cost h.conforms; least = λ c k. h.least c (forth w.walk c k) }

  -- so the first walks are the same
  pub first_too : (k : ℕ) (walks : List CostedWalk) → AreFirst ours k walks → AreFirst theirs k walks
  first_too k walks first = record {
    ascend = first.ascend;
    few = first.few;
    sound = λ w h. conforming_too w (first.sound w h);
    complete = λ w h. first.complete w (conforming_back w h);
  }
