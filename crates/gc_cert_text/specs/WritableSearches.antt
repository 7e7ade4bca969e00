-- Searches that read back where they are written.
use Rattle.std.specs.Prelude.{◌≡◌, ◌<◌, ◌≤◌, ◌^◌, true, ⊤}
use Rattle.std.specs.List.{AllByRecursion}
use Rattle.gc_automata.specs.Moves.{Segment}
use Rattle.gc_base.specs.declared.walk.Step.{Step}
use Rattle.gc_base.specs.declared.walk.Walk.{Walk}
use Rattle.gc_cert.specs.declared.document.Potential.{Potential}
use Rattle.gc_cert.specs.declared.document.WalkDoc.{WalkDoc}
use Rattle.gc_json.specs.CanonicalText.{element_count}
use Rattle.gc_prod.specs.declared.moves.By.{By}
use Rattle.gc_prod.specs.declared.moves.By.TheVariants as by
use Rattle.gc_prod.specs.declared.moves.RunMove.{RunMove}
use Rattle.gc_spec.specs.PropertyGraph.{IsGraph, IsId}
use Rattle.gc_cert_text.specs.Certificates.{SearchTold}
use Rattle.gc_cert_text.specs.FormedSearches.{IsFormedSearch}
use Rattle.gc_cert_text.specs.SegmentsOfGraphs.{is_name}

-- states and the numbers of segments have 32 bits, and costs are below 2^127
pub record IsWritablePotential (q : Potential) : Type 0 where
  pub node : IsId q.node
  pub state : q.state < 2 ^ 32
  pub cost : q.cost < 2 ^ 127

abbrev pub IsWritableBy : By → Type 0
IsWritableBy by.Nothing = ⊤
IsWritableBy (by.Edge edge) = IsId edge
IsWritableBy (by.Segment i) = i < 2 ^ 32

pub record IsWritableMove (r : RunMove) : Type 0 where
  pub way : IsWritableBy r.by
  pub to : r.to < 2 ^ 32

-- the identities of a walk are identities
pub record IsWritableStep (step : Step) : Type 0 where
  pub edge : IsId step.edge
  pub node : IsId step.node

pub record IsWritableWalk (w : Walk) : Type 0 where
  pub start : IsId w.start
  pub steps : AllByRecursion IsWritableStep w.steps

pub record IsWritableWalkDoc (w : WalkDoc) : Type 0 where
  pub cost : w.cost < 2 ^ 127
  pub run : AllByRecursion IsWritableMove w.run
  pub walk : IsWritableWalk w.walk

-- a segment has a view's name and a cost of 63 bits
pub record IsWritableSegment (s : Segment) : Type 0 where
  pub view : is_name s.view ≡ true
  pub cost : s.cost ≤ 9223372036854775807

-- a search is formed, its graph is a valid one of at most 1,000,000 elements, and all numbers are in range
pub record IsWritable (s : SearchTold) : Type 0 where
  pub formed : IsFormedSearch s
  pub graph : IsGraph s.graph
  pub few : element_count s.graph ≤ 1000000
  pub potentials : AllByRecursion IsWritablePotential s.potentials
  pub segments : AllByRecursion IsWritableSegment s.segments
  pub start : IsId s.start
  pub walks : AllByRecursion IsWritableWalkDoc s.walks
