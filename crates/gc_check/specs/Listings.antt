-- What is tested of each potential.
use Rattle.std.specs.Prelude.{ℕ, Bool, ◌&&◌, nat_lt, List}
use Rattle.gc_spec.specs.PropertyGraph.{is_among}
use Rattle.gc_cert.specs.declared.document.Potential.{Potential}

-- whether it is of a node among some and of a state below a number
abbrev pub is_listed : List ℕ → ℕ → Potential → Bool
is_listed ids states q = nat_lt q.state states && is_among ids q.node
