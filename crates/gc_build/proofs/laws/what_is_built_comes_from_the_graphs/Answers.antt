use Rattle.gc_build.proofs.ClaimOrigins.{built_comes}
use Rattle.gc_build.proofs.laws.what_is_built_comes_from_the_graphs.Goals as goal

pub returns : goal.returns
returns c = λ s r ps next b fits h. built_comes s r ps next b fits h
