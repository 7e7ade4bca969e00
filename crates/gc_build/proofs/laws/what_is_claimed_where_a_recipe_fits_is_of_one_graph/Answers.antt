use Rattle.std.proofs.Common.{sym, subst}
use Rattle.gc_sets.specs.Agreed.{AreOfOneGraph}
use Rattle.gc_build.proofs.ClaimsWhole.{claims_whole}
use Rattle.gc_build.proofs.laws.what_is_claimed_where_a_recipe_fits_is_of_one_graph.Goals as goal

pub returns : goal.returns
returns c = λ s r ps next claims whole segments due. subst AreOfOneGraph (sym due.are) (claims_whole s r ps next whole segments due.parts due.exact)
