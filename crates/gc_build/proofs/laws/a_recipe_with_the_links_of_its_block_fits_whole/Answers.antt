use Rattle.gc_build.proofs.LinksWhole.{fits_whole}
use Rattle.gc_build.proofs.laws.a_recipe_with_the_links_of_its_block_fits_whole.Goals as goal

pub returns : goal.returns
returns c = λ s r ps next fits standing segments rows reads links. fits_whole s r ps next fits standing segments rows links reads
