use Rattle.std.proofs.Common.{◌<◌, ◌∙◌, ap, subst, List}
use Rattle.std.specs.List.{AllByRecursion}
use Rattle.gc_prod.specs.Groups.{row_of}
use Rattle.gc_prod.specs.Places.{place_in}
use Rattle.gc_prod.specs.Products.{Setting, Bundle, bundles}
use Rattle.gc_prod.proofs.BundleLaws.{bundles_below}
use Rattle.gc_prod.proofs.product.Product.width.Goals as goal

pub returns-clause-above : goal.returns-clause-above
returns-clause-above c = λ node state.
    subst (λ (bs : List Bundle). AllByRecursion (λ b. b.state < c.self.inside.width) bs)
    (c.self.invariant.led node state ∙ ap (λ (s : Setting). bundles s node state) c.self.view_is)
    (bundles_below c.self.inside.fans.items (row_of c.self.inside.legs state) c.self.inside.width (place_in c.self.inside.nodes.items node) (c.self.invariant.above state))
