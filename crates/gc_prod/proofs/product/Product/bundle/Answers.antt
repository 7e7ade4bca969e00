use Rattle.gc_prod.proofs.BundleLaws.{hops_there}
use Rattle.gc_prod.proofs.product.Product.bundle.Goals as goal

pub returns-clause-there : goal.returns-clause-there
returns-clause-there g c =
    hops_there c.args.self.now c.bundle_at-bundle.ensures.network c.args.node c.args.state c.args.j c.bundle_at-bundle.result c.bundle_at-bundle.ensures.exact
