use Rattle.std.proofs.Common.{◌≡◌, drop, map}
use Rattle.std.specs.List.{flat_map, slice_get}
use Rattle.gc_prod.specs.Preparing.{leg_bundle}
use Rattle.gc_prod.specs.Products.{moves_by}
use Rattle.gc_prod.proofs.product.nth_move.Given as goal

abbrev pub invariant-loop-leg : goal.invariant-loop-leg
invariant-loop-leg l =
    slice_get (flat_map moves_by (map (leg_bundle l.fans l.place) (drop l.leg-index l.legs))) l.left
    ≡ slice_get (flat_map moves_by (map (leg_bundle l.fans l.place) l.legs)) l.i
