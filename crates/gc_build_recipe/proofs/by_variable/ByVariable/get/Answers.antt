use Rattle.std.proofs.Common.{ap, ◌∙◌, sym, slice_get}
use Rattle.std.specs.Option.{option_and_then}
use Rattle.gc_build_recipe.proofs.PlaceLaws.{found_at}
use Rattle.gc_build_recipe.proofs.by_variable.ByVariable.get.Goals as goal

pub returns-in-None : goal.returns-in-None
returns-in-None g c =
    let found = found_at g.T.OfVariable.var_of c.args.self.now c.args.var.0 in
    sym (found ∙ ap (option_and_then (slice_get c.args.self.now)) (sym c.place.ensures ∙ c.in-None.is))

pub returns-in-Some : goal.returns-in-Some
returns-in-Some g c =
    let found = found_at g.T.OfVariable.var_of c.args.self.now c.args.var.0 in
    c.item_at.ensures ∙ ap (λ xs. slice_get xs c.in-Some.place) (c.deref.ensures.value ∙ c.self.view_is)
    ∙ sym (found ∙ ap (option_and_then (slice_get c.args.self.now)) (sym c.place.ensures ∙ c.in-Some.is))
