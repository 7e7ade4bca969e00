use Rattle.std.proofs.Common.{◌≡◌, ◌∷◌, ◌++◌, [], cond, append-nil, ap, sym, ◌∙◌, rules}
use Rattle.gc_sets.proofs.Turns.{absent}
use Rattle.gc_sets.proofs.lists.push_other.Goals as goal

pub returns-in_ok-push : goal.returns-in_ok-push
returns-in_ok-push g c =
    let new = absent g.T.Part.id_of (g.T.Part.all c.args.b.now) c.found.result c.id.result (g.T.Part.id_of c.args.element.now) c.is_none.result c.found.ensures c.id.ensures c.is_none.ensures ∙ c.if-is_none.true in
    let added : c.push.new.self.items ≡ c.args.kept.now.items ++ c.args.element.now ∷ [] = search rules in
    added ∙ ap (λ b. c.args.kept.now.items ++ cond b (c.args.element.now ∷ []) []) (sym new)

pub returns-else-is_none : goal.returns-else-is_none
returns-else-is_none g c =
    let old = absent g.T.Part.id_of (g.T.Part.all c.args.b.now) c.found.result c.id.result (g.T.Part.id_of c.args.element.now) c.is_none.result c.found.ensures c.id.ensures c.is_none.ensures ∙ c.if-is_none.false in
    sym (append-nil c.args.kept.now.items) ∙ ap (λ b. c.args.kept.now.items ++ cond b (c.args.element.now ∷ []) []) (sym old)
