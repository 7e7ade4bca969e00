use Rattle.std.proofs.Common.{ap, ◌∙◌, subst}
use Rattle.gc_alg.specs.Trees.{Tree, ABlock}
use Rattle.gc_base.specs.declared.place.BlockNo.{BlockNo}
use Rattle.gc_lower.specs.Lowerings.{IsLowered, asked_block}
use Rattle.gc_lower.specs.Namings.{scope_in}
use Rattle.gc_sorts.specs.declared.checked.Checked.{Checked}
use Rattle.gc_query.proofs.BlocksFound.{due_at}
use Rattle.gc_query.proofs.Outcomes.{if_ok}
use Rattle.gc_query.proofs.lowered.lowered_at.Goals as goal

pub returns : goal.returns
unfolding scope_in
returns c =
    let checked : Checked = c.args.session.now.checked.now in
    if_ok _ _
    (λ made h block found at. subst (λ (due : Tree ABlock). IsLowered due made)
    (ap (λ (n : BlockNo). asked_block checked n.0 c.args.on) c.unwrap_or-number.ensures ∙ due_at checked c.args.on c.block_at.result (record { 0 = 0 }) c.args.token c.block_at.ensures block found at) h) c.lower.result c.lower.ensures
