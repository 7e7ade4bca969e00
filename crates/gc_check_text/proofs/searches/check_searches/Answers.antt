use Rattle.gc_cert_text.specs.Certificates.{told}
use Rattle.gc_cert_text.specs.FormedSearches.{IsFormedSearch}
use Rattle.gc_check_text.specs.Checked.{IsSound}
use Rattle.gc_check_text.proofs.Places.{at_place, one_more}
use Rattle.gc_check_text.proofs.Verdicts.{refusal_told}
use Rattle.gc_check_text.proofs.searches.check_searches.Goals as goal

pub check_one-requires : goal.check_one-requires
check_one-requires g c = at_place IsFormedSearch told c.args.searches.now c.loop-i.i c.at.result.now c.requires c.at.ensures

pub loop-i-preserved : goal.loop-i-preserved
loop-i-preserved g c = one_more IsSound c.args.searches.now c.loop-i.i c.at.result.now c.at.ensures c.loop-i.invariant c.in_ok-check_one.ensures

pub returns-in_err-check_one : goal.returns-in_err-check_one
returns-in_err-check_one g c =
    refusal_told c.args.searches.now c.loop-i.i c.at.result.now c.in_err-check_one.field-0.0 c.from_residual.result c.from_residual.ensures.1 c.loop-i.invariant c.at.ensures c.in_err-check_one.ensures
