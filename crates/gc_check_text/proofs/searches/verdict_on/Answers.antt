use Rattle.std.proofs.Common.{rules}
use Rattle.gc_cert.specs.Acceptance.{IsProductOf}
use Rattle.gc_regx.proofs.PartsOfExpressions.{has_parts}
use Rattle.gc_regx.specs.Views.{regex_tree}
use Rattle.gc_check_text.proofs.Verdicts.{sound_verdict}
use Rattle.gc_check_text.proofs.searches.verdict_on.Goals as goal

pub returns : goal.returns
returns g c =
    let product : IsProductOf c.args.search.now c.in_ok-product.product = search rules in
    sound_verdict c.args.search.now c.in_ok-product.product c.check_search.result product c.check_search.ensures.exact
    (λ is. c.check_search.ensures.sound is (has_parts (regex_tree c.args.search.now.expression) c.requires.expression))
