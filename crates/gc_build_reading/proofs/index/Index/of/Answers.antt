use Rattle.gc_build_reading.specs.Namings.{scope}
use Rattle.gc_lower.specs.Scopes.{is_found_in}
use Rattle.gc_build_reading.proofs.index.Index.of.Goals as goal

pub returns : goal.returns
returns c = λ i.
    record {
      is_bound = λ x. c.in_ok-bound.ensures x i;
      is_found = is_found_in (scope c.args.naming.now) c.args.block.0;
      terms = λ x. c.in_ok-terms.ensures x i;
      copied = λ x. c.in_ok-copies.ensures x i;
    }
