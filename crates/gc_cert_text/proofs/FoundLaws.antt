-- What was found was given.
use Rattle.std.proofs.Common.{◌≡◌, Some, Result, Ok, Err, ap}
use Rattle.gc_cert_text.specs.Options.{found}

pub was_found : {A F : Type 0} (r : Result A F) (x : A) → found r ≡ Some x → r ≡ Ok x
was_found (Ok y) x h = ap Ok same
  where
    same : y ≡ x
    same = cc
was_found (Err e) x h = absurd (cc)
