-- AND and OR of three.
use Rattle.std.proofs.Common.{◌≡◌, refl}
use Rattle.gc_values.specs.Kleene.{both, either}
use Rattle.gc_values.specs.declared.truth3.Truth3.{Truth3}
use Rattle.gc_values.specs.declared.truth3.Truth3.TheVariants.{Yes, No, Unknown}

pub both_assoc : (a b c : Truth3) → both (both a b) c ≡ both a (both b c)
both_assoc Yes b c = refl
both_assoc No b c = refl
both_assoc Unknown Yes c = refl
both_assoc Unknown No c = refl
both_assoc Unknown Unknown Yes = refl
both_assoc Unknown Unknown No = refl
both_assoc Unknown Unknown Unknown = refl

pub either_assoc : (a b c : Truth3) → either (either a b) c ≡ either a (either b c)
either_assoc No b c = refl
either_assoc Yes b c = refl
either_assoc Unknown No c = refl
either_assoc Unknown Yes c = refl
either_assoc Unknown Unknown Yes = refl
either_assoc Unknown Unknown No = refl
either_assoc Unknown Unknown Unknown = refl

pub both_Yes : (a : Truth3) → both a Yes ≡ a
both_Yes Yes = refl
both_Yes No = refl
both_Yes Unknown = refl

pub either_No : (a : Truth3) → either a No ≡ a
either_No Yes = refl
either_No No = refl
either_No Unknown = refl
