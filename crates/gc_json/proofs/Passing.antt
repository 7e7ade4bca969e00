-- A failure that is handed on.
use Rattle.std.proofs.Common.{◌≡◌, List, Option, Some, None, Result, Ok, Err, refl, sym, subst, ap, arith}
use Rattle.std.specs.Result.{IsErrAnd}
use Rattle.json.specs.Token.{Token}
use Rattle.json.specs.Json.{parse_map}
use Rattle.gc_json.specs.declared.unread.Unread.{Unread}
use Rattle.gc_json.specs.declared.unread.Unread.TheVariants.{NotJson, Memory}
use Rattle.gc_json.specs.Takes.{Takes}

module _ {X Y : Type 0} (seen : Y → X) (due : Option (X × List Token)) (new : List Token) where
  refused : {V W : Type 0} (inner : W → V) (asked : Option (V × List Token)) (e : Unread) (rest : List Token) → Takes inner asked (Err e) rest → (asked ≡ None → due ≡ None) → Takes seen due (Err e) new
  refused inner asked NotJson rest h k = k h
  refused inner asked Memory rest h k = tt

  pub handed_on : {V W : Type 0} (inner : W → V) (asked : Option (V × List Token)) (e : Unread) (rest : List Token) (r : Result Y Unread) → IsErrAnd r (λ x. x ≡ e) → Takes inner asked (Err e) rest
      → (asked ≡ None → due ≡ None) → Takes seen due r new
  handed_on inner asked e rest (Ok y) is h k = absurd is
  handed_on inner asked e rest (Err x) is h k = refused inner asked x rest (subst (λ z. Takes inner asked (Err z) rest) (sym is) h) k

  pub not_json : (r : Result Y Unread) → IsErrAnd r (λ x. x ≡ NotJson) → due ≡ None → Takes seen due r new
  not_json (Ok y) is none = absurd is
  not_json (Err x) is none = subst (λ z. Takes seen due (Err z) new) (sym is) none

-- what was read where something of it was
pub picked : {A B : Type 0} (f : A → B) (o : Option (A × List Token)) (b : B) (r : List Token) → parse_map f o ≡ Some (b, r) → (a : A) × (o ≡ Some (a, r)) × (f a ≡ b)
picked f None b r e = absurd (cc)
picked f (Some p) b r e = let both : (f p.0 ≡ b) × (p.1 ≡ r) = grind arith in (p.0, ap (λ x. Some (p.0, x)) both.1, both.0)

pub unpicked : {A B : Type 0} (f : A → B) (o : Option (A × List Token)) → parse_map f o ≡ None → o ≡ None
unpicked f None e = refl
unpicked f (Some p) e = absurd (cc)
