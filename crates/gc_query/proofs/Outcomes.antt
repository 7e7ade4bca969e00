-- What a part comes to, as what the whole does.
use Rattle.std.proofs.Common.{◌≡◌, ℕ, Result, Ok, Err, sym, subst, ◌∙◌}
use Rattle.std.specs.Prelude.{IfErr, IfOk}
use Rattle.std.specs.Result.{IsErr, IsErrAnd}
use Rattle.gc_catalog.specs.NamedGraphs.{NamedGraphs}
use Rattle.gc_query.specs.Answered.{AreStood, IsAnswered, IsRefused}
use Rattle.gc_query.specs.Outcomes.{Then}
use Rattle.gc_query.specs.Standings.{Standing}
use Rattle.gc_query.specs.declared.fault.Fault.{Fault}
use Rattle.gc_query.specs.declared.fault.QueryRefusal.{QueryRefusal}
use Rattle.gc_query.specs.declared.fault.QueryRefusal.TheVariants as refusal

pub if_ok : {A E : Type 0} (P Q : A → Type 0) → ((x : A) → P x → Q x) → (r : Result A E) → IfOk r P → IfOk r Q
if_ok P Q f (Ok x) h = f x h
if_ok P Q f (Err e) h = tt

-- the refusal of a part is that of the whole
pub told : (IsDue IsPart : Fault → Type 0) (r : QueryRefusal) → ((fault : Fault) → IsPart fault → IsDue fault) → IsRefused IsPart r → IsRefused IsDue r
told IsDue IsPart (refusal.Fault fault) part h = part fault h
told IsDue IsPart refusal.Memory part h = tt

-- a refusal that is passed on
pub passed_on : {A : Type 0} (IsDue IsPart : Fault → Type 0) (r : QueryRefusal) (result : Result A QueryRefusal) → IsErrAnd result (λ other. other ≡ r)
    → ((fault : Fault) → IsPart fault → IsDue fault) → IsRefused IsPart r → IfErr result (IsRefused IsDue)
passed_on IsDue IsPart r (Ok x) same part h = tt
passed_on IsDue IsPart r (Err other) same part h = subst (IsRefused IsDue) (sym same) (told IsDue IsPart r part h)

-- what a part comes to is what the whole does
pub passes_on : {A : Type 0} (IsDue IsPart : Result A Fault → Type 0) (result : Result A QueryRefusal) → ((outcome : Result A Fault) → IsPart outcome → IsDue outcome)
    → IsAnswered IsPart result → IsAnswered IsDue result
passes_on IsDue IsPart (Ok made) part h = part (Ok made) h
passes_on IsDue IsPart (Err r) part h = told (λ fault. IsDue (Err fault)) (λ fault. IsPart (Err fault)) r (λ fault. part (Err fault)) h

pub stands_on : (IsDue IsPart : Result Standing Fault → Type 0) (after : NamedGraphs) (result : Result ℕ QueryRefusal) → ((under : Result Standing Fault) → IsPart under → IsDue under)
    → AreStood IsPart after result → AreStood IsDue after result
stands_on IsDue IsPart after (Ok next) part h = part _ h
stands_on IsDue IsPart after (Err r) part h = told (λ fault. IsDue (Err fault)) (λ fault. IsPart (Err fault)) r (λ fault. part (Err fault)) h

module _ (IsPart : Fault → Type 0) (r : QueryRefusal) (h : IsRefused IsPart r) where
  pub refused : {A : Type 0} (IsDue : Result A Fault → Type 0) (result : Result A QueryRefusal) → IsErr result → IsErrAnd result (λ other. other ≡ r)
      → ((fault : Fault) → IsPart fault → IsDue (Err fault)) → IsAnswered IsDue result
  refused IsDue (Ok made) err same part = absurd same
  refused IsDue (Err other) err same part = subst (λ x. IsAnswered IsDue (Err x)) (sym same) (told (λ fault. IsDue (Err fault)) IsPart r part h)

  pub not_stood : (IsDue : Result Standing Fault → Type 0) (after : NamedGraphs) (result : Result ℕ QueryRefusal) → IsErr result → IsErrAnd result (λ other. other ≡ r)
      → ((fault : Fault) → IsPart fault → IsDue (Err fault)) → AreStood IsDue after result
  not_stood IsDue after (Ok next) err same part = absurd same
  not_stood IsDue after (Err other) err same part = subst (λ x. AreStood IsDue after (Err x)) (sym same) (told (λ fault. IsDue (Err fault)) IsPart r part h)

-- what follows one outcome is one, where it is one for each
pub one_then : {A B : Type 0} (x y : Result A Fault) (next : A → Result B Fault → Type 0) (a b : Result B Fault) → x ≡ y
    → ((m : A) (c d : Result B Fault) → next m c → next m d → c ≡ d) → Then x next a → Then y next b → a ≡ b
one_then {A} {B} x y next a b same each p q = by x a b p (subst (λ z. Then z next b) (sym same) q)
  where
    by : (z : Result A Fault) (c d : Result B Fault) → Then z next c → Then z next d → c ≡ d
    by (Ok m) c d h k = each m c d h k
    by (Err fault) c d h k = h ∙ sym k
