-- Bytes have one outcome, but for want of memory.
use Rattle.std.proofs.Common.{◌≡◌, ℕ, zero, suc, ◌<◌, List, [], ◌∷◌, length, map, take, slice_get, Some, Result, Ok, Err, refl, sym, ap, subst, ◌∙◌, arith}
use Rattle.std.proofs.lemmas.List.{length-map}
use Rattle.std.specs.Cmp.{ranks}
use Rattle.std.specs.List.{AllByRecursion}
use Rattle.std.specs.Ordering.{MatchOrdering, nat_cmp}
use Rattle.std.specs.declared.cmp.Ordering.{Ordering}
use Rattle.std.specs.declared.cmp.Ordering.TheVariants.{Less, Equal, Greater}
use Rattle.gc_cert.specs.declared.document.SearchDoc.{SearchDoc}
use Rattle.gc_cert_text.specs.Certificates.{SearchTold, certificate_of, told}
use Rattle.gc_cert_text.specs.FormedSearches.{IsFormedSearch}
use Rattle.gc_check.specs.declared.rule.KRule.{KRule}
use Rattle.gc_check.specs.declared.rule.Verdict.{Verdict}
use Rattle.gc_check.specs.declared.rule.Verdict.TheVariants.{Accepted, Rejected}
use Rattle.gc_regx.proofs.PartsOfExpressions.{has_parts}
use Rattle.gc_regx.specs.Views.{regex_tree}
use Rattle.gc_check_text.specs.Outcomes.{IsAccepted, IsFirstRejected, IsOutcome, IsVerdictOn}
use Rattle.gc_check_text.specs.declared.refusal.CheckRefusal.{CheckRefusal}
use Rattle.gc_check_text.specs.declared.refusal.CheckRefusal.TheVariants as refusal
use Rattle.gc_check_text.proofs.OneVerdict.{one_verdict}
use Rattle.gc_check_text.proofs.Places.{at_place, same}

-- ---- what stands at one place of two lists that tell the same

record AtBoth (xs : List SearchDoc) (i : ℕ) (y : SearchDoc) : Type 0 where
  pub x : SearchDoc
  pub there : slice_get xs i ≡ Some x
  pub alike : told x ≡ told y

at_both : (xs ys : List SearchDoc) → map told xs ≡ map told ys → (i : ℕ) (y : SearchDoc) → slice_get ys i ≡ Some y → AtBoth xs i y
at_both [] [] all i y h = absurd (cc)
at_both [] (z ∷ ys) all i y h = absurd (cc)
at_both (x ∷ xs) [] all i y h = absurd (cc)
at_both (x ∷ xs) (z ∷ ys) all zero y h =
    let first : told x ≡ told z = cc in
    record { x = x; there = refl; alike = first ∙ ap told (same z y h) }
at_both (x ∷ xs) (z ∷ ys) all (suc i) y h =
    let rest : map told xs ≡ map told ys = cc in
    let found = at_both xs ys rest i y h in
    record { x = found.x; there = found.there; alike = found.alike }

at_item : {X : Type 0} (P : X → Type 0) (xs : List X) (i : ℕ) (x : X) → AllByRecursion P xs → slice_get xs i ≡ Some x → P x
at_item P [] i x h is = absurd (cc)
at_item P (y ∷ xs) zero x h is = subst P (same y x is) h.0
at_item P (y ∷ xs) (suc i) x h is = at_item P xs i x h.1 is

at_taken : {X : Type 0} (P : X → Type 0) (xs : List X) (n i : ℕ) (x : X) → AllByRecursion P (take n xs) → i < n → slice_get xs i ≡ Some x → P x
at_taken P [] n i x h less is = absurd (cc)
at_taken P (y ∷ xs) zero i x h less is = absurd (omega (arith, less))
at_taken P (y ∷ xs) (suc n) zero x h less is = subst P (same y x is) h.0
at_taken P (y ∷ xs) (suc n) (suc i) x h less is = at_taken P xs n i x h.1 (omega (arith, less)) is

module _ (bytes : List ℕ) (formed : (searches : List SearchTold) → certificate_of bytes ≡ Ok searches → AllByRecursion IsFormedSearch searches) where
  abbrev Tells : List SearchDoc → Type 0
  Tells xs = certificate_of bytes ≡ Ok (map told xs)

  alike : (xs ys : List SearchDoc) → Tells xs → Tells ys → map told xs ≡ map told ys
  alike xs ys p q = cc

  -- at one place there is one verdict
  one_at : (xs ys : List SearchDoc) (i : ℕ) (x y : SearchDoc) (v w : Verdict) → Tells xs → Tells ys → slice_get xs i ≡ Some x → slice_get ys i ≡ Some y
      → IsVerdictOn x v → IsVerdictOn y w → v ≡ w
  one_at xs ys i x y v w p q here there is are =
      let found = at_both xs ys (alike xs ys p q) i y there in
      let whole : found.x ≡ x = same found.x x (sym found.there ∙ here) in
      let alike : told x ≡ told y = ap told (sym whole) ∙ found.alike in
      let form = at_place IsFormedSearch told xs i x (formed (map told xs) p) here in
      one_verdict x y alike (has_parts (regex_tree x.expression) form.expression) v w is are

  not_both : (xs ys : List SearchDoc) (i : ℕ) (x : SearchDoc) (rule : KRule) → Tells xs → Tells ys → slice_get xs i ≡ Some x → IsVerdictOn x (Rejected rule)
      → ((y : SearchDoc) → slice_get ys i ≡ Some y → IsAccepted y) → ⊥
  not_both xs ys i x rule p q here is accepted =
      let found = at_both ys xs (alike ys xs q p) i x here in
      let clash : Accepted ≡ Rejected rule = one_at ys xs i found.x x Accepted (Rejected rule) q p found.there here (accepted found.x found.there) is in
      absurd (cc)

  first_is_one : (xs ys : List SearchDoc) (i j : ℕ) (k l : KRule) → Tells xs → Tells ys → IsFirstRejected xs i k → IsFirstRejected ys j l → (i ≡ j) × (k ≡ l)
  first_is_one xs ys i j k l p q is are = by (nat_cmp i j) (ranks i j)
    where
      by : (o : Ordering) → MatchOrdering o (i < j) (i ≡ j) (j < i) → (i ≡ j) × (k ≡ l)
      by Less less = absurd (not_both xs ys i is.search k p q is.there is.rejected (λ y there. at_taken IsAccepted ys j i y are.before less there))
      by Greater less = absurd (not_both ys xs j are.search l q p are.there are.rejected (λ x there. at_taken IsAccepted xs i j x is.before less there))
      by Equal at =
          let there : slice_get ys i ≡ Some are.search = ap (slice_get ys) at ∙ are.there in
          let one : Rejected k ≡ Rejected l = one_at xs ys i is.search are.search (Rejected k) (Rejected l) p q is.there there is.rejected are.rejected in
          (at, cc)

  pub one_outcome : (r q : Result ℕ CheckRefusal) → IsOutcome bytes r → IsOutcome bytes q → (r ≡ Err refusal.Memory → ⊥) → (q ≡ Err refusal.Memory → ⊥) → r ≡ q
  one_outcome (Err refusal.Memory) q h g r_told q_told = absurd (r_told refl)
  one_outcome r (Err refusal.Memory) h g r_told q_told = absurd (q_told refl)
  one_outcome (Ok n) (Ok m) h g r_told q_told =
      let xs = h.certificate.searches in
      let ys = g.certificate.searches in
      let long : length xs ≡ length ys = sym (length-map xs told) ∙ (ap length (alike xs ys h.told g.told) ∙ length-map ys told) in
      ap Ok (h.count ∙ (long ∙ sym g.count))
  one_outcome (Ok n) (Err (refusal.Cert e)) h g r_told q_told = absurd (cc (h.told, g))
  one_outcome (Err (refusal.Cert e)) (Ok n) h g r_told q_told = absurd (cc (g.told, h))
  one_outcome (Err (refusal.Cert e)) (Err (refusal.Cert f)) h g r_told q_told = let one : e ≡ f = cc in ap (λ x. Err (refusal.Cert x)) one
  one_outcome (Err (refusal.Cert e)) (Err (refusal.Rejected i k)) h g r_told q_told = absurd (cc (g.told, h))
  one_outcome (Err (refusal.Rejected i k)) (Err (refusal.Cert e)) h g r_told q_told = absurd (cc (h.told, g))
  one_outcome (Ok n) (Err (refusal.Rejected i k)) h g r_told q_told =
      absurd
      (not_both g.certificate.searches h.certificate.searches i g.first.search k g.told h.told g.first.there g.first.rejected
      (λ y there. at_item IsAccepted h.certificate.searches i y h.each there))
  one_outcome (Err (refusal.Rejected i k)) (Ok n) h g r_told q_told =
      absurd
      (not_both h.certificate.searches g.certificate.searches i h.first.search k h.told g.told h.first.there h.first.rejected
      (λ y there. at_item IsAccepted g.certificate.searches i y g.each there))
  one_outcome (Err (refusal.Rejected i k)) (Err (refusal.Rejected j l)) h g r_told q_told =
      let one = first_is_one h.certificate.searches g.certificate.searches i j k l h.told g.told h.first g.first in
      λ a. Err (refusal.Rejected (one.0 a) (one.1 a))
