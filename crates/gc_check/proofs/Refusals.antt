-- The first rule that does not hold, with the rules before it.
use Rattle.std.proofs.Common.{◌≡◌, Bool, true, false, not, List, [], ◌∷◌, ◌++◌, drop, refl, sym, ap, subst, ◌∙◌}
use Rattle.std.specs.List.{AllByRecursion}
use Rattle.gc_prod.specs.Products.{Setting}
use Rattle.gc_cert.specs.declared.document.SearchDoc.{SearchDoc}
use Rattle.gc_cert.specs.Acceptance.{Accepts}
use Rattle.gc_check.specs.Verdicts.{Holds, IsFirstBroken, IsVerdict}
use Rattle.gc_check.specs.declared.rule.KRule.{KRule}
use Rattle.gc_check.specs.declared.rule.Verdict.{Verdict}
use Rattle.gc_check.specs.declared.rule.Verdict.TheVariants.{Accepted, Rejected}
use Rattle.gc_check.specs.declared.rule.KRule.TheVariants.{PotentialsListed, StartFree, MovesCovered, MovesBounded, RunsPassWalks, CostsLeast}

pub not_false : (b : Bool) → not b ≡ false → b ≡ true
not_false true h = refl
not_false false h = cc

module _ (d : SearchDoc) (setting : Setting) where
  pub not_listed : (Holds d setting PotentialsListed → ⊥) → IsFirstBroken d setting PotentialsListed
  not_listed broken = record {
    earlier = [];
    later = StartFree ∷ MovesCovered ∷ MovesBounded ∷ RunsPassWalks ∷ CostsLeast ∷ [];
    order = refl;
    before = tt;
    broken = broken;
  }

  module _ (listed : Holds d setting PotentialsListed) where
    pub not_free : (Holds d setting StartFree → ⊥) → IsFirstBroken d setting StartFree
    not_free broken = record {
      earlier = PotentialsListed ∷ [];
      later = MovesCovered ∷ MovesBounded ∷ RunsPassWalks ∷ CostsLeast ∷ [];
      order = refl;
      before = (listed, tt);
      broken = broken;
    }

    module _ (free : Holds d setting StartFree) where
      pub not_covered : (Holds d setting MovesCovered → ⊥) → IsFirstBroken d setting MovesCovered
      not_covered broken = record {
        earlier = PotentialsListed ∷ StartFree ∷ [];
        later = MovesBounded ∷ RunsPassWalks ∷ CostsLeast ∷ [];
        order = refl;
        before = (listed, (free, tt));
        broken = broken;
      }

      module _ (covered : Holds d setting MovesCovered) where
        pub not_bounded : (Holds d setting MovesBounded → ⊥) → IsFirstBroken d setting MovesBounded
        not_bounded broken = record {
          earlier = PotentialsListed ∷ StartFree ∷ MovesCovered ∷ [];
          later = RunsPassWalks ∷ CostsLeast ∷ [];
          order = refl;
          before = (listed, (free, (covered, tt)));
          broken = broken;
        }

        module _ (bounded : Holds d setting MovesBounded) where
          pub not_passed : (Holds d setting RunsPassWalks → ⊥) → IsFirstBroken d setting RunsPassWalks
          not_passed broken = record {
            earlier = PotentialsListed ∷ StartFree ∷ MovesCovered ∷ MovesBounded ∷ [];
            later = CostsLeast ∷ [];
            order = refl;
            before = (listed, (free, (covered, (bounded, tt))));
            broken = broken;
          }

          pub not_least : Holds d setting RunsPassWalks → (Holds d setting CostsLeast → ⊥) → IsFirstBroken d setting CostsLeast
          not_least passed broken = record {
            earlier = PotentialsListed ∷ StartFree ∷ MovesCovered ∷ MovesBounded ∷ RunsPassWalks ∷ [];
            later = [];
            order = refl;
            before = (listed, (free, (covered, (bounded, (passed, tt)))));
            broken = broken;
          }

-- the first rule that does not hold is one, and there is none where all hold
module _ {X : Type 0} (P : X → Type 0) where
  pub first_one : (earlier other later behind : List X) (x y : X) → earlier ++ x ∷ later ≡ other ++ y ∷ behind
      → AllByRecursion P earlier → AllByRecursion P other → (P x → ⊥) → (P y → ⊥) → x ≡ y
  first_one [] [] later behind x y same all also broken fails = cc
  first_one [] (o ∷ other) later behind x y same all also broken fails = let e : o ≡ x = cc in absurd (broken (subst P e also.0))
  first_one (e ∷ earlier) [] later behind x y same all also broken fails = let f : e ≡ y = cc in absurd (fails (subst P f all.0))
  first_one (e ∷ earlier) (o ∷ other) later behind x y same all also broken fails =
      first_one earlier other later behind x y (ap (drop 1) same) all.1 also.1 broken fails

hold_all : (d : SearchDoc) (setting : Setting) → Accepts d setting → (rule : KRule) → Holds d setting rule
hold_all d setting h PotentialsListed = h.listed
hold_all d setting h StartFree = h.begins
hold_all d setting h MovesCovered = h.covered
hold_all d setting h MovesBounded = h.bounded
hold_all d setting h RunsPassWalks = h.passed
hold_all d setting h CostsLeast = h.least

pub verdict_one : (d : SearchDoc) (setting : Setting) (v w : Verdict) → IsVerdict d setting v → IsVerdict d setting w → v ≡ w
verdict_one d setting Accepted Accepted h k = refl
verdict_one d setting Accepted (Rejected rule) h k = absurd (k.broken (hold_all d setting h rule))
verdict_one d setting (Rejected rule) Accepted h k = absurd (h.broken (hold_all d setting k rule))
verdict_one d setting (Rejected rule) (Rejected other) h k =
    ap Rejected (first_one (Holds d setting) h.earlier k.earlier h.later k.later rule other (sym h.order ∙ k.order) h.before k.before h.broken k.broken)
