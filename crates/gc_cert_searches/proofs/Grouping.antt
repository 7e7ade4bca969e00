-- The ends of walks by their starts, and the documents from these starts.
use Rattle.std.proofs.Common.{◌≡◌, ◌==◌, ℕ, List, [], ◌∷◌, ◌++◌, map, refl, sym, ap, ◌∙◌, subst, append_assoc}
use Rattle.std.specs.List.{AllByRecursion, Contains}
use Rattle.std.specs.Ordering.{nat_cmp}
use Rattle.std.proofs.lemmas.Bool.{eq-eqb, eqb-true}
use Rattle.std.proofs.lemmas.List.{append-nil, map-append}
use Rattle.gc_base.proofs.SetLaws.{AllByRecursion-append}
use Rattle.gc_base.specs.Ascending.{Ascends}
use Rattle.gc_automata.specs.Moves.{IsThere, Network}
use Rattle.gc_regx.specs.Trees.{RegexTree, ARegex}
use Rattle.gc_rows.specs.Tables.{HasExactly}
use Rattle.gc_rows.proofs.Members.{from_filter, from_map, of_member, to_filter, to_map}
use Rattle.gc_prod.specs.Keys.{at_key}
use Rattle.gc_prod.specs.Products.{Setting}
use Rattle.gc_cert.specs.declared.document.SearchDoc.{SearchDoc}
use Rattle.gc_cert_searches.specs.declared.ends.WalkEnds.{WalkEnds}
use Rattle.gc_cert_searches.specs.Found.{AreDocsFrom, IsDocFrom, IsDocOf, IsStart}
use Rattle.gc_cert_searches.specs.Searches.{AreThose}

ends_same : (e : WalkEnds) (s t : ℕ) → e.start ≡ s → e.target ≡ t → e ≡ record { start = s; target = t }
ends_same e s t a b = λ i. record { start = a i; target = b i }

abbrev pub starts_at : ℕ → List WalkEnds → List WalkEnds
starts_at source ends = at_key (λ e. e.start) source ends

module _ (ends : List WalkEnds) (source : ℕ) (targets : List ℕ) (exact : HasExactly (map (λ e. e.target) (starts_at source ends)) targets) where
  of_target : (t : ℕ) → Contains targets t → Contains ends (record { start = source; target = t })
  of_target t m =
      let at = from_map (λ (e : WalkEnds). e.target) (starts_at source ends) t (exact.sound t m) in
      let kept = from_filter (λ (e : WalkEnds). e.start == source) ends at.0 at.1 in
      subst (Contains ends) (ends_same at.0 source t (eqb-true at.0.start source kept.1) (sym at.2)) kept.0

  to_target : (t : ℕ) → Contains ends (record { start = source; target = t }) → Contains targets t
  to_target t m =
      exact.complete t (to_map (λ (e : WalkEnds). e.target) (starts_at source ends) (record { start = source; target = t })
      (to_filter (λ (e : WalkEnds). e.start == source) ends (record { start = source; target = t }) m (eq-eqb source source refl)))

  pub those_targets : Ascends nat_cmp targets → AreThose nat_cmp (λ t. Contains ends (record { start = source; target = t })) targets
  those_targets up = record { ascend = up; exact = λ t. (λ m. of_target t m, λ m. to_target t m) }

module _ (ends : List WalkEnds) (sources : List ℕ) (exact : HasExactly (map (λ e. e.start) ends) sources) where
  start_of : (s : ℕ) → Contains sources s → IsStart ends s
  start_of s m =
      let at = from_map (λ (e : WalkEnds). e.start) ends s (exact.sound s m) in
      (at.0.target, subst (Contains ends) (ends_same at.0 s at.0.target (sym at.2) refl) at.1)

  pub those_sources : Ascends nat_cmp sources → AreThose nat_cmp (IsStart ends) sources
  those_sources up = record {
    ascend = up;
    exact = λ s. (λ m. start_of s m, λ h. exact.complete s (to_map (λ (e : WalkEnds). e.start) ends (record { start = s; target = h.0 }) h.1));
  }

  pub source_there : (network : Network) → AllByRecursion (λ (e : WalkEnds). IsThere network e.start) ends → (s : ℕ) → Contains sources s → IsThere network s
  source_there network all s m =
      let h = start_of s m in
      of_member (λ (e : WalkEnds). IsThere network e.start) ends (record { start = s; target = h.0 }) all h.1

pub no_docs : (setting : Setting) (tree : RegexTree ARegex) (ends : List WalkEnds) (old : List SearchDoc) → AreDocsFrom setting tree ends [] old old
no_docs setting tree ends old = record { added = []; whole = sym (append-nil old); starts = refl; each = tt }

-- one more document
pub one_more : (setting : Setting) (tree : RegexTree ARegex) (ends : List WalkEnds) (starts : List ℕ) (old now : List SearchDoc) (source : ℕ) (targets : List ℕ) (d : SearchDoc)
    → AreDocsFrom setting tree ends starts old now → AreThose nat_cmp (λ t. Contains ends (record { start = source; target = t })) targets → IsDocFrom setting tree source targets d
    → AreDocsFrom setting tree ends (starts ++ source ∷ []) old (now ++ d ∷ [])
one_more setting tree ends starts old now source targets d h those doc =
    let start : source ≡ d.start = sym doc.start in
    let told : IsDocOf setting tree ends d = record {
      targets = targets;
      those = subst (λ s. AreThose nat_cmp (λ t. Contains ends (record { start = s; target = t })) targets) start those;
      doc = subst (λ s. IsDocFrom setting tree s targets d) start doc;
    } in
    record {
      added = h.added ++ d ∷ [];
      whole = ap (λ ds. ds ++ d ∷ []) h.whole ∙ append_assoc old h.added (d ∷ []);
      starts = map-append (λ (e : SearchDoc). e.start) h.added (d ∷ []) ∙ (λ j. h.starts j ++ doc.start j ∷ []);
      each = AllByRecursion-append (IsDocOf setting tree ends) h.added (d ∷ []) h.each (told, tt);
    }

-- what is told of some lists is so of equal ones
pub retold : (f : WalkEnds → ℕ) (told ends : List WalkEnds) (xs ys : List ℕ) → told ≡ ends → ys ≡ xs → HasExactly (map f told) xs → HasExactly (map f ends) ys
retold f told ends xs ys a b h = subst (λ (zs : List ℕ). HasExactly (map f ends) zs) (sym b) (subst (λ (es : List WalkEnds). HasExactly (map f es) xs) a h)
