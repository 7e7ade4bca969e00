-- What the steps of a CONSTRUCT come to together.
use Rattle.std.proofs.Common.{◌≡◌, ℕ, ◌+◌, ◌≤◌, List, map, Option, Some, None, Result, Ok, Err, ap, sym, ◌∙◌, subst}
use Rattle.gc_build_descriptions.specs.Described.{described_variable}
use Rattle.gc_build_descriptions.specs.Faults.{first_fault}
use Rattle.gc_build_descriptions.specs.declared.described.Described.{Described}
use Rattle.gc_build_numbers.specs.Numbers.{numbering}
use Rattle.gc_build_numbers.specs.Settings.{Setting}
use Rattle.gc_build_numbers.specs.declared.numbered.Numbering.{Numbering}
use Rattle.gc_build_recipe.specs.Recipes.{Recipe}
use Rattle.gc_spec.specs.PropertyGraph.{PropertyGraph}
use Rattle.gc_build.specs.AllPaths.{Patterns}
use Rattle.gc_build.specs.Claimed.{AreClaims}
use Rattle.gc_build.specs.Constructed.{Constructs, IsAfter, IsBuilt, IsDue, IsRefusal, IsSound, making, making_by}
use Rattle.gc_build.specs.declared.built.Built.{Built}
use Rattle.gc_build.specs.declared.built.Refusal.{Refusal}
use Rattle.gc_sets.specs.Claims.{Claims, IsClaimed}
use Rattle.std.specs.Result.{IsErr, IsErrAnd}
use Rattle.gc_build.specs.Makings.{Making}

module _ (s : Setting) (r : Recipe) (ps : Patterns) (next : ℕ) (n : Numbering) (is : n ≡ numbering s r.variables)
    (defined : first_fault s n.variables r.assignments ≡ None) (after : ℕ) (fits : IsAfter next n.next (Some after)) where
  sound : IsSound s r next
  sound = record {
    defined = subst (λ m. first_fault s m.variables r.assignments ≡ None) is defined;
    room = subst (λ m. next + m.next ≤ 9007199254740992) is (subst (λ k. k ≤ 9007199254740992) fits.0 fits.1);
  }

  module _ (d : List Described) (same : d ≡ map (described_variable s r n.variables) r.variables) where
    same_making : making_by s r next n.variables d ≡ making s r next
    same_making =
        ap (making_by s r next n.variables) same
        ∙ ap (λ m. making_by s r next m.variables (map (described_variable s r m.variables) r.variables)) is

    pub due : (claims : Claims) → AreClaims ps (making_by s r next n.variables d) r.chains r.graphs claims → IsDue s r ps next claims after
    due claims h = record {
      sound = sound;
      due = subst (λ (m : Making). AreClaims ps m r.chains r.graphs claims) same_making h;
      behind = fits.0 ∙ ap (λ m. next + m.next) is;
    }

-- the graph of what is claimed
module _ (s : Setting) (r : Recipe) (ps : Patterns) (next : ℕ) (claims : Claims) (after : ℕ) (h : IsDue s r ps next claims after) where
  pub built : (g : PropertyGraph) → IsClaimed claims g → IsBuilt s r ps next (record { graph = g; next = after })
  built g is = record { sound = h.sound; claims = claims; due = h.due; graph = is; after = h.behind }

-- a refusal is that of the whole
pub refused : (s : Setting) (r : Recipe) (ps : Patterns) (next : ℕ) (e : Refusal) → IsRefusal s r next e → (result : Result Built Refusal) → IsErr result → IsErrAnd result (λ other. other ≡ e)
    → Constructs s r ps next result
refused s r ps next e h (Ok b) err same = absurd (cc err)
refused s r ps next e h (Err other) err same = subst (λ (x : Refusal). IsRefusal s r next x) (sym same) h
