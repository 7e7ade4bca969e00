-- The graph that a CONSTRUCT makes of a table, or the fault that it ends in.
use Rattle.std.specs.Prelude.{◌≡◌, ℕ, ◌+◌, ◌<◌, ◌≤◌, List, map, Option, Some, None, Result, Ok, Err, ⊤}
use Rattle.gc_build.specs.AllPaths.{Patterns}
use Rattle.gc_build.specs.Claimed.{AreClaims}
use Rattle.gc_build.specs.Makings.{Making}
use Rattle.gc_build_descriptions.specs.Described.{described_variable}
use Rattle.gc_build_descriptions.specs.Faults.{first_fault}
use Rattle.gc_build_descriptions.specs.declared.described.Described.{Described}
use Rattle.gc_build_descriptions.specs.declared.fault.Fault.{Fault}
use Rattle.gc_build_numbers.specs.Numbers.{numbering}
use Rattle.gc_build_numbers.specs.Settings.{Setting}
use Rattle.gc_build_numbers.specs.declared.numbered.Numbered.{Numbered}
use Rattle.gc_build_recipe.specs.Recipes.{Recipe}
use Rattle.gc_spec.specs.PropertyGraph.{PropertyGraph}
use Rattle.gc_sets.specs.Claims.{Claims, IsClaimed}
use Rattle.gc_build.specs.declared.built.Built.{Built}
use Rattle.gc_build.specs.declared.built.Refusal.{Refusal}
use Rattle.gc_build.specs.declared.built.Refusal.TheVariants as refusal

-- Take `CONSTRUCT (x)-[y:B]->(z {k := COUNT(*)})` on the rows x = node 1 and x = node 2, where the next identity is 5: z is made
-- for each row as 5 and 6, with k = {1}, and y from 1 to 5 as 7 and from 2 to 6 as 8; the next identity is then 9.

-- the elements of the variables, and how many numbers they take
abbrev pub elements : Setting → Recipe → List Numbered
elements s r = (numbering s r.variables).variables

abbrev pub needed : Setting → Recipe → ℕ
needed s r = (numbering s r.variables).next

-- the first assignment that is undefined on a row, if one is
abbrev pub fault : Setting → Recipe → Option Fault
fault s r = first_fault s (elements s r) r.assignments

-- what is made, where the variables have these elements with these descriptions, and new ones have identities from the next one on
abbrev pub making_by : Setting → Recipe → (next : ℕ) → List Numbered → List Described → Making
making_by s r next numbered described = record { setting = s; variables = r.variables; numbered = numbered; described = described; next = next }

abbrev pub making : Setting → Recipe → (next : ℕ) → Making
making s r next = making_by s r next (elements s r) (map (described_variable s r (elements s r)) r.variables)

-- what is claimed, where the MATCH has these patterns
abbrev pub AreDue : Setting → Recipe → Patterns → (next : ℕ) → Claims → Type 0
AreDue s r ps next c = AreClaims ps (making s r next) r.chains r.graphs c

-- the identity behind so many new ones; they suffice where it is at most one more than the largest
abbrev pub IsAfter : (next count : ℕ) → Option ℕ → Type 0
IsAfter next count (Some after) = (after ≡ next + count) × (after ≤ 9007199254740992)
IsAfter next count None = 9007199254740992 < next + count

-- no assignment is undefined, and the identities suffice
pub record IsSound (s : Setting) (r : Recipe) (next : ℕ) : Type 0 where
  pub defined : fault s r ≡ None
  pub room : next + needed s r ≤ 9007199254740992

-- no assignment is undefined, but the identities do not suffice: so many are needed
pub record IsSpent (s : Setting) (r : Recipe) (next count : ℕ) : Type 0 where
  pub defined : fault s r ≡ None
  pub needs : count ≡ needed s r
  pub spent : 9007199254740992 < next + count

-- the graph of all that is claimed, and the identity that comes next
pub record IsBuilt (s : Setting) (r : Recipe) (ps : Patterns) (next : ℕ) (b : Built) : Type 0 where
  pub sound : IsSound s r next
  pub claims : Claims
  pub due : AreDue s r ps next claims
  pub graph : IsClaimed claims b.graph
  pub after : b.next ≡ next + needed s r

-- why nothing is made: the first assignment that is undefined, or too few identities; want of memory is free
abbrev pub IsRefusal : Setting → Recipe → (next : ℕ) → Refusal → Type 0
IsRefusal s r next (refusal.Fault f) = fault s r ≡ Some f
IsRefusal s r next (refusal.IdsSpent count) = IsSpent s r next count
IsRefusal s r next refusal.Memory = ⊤

-- what a CONSTRUCT comes to on a table of a MATCH with these patterns, where what it claims is of one graph
abbrev pub Constructs : Setting → Recipe → Patterns → (next : ℕ) → Result Built Refusal → Type 0
Constructs s r ps next (Ok b) = IsBuilt s r ps next b
Constructs s r ps next (Err refused) = IsRefusal s r next refused

-- all that is claimed, and the identity behind the new ones
pub record IsDue (s : Setting) (r : Recipe) (ps : Patterns) (next : ℕ) (claims : Claims) (after : ℕ) : Type 0 where
  pub sound : IsSound s r next
  pub due : AreDue s r ps next claims
  pub behind : after ≡ next + needed s r
