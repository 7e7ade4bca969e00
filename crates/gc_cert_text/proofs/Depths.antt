-- What is in a value nests no deeper than the value.
use Rattle.std.proofs.Common.{◌≡◌, ℕ, ◌≤◌, List, Option, Some, None, option_and_then, arith, refl, subst, nat_cmp}
use Rattle.std.specs.declared.cmp.Ordering.{Ordering}
use Rattle.std.specs.declared.cmp.Ordering.TheVariants.{Less, Equal, Greater}
use Rattle.std.specs.Cmp.Lexicographic.{slice_cmp}
use Rattle.std.specs.Ordering.{match_ordering}
use Rattle.serde_json.specs.Data.{Data, null, boolean, number, string, array, object, Items, Members, no_members, member, depth, items_depth, members_depth}
use Rattle.serde_json.specs.Find.{get, get_member, as_array}
use Rattle.gc_cert_text.specs.Options.{array_at}

either : (o : Ordering) (e x : Data) (rest : Option Data) (n : ℕ) → depth x ≤ n → (rest ≡ Some e → depth e ≤ n) → match_ordering o rest (Some x) rest ≡ Some e → depth e ≤ n
either Less e x rest n here later h = later h
either Greater e x rest n here later h = later h
either Equal e x rest n here later h = let same : x ≡ e = cc in subst (λ d. depth d ≤ n) same here

member_shallower : (k : List ℕ) (e : Data) (ms : Members) → get_member k ms ≡ Some e → depth e ≤ members_depth ms
member_shallower k e no_members h = absurd (cc)
member_shallower k e (member l x ms) h =
    either (slice_cmp nat_cmp k l) e x (get_member k ms) (members_depth (member l x ms)) (omega arith) (λ is. omega (arith, member_shallower k e ms is)) h

pub get_shallower : (k : List ℕ) (d e : Data) → get k d ≡ Some e → depth e ≤ depth d
get_shallower k null e h = absurd (cc)
get_shallower k (boolean b) e h = absurd (cc)
get_shallower k (number n) e h = absurd (cc)
get_shallower k (string s) e h = absurd (cc)
get_shallower k (array ds) e h = absurd (cc)
get_shallower k (object ms) e h = omega (arith, member_shallower k e ms h)

array_shallower : (d : Data) (ds : Items) → as_array d ≡ Some ds → items_depth ds ≤ depth d
array_shallower null ds h = absurd (cc)
array_shallower (boolean b) ds h = absurd (cc)
array_shallower (number n) ds h = absurd (cc)
array_shallower (string s) ds h = absurd (cc)
array_shallower (object ms) ds h = absurd (cc)
array_shallower (array es) ds h = let same : es ≡ ds = cc in subst (λ x. items_depth x ≤ depth (array es)) same (omega arith)

-- the items of an array at a key
pub items_shallower : (k : List ℕ) (d : Data) (ds : Items) → array_at k d ≡ Some ds → items_depth ds ≤ depth d
items_shallower k d ds h = by (get k d) refl h
  where
    by : (o : Option Data) → get k d ≡ o → option_and_then as_array o ≡ Some ds → items_depth ds ≤ depth d
    by None is e = absurd (cc)
    by (Some x) is e = omega (arith, array_shallower x ds e, get_shallower k d x is)
