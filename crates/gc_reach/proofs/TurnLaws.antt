-- Going back along kept moves is going along moves, the other way.
use Rattle.std.proofs.Common.{◌≡◌, ℕ, zero, suc, ◌*◌, ◌<◌, length, true, List, [], ◌∷◌, map, ◌==◌, refl, sym, subst, ◌∙◌, arith}
use Rattle.std.specs.List.{AllByRecursion, Contains}
use Rattle.std.proofs.lemmas.Bool.{eq-eqb}
use Rattle.std.proofs.lemmas.Bool.Decides.{nat_tests}
use Rattle.gc_base.proofs.SetLaws.{AllByRecursion-filter}
use Rattle.gc_base.specs.declared.walk.Step.{Step}
use Rattle.gc_spec.specs.PropertyGraph.{is_among}
use Rattle.gc_prod.specs.declared.moves.Move.{Move}
use Rattle.gc_prod.specs.declared.moves.Pair.{Pair}
use Rattle.gc_prod.specs.Groups.{Grouped, row_of}
use Rattle.gc_prod.specs.Keys.{at_key}
use Rattle.gc_prod.specs.Places.{place_in}
use Rattle.gc_prod.proofs.PlaceLaws.{place_there}
use Rattle.gc_prod.specs.Leading.{Leads, IsTaken, target_of, steps_of}
use Rattle.gc_prod.specs.Products.{Setting, moves}
use Rattle.gc_prod.proofs.BundleLaws.{all_from}
use Rattle.gc_prod.proofs.Members.{in_filter, from_filter, in_map, from_map, in_flat_map, from_flat_map}
use Rattle.gc_prod.proofs.Networks.{among_all}
use Rattle.gc_reach.specs.declared.turning.Turn.{Turn}
use Rattle.gc_reach.specs.Exploring.{Led, IsLed, AreAll}
use Rattle.gc_reach.specs.Numbering.{number_of, IsNumbered}
use Rattle.gc_reach.specs.Turning.{turn, turns_of, turns, into, before, steps_along, steps_into}
use Rattle.gc_reach.proofs.FoundLaws.{complete, led_more}
use Rattle.gc_reach.proofs.MarkLaws.{mark_within}
use Rattle.gc_reach.proofs.NumberLaws.{one_number}
use Rattle.gc_reach.proofs.VisitLaws.{has_contains}

eqb_same : (a b : ℕ) → (a == b) ≡ true → a ≡ b
eqb_same a b h = grind (arith, nat_tests)

all_map : {X Y : Type 0} (f : X → Y) (P : Y → Type 0) (xs : List X) → AllByRecursion (λ x. P (f x)) xs → AllByRecursion P (map f xs)
all_map f P [] all = tt
all_map f P (x ∷ xs) all = (all.0, all_map f P xs all.1)

-- going back leads to nodes where kept moves leave nodes
pub back_there : (nodes others : List ℕ) (width : ℕ) (kept : Grouped Turn) (at : Pair) → nodes ≡ others
    → ((key : ℕ) → AllByRecursion (λ t. is_among others t.from.node ≡ true) (row_of kept key))
    → AllByRecursion (λ q. is_among nodes q.node ≡ true) (before nodes width kept at)
back_there nodes others width kept at same each =
    all_map (λ (t : Turn). t.from) (λ (q : Pair). is_among nodes q.node ≡ true) (into nodes width kept at)
    (subst (λ (ids : List ℕ). AllByRecursion (λ t. is_among ids t.from.node ≡ true) (into nodes width kept at)) (sym same) (each (number_of nodes width at)))

-- one move more
pub leads_more : (setting : Setting) (n : ℕ) (p q : Pair) (m : Move) → Leads setting n p q → Contains (moves setting q.node q.state) m → Leads setting (suc n) p (target_of m)
leads_more setting zero p q m is among = (m, subst (λ (r : Pair). Contains (moves setting r.node r.state) m) (sym is) among, refl)
leads_more setting (suc n) p q m h among = (h.0, h.1, leads_more setting n (target_of h.0) q m h.2 among)

module _ (setting : Setting) (nodes : List ℕ) (width : ℕ) where
  -- a kept move is a move of one of the pairs
  pub record IsTurn (pairs : List Pair) (t : Turn) : Type 0 where
    pub from : Contains pairs t.from
    pub to : Contains (moves setting t.from.node t.from.state) t.to
    pub number : t.number ≡ number_of nodes width (target_of t.to)

  pub is_turn : (pairs : List Pair) (t : Turn) → Contains (turns setting nodes width pairs) t → IsTurn pairs t
  is_turn pairs t h =
      let part = from_flat_map (turns_of setting nodes width) pairs t h in
      let image = from_map (turn nodes width part.origin) (moves setting part.origin.node part.origin.state) t part.part in
      subst (IsTurn pairs) image.is (record { from = part.among; to = image.among; number = refl })

  pub turn_is : (pairs : List Pair) (p : Pair) (m : Move) → Contains pairs p → Contains (moves setting p.node p.state) m → Contains (turns setting nodes width pairs) (turn nodes width p m)
  turn_is pairs p m among by =
      in_flat_map (turns_of setting nodes width) pairs (turn nodes width p m) (record {
        origin = p;
        among = among;
        part = in_map (turn nodes width p) (moves setting p.node p.state) m by;
      })

-- each kept move has the number of a pair, where all moves of some pairs lead to such pairs
pub turns_within : (setting : Setting) (nodes : List ℕ) (width : ℕ) (pairs : List Pair) → AllByRecursion (IsNumbered nodes width) pairs
    → ((p : Pair) → Contains pairs p → (m : Move) → Contains (moves setting p.node p.state) m → Contains pairs (target_of m))
    → AllByRecursion (λ t. t.number < length nodes * width) (turns setting nodes width pairs)
turns_within setting nodes width pairs numbered reached =
    all_from (λ (t : Turn). t.number < length nodes * width) (turns setting nodes width pairs) (λ t k.
    let is = is_turn setting nodes width pairs t k in
    let q = target_of t.to in
    let has = among_all (IsNumbered nodes width) pairs q numbered (reached t.from is.from t.to is.to) in
    subst (λ n. n < length nodes * width) (sym is.number) (mark_within (length nodes) width (place_in nodes q.node) q.state (place_there nodes q.node has.node).within has.state))

-- the moves of some pairs are kept, by the numbers of the pairs to which they lead
pub record AreKept (setting : Setting) (nodes : List ℕ) (width : ℕ) (pairs : List Pair) (kept : Grouped Turn) : Type 0 where
  pub exact : (key : ℕ) → row_of kept key ≡ at_key (λ t. t.number) key (turns setting nodes width pairs)
  pub numbered : AllByRecursion (IsNumbered nodes width) pairs
  pub reached : (p : Pair) → Contains pairs p → (m : Move) → Contains (moves setting p.node p.state) m → Contains pairs (target_of m)

module _ (setting : Setting) (nodes : List ℕ) (width : ℕ) (pairs : List Pair) (kept : Grouped Turn) (are : AreKept setting nodes width pairs kept) where
  numbered : (p : Pair) → Contains pairs p → IsNumbered nodes width p
  numbered p h = among_all (IsNumbered nodes width) pairs p are.numbered h

  -- what leads to a pair
  record LeadsTo (q : Pair) (t : Turn) : Type 0 where
    pub is : IsTurn setting nodes width pairs t
    pub target : target_of t.to ≡ q

  into_leads : (q : Pair) (t : Turn) → IsNumbered nodes width q → Contains (into nodes width kept q) t → LeadsTo q t
  into_leads q t there h =
      let all = turns setting nodes width pairs in
      let passes = from_filter (λ (t : Turn). t.number == number_of nodes width q) all t (subst (λ (l : List Turn). Contains l t) (are.exact (number_of nodes width q)) h) in
      let is = is_turn setting nodes width pairs t passes.among in
      let same : number_of nodes width (target_of t.to) ≡ number_of nodes width q = sym is.number ∙ eqb_same t.number (number_of nodes width q) passes.passes in
      record {
        is = is;
        target = one_number nodes width (target_of t.to) q (numbered (target_of t.to) (are.reached t.from is.from t.to is.to)) there same;
      }

  leads_into : (p : Pair) (m : Move) → Contains pairs p → Contains (moves setting p.node p.state) m → Contains (into nodes width kept (target_of m)) (turn nodes width p m)
  leads_into p m among by =
      let n = number_of nodes width (target_of m) in
      subst (λ (l : List Turn). Contains l (turn nodes width p m)) (sym (are.exact n))
      (in_filter (λ (t : Turn). t.number == n) (turns setting nodes width pairs) (turn nodes width p m) (record { among = turn_is setting nodes width pairs p m among by; passes = eq-eqb n n refl }))

  -- what is so of all pairs is so of those that kept moves leave
  pub left_all : (P : Pair → Type 0) → ((p : Pair) → Contains pairs p → P p) → (key : ℕ) → AllByRecursion (λ t. P t.from) (row_of kept key)
  left_all P each key =
      let all = turns setting nodes width pairs in
      subst (λ (l : List Turn). AllByRecursion (λ t. P t.from) l) (sym (are.exact key))
      (AllByRecursion-filter (λ (t : Turn). P t.from) (λ t. t.number == key) all
      (all_from (λ (t : Turn). P t.from) all (λ t k. each t.from (is_turn setting nodes width pairs t k).from)))

  pub left_nodes : (key : ℕ) → AllByRecursion (λ t. is_among nodes t.from.node ≡ true) (row_of kept key)
  left_nodes = left_all (λ p. is_among nodes p.node ≡ true) (λ p h. (numbered p h).node)

  pub left_states : (key : ℕ) → AllByRecursion (λ t. t.from.state < width) (row_of kept key)
  left_states = left_all (λ p. p.state < width) (λ p h. (numbered p h).state)

  -- one is led back exactly where moves lead
  pub back_leads : (n : ℕ) (q p : Pair) → IsNumbered nodes width q → Led (before nodes width kept) n q p → Leads setting n p q
  back_leads zero q p there is = sym is
  back_leads (suc n) q p there led =
      let image = from_map (λ (t : Turn). t.from) (into nodes width kept q) led.0 led.1 in
      let t = image.origin in
      let to = into_leads q t there image.among in
      let rest : Leads setting n p t.from = subst (λ (r : Pair). Leads setting n p r) (sym image.is) (back_leads n led.0 p (subst (IsNumbered nodes width) image.is (numbered t.from to.is.from)) led.2) in
      subst (λ (r : Pair). Leads setting (suc n) p r) to.target (leads_more setting n p t.from t.to rest to.is.to)

  pub leads_back : (n : ℕ) (p q : Pair) → Contains pairs p → Leads setting n p q → Led (before nodes width kept) n q p
  leads_back zero p q among is = sym is
  leads_back (suc n) p q among h =
      let m = h.0 in
      let t = turn nodes width p m in
      let first : Contains (before nodes width kept (target_of m)) p = in_map (λ (t : Turn). t.from) (into nodes width kept (target_of m)) t (leads_into p m among h.1) in
      led_more (before nodes width kept) n q (target_of m) p (leads_back n (target_of m) q (are.reached p among m h.1) h.2) first

  module _ (start end : Pair) (back : List Pair) (first : Contains pairs start) (there : IsNumbered nodes width end) (led : (q : Pair) → Contains pairs q → (n : ℕ) × Leads setting n start q)
      (all : AreAll (before nodes width kept) nodes end back) (those : AllByRecursion (IsNumbered nodes width) back) where
    -- the steps that are found are those that are taken from pair to pair
    pub found_taken : (s : Step) → Contains (steps_into setting nodes width kept back) s → IsTaken setting start end s
    found_taken s h =
        let part = from_flat_map (λ (q : Pair). steps_along setting (into nodes width kept q)) back s h in
        let q = part.origin in
        let by = from_flat_map (λ (t : Turn). steps_of setting t.to) (into nodes width kept q) s part.part in
        let t = by.origin in
        let to = into_leads q t (among_all (IsNumbered nodes width) back q those part.among) by.among in
        let before_it = led t.from to.is.from in
        let behind = among_all (IsLed (before nodes width kept) end) back q all.found.sound part.among in
        record {
          before = before_it.0;
          at = t.from;
          move = t.to;
          after = behind.0;
          leads = before_it.1;
          among = to.is.to;
          takes = by.part;
          rest = subst (λ (r : Pair). Leads setting behind.0 r end) (sym to.target) (back_leads behind.0 end q there behind.1);
        }

    ahead : (n : ℕ) (p q : Pair) → Contains pairs p → Leads setting n p q → Contains pairs q
    ahead zero p q among is = subst (Contains pairs) is among
    ahead (suc n) p q among h = ahead n (target_of h.0) q (are.reached p among h.0 h.1) h.2

    pub taken_found : (s : Step) → IsTaken setting start end s → Contains (steps_into setting nodes width kept back) s
    taken_found s taken =
        let at = ahead taken.before start taken.at first taken.leads in
        let q = target_of taken.move in
        let behind = complete (before nodes width kept) nodes end back all taken.after end q all.found.start (leads_back taken.after q end (are.reached taken.at at taken.move taken.among) taken.rest) in
        in_flat_map (λ (q : Pair). steps_along setting (into nodes width kept q)) back s (record {
          origin = q;
          among = has_contains back q behind;
          part = in_flat_map (λ (t : Turn). steps_of setting t.to) (into nodes width kept q) s (record {
            origin = turn nodes width taken.at taken.move;
            among = leads_into taken.at taken.move at taken.among;
            part = taken.takes;
          });
        })
