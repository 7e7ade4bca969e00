-- Walks that are pending: some in front, which come before all others, and the others in groups.
use Rattle.std.specs.Prelude.{◌≡◌, ◌⊎◌, ℕ, ◌+◌, ◌<◌, ◌≤◌, ◌^◌, List, [], ◌∷◌, ◌++◌, length, map}
use Rattle.std.specs.List.{AllByRecursion}
use Rattle.gc_prod.specs.declared.moves.Move.{Move}
use Rattle.gc_search.specs.Arrivals.{FoundWalk, arrivals_at, extensions, open_moves, NoLater, TakesLeast}
use Rattle.gc_search.specs.Links.{Link, Walks, walk_of, IsTold}
use Rattle.gc_search.specs.Passages.{Has}

pub record Queue : Type 0 where
  pub front : List Link
  pub later : List Link

abbrev pub links_of : Queue → List Link
links_of q = q.front ++ q.later

-- the walk that is told beside a tree, and those that are
abbrev pub told_by : Walks → Link → FoundWalk
told_by tree l = walk_of tree.setting tree.walks l

abbrev pub walks_by : Walks → List Link → List FoundWalk
walks_by tree links = map (told_by tree) links

abbrev pub waiting : Walks → Queue → List FoundWalk
waiting tree q = walks_by tree (links_of q)

-- alike in cost and number of edges; or sooner by these
abbrev pub IsAlike : Link → Link → Type 0
IsAlike a b = (a.cost ≡ b.cost) × (a.edges ≡ b.edges)

abbrev pub IsSooner : Link → Link → Type 0
IsSooner a b = (a.cost < b.cost) ⊎ ((a.cost ≡ b.cost) × (a.edges < b.edges))

-- all are told beside a tree
abbrev pub AllTold : Walks → List Link → Type 0
AllTold tree links = AllByRecursion (IsTold tree.setting tree.walks) links

-- each comes no later than those before it, and than some others
abbrev pub Falls : List FoundWalk → List FoundWalk → Type 0
Falls others [] = Unit {0}
Falls others (x ∷ xs) = ((y : FoundWalk) → Has xs y → NoLater y x) × ((y : FoundWalk) → Has others y → NoLater x y) × Falls others xs

-- those in front cost the same, and the next of them stands last
pub record IsQueue (tree : Walks) (q : Queue) : Type 0 where
  pub told : AllTold tree (links_of q)
  pub falls : Falls (walks_by tree q.later) (walks_by tree q.front)
  pub level : (x y : Link) → Has q.front x → Has q.front y → x.cost ≡ y.cost

-- a walk comes no later than those in a queue, and costs what those in front do
pub record IsLed (tree : Walks) (last : Link) (q : Queue) : Type 0 where
  pub queue : IsQueue tree q
  pub level : (x : Link) → Has q.front x → x.cost ≡ last.cost
  pub all : (y : FoundWalk) → Has (waiting tree q) y → NoLater (told_by tree last) y

-- a least one is taken
pub record IsFirstTaken (tree : Walks) (before : Queue) (taken : Link) (after : Queue) : Type 0 where
  pub takes : TakesLeast (waiting tree before) (told_by tree taken) (waiting tree after)
  pub told : IsTold tree.setting tree.walks taken
  pub led : IsLed tree taken after

-- those in front are alike, and sooner than all others
pub record AreFirst (q : Queue) : Type 0 where
  pub alike : (x y : Link) → Has q.front x → Has q.front y → IsAlike x y
  pub sooner : (x y : Link) → Has q.front x → Has q.later y → IsSooner x y
  pub some : q.front ≡ [] → q.later ≡ []

-- of some walks none is left out but those to pairs that have k, and none is added
pub record IsSifted (tree : Walks) (k : ℕ) (before after : List Link) : Type 0 where
  pub kept : (x : Link) → Has before x → Has after x ⊎ (k ≤ length (arrivals_at tree.walks x.at))
  pub from : (x : Link) → Has after x → Has before x
  pub fewer : length after ≤ length before

-- some are in front, where any are pending
pub record IsFilled (tree : Walks) (k : ℕ) (before after : Queue) : Type 0 where
  pub sifted : IsSifted tree k (links_of before) (links_of after)
  pub queue : IsQueue tree after
  pub some : after.front ≡ [] → after.later ≡ []

-- a walk comes behind another, and is as near where it costs no more
pub record IsBehind (tree : Walks) (last a : Link) : Type 0 where
  pub told : IsTold tree.setting tree.walks a
  pub later : NoLater (told_by tree last) (told_by tree a)
  pub near : a.cost ≡ last.cost → NoLater (told_by tree a) (told_by tree last)

-- the extensions of a walk by those of some moves that lead to pairs with fewer than k walks are put behind others; each costs little more
pub record IsGrown (tree : Walks) (k : ℕ) (a : FoundWalk) (ms : List Move) (before after : List Link) : Type 0 where
  pub exact : walks_by tree after ≡ walks_by tree before ++ extensions tree.setting a (open_moves tree.walks k ms)
  pub told : AllTold tree before → AllTold tree after
  pub small : AllByRecursion (λ l. l.cost ≤ a.cost + 2 ^ 64) before → AllByRecursion (λ l. l.cost ≤ a.cost + 2 ^ 64) after
