-- What a way leads to, step by step.
use Rattle.std.proofs.Common.{◌≡◌, ◌<◌, ◌||◌, ℕ, ◌+◌, Bool, true, false, List, [], ◌∷◌, ◌++◌, drop, get_or, length, Option, Some, None, refl, sym, ap, ◌∙◌, append_assoc, append-nil}
use Rattle.std.specs.Prelude.{is_some, if◌then◌else◌}
use Rattle.std.specs.List.{flat_map, list_any}
use Rattle.std.specs.Option.{option_map, option_or}
use Rattle.std.proofs.lemmas.Option.{slice_get-get_or}
use Rattle.gc_sorts.specs.declared.sort.Sort.{Sort}
use Rattle.gc_sorts.specs.declared.step.Step.{Step}
use Rattle.gc_sorts.specs.declared.step.Step.TheVariants.{Statement, Head, Term, Exists}
use Rattle.gc_sorts.specs.BlockTokens.{outermost_if}
use Rattle.gc_sorts.specs.Blocks.{Around, Block, MatchBlock, ViewBlock, Placed, around_in, around_uses, block_in, is_outermost, own_uses, places_in, token_of}
use Rattle.gc_sorts.specs.Variables.{Use, first_sort}
use Rattle.gc_sorts.specs.Ways.{AtBlock, AtQuery, AtStatements, Node, around_next, around_next_if, arrived, follow, is_inside, next, next_if, own_uses_at, part_left, around_uses_at, uses_around, with_part}
use Rattle.gc_sorts.proofs.ListSteps.{drop_at}
use Rattle.gc_sorts.proofs.FirstSorts.{both_sorts}

-- the step at which a loop stands
abbrev pub step_of : List Step → ℕ → Step
step_of way i = get_or way i (Statement 0)

pub step_at : (way : List Step) (i : ℕ) → i < length way → drop i way ≡ step_of way i ∷ drop (i + 1) way
step_at way i within = drop_at way i (step_of way i) (slice_get-get_or way i (Statement 0) within)

-- nothing is reached from nowhere
lost : (around : List Around) (way : List Step) → follow around None way ≡ None
lost around [] = refl
lost around (s ∷ way) = lost around way

-- the block does not depend on the parts around
same_block : (a b : List Around) (at : Option Node) (way : List Step) → block_in (follow a at way) ≡ block_in (follow b at way)
same_block a b None way = ap block_in (lost a way) ∙ sym (ap block_in (lost b way))
same_block a b (Some (AtBlock block)) [] = refl
same_block a b (Some (AtQuery query)) [] = refl
same_block a b (Some (AtStatements all)) [] = refl
same_block a b (Some node) (s ∷ way) = same_block (around_next a node s) (around_next b node s) (next node s) way

pub block_on : (node to : Node) (way : List Step) (i : ℕ) (s : Step) (whole : Option Block) → drop i way ≡ s ∷ drop (i + 1) way → next node s ≡ Some to
    → block_in (follow [] (Some node) (drop i way)) ≡ whole → block_in (follow [] (Some to) (drop (i + 1) way)) ≡ whole
block_on node to way i s whole e n h =
    same_block [] (around_next [] node s) (Some to) (drop (i + 1) way)
    ∙ (sym (ap (λ at. block_in (follow (around_next [] node s) at (drop (i + 1) way))) n) ∙ (sym (ap (λ w. block_in (follow [] (Some node) w)) e) ∙ h))

pub block_none : (node : Node) (way : List Step) (i : ℕ) (s : Step) (whole : Option Block) → drop i way ≡ s ∷ drop (i + 1) way → next node s ≡ None
    → block_in (follow [] (Some node) (drop i way)) ≡ whole → None ≡ whole
block_none node way i s whole e n h =
    sym (ap block_in (lost (around_next [] node s) (drop (i + 1) way)))
    ∙ (sym (ap (λ at. block_in (follow (around_next [] node s) at (drop (i + 1) way))) n) ∙ (sym (ap (λ w. block_in (follow [] (Some node) w)) e) ∙ h))

pub block_here : (node : Node) (left : List Step) (whole : Option Block) → left ≡ [] → block_in (follow [] (Some node) left) ≡ whole → block_in (arrived [] (Some node)) ≡ whole
block_here node left whole e h = sym (ap (λ w. block_in (follow [] (Some node) w)) e) ∙ h

-- where a way ends before its end there is no block
pub around_none : (around : List Around) (node : Node) (way : List Step) (i : ℕ) (s : Step) (whole : Option Placed) → drop i way ≡ s ∷ drop (i + 1) way → next node s ≡ None
    → follow around (Some node) (drop i way) ≡ whole → is_some whole ≡ true → ⊥
around_none around node way i s whole e n h there =
    let none : None ≡ whole =
    sym (lost (around_next around node s) (drop (i + 1) way))
    ∙ (sym (ap (λ at. follow (around_next around node s) at (drop (i + 1) way)) n) ∙ (sym (ap (λ w. follow around (Some node) w) e) ∙ h)) in
    cc

arrived_around : (around : List Around) (node : Node) → is_some (arrived around (Some node)) ≡ true → around_in (arrived around (Some node)) ≡ around
arrived_around around (AtBlock block) there = refl
arrived_around around (AtQuery query) there = cc
arrived_around around (AtStatements all) there = cc

pub around_here : (around : List Around) (node : Node) (left : List Step) (whole : Option Placed) → left ≡ [] → follow around (Some node) left ≡ whole → is_some whole ≡ true → around ≡ around_in whole
around_here around node left whole e h there =
    let is : arrived around (Some node) ≡ whole = sym (ap (follow around (Some node)) e) ∙ h in
    sym (arrived_around around node (ap is_some is ∙ there)) ∙ ap around_in is

-- a block inside a WHERE is not outermost
inner : (around : List Around) (part : Option Around) → is_outermost around ≡ false → is_outermost (with_part around part) ≡ false
inner [] part h = cc
inner (a ∷ around) None h = refl
inner (a ∷ around) (Some part) h = refl

stays_inner : (around : List Around) (at : Option Node) (way : List Step) → is_outermost around ≡ false → outermost_if (follow around at way) ≡ None
stays_inner around None way h = ap outermost_if (lost around way)
stays_inner around (Some (AtBlock block)) [] h = ap (λ b. if b then Some (token_of block) else None) h
stays_inner around (Some (AtQuery query)) [] h = refl
stays_inner around (Some (AtStatements all)) [] h = refl
stays_inner around (Some node) (s ∷ way) h = stays_inner (around_next around node s) (next node s) way (inner around (part_left node s) h)

pushed_inner : (around : List Around) (part : Around) → is_outermost (around ++ part ∷ []) ≡ false
pushed_inner [] part = refl
pushed_inner (a ∷ around) part = refl

goes_inner : (around : List Around) (at : Option Node) (part n : ℕ) (way : List Step) → outermost_if (follow around at (Exists part n ∷ way)) ≡ None
goes_inner around None part n way = ap outermost_if (lost around way)
goes_inner around (Some (AtBlock (MatchBlock basic))) part n way = stays_inner _ _ way (pushed_inner around (record { basic = basic; part = part }))
goes_inner around (Some (AtBlock (ViewBlock token chains filter))) part n way = ap outermost_if (lost around way)
goes_inner around (Some (AtQuery query)) part n way = ap outermost_if (lost around way)
goes_inner around (Some (AtStatements all)) part n way = ap outermost_if (lost around way)

pub inside_none : (around : List Around) (at : Option Node) (way : List Step) → list_any is_inside way ≡ true → outermost_if (follow around at way) ≡ None
inside_none around at [] h = cc
inside_none around at (Exists part n ∷ way) h = goes_inner around at part n way
inside_none around at (Statement n ∷ way) h = inside_none _ _ way h
inside_none around at (Head n ∷ way) h = inside_none _ _ way h
inside_none around at (Term n ∷ way) h = inside_none _ _ way h

-- one on whose way no WHERE is entered is outermost
on_the_way : (at : Option Node) (s : Step) → is_inside s ≡ false → around_next_if [] at s ≡ []
on_the_way None s h = refl
on_the_way (Some (AtBlock (MatchBlock basic))) (Exists part n) h = cc
on_the_way (Some (AtBlock (MatchBlock basic))) (Statement n) h = refl
on_the_way (Some (AtBlock (MatchBlock basic))) (Head n) h = refl
on_the_way (Some (AtBlock (MatchBlock basic))) (Term n) h = refl
on_the_way (Some (AtBlock (ViewBlock token chains filter))) s h = refl
on_the_way (Some (AtQuery query)) s h = refl
on_the_way (Some (AtStatements all)) s h = refl

pub outermost_token_of : (at : Option Node) (way : List Step) → list_any is_inside way ≡ false → outermost_if (follow [] at way) ≡ option_map token_of (block_in (follow [] at way))
outermost_token_of None [] h = refl
outermost_token_of (Some (AtBlock block)) [] h = refl
outermost_token_of (Some (AtQuery query)) [] h = refl
outermost_token_of (Some (AtStatements all)) [] h = refl
outermost_token_of at (s ∷ way) h = by (λ other. outermost_token_of (next_if at s) way other) (is_inside s) refl h
  where
    by : (list_any is_inside way ≡ false → outermost_if (follow [] (next_if at s) way) ≡ option_map token_of (block_in (follow [] (next_if at s) way))) → (b : Bool) → is_inside s ≡ b
        → (b || list_any is_inside way) ≡ false → outermost_if (follow [] at (s ∷ way)) ≡ option_map token_of (block_in (follow [] at (s ∷ way)))
    by rest true is other = cc
    by rest false is other =
        let stays = on_the_way at s is in
        ap (λ a. outermost_if (follow a (next_if at s) way)) stays
        ∙ (rest other ∙ sym (ap (λ a. option_map token_of (block_in (follow a (next_if at s) way))) stays))

-- the parts around grow along a way
grows : (around : List Around) (at : Option Node) (way : List Step) (p : Placed) → follow around at way ≡ Some p → (more : List Around) × (p.around ≡ around ++ more)
grows around None way p h = let none : None ≡ Some p = sym (lost around way) ∙ h in absurd (cc)
grows around (Some (AtBlock block)) [] p h = ([], sym (append-nil around ∙ ap around_in h))
grows around (Some (AtQuery query)) [] p h = absurd (cc)
grows around (Some (AtStatements all)) [] p h = absurd (cc)
grows around (Some node) (s ∷ way) p h =
    let further = grows (around_next around node s) (next node s) way p h in
    by (part_left node s) further.0 further.1
  where
    by : (part : Option Around) (more : List Around) → p.around ≡ with_part around part ++ more → (all : List Around) × (p.around ≡ around ++ all)
    by None more e = (more, e)
    by (Some a) more e = (a ∷ more, e ∙ append_assoc around (a ∷ []) more)

flat_over : (a b : List Around) → flat_map around_uses (a ++ b) ≡ flat_map around_uses a ++ flat_map around_uses b
flat_over [] b = refl
flat_over (x ∷ a) b = ap (λ us. around_uses x ++ us) (flat_over a b) ∙ sym (append_assoc (around_uses x) (flat_map around_uses a) (flat_map around_uses b))

-- a variable that no part so far has, and that the next part has
sort_within : (around : List Around) (part : Around) (more : List Around) (own : List Use) (name : List ℕ) (sort : Sort) → first_sort (flat_map around_uses around) name ≡ None
    → Some sort ≡ first_sort (around_uses part) name → Some sort ≡ first_sort (flat_map around_uses ((around ++ part ∷ []) ++ more) ++ own) name
sort_within around part more own name sort none found =
    let so_far = flat_map around_uses around in
    let rest = flat_map around_uses more in
    let whole : flat_map around_uses ((around ++ part ∷ []) ++ more) ++ own ≡ so_far ++ (around_uses part ++ (rest ++ own)) =
    ap (λ xs. flat_map around_uses xs ++ own) (append_assoc around (part ∷ []) more)
    ∙ (ap (λ us. us ++ own) (flat_over around (part ∷ more)) ∙ (append_assoc so_far (around_uses part ++ rest) own ∙ ap (λ us. so_far ++ us) (append_assoc (around_uses part) rest own))) in
    sym (ap (λ us. first_sort us name) whole ∙ (both_sorts so_far (around_uses part ++ (rest ++ own)) name
    ∙ (ap (λ o. option_or o (first_sort (around_uses part ++ (rest ++ own)) name)) none ∙ (both_sorts (around_uses part) (rest ++ own) name ∙ sym (ap (λ o. option_or o (first_sort (rest ++ own) name)) found)))))

pub sort_found : (around : List Around) (node : Node) (s : Step) (left later : List Step) (whole : Option Placed) (name : List ℕ) (sort : Sort) → left ≡ s ∷ later
    → follow around (Some node) left ≡ whole → is_some whole ≡ true → first_sort (flat_map around_uses around) name ≡ None → Some sort ≡ first_sort (around_uses_at node s) name
    → Some sort ≡ first_sort (places_in whole) name
sort_found around node s left later None name sort e h there none found = cc
sort_found around node s left later (Some p) name sort e h there none found = by (part_left node s) refl found
  where
    goes : (part : Option Around) → part_left node s ≡ part → follow (with_part around part) (next node s) later ≡ Some p
    goes part is = sym (ap (λ x. follow (with_part around x) (next node s) later) is) ∙ (sym (ap (follow around (Some node)) e) ∙ h)

    by : (part : Option Around) → part_left node s ≡ part → Some sort ≡ first_sort (uses_around part) name → Some sort ≡ first_sort (flat_map around_uses p.around ++ own_uses p.block) name
    by None is at = cc
    by (Some a) is at =
        let all = grows (around ++ a ∷ []) (next node s) later p (goes (Some a) is) in
        sort_within around a all.0 (own_uses p.block) name sort none at ∙ sym (ap (λ xs. first_sort (flat_map around_uses xs ++ own_uses p.block) name) all.1)

pub none_so_far : (around : List Around) (part : Option Around) (name : List ℕ) → first_sort (flat_map around_uses around) name ≡ None → None ≡ first_sort (uses_around part) name
    → first_sort (flat_map around_uses (with_part around part)) name ≡ None
none_so_far around None name h g = h
none_so_far around (Some a) name h g =
    ap (λ us. first_sort us name) (flat_over around (a ∷ []))
    ∙ (both_sorts (flat_map around_uses around) (around_uses a ++ []) name
    ∙ (ap (λ o. option_or o (first_sort (around_uses a ++ []) name)) h ∙ (ap (λ us. first_sort us name) (append-nil (around_uses a)) ∙ sym g)))

pub leads_on : (around : List Around) (node to : Node) (s : Step) (left later : List Step) (whole : Option Placed) → left ≡ s ∷ later → next node s ≡ Some to
    → follow around (Some node) left ≡ whole → follow (with_part around (part_left node s)) (Some to) later ≡ whole
leads_on around node to s left later whole e n h = sym (ap (λ at. follow (around_next around node s) at later) n) ∙ (sym (ap (follow around (Some node)) e) ∙ h)

pub sort_here : (around : List Around) (node : Node) (left : List Step) (whole : Option Placed) (name : List ℕ) → left ≡ [] → follow around (Some node) left ≡ whole → is_some whole ≡ true
    → first_sort (flat_map around_uses around) name ≡ None → first_sort (own_uses_at node) name ≡ first_sort (places_in whole) name
sort_here around node left whole name e h there none = by node (sym (ap (follow around (Some node)) e) ∙ h)
  where
    by : (n : Node) → arrived around (Some n) ≡ whole → first_sort (own_uses_at n) name ≡ first_sort (places_in whole) name
    by (AtBlock block) is =
        sym (ap (λ o. first_sort (places_in o) name) (sym is)
        ∙ (both_sorts (flat_map around_uses around) (own_uses block) name ∙ ap (λ o. option_or o (first_sort (own_uses block) name)) none))
    by (AtQuery query) is = cc
    by (AtStatements all) is = cc
