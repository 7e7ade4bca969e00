-- The ways of a file lead to its blocks.
use Rattle.std.proofs.Common.{◌≡◌, ℕ, zero, suc, ◌+◌, List, [], ◌∷◌, ◌++◌, map, Some, None, refl, sym, ap, ◌∙◌, append_assoc, append-nil, length, arith}
use Rattle.std.specs.Prelude.{⊤, slice_get}
use Rattle.std.specs.Option.{option_map}
use Rattle.std.proofs.lemmas.List.{length-map}
use Rattle.gc_ast.specs.Trees as tree
use Rattle.gc_ast.specs.Trees.{Tree, RowOf, AStatement, AQuery, AHead, ATerm, ANextTerm, ABasic, ABlock, AnOptional}
use Rattle.gc_sorts.specs.declared.step.Step.{Step}
use Rattle.gc_sorts.specs.declared.step.Step.TheVariants.{Statement, Head, Term, Exists}
use Rattle.gc_sorts.specs.Blocks.{Around, Block, Blocks, MatchBlock, ViewBlock, Placed, blocks, file_blocks, nth, optional_blocks, part_of, with_blocks}
use Rattle.gc_sorts.specs.Blocks as block
use Rattle.gc_sorts.specs.Ways.{Node, Ways, AtStatements, AtQuery, AtBlock, asked, basic_ways, declared, exists_ways, file_ways, follow, led, led_if, around_next, from_term, head_ways, later_ways, next, of_head, operand, optional_ways, part_ways, queries_in, query_in, query_ways, statement_ways, term_at, term_ways, with_ways}
use Rattle.gc_sorts.specs.Ways as way

module _ (root : Node) where
  -- a way leads to a node
  abbrev Leads : (here : List Step) → List Around → Node → Type 0
  Leads here around node = (more : List Step) → follow [] (Some root) (here ++ more) ≡ follow around (Some node) more

  leads_on : (here : List Step) (around : List Around) (node : Node) → Leads here around node → (s : Step) (to : Node) → next node s ≡ Some to
      → Leads (here ++ s ∷ []) (around_next around node s) to
  leads_on here around node l s to is more =
      ap (follow [] (Some root)) (append_assoc here (s ∷ []) more) ∙ (l (s ∷ more) ∙ ap (λ n. follow (around_next around node s) n more) is)

  -- ways lead to blocks, one by one
  abbrev Agree : Ways → Blocks → Type 0
  Agree way.none block.none = ⊤
  Agree (way.one w) (block.one p) = follow [] (Some root) w ≡ Some p
  Agree (way.both a b) (block.both c d) = Agree a c × Agree b d
  Agree ways bs = ⊥

  arrive : (here : List Step) (around : List Around) (b : Block) → Leads here around (AtBlock b) → follow [] (Some root) here ≡ Some (record { around = around; block = b })
  arrive here around b l = ap (follow [] (Some root)) (sym (append-nil here)) ∙ l []

  mutual
    unfolding query_ways head_ways of_head later_ways term_ways basic_ways optional_ways part_ways exists_ways blocks optional_blocks

    query_leads : (here : List Step) (around : List Around) (q : Tree AQuery) → Leads here around (AtQuery q) → Agree (query_ways here q) (blocks around q)
    query_leads here around (tree.Query heads first rest) l =
        let q = tree.Query heads first rest in (
          heads_lead here around q l 0 heads (λ i m e. let is : m ≡ i = omega (arith, e) in ap (λ j. next (AtQuery q) (Head j)) is),
          (
            term_leads (here ++ Term 0 ∷ []) around first (λ node is. leads_on here around (AtQuery q) l (Term 0) node is),
            later_lead here around q l 1 rest (λ i m e. let is : m ≡ suc i = omega (arith, e) in ap (λ j. next (AtQuery q) (Term j)) is),
          ),
        )

    heads_lead : (here : List Step) (around : List Around) (q : Tree AQuery) → Leads here around (AtQuery q) → (n : ℕ) (heads : Tree (RowOf AHead))
        → ((i m : ℕ) → m ≡ n + i → next (AtQuery q) (Head m) ≡ option_map declared (nth heads i)) → Agree (head_ways here n heads) (blocks around heads)
    heads_lead here around q l n tree.none at = tt
    heads_lead here around q l n (tree.more head heads) at = (
      head_leads (here ++ Head n ∷ []) around head (leads_on here around (AtQuery q) l (Head n) (declared head) (at 0 n (omega arith))),
      heads_lead here around q l (n + 1) heads (λ i m e. at (suc i) m (omega (arith, e))),
    )

    head_leads : (here : List Step) (around : List Around) (head : Tree AHead) → Leads here around (declared head) → Agree (of_head here head) (blocks around head)
    head_leads here around (tree.PathHead v chains filter cost) l = arrive here around (ViewBlock v.token chains filter) l
    head_leads here around (tree.GraphHead g query) l = query_leads here around query l

    later_lead : (here : List Step) (around : List Around) (q : Tree AQuery) → Leads here around (AtQuery q) → (n : ℕ) (terms : Tree (RowOf ANextTerm))
        → ((i m : ℕ) → m ≡ n + i → next (AtQuery q) (Term m) ≡ from_term (option_map operand (nth terms i))) → Agree (later_ways here n terms) (blocks around terms)
    later_lead here around q l n tree.none at = tt
    later_lead here around q l n (tree.more (tree.NextTerm op term) terms) at = (
      term_leads (here ++ Term n ∷ []) around term (λ node is. leads_on here around (AtQuery q) l (Term n) node (at 0 n (omega arith) ∙ is)),
      later_lead here around q l (n + 1) terms (λ i m e. at (suc i) m (omega (arith, e))),
    )

    term_leads : (here : List Step) (around : List Around) (term : Tree ATerm) → ((node : Node) → from_term (Some term) ≡ Some node → Leads here around node)
        → Agree (term_ways here term) (blocks around term)
    term_leads here around (tree.BasicTerm basic) l = basic_leads here around basic (l (AtBlock (MatchBlock basic)) refl)
    term_leads here around (tree.GraphTerm g) l = tt
    term_leads here around (tree.QueryTerm query) l = query_leads here around query (l (AtQuery query) refl)

    basic_leads : (here : List Step) (around : List Around) (basic : Tree ABasic) → Leads here around (AtBlock (MatchBlock basic)) → Agree (basic_ways here basic) (blocks around basic)
    basic_leads here around (tree.Basic token items main optionals) l =
        let basic = tree.Basic token items main optionals in (
          arrive here around (MatchBlock basic) l,
          (
            part_leads here around basic l 0 main refl,
            optionals_lead here around basic l 1 optionals (λ i m e. let is : m ≡ suc i = omega (arith, e) in ap (part_of basic) is),
          ),
        )

    optionals_lead : (here : List Step) (around : List Around) (basic : Tree ABasic) → Leads here around (AtBlock (MatchBlock basic)) → (part : ℕ) (optionals : Tree (RowOf AnOptional))
        → ((i m : ℕ) → m ≡ part + i → part_of basic m ≡ option_map block.optional_part (nth optionals i))
        → Agree (optional_ways here part optionals) (optional_blocks around basic part optionals)
    optionals_lead here around basic l part tree.none at = tt
    optionals_lead here around basic l part (tree.more (tree.Optional token main) later) at = (
      part_leads here around basic l part main (at 0 part (omega arith)),
      optionals_lead here around basic l (part + 1) later (λ i m e. at (suc i) m (omega (arith, e))),
    )

    part_leads : (here : List Step) (around : List Around) (basic : Tree ABasic) → Leads here around (AtBlock (MatchBlock basic)) → (part : ℕ) (main : Tree ABlock) → part_of basic part ≡ Some main
        → Agree (part_ways here part main) (blocks (around ++ record { basic = basic; part = part } ∷ []) main)
    part_leads here around basic l part (tree.Block patterns tree.none) is = tt
    part_leads here around basic l part (tree.Block patterns (tree.more (tree.Formula condition queries) others)) is =
        exists_lead here around basic l part 0 queries
        (λ i m e. ap (λ p. option_map AtQuery (query_in p m)) is ∙ (let is : m ≡ i = omega (arith, e) in ap (λ j. option_map AtQuery (nth queries j)) is))

    exists_lead : (here : List Step) (around : List Around) (basic : Tree ABasic) → Leads here around (AtBlock (MatchBlock basic)) → (part n : ℕ) (queries : Tree (RowOf AQuery))
        → ((i m : ℕ) → m ≡ n + i → next (AtBlock (MatchBlock basic)) (Exists part m) ≡ option_map AtQuery (nth queries i))
        → Agree (exists_ways here part n queries) (blocks (around ++ record { basic = basic; part = part } ∷ []) queries)
    exists_lead here around basic l part n tree.none at = tt
    exists_lead here around basic l part n (tree.more query queries) at = (
      query_leads (here ++ Exists part n ∷ []) (around ++ record { basic = basic; part = part } ∷ []) query
          (leads_on here around (AtBlock (MatchBlock basic)) l (Exists part n) (AtQuery query) (at 0 n (omega arith))),
      exists_lead here around basic l part (n + 1) queries (λ i m e. at (suc i) m (omega (arith, e))),
    )

  -- statements
  statements_lead : (all : Tree (RowOf AStatement)) → Leads [] [] (AtStatements all) → (n : ℕ) (later : Tree (RowOf AStatement))
      → ((i m : ℕ) → m ≡ n + i → next (AtStatements all) (Statement m) ≡ option_map (λ s. AtQuery (asked s)) (nth later i)) → Agree (statement_ways n later) (blocks [] later)
  unfolding statement_ways blocks
  statements_lead all l n tree.none at = tt
  statements_lead all l n (tree.more (tree.View g query) later) at = (
    query_leads (Statement n ∷ []) [] query (leads_on [] [] (AtStatements all) l (Statement n) (AtQuery query) (at 0 n (omega arith))),
    statements_lead all l (n + 1) later (λ i m e. at (suc i) m (omega (arith, e))),
  )
  statements_lead all l n (tree.more (tree.Ask query) later) at = (
    query_leads (Statement n ∷ []) [] query (leads_on [] [] (AtStatements all) l (Statement n) (AtQuery query) (at 0 n (omega arith))),
    statements_lead all l (n + 1) later (λ i m e. at (suc i) m (omega (arith, e))),
  )

  -- all in turn
  pushed : {A B : Type 0} (f : A → B) (xs : List A) (x : A) → map f (xs ++ x ∷ []) ≡ map f xs ++ f x ∷ []
  pushed f [] x = refl
  pushed f (y ∷ xs) x = ap (λ rest. f y ∷ rest) (pushed f xs x)

  all_lead : (ws : Ways) (bs : Blocks) → Agree ws bs → (before : List (List Step)) (placed : List Placed) → map (follow [] (Some root)) before ≡ map Some placed
      → map (follow [] (Some root)) (with_ways before ws) ≡ map Some (with_blocks placed bs)
  all_lead way.none block.none h before placed e = e
  all_lead (way.one w) (block.one p) h before placed e =
      pushed (follow [] (Some root)) before w ∙ (ap (λ rest. rest ++ follow [] (Some root) w ∷ []) e ∙ (ap (λ o. map Some placed ++ o ∷ []) h ∙ sym (pushed Some placed p)))
  all_lead (way.both a b) (block.both c d) h before placed e = all_lead b d h.1 (with_ways before a) (with_blocks placed c) (all_lead a c h.0 before placed e)
  all_lead way.none (block.one p) h before placed e = absurd h
  all_lead way.none (block.both c d) h before placed e = absurd h
  all_lead (way.one w) block.none h before placed e = absurd h
  all_lead (way.one w) (block.both c d) h before placed e = absurd h
  all_lead (way.both a b) block.none h before placed e = absurd h
  all_lead (way.both a b) (block.one p) h before placed e = absurd h

-- the way of a number leads to the block of this number
found_at : (statements : Tree (RowOf AStatement)) (ways : List (List Step)) (all : List Placed) → map (led statements) ways ≡ map Some all
    → (n : ℕ) → led_if statements (slice_get ways n) ≡ slice_get all n
found_at statements [] [] e n = refl
found_at statements [] (p ∷ all) e n = cc
found_at statements (w ∷ ways) [] e n = cc
found_at statements (w ∷ ways) (p ∷ all) e zero = cc
found_at statements (w ∷ ways) (p ∷ all) e (suc n) = found_at statements ways all (cc) n

-- each way leads to a block, that of its number
leads_to : (statements : Tree (RowOf AStatement)) (ways : List (List Step)) (all : List Placed) → map (led statements) ways ≡ map Some all
    → (n : ℕ) (w : List Step) → slice_get ways n ≡ Some w → (p : Placed) × (led statements w ≡ Some p) × (slice_get all n ≡ Some p)
leads_to statements [] all e n w at = absurd (cc)
leads_to statements (v ∷ ways) [] e n w at = absurd (cc)
leads_to statements (v ∷ ways) (p ∷ all) e zero w at = (p, cc, refl)
leads_to statements (v ∷ ways) (p ∷ all) e (suc n) w at = leads_to statements ways all (cc) n w at

all_of_file : (statements : Tree (RowOf AStatement)) → map (led statements) (file_ways statements) ≡ map Some (file_blocks statements)
all_of_file statements =
    let root = AtStatements statements in
    let agree = statements_lead root statements (λ more. refl) 0 statements (λ i m e. let is : m ≡ i = omega (arith, e) in ap (λ j. next root (Statement j)) is) in
    all_lead root (statement_ways 0 statements) (blocks [] statements) agree [] [] refl

pub leads_at : (statements : Tree (RowOf AStatement)) (n : ℕ) (w : List Step) → slice_get (file_ways statements) n ≡ Some w
    → (p : Placed) × (led statements w ≡ Some p) × (slice_get (file_blocks statements) n ≡ Some p)
leads_at statements n w at = leads_to statements (file_ways statements) (file_blocks statements) (all_of_file statements) n w at

pub none_at : (statements : Tree (RowOf AStatement)) (n : ℕ) → slice_get (file_ways statements) n ≡ None → slice_get (file_blocks statements) n ≡ None
none_at statements n at = sym (found_at statements (file_ways statements) (file_blocks statements) (all_of_file statements) n) ∙ ap (led_if statements) at

pub count_at : (statements : Tree (RowOf AStatement)) → length (file_ways statements) ≡ length (file_blocks statements)
count_at statements =
    sym (length-map (file_ways statements) (led statements)) ∙ (ap length (all_of_file statements) ∙ length-map (file_blocks statements) Some)
