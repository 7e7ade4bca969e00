-- How the statements of a session, run one after another, come to what the whole session is.
use Rattle.std.proofs.Common.{◌≡◌, ℕ, zero, suc, ◌+◌, ◌-◌, ◌<◌, ◌≤◌, List, [], ◌∷◌, ◌++◌, length, drop, append-nil, append_assoc, Option, Some, None, Result, Ok, Err, refl, sym, ap, ◌∙◌, subst, arith, inl, inr, slice_get}
use Rattle.std.specs.Prelude.{◌⊎◌}
use Rattle.std.specs.Result.{IsErr, IsErrAnd}
use Rattle.std.proofs.lemmas.List.{length-append}
use Rattle.std.specs.List.{flat_map}
use Rattle.std.specs.Option.{option_map, ForSome}
use Rattle.std.specs.Io.KnownBytes.{append_known}
use Rattle.gc_ast.specs.Trees.{Tree, AStatement}
use Rattle.gc_base.specs.Faults.{Rose}
use Rattle.gc_base.specs.Sinks.{room_after}
use Rattle.gc_base.specs.declared.place.Place.{Place}
use Rattle.gc_lower.specs.Scopes.{Scope}
use Rattle.gc_lower.specs.Namings.{scope_in}
use Rattle.gc_query.specs.Sessions.{Answer, Answers, Session, Begins, Goes, GoesOn, behind, printed_by}
use Rattle.gc_query.specs.Sessions as says
use Rattle.gc_query.specs.Standings.{Standing, Made}
use Rattle.gc_query.specs.declared.fault.Fault.{Fault}
use Rattle.gc_spec.specs.PropertyGraph.{PropertyGraph}
use Rattle.gcore.specs.Endings.{Change, EndsAtFault, Failed, Gains, GainsNothing, GainsPrefix, HoldsTexts, RunsSession, WritesBeginning, stop_of_fault}
use Rattle.gcore.specs.Outcomes.{Prints, PrintsFirst, Request, beginning, printed, texts}
use Rattle.gcore.specs.QueryFiles.{PlacedFile}
use Rattle.gcore.specs.SessionSteps.{GoesWell, HoldsPrinted, IsAtFault, IsCut, IsPrinted, RunsStatement, RunsStatementAt, Turn}
use Rattle.gcore.specs.declared.stop.Stop.{Stop}
use Rattle.gcore.specs.declared.stop.Stop.TheVariants.{Usage, Unread, TooLarge, Refused, Text, Sorts, Certificate, Rejected, Faulted, Unwritten, OutOfMemory}
use Rattle.gcore.specs.declared.style.Style.{Style}

-- texts behind texts
texts_more : (style : Style) (xs ys : List PropertyGraph) → texts style (xs ++ ys) ≡ texts style xs ++ texts style ys
texts_more style [] ys = refl
texts_more style (x ∷ xs) ys = ap (λ rest. printed style x ++ rest) (texts_more style xs ys) ∙ sym (append_assoc (printed style x) (texts style xs) (texts style ys))

-- what is gained in two goes
known_more : (taken : Option (List ℕ)) (xs ys : List ℕ) → append_known (append_known taken xs) ys ≡ append_known taken (xs ++ ys)
known_more None xs ys = refl
known_more (Some zs) xs ys = ap Some (append_assoc zs xs ys)

pub known_nothing : (taken : Option (List ℕ)) → append_known taken [] ≡ taken
known_nothing None = refl
known_nothing (Some zs) = ap Some (append-nil zs)

-- a told room behind nothing
pub same_room : (room : Option ℕ) → room ≡ room_after room 0
same_room None = refl
same_room (Some n) = let e : n ≡ n - 0 = omega arith in ap Some e

-- the item at a place, with those behind it
pub drop_at : {X : Type 0} (xs : List X) (i : ℕ) (x : X) → slice_get xs i ≡ Some x → drop i xs ≡ x ∷ drop (suc i) xs
drop_at [] zero x h = cc
drop_at [] (suc i) x h = cc
drop_at (y ∷ ys) zero x h = let e : y ≡ x = cc in ap (λ z. z ∷ ys) e
drop_at (y ∷ ys) (suc i) x h = drop_at ys i x h

module _ (r : Request) where
  abbrev scope : Scope
  scope = scope_in r.query.file 0

  abbrev statements : List (Tree AStatement)
  statements = r.query.file.statements

  -- so far the statements before a place have printed these graphs, and what the others print goes behind them
  pub record IsSoFar (i : ℕ) (at : Standing) (graphs : List PropertyGraph) : Type 0 where
    pub leads : (later : List PropertyGraph) (end : Option Fault) → Session scope at (drop i statements) later end → Prints r (graphs ++ later) end
    pub begins : (later : List PropertyGraph) → Begins scope at (drop i statements) later → PrintsFirst r (graphs ++ later)

  -- nothing is printed at first
  pub at_first : IsSoFar 0 (beginning r.graphs) []
  at_first = record { leads = λ later end h. h; begins = λ later h. h }

  -- a statement goes before those behind it
  goes_before : (at : Standing) (statement : Tree AStatement) (behind_it : List (Tree AStatement)) (answer : Answer) (later : List PropertyGraph) (end : Option Fault)
      → Answers scope at statement answer → GoesWell answer → Session scope (behind at answer) behind_it later end
      → Session scope at (statement ∷ behind_it) (printed_by answer ++ later) end
  unfolding Session
  goes_before at statement behind_it (says.Prints made) later end due well h = (says.Prints made, due, (later, refl, h))
  goes_before at statement behind_it (says.Names made) later end due well h = (says.Names made, due, h)
  goes_before at statement behind_it (says.Fails fault) later end due well h = absurd well

  begins_before : (at : Standing) (statement : Tree AStatement) (behind_it : List (Tree AStatement)) (answer : Answer) (later : List PropertyGraph)
      → Answers scope at statement answer → GoesWell answer → Begins scope (behind at answer) behind_it later
      → Begins scope at (statement ∷ behind_it) (printed_by answer ++ later)
  unfolding Begins
  begins_before at statement behind_it (says.Prints made) later due well h = inr (says.Prints made, due, (later, refl, h))
  begins_before at statement behind_it (says.Names made) later due well h = inr (says.Names made, due, h)
  begins_before at statement behind_it (says.Fails fault) later due well h = absurd well

  ends_before : (at : Standing) (statement : Tree AStatement) (behind_it : List (Tree AStatement)) (fault : Fault)
      → Answers scope at statement (says.Fails fault) → Session scope at (statement ∷ behind_it) [] (Some fault)
  unfolding Session
  ends_before at statement behind_it fault due = (says.Fails fault, due, (refl, refl))

  nothing_begins : (at : Standing) (sts : List (Tree AStatement)) → Begins scope at sts []
  unfolding Begins
  nothing_begins at [] = refl
  nothing_begins at (statement ∷ later) = inl refl

  -- where memory is wanting before the first statement, nothing was written
  pub wants_at_first : (faults : ℕ) (taken : Option (List ℕ)) → RunsSession r (record { faults_before = faults; faults_after = faults; taken_before = taken; taken_after = taken }) (Err OutOfMemory)
  wants_at_first faults taken = ([], nothing_begins (beginning r.graphs) statements, ([], [], refl, sym (known_nothing taken)))

  none_left : (at : Standing) (end : Option Fault) → end ≡ None → Session scope at [] [] end
  unfolding Session
  none_left at end h = (refl, h)

  module _ (i : ℕ) (at : Standing) (graphs : List PropertyGraph) (far : IsSoFar i at graphs) where
    -- what was printed so far is a beginning
    pub so_far_begins : PrintsFirst r graphs
    so_far_begins = subst (PrintsFirst r) (append-nil graphs) (far.begins [] (nothing_begins at (drop i statements)))

    module _ (statement : Tree AStatement) (there : slice_get statements i ≡ Some statement) where
      -- one statement more without a fault
      pub one_more : (answer : Answer) → Answers scope at statement answer → GoesWell answer → IsSoFar (suc i) (behind at answer) (graphs ++ printed_by answer)
      one_more answer due well =
          record {
            leads = λ later end h. subst (λ gs. Prints r gs end) (sym (append_assoc graphs (printed_by answer) later))
                (far.leads (printed_by answer ++ later) end (subst (λ sts. Session scope at sts (printed_by answer ++ later) end) (sym (drop_at statements i statement there)) (goes_before at statement (drop (suc i) statements) answer later end due well h)));
            begins = λ later h. subst (PrintsFirst r) (sym (append_assoc graphs (printed_by answer) later))
                (far.begins (printed_by answer ++ later) (subst (λ sts. Begins scope at sts (printed_by answer ++ later)) (sym (drop_at statements i statement there)) (begins_before at statement (drop (suc i) statements) answer later due well h)));
          }

      -- what it prints goes behind what was printed
      pub one_more_begins : (answer : Answer) → Answers scope at statement answer → GoesWell answer → PrintsFirst r (graphs ++ printed_by answer)
      one_more_begins answer due well =
          let next = one_more answer due well in
          subst (PrintsFirst r) (append-nil (graphs ++ printed_by answer)) (next.begins [] (nothing_begins (behind at answer) (drop (suc i) statements)))

      -- a fault ends all
      pub ends : (fault : Fault) → Answers scope at statement (says.Fails fault) → Prints r graphs (Some fault)
      ends fault due =
          subst (λ gs. Prints r gs (Some fault)) (append-nil graphs)
          (far.leads [] (Some fault) (subst (λ sts. Session scope at sts [] (Some fault)) (sym (drop_at statements i statement there)) (ends_before at statement (drop (suc i) statements) fault due)))

    -- behind the last statement the session is done
    pub all_done : drop i statements ≡ [] → Prints r graphs None
    all_done over =
        subst (λ gs. Prints r gs None) (append-nil graphs) (far.leads [] None (subst (λ sts. Session scope at sts [] None) (sym over) (none_left at None refl)))

  -- what was written of a session so far
  pub record IsWritten (i : ℕ) (at : Standing) (out : Change) (room_before room_later : Option ℕ) : Type 0 where
    pub graphs : List PropertyGraph
    pub so_far : IsSoFar i at graphs
    pub told : Gains out (texts r.style graphs)
    pub room : room_later ≡ room_after room_before (length (texts r.style graphs))
    pub calm : out.faults_before ≤ out.faults_after

  -- nothing was
  pub not_yet : (faults : ℕ) (taken : Option (List ℕ)) (room : Option ℕ)
      → IsWritten 0 (beginning r.graphs) (record { faults_before = faults; faults_after = faults; taken_before = taken; taken_after = taken }) room room
  not_yet faults taken room =
      record { graphs = []; so_far = at_first; told = sym (known_nothing taken); room = same_room room; calm = omega arith }

  -- a change of the output, and then another
  abbrev joined_changes : Change → Change → Change
  joined_changes a b = record { faults_before = a.faults_before; faults_after = b.faults_after; taken_before = a.taken_before; taken_after = b.taken_after }

  module _ (i : ℕ) (places : List Place) (out now : Change) (room_before room_middle room_later : Option ℕ) (at after : Standing) (far : IsWritten i at out room_before room_middle)
      (taken : out.taken_after ≡ now.taken_before) (faults : out.faults_after ≡ now.faults_before) (statement : Tree AStatement) (there : slice_get statements i ≡ Some statement) where
    abbrev turn : Turn
    turn = record { style = r.style; before = at; after = after; out = now; room_before = room_middle; room_later = room_later }

    gained_both : (graphs : List PropertyGraph) (text : List ℕ) → Gains out (texts r.style graphs) → Gains now text → Gains (joined_changes out now) (texts r.style graphs ++ text)
    gained_both graphs text a b = b ∙ (ap (λ t. append_known t text) (sym taken ∙ a) ∙ known_more out.taken_before (texts r.style graphs) text)

    -- the told room behind both
    room_both : (o : Option ℕ) (a b : ℕ) → room_after (room_after o a) b ≡ room_after o (a + b)
    room_both None a b = refl
    room_both (Some n) a b = let e : (n - a) - b ≡ n - (a + b) = omega arith in ap Some e

    -- one statement more is written
    pub written_more : IsPrinted scope turn statement → IsWritten (suc i) after (joined_changes out now) room_before room_later
    written_more p =
        let all : texts r.style (far.graphs ++ printed_by p.answer) ≡ texts r.style far.graphs ++ texts r.style (printed_by p.answer) = texts_more r.style far.graphs (printed_by p.answer) in
        record {
          graphs = far.graphs ++ printed_by p.answer;
          so_far = subst (λ s. IsSoFar (suc i) s (far.graphs ++ printed_by p.answer)) (sym p.stands) (one_more i at far.graphs far.so_far statement there p.answer p.due p.well);
          told = subst (Gains (joined_changes out now)) (sym all) (gained_both far.graphs (texts r.style (printed_by p.answer)) far.told p.written);
          room = p.room ∙ (ap (λ o. room_after o (length (texts r.style (printed_by p.answer)))) far.room
              ∙ (room_both room_before (length (texts r.style far.graphs)) (length (texts r.style (printed_by p.answer)))
              ∙ ap (room_after room_before) (sym (length-append (texts r.style far.graphs) (texts r.style (printed_by p.answer))) ∙ ap length (sym all))));
          calm = omega (arith, far.calm, p.calm, faults);
        }

    -- the beginning of a text behind what was written
    prefix_more : (text : List ℕ) → GainsPrefix now text → GainsPrefix (joined_changes out now) (texts r.style far.graphs ++ text)
    prefix_more text p =
        (texts r.style far.graphs ++ p.0, p.1, append_assoc (texts r.style far.graphs) p.0 p.1 ∙ ap (λ t. texts r.style far.graphs ++ t) p.2, gained_both far.graphs p.0 far.told p.3)

    cut : IsCut scope turn statement → RunsSession r (joined_changes out now) (Err Unwritten)
    cut c =
        let graphs = far.graphs ++ printed_by (says.Prints c.made) in (
          rises c.failed,
          (
            graphs,
            one_more_begins i at far.graphs far.so_far statement there (says.Prints c.made) c.due tt,
            subst (GainsPrefix (joined_changes out now)) (sym (texts_more r.style far.graphs (printed_by (says.Prints c.made)))) (prefix_more (texts r.style (printed_by (says.Prints c.made))) c.begun),
          ),
        )
      where
        rises : Failed now → Failed (joined_changes out now)
        rises h = omega (arith, h, far.calm, faults)

    still : GainsNothing now → Gains (joined_changes out now) (texts r.style far.graphs)
    still h = h ∙ (sym taken ∙ far.told)

    at_fault : (stop : Stop) → IsAtFault scope r.query.places turn statement stop → EndsAtFault r (joined_changes out now) stop
    at_fault stop f = (far.graphs, f.fault, ends i at far.graphs far.so_far statement there f.fault f.due, f.told, still f.nothing)

    wanting : GainsNothing now → WritesBeginning r (joined_changes out now)
    wanting h = (far.graphs, so_far_begins i at far.graphs far.so_far, (texts r.style far.graphs, [], append-nil (texts r.style far.graphs), still h))

    -- a statement that stops the session
    pub stops : (stop : Stop) → RunsStatement scope r.query.places turn statement (Err stop) → RunsSession r (joined_changes out now) (Err stop)
    stops Unwritten h = cut h
    stops OutOfMemory h = wanting h
    stops (Faulted fault) h = at_fault (Faulted fault) h
    stops Usage h = absurd h
    stops (Unread file) h = absurd h
    stops (TooLarge file) h = absurd h
    stops (Refused refusal file) h = absurd h
    stops (Text refusal) h = absurd h
    stops (Sorts rule place) h = absurd h
    stops (Certificate refusal) h = absurd h
    stops (Rejected search rule) h = absurd h

  -- a told room that holds the texts of the session holds that of the next statement
  pub room_for : (i : ℕ) (at : Standing) (out : Change) (room_before room_later : Option ℕ) → HoldsTexts room_before r → IsWritten i at out room_before room_later
      → HoldsPrinted room_later r.style scope at statements i
  room_for i at out room_before room_later holds far = λ most here statement made there due. within room_before most holds (sym far.room ∙ here) statement made there due
    where
      within : (o : Option ℕ) (most : ℕ) → HoldsTexts o r → room_after o (length (texts r.style far.graphs)) ≡ Some most → (statement : Tree AStatement) (made : Made)
          → slice_get statements i ≡ Some statement → Answers scope at statement (says.Prints made) → length (texts r.style (printed_by (says.Prints made))) ≤ most
      within None most h e statement made there due = cc
      within (Some n) most h e statement made there due =
          let graphs = far.graphs ++ printed_by (says.Prints made) in
          let all = h n refl graphs (one_more_begins i at far.graphs far.so_far statement there (says.Prints made) due tt) in
          let split : length (texts r.style graphs) ≡ length (texts r.style far.graphs) + length (texts r.style (printed_by (says.Prints made))) = ap length (texts_more r.style far.graphs (printed_by (says.Prints made))) ∙ length-append (texts r.style far.graphs) (texts r.style (printed_by (says.Prints made))) in
          let left : n - length (texts r.style far.graphs) ≡ most = cc in
          omega (arith, all, split, left)

  -- where no statement is left, the session is done
  pub done : (i : ℕ) (at : Standing) (out : Change) (room_before room_later : Option ℕ) → length statements ≤ i → IsWritten i at out room_before room_later → RunsSession r out (Ok tt)
  done i at out room_before room_later over far = (far.graphs, all_done i at far.graphs far.so_far (none statements i over), far.told)
    where
      none : {X : Type 0} (xs : List X) (n : ℕ) → length xs ≤ n → drop n xs ≡ []
      none [] zero h = refl
      none [] (suc n) h = refl
      none (x ∷ xs) zero h = absurd (omega (arith, h))
      none (x ∷ xs) (suc n) h = none xs n (omega (arith, h))

-- what a session that stops comes to
pub session_stops : (r : Request) (out : Change) (result : Result (Unit {0}) Stop) (stop : Stop) → IsErr result → IsErrAnd result (λ refusal. refusal ≡ stop) → RunsSession r out (Err stop) → RunsSession r out result
session_stops r out (Ok done) stop err same h = absurd same
session_stops r out (Err refusal) stop err same h = subst (λ x. RunsSession r out (Err x)) (sym same) h
