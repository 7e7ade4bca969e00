use Rattle.std.proofs.Common.{◌≡◌, Ok, ℕ, suc, List, [], ◌∷◌, ◌++◌, map, Some, None, Option, refl, sym, subst, arith, inl, inr}
use Rattle.std.specs.Prelude.{IfSome, IsSomeAnd, Contains}
use Rattle.gc_base.specs.Files.{Files}
use Rattle.gcore.specs.Endings.{Call, Change, EndsAt, FaultsAt, IsTurnOf, IsTurnOfGraph, IsTurnOfItsQuery, IsTurnOfItsSession, HasQuery, HasSession, MayStop, StopsFor, graphs_of, graph_files, named_files}
use Rattle.gcore.specs.GraphSteps.{IsHeldStop}
use Rattle.gcore.specs.Outcomes.{Certifies, Checks, Explains, Runs, Task, outcome}
use Rattle.gcore.specs.declared.command.Command.{Command}
use Rattle.gcore.specs.declared.command.Command.TheVariants.{Run, Cert, Explain, Check, Make}
use Rattle.gcore.specs.declared.pair.Pair.{Pair}
use Rattle.gcore.specs.declared.stop.Stop.{Stop}
use Rattle.gcore.specs.declared.stop.Stop.TheVariants.{Usage, Unread, TooLarge, Refused, Text, Sorts, Certificate, Rejected, Faulted, Unwritten, OutOfMemory}
use Rattle.gcore.proofs.top.gcore.Goals as goal

abbrev files_of : List Pair → List (List ℕ)
files_of pairs = map (λ (p : Pair). p.file) pairs

has_file : (before : List Pair) (p : Pair) (after : List Pair) → Contains (files_of (before ++ p ∷ after)) p.file
has_file [] p after = (0, omega arith, refl)
has_file (q ∷ before) p after = let rest = has_file before p after in (suc rest.0, omega (arith, rest.1), rest.2)

-- a graph file whose turn came is one of the graph files
is_graph_file : (told : Option Files) (pairs : List Pair) (file : List ℕ) → IsTurnOfGraph told pairs file → Contains (files_of pairs) file
is_graph_file told pairs file h =
    let there = has_file h.0 h.1 h.2 in
    subst (λ ps. Contains (files_of ps) file) (sym h.3) (subst (Contains (files_of (h.0 ++ h.1 ∷ h.2))) (sym h.4) there)

one_more : (xs : List (List ℕ)) (x y : List ℕ) → Contains xs x → Contains (y ∷ xs) x
one_more xs x y h = (suc h.0, omega (arith, h.1), h.2)

-- a file whose turn came is one that the command reads
is_named : (command : Option Command) (told : Option Files) (file : List ℕ) → IsSomeAnd command (λ c. IsTurnOf told c file) → Contains (named_files command) file
is_named None told file h = absurd h
is_named (Some (Run query pairs)) told file (inl turn) = one_more (files_of pairs) file query (is_graph_file told pairs file turn)
is_named (Some (Run query pairs)) told file (inr turn) = (0, omega arith, sym turn.0)
is_named (Some (Cert query pairs)) told file (inl turn) = one_more (files_of pairs) file query (is_graph_file told pairs file turn)
is_named (Some (Cert query pairs)) told file (inr turn) = (0, omega arith, sym turn.0)
is_named (Some (Explain query pairs)) told file (inl turn) = one_more (files_of pairs) file query (is_graph_file told pairs file turn)
is_named (Some (Explain query pairs)) told file (inr turn) = (0, omega arith, sym turn.0)
is_named (Some (Check document)) told file h = (0, omega arith, sym h)
is_named (Some (Make kind size start)) told file h = absurd h

is_named_graph : (command : Option Command) (told : Option Files) (file : List ℕ) → IsSomeAnd command (λ c. IsTurnOfGraph told (graphs_of c) file) → Contains (graph_files command) file
is_named_graph None told file h = absurd h
is_named_graph (Some command) told file h = is_graph_file told (graphs_of command) file h

has_query : (command : Option Command) (told : Option Files) → IsSomeAnd command (λ c. IsTurnOfItsQuery told c) → IsSomeAnd command HasQuery
has_query None told h = absurd h
has_query (Some (Run query pairs)) told h = tt
has_query (Some (Cert query pairs)) told h = tt
has_query (Some (Explain query pairs)) told h = tt
has_query (Some (Check document)) told h = absurd h
has_query (Some (Make kind size start)) told h = absurd h

has_session : (command : Option Command) (told : Option Files) → IsSomeAnd command (λ c. IsTurnOfItsSession told c) → IsSomeAnd command HasSession
has_session None told h = absurd h
has_session (Some (Run query pairs)) told h = tt
has_session (Some (Cert query pairs)) told h = tt
has_session (Some (Explain query pairs)) told h = tt
has_session (Some (Check document)) told h = absurd h
has_session (Some (Make kind size start)) told h = tt

-- what is due at a fault
ends_by : (told : Files) (command : Option Command) (out : Change) (stop : Stop) (task : Task) → outcome command told ≡ Ok task → FaultsAt task out stop → EndsAt (Some told) command stop
ends_by told command out stop (Runs r) due h = (Runs r, r, h.0, h.1, due, refl, h.2, h.3)
ends_by told command out stop (Explains r) due h = (Explains r, r, h.0, h.1, due, refl, h.2, h.3)
ends_by told command out stop (Certifies r) due h = (Certifies r, r, h.0, h.1, due, refl, h.2, h.3)
ends_by told command out stop (Checks bytes) due h = absurd h

ends : (told : Option Files) (command : Option Command) (out : Change) (stop : Stop)
    → IfSome told (λ files. (task : Task) × (outcome command files ≡ Ok task) × FaultsAt task out stop) → EndsAt told command stop
ends None command out stop h = tt
ends (Some files) command out stop h = ends_by files command out stop h.0 h.1 h.2

may_stop : (call : Call) (stop : Stop) → IsHeldStop stop → StopsFor call stop → MayStop call.files call.command stop
may_stop call Usage held h = tt
may_stop call (Unread file) held h = is_named call.command call.files file h.0
may_stop call (TooLarge file) held h = is_named call.command call.files file h.0
may_stop call (Refused refusal file) held h = (is_named_graph call.command call.files file h.0, held)
may_stop call (Text refusal) held h = (has_query call.command call.files h.0, held)
may_stop call (Sorts rule place) held h = (has_query call.command call.files h.0, held)
may_stop call (Certificate refusal) held h = (h.0, held)
may_stop call (Rejected search rule) held h = (h.0, held)
may_stop call (Faulted fault) held h = (has_session call.command call.files h.0, held, ends call.files call.command call.out (Faulted fault) h.1)
may_stop call Unwritten held h = tt
may_stop call OutOfMemory held h = tt

pub tell-requires : goal.tell-requires
tell-requires g c = λ x room. c.requires.err_room x room c.in-Err.stop (may_stop _ c.in-Err.stop c.known.ensures c.in-Err.ensures.outcome)
