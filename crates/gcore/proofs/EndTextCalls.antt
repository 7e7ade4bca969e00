-- How a call ends that writes a text at the end of its session, as `explain` and `cert` do.
use Rattle.std.proofs.Common.{◌≡◌, ℕ, ◌≤◌, List, [], ◌∷◌, map, length, Option, None, Some, Result, Ok, Err, refl, sym, ap, ◌∙◌, subst, inl, inr}
use Rattle.std.specs.Option.{ForSome}
use Rattle.std.specs.Prelude.{IfSome, IsSomeAnd}
use Rattle.gc_ast.specs.Trees.{Tree, AStatement}
use Rattle.gc_base.specs.Files.{Files}
use Rattle.gc_base.specs.declared.place.Place.{Place}
use Rattle.gc_lex.specs.Lexis.{TokenList, lexed}
use Rattle.gc_lex.specs.declared.refusal.LexRefusal.{LexRefusal}
use Rattle.gc_lower.specs.Namings.{QueryFile}
use Rattle.gc_parse.specs.declared.refusal.ParseRefusal.{ParseRefusal}
use Rattle.gc_sorts.specs.SortRules.{first_breach}
use Rattle.gc_sorts.specs.declared.breach.Breach.{Breach}
use Rattle.gc_spec.specs.PropertyGraph.{PropertyGraph}
use Rattle.gcore.specs.Certifications.{IsCertifiedOver}
use Rattle.gcore.specs.EndTexts.{HoldsAtEnd, WritesAtEnd}
use Rattle.gcore.specs.Endings.{Answers, Change, ComesTo, EndsSilently, FaultsAt, HoldsText, IsTurnOfItsSession, IsTurnOfQuery, MayBegin}
use Rattle.gcore.specs.EvaluatedSessions.{given_names}
use Rattle.gcore.specs.Explanations.{IsExplainedOver}
use Rattle.gcore.specs.GraphSteps.{name_given}
use Rattle.gcore.specs.Outcomes.{Certifies, Explains, Request, Task, graph_names, graphs_due, outcome, query_file_due, then_due}
use Rattle.gcore.specs.QueryFiles.{PlacedFile, query_file_at, query_file_in, query_file_of, unless_broken}
use Rattle.gcore.specs.declared.command.Command.{Command}
use Rattle.gcore.specs.declared.command.Command.TheVariants.{Cert, Explain}
use Rattle.gcore.specs.declared.pair.Pair.{Pair}
use Rattle.gcore.specs.declared.stop.Stop.{Stop}
use Rattle.gcore.specs.declared.stop.Stop.TheVariants.{Usage, Unread, TooLarge, Refused, Text, Sorts, Certificate, Rejected, Faulted, Unwritten, OutOfMemory}
use Rattle.gcore.proofs.RunLaws.{IsOverFiles, asked, is_cert, is_explain, over, turn}

abbrev File-due : Type 0
File-due = Result PlacedFile Stop

abbrev file_is : PlacedFile → File-due
file_is a = Ok a

some_file : (a b : PlacedFile) → file_is a ≡ Ok b → a ≡ b
some_file a b h = cc

-- a query file stands over the graphs whose names are given
module _ (graphs : List (List ℕ)) (file : PlacedFile) where
  unbroken : (places : List Place) (f : QueryFile) (breach : Option Breach) → unless_broken places f breach ≡ Ok file → f.graphs ≡ graphs → file.file.graphs ≡ graphs
  unbroken places f None h e = ap (λ (p : PlacedFile). p.file.graphs) (sym (some_file (record { file = f; places = places }) file h)) ∙ e
  unbroken places f (Some breach) h e = cc

  parsed_over : (names : List (List ℕ)) (places : List Place) (r : Result (List (Tree AStatement)) ParseRefusal) → query_file_at graphs names places r ≡ Ok file → file.file.graphs ≡ graphs
  parsed_over names places (Ok statements) h = unbroken places _ _ h refl
  parsed_over names places (Err refusal) h = cc

  read_in : (r : Result TokenList LexRefusal) → query_file_in graphs r ≡ Ok file → file.file.graphs ≡ graphs
  read_in (Ok list) h = parsed_over _ list.places _ h
  read_in (Err refusal) h = cc

  by_bytes : (d : Result (List ℕ) Stop) → then_due d (query_file_of graphs) ≡ Ok file → file.file.graphs ≡ graphs
  by_bytes (Ok bytes) h = read_in (lexed bytes) h
  by_bytes (Err stop) h = cc

  pub stands_over : (files : Files) (name : List ℕ) → query_file_due graphs files name ≡ Ok file → file.file.graphs ≡ graphs
  stands_over files name h = by_bytes _ h

names_given : (pairs : List Pair) → map name_given pairs ≡ map Some (graph_names pairs)
names_given [] = refl
names_given (pair ∷ pairs) = ap (λ ns. Some pair.name ∷ ns) (names_given pairs)

-- a command over files writes such a text at the end of its session, and nothing where this has a fault
pub record WritesItsText (query : List ℕ) (pairs : List Pair) (command : Command) (task : Request → Task) (IsTextOver : List (Option (List ℕ)) → Request → List ℕ → Type 0) : Type 0 where
  pub is_over : IsOverFiles query pairs command task
  pub its_session : (told : Option Files) → IsTurnOfQuery told query pairs query → IsTurnOfItsSession told command
  pub begins : (r : Request) (text : List ℕ) → IsTextOver (given_names r) r text → MayBegin (task r) text
  pub comes : (r : Request) (text : List ℕ) → IsTextOver (given_names r) r text → ComesTo (task r) text
  pub faults : (r : Request) (out : Change) (stop : Stop) → EndsSilently r out stop → FaultsAt (task r) out stop

pub explain_writes : (query : List ℕ) (pairs : List Pair) → WritesItsText query pairs (Explain query pairs) Explains IsExplainedOver
explain_writes query pairs =
    record { is_over = is_explain query pairs; its_session = λ told h. h; begins = λ r text h. h; comes = λ r text h. h; faults = λ r out stop h. h }

pub cert_writes : (query : List ℕ) (pairs : List Pair) → WritesItsText query pairs (Cert query pairs) Certifies IsCertifiedOver
cert_writes query pairs = record { is_over = is_cert query pairs; its_session = λ told h. h; begins = λ r text h. h; comes = λ r text h. h; faults = λ r out stop h. h }

module _ (query : List ℕ) (pairs : List Pair) (command : Command) (task : Request → Task) (IsTextOver : List (Option (List ℕ)) → Request → List ℕ → Type 0)
    (is : WritesItsText query pairs command task IsTextOver) (names : List (Option (List ℕ))) (named : names ≡ map name_given pairs) where
  abbrev request : List PropertyGraph → PlacedFile → Request
  request gs file = over query pairs command task is.is_over gs file

  -- a text over the names of the pairs is one over those that are given
  given : (files : Files) (gs : List PropertyGraph) (file : PlacedFile) → query_file_due (graph_names pairs) files query ≡ Ok file → (text : List ℕ) → IsTextOver names (request gs file) text
      → IsTextOver (given_names (request gs file)) (request gs file) text
  given files gs file read text h =
      let same : names ≡ map Some file.file.graphs = named ∙ (names_given pairs ∙ ap (map Some) (sym (stands_over (graph_names pairs) file files query read))) in
      subst (λ ns. IsTextOver ns (request gs file) text) same h

  module _ (told : Option Files) (gs : List PropertyGraph) (file : PlacedFile) (graphs : IfSome told (λ files. graphs_due files [] pairs ≡ Ok gs))
      (read : IfSome told (λ files. query_file_due (graph_names pairs) files query ≡ Ok file)) where
    -- a told room holds the text
    pub text_room : (room : Option ℕ) → HoldsText room told (Some command) → HoldsAtEnd room (IsTextOver names (request gs file))
    text_room room h = λ x here text e. within told x (h x here) graphs read text e
      where
        within : (o : Option Files) (x : ℕ) → IsSomeAnd o (λ files. (task : Task) (text : List ℕ) → outcome (Some command) files ≡ Ok task → MayBegin task text → length text ≤ x)
            → IfSome o (λ files. graphs_due files [] pairs ≡ Ok gs) → IfSome o (λ files. query_file_due (graph_names pairs) files query ≡ Ok file)
            → (text : List ℕ) → IsTextOver names (request gs file) text → length text ≤ x
        within None x holds g r text e = absurd holds
        within (Some files) x holds g r text e =
            holds (task (request gs file)) text (asked query pairs command task is.is_over (Some files) gs file g r) (is.begins (request gs file) text (given files gs file r text e))

    -- what a call does that has read its graphs and its query file, and wrote the text at the end of the session
    module _ (before after : ℕ) (out : Change) where
      abbrev Answered : Option Files → Result (Unit {0}) Stop → Type 0
      Answered o result = Answers (record { command = Some command; files = o; faults_before = before; faults_after = after; out = out }) result

      by : (o : Option Files) → IfSome o (λ files. graphs_due files [] pairs ≡ Ok gs) → IfSome o (λ files. query_file_due (graph_names pairs) files query ≡ Ok file)
          → (result : Result (Unit {0}) Stop) → WritesAtEnd (IsTextOver names (request gs file)) (request gs file) out result → Answered o result
      by None g r (Ok done) w = (refl, tt)
      by (Some files) g r (Ok done) w =
          (refl, (task (request gs file), w.0, asked query pairs command task is.is_over (Some files) gs file g r, is.comes (request gs file) w.0 (given files gs file r w.0 w.1), w.2))
      by None g r (Err (Faulted fault)) w = (is.its_session None (refl, tt), tt)
      by (Some files) g r (Err (Faulted fault)) w = (
        is.its_session (Some files) (refl, turn query pairs command task is.is_over (Some files) gs g),
        (task (request gs file), asked query pairs command task is.is_over (Some files) gs file g r, is.faults (request gs file) out (Faulted fault) w),
      )
      by None g r (Err Unwritten) w = (refl, w.2, tt)
      by (Some files) g r (Err Unwritten) w = (
        refl,
        w.2,
        inr (task (request gs file), w.0, asked query pairs command task is.is_over (Some files) gs file g r, is.begins (request gs file) w.0 (given files gs file r w.0 w.1), w.3),
      )
      by None g r (Err OutOfMemory) w = tt
      by (Some files) g r (Err OutOfMemory) w = inl w
      by o g r (Err Usage) w = absurd w
      by o g r (Err (Unread name)) w = absurd w
      by o g r (Err (TooLarge name)) w = absurd w
      by o g r (Err (Refused refusal name)) w = absurd w
      by o g r (Err (Text refusal)) w = absurd w
      by o g r (Err (Sorts rule place)) w = absurd w
      by o g r (Err (Certificate refusal)) w = absurd w
      by o g r (Err (Rejected search rule)) w = absurd w

      pub answers : (result : Result (Unit {0}) Stop) → WritesAtEnd (IsTextOver names (request gs file)) (request gs file) out result → Answered told result
      answers result w = by told graphs read result w
