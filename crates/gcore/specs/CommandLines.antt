-- Command lines: the five forms, by cases on whole lists of words.
use Rattle.std.specs.Prelude.{◌≡◌, ℕ, Bool, true, List, [], ◌∷◌, codes, nat_eq, if◌then◌else◌, Some, None, Option, Result, Ok, Err, ⊤}
use Rattle.std.specs.Option.{option_map, option_and_then}
use Rattle.std.specs.Cmp.Lexicographic.{pointwise}
use Rattle.gc_base.specs.PropertyLists.{is_nil}
use Rattle.gcore.specs.Pairs.{named_file, pair_of, pairs_of, are_graphs, graphs_in}
use Rattle.gc_make.specs.MadeGraphs.{fits, most_size, most_start}
use Rattle.gcore.specs.MakeLines.{kind_of, number_within}
use Rattle.gcore.specs.declared.command.Command.{Command}
use Rattle.gcore.specs.declared.command.Command.TheVariants.{Run, Cert, Explain, Check, Make}
use Rattle.gcore.specs.declared.command.CommandRefusal.{CommandRefusal}
use Rattle.gcore.specs.declared.command.CommandRefusal.TheVariants.{Usage, Memory}
use Rattle.gcore.specs.declared.command.Session.{Session}
use Rattle.gc_base.specs.declared.place.MakeKind.{MakeKind}
use Rattle.gcore.specs.declared.pair.Pair.{Pair}

-- `Q N=F ..`: the query file's word, which is not empty, and the graph files
abbrev pub session_of : List (List ℕ) → Option Session
session_of [] = None
session_of (query ∷ words) = if is_nil query then None else option_map (λ graphs. record { query = query; graphs = graphs }) (graphs_in words)

-- `C`: the document's word, which is not empty
abbrev pub check_of : List (List ℕ) → Option Command
check_of (document ∷ []) = if is_nil document then None else Some (Check document)
check_of words = None

-- `KIND SIZE START`: the size is at least 1 and at most what the kind allows, and the start is at most the greatest one
abbrev pub make_within : MakeKind → List ℕ → List ℕ → Option Command
make_within kind size start = option_and_then (λ n. option_map (Make kind n) (number_within 0 most_start start)) (number_within 1 (most_size kind) size)

abbrev pub make_of_words : List ℕ → List ℕ → List ℕ → Option Command
make_of_words kind size start = option_and_then (λ k. make_within k size start) (kind_of kind)

abbrev pub make_of : List (List ℕ) → Option Command
make_of (kind ∷ size ∷ start ∷ []) = make_of_words kind size start
make_of words = None

-- whether a word is the first of a form
abbrev pub is_verb : List ℕ → List ℕ → Bool
is_verb word verb = pointwise nat_eq word verb

-- the command of a first word and the words behind it
abbrev pub form_of : List ℕ → List (List ℕ) → Option Command
form_of verb words =
    if is_verb verb (codes "run") then option_map (λ s. Run s.query s.graphs) (session_of words)
    else (if is_verb verb (codes "cert") then option_map (λ s. Cert s.query s.graphs) (session_of words)
    else (if is_verb verb (codes "explain") then option_map (λ s. Explain s.query s.graphs) (session_of words)
    else (if is_verb verb (codes "check") then check_of words
    else (if is_verb verb (codes "make") then make_of words
    else None))))

-- the command of a list of words, or none
abbrev pub command_of : List (List ℕ) → Option Command
command_of [] = None
command_of (verb ∷ words) = form_of verb words

-- a command keeps its limits: it has one to eight graph files, under names that differ, where it has any; and a graph of its size and start is made
abbrev pub KeepsLimits : Command → Type 0
KeepsLimits (Run query pairs) = are_graphs pairs ≡ true
KeepsLimits (Cert query pairs) = are_graphs pairs ≡ true
KeepsLimits (Explain query pairs) = are_graphs pairs ≡ true
KeepsLimits (Check document) = ⊤
KeepsLimits (Make kind size start) = fits kind size start ≡ true

-- what is due, or `Usage` exactly where nothing is; want of memory is free
abbrev pub Answers : {X : Type 0} → Option X → Result X CommandRefusal → Type 0
Answers due (Ok x) = due ≡ Some x
Answers due (Err Usage) = due ≡ None
Answers due (Err Memory) = ⊤

abbrev pub IsCommand : List (List ℕ) → Result Command CommandRefusal → Type 0
IsCommand words answer = Answers (command_of words) answer

abbrev pub IsForm : List ℕ → List (List ℕ) → Result Command CommandRefusal → Type 0
IsForm verb words answer = Answers (form_of verb words) answer

abbrev pub IsSession : List (List ℕ) → Result Session CommandRefusal → Type 0
IsSession words answer = Answers (session_of words) answer

abbrev pub IsCheck : List (List ℕ) → Result Command CommandRefusal → Type 0
IsCheck words answer = Answers (check_of words) answer

abbrev pub IsMake : List (List ℕ) → Result Command CommandRefusal → Type 0
IsMake words answer = Answers (make_of words) answer

abbrev pub IsMakeOf : List ℕ → List ℕ → List ℕ → Result Command CommandRefusal → Type 0
IsMakeOf kind size start answer = Answers (make_of_words kind size start) answer

abbrev pub AreGraphs : List (List ℕ) → Result (List Pair) CommandRefusal → Type 0
AreGraphs words answer = Answers (graphs_in words) answer

abbrev pub IsPair : List ℕ → Result Pair CommandRefusal → Type 0
IsPair word answer = Answers (pair_of word) answer

abbrev pub IsNamedFile : List ℕ → List ℕ → Result Pair CommandRefusal → Type 0
IsNamedFile name file answer = Answers (named_file name file) answer

abbrev pub ArePairs : List (List ℕ) → Result (List Pair) CommandRefusal → Type 0
ArePairs words answer = Answers (pairs_of words) answer
