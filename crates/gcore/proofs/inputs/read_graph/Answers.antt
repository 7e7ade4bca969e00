use Rattle.std.proofs.Common.{◌≡◌, ℕ, List, Option, None, Some, Result, Ok, Err, ap, ◌∙◌, subst, IfSome}
use Rattle.gc_base.specs.Files.{Files}
use Rattle.gc_spec.specs.PropertyGraph.{PropertyGraph}
use Rattle.gc_json.specs.FileElements.{Seen}
use Rattle.gc_json.specs.GraphFiles.{file_graph}
use Rattle.gc_json.specs.declared.refusal.GraphRefusal.{GraphRefusal}
use Rattle.gcore.specs.Outcomes.{accepted, then_due, file_due, graph_due, graph_limit}
use Rattle.gcore.specs.Steps.{Accepts, ReadsGraph}
use Rattle.gcore.specs.declared.stop.Stop.{Stop}
use Rattle.gcore.specs.declared.stop.Stop.TheVariants.{Usage, Unread, TooLarge, Refused, Text, Sorts, Certificate, Rejected, Faulted, Unwritten, OutOfMemory}
use Rattle.gcore.proofs.inputs.read_graph.Goals as goal

-- a file that was read, and what is due of its bytes
due_of : (files : Files) (seen : Seen) (name bytes : List ℕ) (r : Result PropertyGraph Stop) → file_due files name graph_limit ≡ Ok bytes → accepted name (file_graph seen bytes) ≡ r → graph_due files seen name ≡ r
due_of files seen name bytes r f h = ap (λ d. then_due d (λ bs. accepted name (file_graph seen bs))) f ∙ h

-- a graph file stops a call with the rule that it breaks, and with nothing else
same_file : (name : List ℕ) (due : Result PropertyGraph GraphRefusal) (refusal : GraphRefusal) (file : List ℕ) → accepted name due ≡ Err (Refused refusal file) → file ≡ name
same_file name (Ok g) refusal file h = absurd (cc)
same_file name (Err r) refusal file h = cc

never : (name : List ℕ) (due : Result PropertyGraph GraphRefusal) (stop : Stop) → ((refusal : GraphRefusal) → Refused refusal name ≡ stop → ⊥) → accepted name due ≡ Err stop → ⊥
never name (Ok g) stop other h = cc
never name (Err refusal) stop other h = other refusal (cc)

read_accepted : (seen : Seen) (told : Option Files) (before after : ℕ) (name bytes : List ℕ) (r : Result PropertyGraph Stop) → IfSome told (λ files. file_due files name graph_limit ≡ Ok bytes)
    → Accepts (accepted name (file_graph seen bytes)) r → ReadsGraph (record { files = told; faults_before = before; faults_after = after }) name (λ files. graph_due files seen name) r
read_accepted seen None before after name bytes (Ok g) f h = tt
read_accepted seen (Some files) before after name bytes (Ok g) f h = due_of files seen name bytes (Ok g) f h
read_accepted seen None before after name bytes (Err (Refused refusal file)) f h = (same_file name (file_graph seen bytes) refusal file h, tt)
read_accepted seen (Some files) before after name bytes (Err (Refused refusal file)) f h = (same_file name (file_graph seen bytes) refusal file h, due_of files seen name bytes (Err (Refused refusal file)) f h)
read_accepted seen told before after name bytes (Err OutOfMemory) f h = tt
read_accepted seen told before after name bytes (Err Usage) f h = absurd (never name (file_graph seen bytes) Usage (λ refusal e. cc) h)
read_accepted seen told before after name bytes (Err (Unread file)) f h = absurd (never name (file_graph seen bytes) (Unread file) (λ refusal e. cc) h)
read_accepted seen told before after name bytes (Err (TooLarge file)) f h = absurd (never name (file_graph seen bytes) (TooLarge file) (λ refusal e. cc) h)
read_accepted seen told before after name bytes (Err (Text refused)) f h = absurd (never name (file_graph seen bytes) (Text refused) (λ refusal e. cc) h)
read_accepted seen told before after name bytes (Err (Sorts rule place)) f h = absurd (never name (file_graph seen bytes) (Sorts rule place) (λ refusal e. cc) h)
read_accepted seen told before after name bytes (Err (Certificate refused)) f h = absurd (never name (file_graph seen bytes) (Certificate refused) (λ refusal e. cc) h)
read_accepted seen told before after name bytes (Err (Rejected search rule)) f h = absurd (never name (file_graph seen bytes) (Rejected search rule) (λ refusal e. cc) h)
read_accepted seen told before after name bytes (Err (Faulted fault)) f h = absurd (never name (file_graph seen bytes) (Faulted fault) (λ refusal e. cc) h)
read_accepted seen told before after name bytes (Err Unwritten) f h = absurd (never name (file_graph seen bytes) Unwritten (λ refusal e. cc) h)

pub returns-clause-outcome : goal.returns-clause-outcome
returns-clause-outcome g c =
    read_accepted c.args.seen.now (g.F.Folder.files c.args.folder.now) (g.F.Folder.faults c.args.folder.now) (g.F.Folder.faults c.read_file.new.folder) c.args.name.now c.in_ok-bytes.bytes c.load_named.result
    c.in_ok-bytes.ensures.outcome (subst (λ (bytes : List ℕ). Accepts (accepted c.args.name.now (file_graph c.args.seen.now bytes)) c.load_named.result) c.as_slice.ensures c.load_named.ensures.accepts)
