use Rattle.std.proofs.Common.{◌≡◌, ℕ, List, Option, None, Some, Result, Ok, Err, ap, ◌∙◌, subst, IfSome}
use Rattle.gc_base.specs.Files.{Files}
use Rattle.gc_sorts.specs.declared.checked.Checked.{Checked}
use Rattle.gcore.specs.Outcomes.{then_due, file_due, query_file_due, query_limit}
use Rattle.gcore.specs.QueryFiles.{IsFileOf, PlacedFile, placed, query_file_of}
use Rattle.gcore.specs.Steps.{ReadsQuery}
use Rattle.gcore.specs.declared.stop.Stop.{Stop}
use Rattle.gcore.specs.declared.stop.Stop.TheVariants.{Usage, Unread, TooLarge, Refused, Text, Sorts, Certificate, Rejected, Faulted, Unwritten, OutOfMemory}
use Rattle.gcore.proofs.BuiltQueries.{file_is_built}
use Rattle.gcore.proofs.inputs.read_query.Goals as goal

-- a file that was read, and what is due of its bytes
due_of : (graphs : List (List ℕ)) (files : Files) (name bytes : List ℕ) (due : Result PlacedFile Stop) → file_due files name query_limit ≡ Ok bytes → query_file_of graphs bytes ≡ due → query_file_due graphs files name ≡ due
due_of graphs files name bytes due f h = ap (λ d. then_due d (query_file_of graphs)) f ∙ h

read_file_of : (graphs : List (List ℕ)) (told : Option Files) (before after : ℕ) (name bytes : List ℕ) (r : Result Checked Stop) → IfSome told (λ files. file_due files name query_limit ≡ Ok bytes)
    → IsFileOf (query_file_of graphs bytes) r → ReadsQuery (record { files = told; faults_before = before; faults_after = after }) name (λ files. query_file_due graphs files name) r
read_file_of graphs None before after name bytes (Ok checked) f h = tt
read_file_of graphs (Some files) before after name bytes (Ok checked) f h = due_of graphs files name bytes (Ok (placed checked)) f h
read_file_of graphs None before after name bytes (Err (Text refusal)) f h = tt
read_file_of graphs (Some files) before after name bytes (Err (Text refusal)) f h = due_of graphs files name bytes (Err (Text refusal)) f h
read_file_of graphs None before after name bytes (Err (Sorts rule place)) f h = tt
read_file_of graphs (Some files) before after name bytes (Err (Sorts rule place)) f h = due_of graphs files name bytes (Err (Sorts rule place)) f h
read_file_of graphs told before after name bytes (Err OutOfMemory) f h = tt
read_file_of graphs told before after name bytes (Err (Certificate refusal)) f h = absurd h
read_file_of graphs told before after name bytes (Err (Rejected search rule)) f h = absurd h
read_file_of graphs told before after name bytes (Err Usage) f h = absurd h
read_file_of graphs told before after name bytes (Err (Unread file)) f h = absurd h
read_file_of graphs told before after name bytes (Err (TooLarge file)) f h = absurd h
read_file_of graphs told before after name bytes (Err (Refused refusal file)) f h = absurd h
read_file_of graphs told before after name bytes (Err (Faulted fault)) f h = absurd h
read_file_of graphs told before after name bytes (Err Unwritten) f h = absurd h

pub returns-clause-outcome : goal.returns-clause-outcome
returns-clause-outcome g c =
    read_file_of c.args.graphs.now (g.F.Folder.files c.args.folder.now) (g.F.Folder.faults c.args.folder.now) (g.F.Folder.faults c.read_file.new.folder) c.args.name.now c.in_ok-bytes.bytes c.query_file.result
    c.in_ok-bytes.ensures.outcome (subst (λ (bytes : List ℕ). IsFileOf (query_file_of c.args.graphs.now bytes) c.query_file.result) c.as_slice.ensures c.query_file.ensures)

pub returns-clause-built : goal.returns-clause-built
returns-clause-built g c =
    file_is_built c.a_query_file_that_is_read_is_built.ensures.built c.args.graphs.now c.in_ok-bytes.bytes c.query_file.result
    (subst (λ (bytes : List ℕ). IsFileOf (query_file_of c.args.graphs.now bytes) c.query_file.result) c.as_slice.ensures c.query_file.ensures)
