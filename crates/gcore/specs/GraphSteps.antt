-- What reading the graph files answers.
use Rattle.std.specs.Prelude.{◌≡◌, ℕ, List, [], length, map, Option, Some, Result, Ok, Err, IfSome, MatchOption, ⊤, ◌⊎◌}
use Rattle.gc_base.specs.Faults.{Rose}
use Rattle.gc_catalog.specs.NamedGraphs.{NamedGraphs}
use Rattle.gcore.specs.CertificateLines.{IsHeldCertificate, IsHeldSearch}
use Rattle.gcore.specs.Endings.{IsTurnOfGraph}
use Rattle.gcore.specs.FaultLines.{IsHeldFault}
use Rattle.gcore.specs.GraphLines.{IsHeld}
use Rattle.gcore.specs.Outcomes.{free_above, graphs_due}
use Rattle.gcore.specs.TextLines.{IsHeldPlace, IsHeldText}
use Rattle.gcore.specs.Steps.{Reading}
use Rattle.gcore.specs.declared.pair.Pair.{Pair}
use Rattle.gcore.specs.declared.stop.Stop.{Stop}
use Rattle.gcore.specs.declared.stop.Stop.TheVariants.{Usage, Unread, TooLarge, Refused, Text, Sorts, Certificate, Rejected, Faulted, Unwritten, OutOfMemory}

-- where the files are told, this stop is due
abbrev pub IsDueFor : Reading → List Pair → Stop → Type 0
IsDueFor reading pairs stop = IfSome reading.files (λ files. graphs_due files [] pairs ≡ Err stop)

-- a stop at a graph file: its turn came, and the stop is due, or the folder's count rose; or it is want of memory
abbrev pub StopsReadingGraphs : Reading → List Pair → Stop → Type 0
StopsReadingGraphs reading pairs Usage = ⊥
StopsReadingGraphs reading pairs (Unread file) =
    IsTurnOfGraph reading.files pairs file
    × MatchOption reading.files (Rose reading.faults_before reading.faults_after) (λ files. (graphs_due files [] pairs ≡ Err (Unread file)) ⊎ Rose reading.faults_before reading.faults_after)
StopsReadingGraphs reading pairs (TooLarge file) = IsTurnOfGraph reading.files pairs file × IsDueFor reading pairs (TooLarge file)
StopsReadingGraphs reading pairs (Refused refusal file) = IsTurnOfGraph reading.files pairs file × IsDueFor reading pairs (Refused refusal file)
StopsReadingGraphs reading pairs (Text refusal) = ⊥
StopsReadingGraphs reading pairs (Sorts rule place) = ⊥
StopsReadingGraphs reading pairs (Certificate refusal) = ⊥
StopsReadingGraphs reading pairs (Rejected search rule) = ⊥
StopsReadingGraphs reading pairs (Faulted fault) = ⊥
StopsReadingGraphs reading pairs Unwritten = ⊥
StopsReadingGraphs reading pairs OutOfMemory = ⊤

-- the name under which the graph of a pair stands
abbrev pub name_given : Pair → Option (List ℕ)
name_given p = Some p.name

-- a catalog of the graphs that are due, one for each file under its name, with the identities above all of theirs free, or a stop
abbrev pub ReadsGraphs : Reading → List Pair → Result NamedGraphs Stop → Type 0
ReadsGraphs reading pairs (Ok c) =
    (c.names ≡ map name_given pairs) × (length c.graphs ≡ length pairs) × IfSome reading.files (λ files. graphs_due files [] pairs ≡ Ok c.graphs)
    × (c.next ≡ free_above c.graphs)
ReadsGraphs reading pairs (Err stop) = StopsReadingGraphs reading pairs stop

-- a stop as the machine holds it
abbrev pub IsHeldStop : Stop → Type 0
IsHeldStop (Refused refusal file) = IsHeld refusal
IsHeldStop (Text refusal) = IsHeldText refusal
IsHeldStop (Sorts rule place) = IsHeldPlace place
IsHeldStop (Certificate refusal) = IsHeldCertificate refusal
IsHeldStop (Rejected search rule) = IsHeldSearch search
IsHeldStop (Faulted fault) = IsHeldFault fault
IsHeldStop stop = ⊤
