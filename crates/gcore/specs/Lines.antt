-- The lines on standard error, and what a stopped call stands for.
use Rattle.std.specs.Prelude.{ℕ, List, [], ◌∷◌, ◌++◌, codes}
use Rattle.std.specs.Fmt.{decimal}
use Rattle.gc_base.specs.declared.place.Place.{Place}
use Rattle.gc_json.specs.declared.refusal.GraphRefusal.{GraphRefusal}
use Rattle.gc_json.specs.declared.refusal.Spot.{Spot}
use Rattle.gc_sorts.specs.declared.breach.SortRule.{SortRule}
use Rattle.gc_cert_text.specs.declared.refusal.CertRefusal.{CertRefusal}
use Rattle.gc_check.specs.declared.rule.KRule.{KRule}
use Rattle.gcore.specs.CertificateLines.{certificate_text, rejected_text, search_rule_text, search_text}
use Rattle.gcore.specs.FaultLines.{fault_text}
use Rattle.gcore.specs.GraphLines.{refusal_text, spot_text}
use Rattle.gcore.specs.SortLines.{rule_text}
use Rattle.gcore.specs.TextLines.{place_text, text_refusal_text}
use Rattle.gcore.specs.declared.placed_fault.PlacedFault.{PlacedFault}
use Rattle.gcore.specs.declared.status.Status.{Status}
use Rattle.gcore.specs.declared.status.Status.TheVariants as status
use Rattle.gcore.specs.declared.stop.Stop.{Stop}
use Rattle.gcore.specs.declared.stop.Stop.TheVariants.{Usage, Unread, TooLarge, Refused, Text, Sorts, Certificate, Rejected, Faulted, Unwritten, OutOfMemory}
use Rattle.gcore.specs.declared.text_refusal.TextRefusal.{TextRefusal}

-- a line begins with the program's name and ends with a line feed
abbrev pub line : List ℕ → List ℕ
line message = codes "gcore: " ++ (message ++ 10 ∷ [])

-- the line of a graph file that breaks a rule
abbrev pub refusal_line : GraphRefusal → List ℕ → List ℕ
refusal_line refusal file = line (refusal_text refusal ++ (codes " in " ++ file))

-- the line of a query file that is refused
abbrev pub text_line : TextRefusal → List ℕ
text_line refusal = line (text_refusal_text refusal)

-- the line of a query file that breaks a sort rule
abbrev pub sort_line : SortRule → Place → List ℕ
sort_line rule place = line (place_text (rule_text rule) place)

-- the line of a document that is no certificate
abbrev pub certificate_line : CertRefusal → List ℕ
certificate_line refusal = line (certificate_text refusal)

-- the line of a search that breaks a rule
abbrev pub rejected_line : (search : ℕ) → KRule → List ℕ
rejected_line search rule = line (rejected_text search (search_rule_text rule))

-- the line of a fault
abbrev pub placed_line : PlacedFault → List ℕ
placed_line fault = line (fault_text fault)

-- the line of each stop
abbrev pub line_of : Stop → List ℕ
line_of Usage = line (codes "usage")
line_of (Unread file) = line (codes "cannot read " ++ file)
line_of (TooLarge file) = line (codes "too large " ++ file)
line_of (Refused refusal file) = refusal_line refusal file
line_of (Text refusal) = text_line refusal
line_of (Sorts rule place) = sort_line rule place
line_of (Certificate refusal) = certificate_line refusal
line_of (Rejected search rule) = rejected_line search rule
line_of (Faulted fault) = placed_line fault
line_of Unwritten = line (codes "cannot write")
line_of OutOfMemory = line (codes "out of memory")

-- the line of a rule that is broken at a spot, with what stands behind it
abbrev pub spot_line : List ℕ → Spot → List ℕ → List ℕ → List ℕ → List ℕ
spot_line rule spot gap id file = line (rule ++ (spot_text spot ++ (gap ++ (id ++ (codes " in " ++ file)))))

-- the same at an item of a list, whose index is written in digits
abbrev pub digits_line : List ℕ → List ℕ → List ℕ → List ℕ → List ℕ → List ℕ → List ℕ
digits_line rule list index gap id file = line (rule ++ ((list ++ (index ++ codes "]")) ++ (gap ++ (id ++ (codes " in " ++ file)))))

abbrev pub item_line : List ℕ → List ℕ → ℕ → List ℕ → List ℕ → List ℕ → List ℕ
item_line rule list index gap id file = digits_line rule list (decimal index) gap id file

-- the line of a code about a search
abbrev pub search_line : List ℕ → (search : ℕ) → List ℕ
search_line code search = line (search_text code search)

-- the same with the number in digits
abbrev pub search_digits_line : List ℕ → List ℕ → List ℕ
search_digits_line code digits = line (code ++ (codes " search " ++ digits))

abbrev pub rejected_digits_line : List ℕ → List ℕ → List ℕ
rejected_digits_line digits rule = line (codes "rejected search " ++ (digits ++ (codes " " ++ rule)))

-- the line of a rule that a query file breaks at a place
abbrev pub place_line : List ℕ → Place → List ℕ
place_line rule place = line (place_text rule place)

-- the same with the line and the column in digits
abbrev pub numbers_line : List ℕ → List ℕ → List ℕ → List ℕ
numbers_line rule row column = line (rule ++ (codes " " ++ (row ++ (codes ":" ++ column))))

-- the line of a fault with the line, the column and the number in digits
abbrev pub counted_line : (rule row column word number : List ℕ) → List ℕ
counted_line rule row column word number = line ((rule ++ (codes " " ++ (row ++ (codes ":" ++ column)))) ++ (word ++ number))

-- the status of each stop
abbrev pub status_of : Stop → Status
status_of Usage = status.Usage
status_of (Unread file) = status.Read
status_of (TooLarge file) = status.Size
status_of (Refused refusal file) = status.Graph
status_of (Text refusal) = status.Text
status_of (Sorts rule place) = status.Sorts
status_of (Certificate refusal) = status.Rejected
status_of (Rejected search rule) = status.Rejected
status_of (Faulted fault) = status.Fault
status_of Unwritten = status.Write
status_of OutOfMemory = status.Memory

-- the exit status of each status
abbrev pub code_of : Status → ℕ
code_of status.Done = 0
code_of status.Fault = 1
code_of status.Usage = 2
code_of status.Text = 3
code_of status.Sorts = 4
code_of status.Graph = 5
code_of status.Read = 6
code_of status.Write = 7
code_of status.Memory = 8
code_of status.Rejected = 9
code_of status.Size = 10
