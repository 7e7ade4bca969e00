-- The lines of a plan, in which numbers count from 1.
use Rattle.std.specs.Prelude.{ℕ, ◌+◌, List, [], ◌∷◌, ◌++◌, codes}
use Rattle.std.specs.Fmt.{decimal}
use Rattle.std.specs.List.{flat_map}
use Rattle.gc_explain.specs.declared.step.Step.{Step}
use Rattle.gc_explain.specs.declared.step.StepWord.{StepWord}
use Rattle.gc_explain.specs.declared.step.StepWord.TheVariants.{Check, Expand, Search, Scan, Filter}

abbrev pub word_text : StepWord → List ℕ
word_text Check = codes "check"
word_text Expand = codes "expand"
word_text Search = codes "search"
word_text Scan = codes "scan"
word_text Filter = codes "filter"

abbrev pub step_line : Step → List ℕ
step_line s = word_text s.word ++ (codes " " ++ (decimal (s.number + 1) ++ 10 ∷ []))

abbrev pub step_lines : List Step → List ℕ
step_lines steps = flat_map step_line steps
