-- The graph of a search.
use Rattle.std.specs.Prelude.{[], codes, Bool, true, false, Option}
use Rattle.gc_json.specs.GraphFiles.{graph_of_data}
use Rattle.gc_json.specs.declared.refusal.GraphRefusal.{GraphRefusal}
use Rattle.gc_json.specs.declared.refusal.GraphRefusal.TheVariants as refusal
use Rattle.gc_spec.specs.PropertyGraph.{PropertyGraph}
use Rattle.serde_json.specs.Data.{Data}
use Rattle.serde_json.specs.Find.{get}
use Rattle.gc_cert_text.specs.Options.{◌>>=◌, found}

-- the graph that a value has at the key of a graph: it is read as a graph file's object, beside no other file
abbrev pub graph_in : Data → Option PropertyGraph
graph_in d = get (codes "graph") d >>= λ value. found (graph_of_data [] value)

-- whether a refusal is want of memory
abbrev pub is_want : GraphRefusal → Bool
is_want refusal.Memory = true
is_want r = false
