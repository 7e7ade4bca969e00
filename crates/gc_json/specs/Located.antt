-- The failure of a file for the failure of an element, or of its tokens.
use Rattle.gc_json.specs.GraphFiles.{refusal_at}
use Rattle.gc_json.specs.declared.fault.Failure.{Failure}
use Rattle.gc_json.specs.declared.fault.Failure.TheVariants.{Refused, Memory}
use Rattle.gc_json.specs.declared.fault.Fault.{Fault}
use Rattle.gc_json.specs.declared.refusal.GraphRefusal.{GraphRefusal}
use Rattle.gc_json.specs.declared.refusal.GraphRefusal.TheVariants.{NotJson}
use Rattle.gc_json.specs.declared.refusal.Spot.{Spot}
use Rattle.gc_json.specs.declared.unread.Unread.{Unread}
use Rattle.gc_json.specs.declared.unread.Unread.TheVariants as unread

abbrev pub failure_at : Spot → Failure Fault → Failure GraphRefusal
failure_at spot (Refused f) = Refused (refusal_at spot f)
failure_at spot Memory = Memory

abbrev pub failure_of : Unread → Failure GraphRefusal
failure_of unread.NotJson = Refused NotJson
failure_of unread.Memory = Memory
