use Rattle.std.proofs.Common.{◌≡◌, ◌∙◌, Some, None, map, ap}
use Rattle.std.specs.Prelude.{string_bytes}
use Rattle.gc_io.specs.Memory.{RoomState}
use Rattle.gcore.specs.CommandLines.{command_of}
use Rattle.gcore.proofs.ToldRooms.{no_text, short_lines}
use Rattle.gcore.proofs.cases.told_rooms.without_words.Goals as goal

pub gcore-status-requires-clause-out_room : goal.gcore-status-requires-clause-out_room
gcore-status-requires-clause-out_room g c =
    no_text _ _ _ (ap (λ ws. command_of (map string_bytes ws)) (c.deref.ensures.value ∙ c.new-words.ensures.items))

pub gcore-status-requires-clause-err_room : goal.gcore-status-requires-clause-err_room
gcore-status-requires-clause-err_room g c =
    short_lines _ (Some _) _ (ap (λ (s : RoomState). s.spare) c.in_ok-err.ensures) (ap (λ ws. command_of (map string_bytes ws)) (c.deref.ensures.value ∙ c.new-words.ensures.items))
