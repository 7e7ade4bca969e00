-- Turns of a write: what was written so far, and what is left.
use Rattle.std.proofs.Common.{◌≡◌, ℕ, ◌+◌, ◌-◌, ◌<◌, ◌≤◌, List, [], ◌++◌, length, take, drop, sym, ◌∙◌, ap, refl, arith, length-append, length-drop, get_or, drop-cons, add-one}
use Rattle.std.proofs.Math.Seq.{drop-append_seam, take-append_seam, take-length}
use Rattle.std.proofs.lemmas.List.{take-append-le}
use Rattle.std.specs.Prelude.{Option}
use Rattle.std.specs.Io.KnownBytes.{append_known}
use Rattle.gc_base.specs.Sinks.{HasRoom, TookPrefix, room_after}
use Rattle.std.proofs.Math.ListN.{drop_of_length-le}
use Rattle.std.specs.Borrow.{Bor}
use Rattle.gc_io.specs.Pieces.{joined}
use Rattle.gc_io.proofs.ReadPieces.{drop-more, take-more}
use Rattle.gc_io.proofs.SinkLaws.{append_known-nil, append_known-append, room_after-zero, room_after-add, HasRoom-after, HasRoom-less}

-- the first n bytes were written, the rest is left, and no fault came
pub record IsWritten (n : ℕ) (taken taken' : Option (List ℕ)) (room room' : Option ℕ) (faults faults' : ℕ) (bytes rest : List ℕ) : Type 0 where
  pub within : n ≤ length bytes
  pub left : rest ≡ drop n bytes
  pub taken_is : taken' ≡ append_known taken (take n bytes)
  pub room_is : room' ≡ room_after room n
  pub stood : faults' ≡ faults

pub IsWritten-none : (taken : Option (List ℕ)) (room : Option ℕ) (faults : ℕ) (bytes : List ℕ)
    → IsWritten 0 taken taken room room faults faults bytes bytes
IsWritten-none taken room faults bytes = record {
  within = omega arith;
  left = refl;
  taken_is = sym (append_known-nil taken);
  room_is = sym (room_after-zero room);
  stood = refl;
}

-- a write took k bytes of the rest
pub IsWritten-more : (n k : ℕ) (taken taken' taken'' : Option (List ℕ)) (room room' room'' : Option ℕ) (faults faults' faults'' : ℕ) (bytes rest rest' : List ℕ)
    → IsWritten n taken taken' room room' faults faults' bytes rest → k ≤ length rest
    → taken'' ≡ append_known taken' (take k rest) → room'' ≡ room_after room' k → faults'' ≡ faults' → rest' ≡ drop k rest
    → IsWritten (n + k) taken taken'' room room'' faults faults'' bytes rest'
IsWritten-more n k taken taken' taken'' room room' room'' faults faults' faults'' bytes rest rest' w few is_taken is_room is_faults is_rest =
    let within : n ≤ length bytes = w.within in
    let size : length rest ≡ length bytes - n = ap length w.left ∙ length-drop n bytes in
    record {
      within = omega arith;
      left = rw (is_rest, w.left, drop-more n k bytes within) refl;
      taken_is = rw (is_taken, w.taken_is, w.left, take-more n k bytes within) (append_known-append taken (take n bytes) (take k (drop n bytes)));
      room_is = rw (is_room, w.room_is) (room_after-add room n k);
      stood = is_faults ∙ w.stood;
    }

-- the room holds what is left
pub HasRoom-left : (n : ℕ) (taken taken' : Option (List ℕ)) (room room' : Option ℕ) (faults faults' : ℕ) (bytes rest : List ℕ)
    → IsWritten n taken taken' room room' faults faults' bytes rest → HasRoom room (length bytes) → HasRoom room' (length rest)
HasRoom-left n taken taken' room room' faults faults' bytes rest w holds =
    let within : n ≤ length bytes = w.within in
    let size : length rest ≡ length bytes - n = ap length w.left ∙ length-drop n bytes in
    let whole : n + length rest ≡ length bytes = omega arith in
    rw w.room_is (HasRoom-after room n (length rest) (rw whole holds))

-- a fault came while something was left
pub TookPrefix-fault : (n : ℕ) (taken taken' taken'' : Option (List ℕ)) (room room' room'' : Option ℕ) (faults faults' : ℕ) (bytes rest : List ℕ)
    → IsWritten n taken taken' room room' faults faults' bytes rest → 0 < length rest → taken'' ≡ taken' → room'' ≡ room'
    → TookPrefix taken taken'' room room'' bytes
TookPrefix-fault n taken taken' taken'' room room' room'' faults faults' bytes rest w some is_taken is_room =
    let within : n ≤ length bytes = w.within in
    let size : length rest ≡ length bytes - n = ap length w.left ∙ length-drop n bytes in
    (n, record { short = omega arith; taken = is_taken ∙ w.taken_is; room = is_room ∙ w.room_is })

-- nothing is left
pub IsWritten-all : (n : ℕ) (taken taken' : Option (List ℕ)) (room room' : Option ℕ) (faults faults' : ℕ) (bytes rest : List ℕ)
    → IsWritten n taken taken' room room' faults faults' bytes rest → length rest ≡ 0
    → (taken' ≡ append_known taken bytes) × (room' ≡ room_after room (length bytes))
IsWritten-all n taken taken' room room' faults faults' bytes rest w none =
    let within : n ≤ length bytes = w.within in
    let size : length rest ≡ length bytes - n = ap length w.left ∙ length-drop n bytes in
    let whole : n ≡ length bytes = omega arith in
    let all : take n bytes ≡ bytes = rw whole (take-length bytes) in
    (w.taken_is ∙ ap (λ bs. append_known taken bs) all, w.room_is ∙ ap (λ m. room_after room m) whole)

-- a whole piece was written, with which the rest began
pub IsWritten-piece : (n : ℕ) (taken taken' taken'' : Option (List ℕ)) (room room' room'' : Option ℕ) (faults faults' faults'' : ℕ) (bytes rest piece rest' : List ℕ)
    → IsWritten n taken taken' room room' faults faults' bytes rest → rest ≡ piece ++ rest'
    → taken'' ≡ append_known taken' piece → room'' ≡ room_after room' (length piece) → faults'' ≡ faults'
    → IsWritten (n + length piece) taken taken'' room room'' faults faults'' bytes rest'
IsWritten-piece n taken taken' taken'' room room' room'' faults faults' faults'' bytes rest piece rest' w begins is_taken is_room is_faults =
    let size : length rest ≡ length piece + length rest' = rw begins (length-append piece rest') in
    let front : take (length piece) rest ≡ piece = rw begins (take-append_seam piece rest') in
    let back : drop (length piece) rest ≡ rest' = rw begins (drop-append_seam piece rest') in
    IsWritten-more n (length piece) taken taken' taken'' room room' room'' faults faults' faults'' bytes rest rest' w (omega arith)
    (rw front is_taken) is_room is_faults (sym back)

-- the room holds the next piece
pub HasRoom-piece : (n : ℕ) (taken taken' : Option (List ℕ)) (room room' : Option ℕ) (faults faults' : ℕ) (bytes rest piece rest' : List ℕ)
    → IsWritten n taken taken' room room' faults faults' bytes rest → rest ≡ piece ++ rest' → HasRoom room (length bytes) → HasRoom room' (length piece)
HasRoom-piece n taken taken' room room' faults faults' bytes rest piece rest' w begins holds =
    let size : length rest ≡ length piece + length rest' = rw begins (length-append piece rest') in
    HasRoom-less room' (length rest) (length piece) (omega arith) (HasRoom-left n taken taken' room room' faults faults' bytes rest w holds)

-- a fault came within a piece
pub TookPrefix-piece : (n : ℕ) (taken taken' taken'' : Option (List ℕ)) (room room' room'' : Option ℕ) (faults faults' : ℕ) (bytes rest piece rest' : List ℕ)
    → IsWritten n taken taken' room room' faults faults' bytes rest → rest ≡ piece ++ rest'
    → TookPrefix taken' taken'' room' room'' piece → TookPrefix taken taken'' room room'' bytes
TookPrefix-piece n taken taken' taken'' room room' room'' faults faults' bytes rest piece rest' w begins took =
    let within : n ≤ length bytes = w.within in
    let short : took.0 < length piece = took.1.short in
    let size : length rest ≡ length piece + length rest' = rw begins (length-append piece rest') in
    let left : length rest ≡ length bytes - n = ap length w.left ∙ length-drop n bytes in
    let few : took.0 ≤ length piece = omega arith in
    let same : take took.0 rest ≡ take took.0 piece = rw begins (take-append-le took.0 piece rest' few) in
    let more : IsWritten (n + took.0) taken taken'' room room'' faults faults' bytes (drop took.0 rest) =
    IsWritten-more n took.0 taken taken' taken'' room room' room'' faults faults' faults' bytes rest (drop took.0 rest) w (omega arith)
    (rw same took.1.taken) took.1.room refl refl in
    (n + took.0, record { short = omega arith; taken = more.taken_is; room = more.room_is })

-- the pieces from a place on are the one there and those behind it
pub joined-next : (pieces : List (Bor (List ℕ))) (i : ℕ) (piece : Bor (List ℕ)) → i < length pieces
    → joined (drop i pieces) ≡ (get_or pieces i piece).now ++ joined (drop (i + 1) pieces)
joined-next pieces i piece h = rw (drop-cons pieces i piece, add-one) refl

-- behind the last piece there is nothing
pub joined-end : (pieces : List (Bor (List ℕ))) (i : ℕ) → length pieces ≤ i → length (joined (drop i pieces)) ≡ 0
joined-end pieces i h =
    let none : drop i pieces ≡ [] = drop_of_length-le pieces h in
    rw none refl
