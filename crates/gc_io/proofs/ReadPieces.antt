-- Reads of a file, and the bytes that are put together of them.
use Rattle.std.proofs.Common.{◌≡◌, ℕ, ◌+◌, ◌-◌, ◌<◌, ◌≤◌, min, List, [], ◌++◌, length, take, drop, sym, ap, refl, arith, append_assoc, length-append, length-drop}
use Rattle.std.proofs.lemmas.List.{append-nil, take-append-drop, length-take-le}
use Rattle.std.proofs.Math.Seq.{drop-append-add, take-append-add, take-append_seam}
use Rattle.std.proofs.Math.ListN.{drop_of_length-le}
use Rattle.std.proofs.lemmas.Bool.{ltb-true}
use Rattle.std.specs.Prelude.{Bool, true, false, Option, None, Some, Ok, IsSomeAnd, nat_lt}
use Rattle.std.proofs.lemmas.Bool.Decides.{nat_tests}
use Rattle.gc_base.specs.Files.{Files, file_of, BeginsFile, IsFileOf, IsRead, IsReadOf, IsReadSoFar}
use Rattle.gc_io.specs.Wholes.{ReadsPiece}

-- what stands behind a place and n more
pub drop-more : (m n : ℕ) (xs : List ℕ) → m ≤ length xs → drop (m + n) xs ≡ drop n (drop m xs)
drop-more m n xs h =
    let e : length (take m xs) ≡ m = length-take-le m xs h in
    let d : drop (length (take m xs) + n) (take m xs ++ drop m xs) ≡ drop n (drop m xs) = drop-append-add (take m xs) (drop m xs) n in
    let j : take m xs ++ drop m xs ≡ xs = take-append-drop m xs in
    rw (e, j) at d

-- a file from a place on is the first n bytes there, and then the others
next_of_drop : (bytes : List ℕ) (at n : ℕ) → at < length bytes → drop at bytes ≡ take n (drop at bytes) ++ drop (at + n) bytes
next_of_drop bytes at n h =
    let within : at ≤ length bytes = omega arith in
    rw (drop-more at n bytes within) (sym (take-append-drop n (drop at bytes)))

-- copying as many bytes as there are and have room is a read
pub IsRead-copy : (bytes into copied : List ℕ) (at n : ℕ)
    → at < length bytes → n ≡ min (length into) (length bytes - at) → copied ≡ take n (drop at bytes)
    → IsRead bytes at n (copied ++ drop n into)
IsRead-copy bytes into copied at n h is_count is_copied =
    let size : length copied ≡ n = rw is_copied (length-take-le n (drop at bytes) (rw (length-drop at bytes) (omega arith))) in
    let front : take (length copied) (copied ++ drop n into) ≡ copied = take-append_seam copied (drop n into) in
    record {
      next = rw (rw size at front, is_copied) (next_of_drop bytes at n h);
      ends = λ none room. omega (arith, simp (length-append, length-drop) at room);
      past = λ beyond. absurd (omega arith);
    }

-- the first bytes of a list, as those up to a place and those that follow
pub take-more : (m n : ℕ) (xs : List ℕ) → m ≤ length xs → take (m + n) xs ≡ take m xs ++ take n (drop m xs)
take-more m n xs h =
    let e : length (take m xs) ≡ m = length-take-le m xs h in
    let d : take (length (take m xs) + n) (take m xs ++ drop m xs) ≡ take m xs ++ take n (drop m xs) = take-append-add (take m xs) (drop m xs) n in
    let j : take m xs ++ drop m xs ≡ xs = take-append-drop m xs in
    rw (e, j) at d

-- the beginning of a file and what a read gave behind it are the beginning of the file
BeginsFile-read : (bytes before into : List ℕ) (n : ℕ)
    → before ++ drop (length before) bytes ≡ bytes → IsRead bytes (length before) n into → n ≤ length into
    → (before ++ take n into) ++ drop (length (before ++ take n into)) bytes ≡ bytes
BeginsFile-read bytes before into n begins read within =
    let size : length (before ++ take n into) ≡ length before + n =
    rw length-append (ap (λ k. length before + k) (length-take-le n into within)) in
    rw (size, append_assoc, ← read.next) begins

-- a beginning that is as long as the file is the file
whole_of_begins : (bytes before : List ℕ) → before ++ drop (length before) bytes ≡ bytes → length bytes ≤ length before → bytes ≡ before
whole_of_begins bytes before begins long =
    let none : drop (length before) bytes ≡ [] = drop_of_length-le bytes long in
    sym (rw (none, append-nil) at begins)

begins_after : (file : Option (List ℕ)) (before into : List ℕ) (n : ℕ)
    → BeginsFile file before → IsSomeAnd file (λ bytes. IsRead bytes (length before) n into) → n ≤ length into
    → BeginsFile file (before ++ take n into)
begins_after None before into n begins read within = absurd read
begins_after (Some bytes) before into n begins read within = BeginsFile-read bytes before into n begins read within

whole_after : (file : Option (List ℕ)) (before into : List ℕ) (n : ℕ)
    → BeginsFile file before → IsSomeAnd file (λ bytes. IsRead bytes (length before) n into) → n ≡ 0 → 0 < length into
    → file ≡ Some before
whole_after None before into n begins read none room = absurd read
whole_after (Some bytes) before into n begins read none room =
    ap (λ b. Some b) (whole_of_begins bytes before begins (read.ends none room))

-- a turn of a read that gave bytes
so_far_after : (told : Option Files) (name before into : List ℕ) (n : ℕ)
    → IsReadSoFar told name before → IsReadOf told name (length before) n into → n ≤ length into
    → IsReadSoFar told name (before ++ take n into)
so_far_after None name before into n so_far read within = tt
so_far_after (Some files) name before into n so_far read within =
    begins_after (file_of files name) before into n so_far read within

-- a turn of a read that gave none
file_after : (told : Option Files) (name before into : List ℕ) (n : ℕ)
    → IsReadSoFar told name before → IsReadOf told name (length before) n into → n ≡ 0 → 0 < length into
    → IsFileOf told name before
file_after None name before into n so_far read none room = tt
file_after (Some files) name before into n so_far read none room =
    whole_after (file_of files name) before into n so_far read none room

-- a turn of a read, where the folder gave n bytes behind those so far
ReadsPiece-turn : (told : Option Files) (name : List ℕ) (faults faults' : ℕ) (before after buffer : List ℕ) (n : ℕ) (more : Bool)
    → IsReadSoFar told name before → take (length before) buffer ≡ before → after ≡ take (length before + n) buffer
    → length before < length buffer → length before + n ≤ length buffer
    → IsReadOf told name (length before) n (drop (length before) buffer) → faults' ≡ faults → nat_lt 0 n ≡ more
    → ReadsPiece told name faults faults' before after (Ok more)
ReadsPiece-turn told name faults faults' before after buffer n more so_far front is_after room within read stands is_more =
    let here : length before ≤ length buffer = omega arith in
    let rest : length (drop (length before) buffer) ≡ length buffer - length before = length-drop (length before) buffer in
    let joined : after ≡ before ++ take n (drop (length before) buffer) =
    rw (is_after, take-more (length before) n buffer here, front) refl in
    turn more is_more here rest joined
  where
    turn : (more : Bool) → nat_lt 0 n ≡ more → length before ≤ length buffer → length (drop (length before) buffer) ≡ length buffer - length before → after ≡ before ++ take n (drop (length before) buffer) → ReadsPiece told name faults faults' before after (Ok more)
    turn true is_more here rest joined =
        let some : 0 < n = ltb-true 0 n is_more in
        let given : n ≤ length (drop (length before) buffer) = omega arith in
        let longer : length after ≡ length before + n =
        rw (joined, length-append) (ap (λ k. length before + k) (length-take-le n (drop (length before) buffer) given)) in
        (rw joined (so_far_after told name before (drop (length before) buffer) n so_far read given), omega arith, stands)
    turn false is_more here rest joined =
        let none : n ≡ 0 = grind (arith, nat_tests) in
        let same : after ≡ before = rw (joined, none) (append-nil before) in
        (rw same (file_after told name before (drop (length before) buffer) n so_far read none (omega arith)), same, stands)

-- the same, where the place is known by a number of its own
pub ReadsPiece-at : (told : Option Files) (name : List ℕ) (faults faults' : ℕ) (before after buffer : List ℕ) (start n : ℕ) (more : Bool)
    → IsReadSoFar told name before → start ≡ length before → take start buffer ≡ before → after ≡ take (start + n) buffer
    → start < length buffer → start + n ≤ length buffer
    → IsReadOf told name start n (drop start buffer) → faults' ≡ faults → nat_lt 0 n ≡ more
    → ReadsPiece told name faults faults' before after (Ok more)
ReadsPiece-at told name faults faults' before after buffer start n more so_far is_start front is_after room within read stands is_more =
    ReadsPiece-turn told name faults faults' before after buffer n more so_far (rw (← is_start) front) (rw (← is_start) is_after)
    (rw (← is_start) room) (rw (← is_start) within) (rw (← is_start) read) stands is_more
