-- Folders as finite maps from names to bytes, and reads of a file.
use Rattle.std.specs.Prelude.{◌≡◌, ℕ, ◌+◌, ◌<◌, ◌≤◌, List, [], ◌∷◌, ◌++◌, length, take, drop, nat_eq, if◌then◌else◌, None, Some, IfSome, IsSomeAnd}
use Rattle.std.specs.declared.option.Option.{Option}
use Rattle.std.specs.Cmp.Lexicographic.{pointwise}

-- the files of a folder: the name and the bytes of each
abbrev pub Files : Type 0
Files = List (List ℕ × List ℕ)

-- the file of a name: of two entries with one name the first counts
abbrev pub file_of : Files → List ℕ → Option (List ℕ)
file_of [] name = None
file_of (file ∷ files) name = if pointwise nat_eq file.0 name then Some file.1 else file_of files name

-- a read from a place on put n bytes of a file at the front of a buffer
pub record IsRead (bytes : List ℕ) (at n : ℕ) (into : List ℕ) : Type 0 where
  -- from the place on the file has these n bytes, and then the others
  pub next : drop at bytes ≡ take n into ++ drop (at + n) bytes
  -- it gave none only at the end or past it, or where there was no room
  pub ends : n ≡ 0 → 0 < length into → length bytes ≤ at
  -- at the end or past it there are none
  pub past : length bytes ≤ at → n ≡ 0

-- where the files are told, the name is held and the read was one of its file
abbrev pub IsReadOf : Option Files → List ℕ → ℕ → ℕ → List ℕ → Type 0
IsReadOf told name at n into =
    IfSome told (λ files. IsSomeAnd (file_of files name) (λ bytes. IsRead bytes at n into))

-- these bytes are how a file begins; where there is no file, there are none
abbrev pub BeginsFile : Option (List ℕ) → List ℕ → Type 0
BeginsFile None so_far = so_far ≡ []
BeginsFile (Some bytes) so_far = so_far ++ drop (length so_far) bytes ≡ bytes

-- where the files are told, these bytes are how the file of the name begins
abbrev pub IsReadSoFar : Option Files → List ℕ → List ℕ → Type 0
IsReadSoFar told name so_far = IfSome told (λ files. BeginsFile (file_of files name) so_far)

-- where the files are told, this is the whole file of the name
abbrev pub IsFileOf : Option Files → List ℕ → List ℕ → Type 0
IsFileOf told name bytes = IfSome told (λ files. file_of files name ≡ Some bytes)

-- where the files are told, the name is held and its file is longer than this
abbrev pub IsLonger : Option Files → List ℕ → ℕ → Type 0
IsLonger told name limit = IfSome told (λ files. IsSomeAnd (file_of files name) (λ bytes. limit < length bytes))
