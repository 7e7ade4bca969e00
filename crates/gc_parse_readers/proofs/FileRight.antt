-- The reader of whole files is right: what it gives is spelled, where it is stuck no list that begins so
-- is a file, and what is spelled it reads.
use Rattle.std.proofs.Common.{◌≡◌, refl, sym, ap, ◌∙◌, subst, ℕ, zero, suc, ◌+◌, ◌-◌, ◌<◌, le_refl, not-suc-le-zero, length-append, List, [], length, take}
use Rattle.gc_lex.specs.declared.token.Token.{Token}
use Rattle.gc_ast.specs.Trees.{Tree, AStatement}
use Rattle.gc_grammar.specs.Words.{Point}
use Rattle.gc_parse_readers.specs.Readers.{Reader, Got, Stuck}
use Rattle.gc_parse_readers.specs.Right.{Refused}
use Rattle.gc_grammar.specs.Queries.{statement, file, within, start, SpellsFile}
use Rattle.gc_parse_readers.proofs.RightBoth.{leaves_room}
use Rattle.gc_parse_readers.specs.QueryReaders.{nested, read_file}
use Rattle.gc_parse_readers.proofs.Outlines.{statement_outline}
use Rattle.gc_parse_readers.proofs.QueryRight.{right_statement}
use Rattle.gc_parse_readers.proofs.Statements.{later_begins, later_right, file_of_listed, listed_of_file}
use Rattle.gc_parse_readers.proofs.Whole.{split_at}
use Rattle.gc_parse_readers.specs.Refusals.{IsRefusedAt}
use Rattle.gc_parse_readers.proofs.FileViable.{file_begins}
use Rattle.gc_parse_readers.proofs.WholeLists.{WholeSound, WholeRight, whole_made, whole_both, whole_same}
use native.Mathlib.Omega.{arith}

-- the reader of files at a room
abbrev pub file_reader : ℕ → Reader (List (Tree AStatement))
file_reader room = read_file (suc room) (nested room)

-- whole files of all depths
pub right_file : (j J d : ℕ) → WholeRight (suc j) (suc J) (file (within j)) (file (within d)) (file_reader j) (file_reader J)
unfolding read_file
right_file j J d =
    let one = right_statement j J d in
    whole_same (file_of_listed (statement (within j))) (listed_of_file (statement (within d)))
    (whole_made
    (whole_both (leaves_room (suc j) statement_outline) (leaves_room (suc J) statement_outline) (later_begins (statement (within d)) statement_outline.more refl) one
    (later_right refl refl one (suc j) (suc J) (le_refl (suc j)) (le_refl (suc J)))))

-- the room is one more than that of what brackets hold
reader_at : (room : ℕ) (ts : List Token) → file_reader room start ts ≡ read_file (suc room) (nested (suc room - 1)) start ts
reader_at room ts = ap (λ n. read_file (suc room) (nested n) start ts) {x = room} {y = suc room - 1} (omega arith)

-- what is read is the whole list, which spells it
pub file_sound : (room : ℕ) (ts rest : List Token) (statements : List (Tree AStatement)) (end : Point) → length ts < room
    → read_file room (nested (room - 1)) start ts ≡ Got statements end rest → (rest ≡ []) × SpellsFile ts statements
file_sound zero ts rest statements end short got = absurd (not-suc-le-zero short)
file_sound (suc room) ts rest statements end short got =
    let sound = (right_file room room room).sound start ts short in
    let whole = subst (WholeSound (suc room) (file (within room)) (file_reader room) start ts) (reader_at room ts ∙ got) sound in
    (whole.0, (end, (room, whole.1)))

-- what is spelled is read
pub file_complete : (room : ℕ) (ts : List Token) (statements : List (Tree AStatement)) → length ts < room
    → (spelled : SpellsFile ts statements) → read_file room (nested (room - 1)) start ts ≡ Got statements spelled.0 []
file_complete zero ts statements short spelled = absurd (not-suc-le-zero short)
file_complete (suc room) ts statements short spelled =
    sym (reader_at room ts) ∙ (right_file room room spelled.1.0).complete start spelled.0 ts statements spelled.1.1 short

-- where the reader is stuck there is a token or the end, the tokens before it begin a file, and no list that begins so is one
pub file_refused : (room place : ℕ) (ts : List Token) → length ts < room → read_file room (nested (room - 1)) start ts ≡ Stuck place
    → IsRefusedAt SpellsFile ts place
file_refused zero place ts short stuck = absurd (not-suc-le-zero short)
file_refused (suc room) place ts short stuck = (
  (let refused = refused_at 0 in
      omega (arith, refused.at, ap length refused.whole, length-append refused.used refused.rest)),
  file_begins room place ts short (reader_at room ts ∙ stuck),
  λ us statements same spelled.
      let n = length us in
      let refused = refused_at n in
      let split = split_at refused.used refused.rest us (place + 1) (omega (arith, refused.at)) (same ∙ ap (take (place + 1)) refused.whole) in
      let again = refused.again split.other split.alike (subst (λ vs. length vs < suc n) split.whole (omega arith)) in
      let complete = (right_file n n spelled.1.0).complete start spelled.0 us statements spelled.1.1 (omega arith) in
      differ statements spelled.0 (sym again ∙ ap (file_reader n start) (sym split.whole) ∙ complete),
)
  where
    refused_at : (n : ℕ) → Refused (suc n) (file_reader n) start ts place
    refused_at n =
        subst (WholeSound (suc n) (file (within room)) (file_reader n) start ts) (reader_at room ts ∙ stuck) ((right_file room n room).sound start ts short)

    differ : (statements : List (Tree AStatement)) (end : Point) → Stuck place ≡ Got statements end [] → ⊥
    differ statements end h = cc

-- a list spells the statements of one file alone
pub file_alone : (ts : List Token) (statements others : List (Tree AStatement)) → SpellsFile ts statements → SpellsFile ts others → statements ≡ others
file_alone ts statements others one other =
    let room = suc (length ts) in
    same one.0 other.0 (sym (file_complete room ts statements (omega arith) one) ∙ file_complete room ts others (omega arith) other)
  where
    same : (end last : Point) → Got statements end [] ≡ Got others last [] → statements ≡ others
    same end last h = cc
