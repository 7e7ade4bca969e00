-- The text of a file reads back.
use Rattle.std.proofs.Common.{◌≡◌, ℕ, ◌+◌, List, [], ◌∷◌, ◌++◌, map, length, Some, refl, sym, ap, subst, ◌∙◌, arith, append_assoc, true}
use Rattle.std.specs.List.{flat_map}
use Rattle.std.specs.Str.{IsUtf8, is_utf8}
use Rattle.std.proofs.lemmas.List.{append-nil}
use Rattle.std.proofs.lemmas.Str.{is_utf8-from_IsUtf8}
use Rattle.gc_lex.specs.declared.token.Token.{Token}
use Rattle.gc_lex.specs.declared.token.Token.TheVariants.{Symbol}
use Rattle.gc_lex.specs.declared.token.Mark.TheVariants as mark
use Rattle.gc_lex.specs.Lexis.{lexed}
use Rattle.gc_ast.specs.Trees.{Tree, AStatement}
use Rattle.gc_grammar.specs.Words.{Point, next}
use Rattle.gc_grammar.specs.Queries.{SpellsFile, statement, within, start}
use Rattle.gc_grammar.proofs.Spellings.{spells_mark}
use Rattle.gc_print.proofs.Lexing.{HasTokens}
use Rattle.gc_print_query.specs.Pieces.{Piece, Line, joined}
use Rattle.gc_print_query.specs.ExpressionPieces.{mark_piece}
use Rattle.gc_print_query.specs.QueryPieces.{pieces_of, file_pieces, enclosed}
use Rattle.gc_print_query.specs.ReadingBack.{ReadsBack}
use Rattle.gc_print_query.specs.Tokens.{tokens_in, AreWritable}
use Rattle.gc_print_query.specs.Unnumbered.{unnumbered}
use Rattle.gc_print_query.specs.WrittenFiles.{file_text}
use Rattle.gc_print_query.proofs.LexedPieces.{AreSound, spaced, written_spaced, pieces_lex, lexes_spaced}
use Rattle.gc_print_query.proofs.Rereading.{listed_own, with_separators, tokens_append, sound_append, front_writable}
use Rattle.gc_print_query.proofs.TokensRead.{mark_line}
use Rattle.gc_print_query.proofs.QueriesRead.{all_fine, statement_reads}
use Rattle.gc_print_query.proofs.Utf8Pieces.{sound_utf8}

abbrev ending : List Piece
ending = mark_piece mark.Semicolon ∷ Line 0 ∷ []

ended : {X : Type 0} (f : X → List Piece) (x : X) (xs : List X) → flat_map (λ x. f x ++ ending) (x ∷ xs) ≡ joined ending (map f (x ∷ xs)) ++ ending
ended f x [] = append-nil (f x ++ ending)
ended f x (y ∷ ys) =
    ap (λ rest. (f x ++ ending) ++ rest) (ended f y ys)
    ∙ append_assoc (f x) ending (joined ending (map f (y ∷ ys)) ++ ending)
    ∙ sym (append_assoc (f x) (ending ++ joined ending (map f (y ∷ ys))) ending)

-- a file is spelled anew by its pieces
record FileAgain (statements : List (Tree AStatement)) : Type 0 where
  pub read : List (Tree AStatement)
  pub spells : SpellsFile (tokens_in (file_pieces statements)) read
  pub same : map unnumbered read ≡ map unnumbered statements
  pub sound : AreSound (file_pieces statements)

some_again : (depth : ℕ) (p q : Point) (ts : List Token) (statements more : List (Tree AStatement)) (first : Tree AStatement) → statements ≡ first ∷ more → AreWritable ts
    → Rattle.gc_grammar.specs.Words.separated (statement (within depth)) (Rattle.gc_grammar.specs.Words.mark mark.Semicolon) start ts statements q → FileAgain statements
some_again depth p q ts [] more first is w s = absurd (cc)
some_again depth p q ts (v ∷ vs) more first is w s =
    let below = all_fine depth in
    let own = (with_separators (statement_reads below.0 below.1) (mark_line mark.Semicolon 0)).read start q ts (v ∷ vs) w s in
    let lists = map (λ query. enclosed 0 (pieces_of (0 + 1) query)) q.exists in
    let a = own.again depth (omega arith) lists (listed_own 0 q.exists lists refl) start refl in
    let ps = joined ending (map (pieces_of 0) (v ∷ vs)) in
    let are : file_pieces (v ∷ vs) ≡ ps ++ ending = ended (pieces_of 0) v vs in
    record {
      read = a.value;
      spells = subst (λ us. SpellsFile us a.value) (sym (ap tokens_in are)) (
        next a.end,
        (
          depth,
          record {
            value = (a.value, Some tt);
            spelled = record { early = tokens_in ps; late = Symbol mark.Semicolon ∷ []; between = a.end; whole = tokens_append ps ending; before = a.spelled; behind = spells_mark mark.Semicolon a.end };
            made = refl;
          },
        ),
      );
      same = a.same;
      sound = subst AreSound (sym are) (sound_append ps ending a.sound (tt, (tt, tt)));
    }

file_again : (ts : List Token) (statements : List (Tree AStatement)) → AreWritable ts → SpellsFile ts statements → FileAgain statements
file_again ts statements w s =
    let whole = s.1.1 in
    let b = whole.spelled in
    let list = b.before in
    subst FileAgain (sym whole.made)
    (some_again s.1.0 start b.between b.early whole.value.0 list.value.1 list.value.0 list.made (front_writable b.early b.late (subst AreWritable b.whole w)) list)

pub reads_back : (ts : List Token) (statements : List (Tree AStatement)) → AreWritable ts → SpellsFile ts statements → ReadsBack (file_text statements) statements
unfolding lexed
reads_back ts statements w s =
    let again = file_again ts statements w s in
    let pieces = file_pieces statements in
    let text = file_text statements in
    let text_is : text ≡ spaced 0 pieces = written_spaced [] pieces in
    let utf8 : is_utf8 text ≡ true = is_utf8-from_IsUtf8 text (subst IsUtf8 (sym text_is) (sound_utf8 pieces again.sound 0)) in
    let whole : HasTokens text 0 (length text) (tokens_in pieces) =
    lexes_spaced (spaced 0 pieces) (tokens_in pieces) (pieces_lex pieces again.sound 0) text 0 (length text) text_is (omega (arith, ap length text_is)) in
    record {
      list = whole.list;
      lexed_so = rw (utf8) whole.given;
      read = again.read;
      spells = subst (λ us. SpellsFile us again.read) (sym whole.tokens_are) again.spells;
      same = again.same;
    }
