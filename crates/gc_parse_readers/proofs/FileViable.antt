-- The reader of whole files is stuck only behind a beginning of a file, and that of expressions alike.
use Rattle.std.proofs.Common.{◌≡◌, refl, sym, ap, ◌∙◌, subst, arith, ℕ, zero, suc, ◌+◌, ◌<◌, ◌≤◌, add-zero, not-suc-le-zero, le_refl, List, [], ◌∷◌, ◌++◌, length, length-append, take, Some, None}
use Rattle.std.proofs.lemmas.List.{append-nil}
use Rattle.gc_lex.specs.declared.token.Token.{Token}
use Rattle.gc_lex.specs.declared.token.Mark.TheVariants as mark
use Rattle.gc_grammar.specs.Words.{Point, Lang, ◌⋅◌, ◌▸◌, mark}
use Rattle.gc_grammar.specs.Regexes.{Expression, regex_within}
use Rattle.gc_grammar.specs.Queries.{statement, file, within, start, SpellsFile, SpellsRegex}
use Rattle.gc_parse_readers.specs.Points.{bare}
use Rattle.gc_parse_readers.specs.Readers.{Reader, Got, Stuck, read_both, read_made, read_behind, read_mark}
use Rattle.gc_parse_readers.specs.QueryReaders.{nested, read_statement, read_unless_end, read_later, read_file}
use Rattle.gc_parse_readers.specs.Refusals.{Begins}
use Rattle.gc_parse_readers.specs.RegexReaders.{read_regex}
use Rattle.gc_parse_readers.proofs.Beginnings.{HasWord, Read, Goes, Viable}
use Rattle.gc_parse_readers.proofs.Words.{has_both, has_made, has_none, has_no}
use Rattle.gc_parse_readers.proofs.RegexViable.{viable_within}
use Rattle.gc_parse_readers.proofs.QueryViable.{viable_inside, viable_statement}
use Rattle.gc_parse_readers.proofs.Statements.{Later, Listed, Turn, later_of_turn, file_of_listed}
use Rattle.gc_parse_readers.proofs.ViableParts.{viable_mark, both_goes, made_goes, goes_wider, left_short}
use Rattle.gc_parse_readers.proofs.WholeLists.{ended}

-- none at the end of the list, and else what a reader gives
unless_end_goes : {A : Type 0} (L : Lang (List A)) (p : Reader (List A)) (start : Point) (ts : List Token) → Goes L start ts (p start ts)
    → Goes (ended L) start ts (read_unless_end p start ts)
unfolding read_unless_end
unless_end_goes L p start [] goes = record {
  used = [];
  whole = refl;
  place = sym (add-zero start.token);
  spelled = record { value = None; spelled = (refl, refl); made = refl };
}
unless_end_goes L p start (token ∷ ts) goes =
    goes_wider L (ended L) (λ start end ts vs l. record { value = Some vs; spelled = l; made = refl }) start (token ∷ ts) (p start (token ∷ ts)) goes

-- a statement and those behind it
has_later : {A : Type 0} (S : Lang A) → HasWord (Later S)
has_later S = has_made (has_both has_no has_none)

listed_goes : {A : Type 0} (S : Lang A) (p : Reader A) (later : Reader (List A)) (start : Point) (ts : List Token) → Goes S start ts (p start ts)
    → ((a : A) (between : Point) (late : List Token) → Read S start ts a between late → Goes (Later S) between late (later between late))
    → Goes (Listed S) start ts (read_made (read_both p later) (λ n v. v.0 ∷ v.1) start ts)
listed_goes S p later start ts first behind =
    made_goes (S ⋅ Later S) (λ n v. v.0 ∷ v.1) start ts (read_both p later start ts)
    (both_goes S (Later S) later (has_later S) start ts (p start ts) first behind)

-- behind a `;` there is one token less
one_less : (n : ℕ) (ts used rest : List Token) (token : Token) → ts ≡ used ++ rest → used ≡ token ∷ [] → length ts < suc n → length rest < n
one_less n ts used rest token whole alone short =
    let parts = ap length whole ∙ length-append used rest in
    let one = ap length alone in
    omega (arith, parts, one)

-- what follows a statement
later_goes : {A : Type 0} (j : ℕ) (S : Lang A) (p : Reader A) → Viable j S p → (n : ℕ) → n ≤ j → (start : Point) (ts : List Token) → length ts < n
    → Goes (Later S) start ts (read_later p n start ts)
unfolding read_later
later_goes j S p one zero small start ts short = absurd (not-suc-le-zero short)
later_goes j S p one (suc n) small start ts short =
    let listed = read_made (read_both p (read_later p n)) (λ n v. v.0 ∷ v.1) in
    let semicolon = viable_mark {j = suc n} mark.Semicolon in
    goes_wider (Turn S) (Later S) (later_of_turn S) start ts (read_later p (suc n) start ts)
    (unless_end_goes (mark mark.Semicolon ▸ ended (Listed S)) (read_behind (read_mark mark.Semicolon) (read_unless_end listed)) start ts
    (made_goes (mark mark.Semicolon ⋅ ended (Listed S)) (λ n v. v.1) start ts (read_both (read_mark mark.Semicolon) (read_unless_end listed) start ts)
    (both_goes (mark mark.Semicolon) (ended (Listed S)) (read_unless_end listed) (has_made has_none) start ts (read_mark mark.Semicolon start ts)
    (semicolon.goes start ts short)
    (λ u between late read.
    let less = one_less n ts read.used late read.spelled.token read.whole read.spelled.alone short in
    unless_end_goes (Listed S) listed between late
    (listed_goes S p (read_later p n) between late (one.goes between late (omega (arith, less, small)))
    (λ a middle rest again. later_goes j S p one n (omega (arith, small)) middle rest (left_short n late again.used rest again.whole less)))))))

-- a whole file
file_goes : (j : ℕ) (start : Point) (ts : List Token) → length ts < suc j → Goes (file (within (suc j))) start ts (read_file (suc j) (nested j) start ts)
unfolding read_file
file_goes j start ts short =
    let one = viable_statement (viable_inside j j (le_refl j)) in
    let S = statement (within (suc j)) in
    let p = read_statement (suc j) (nested j) in
    goes_wider (Listed S) (file (within (suc j))) (file_of_listed S) start ts (read_file (suc j) (nested j) start ts)
    (listed_goes S p (read_later p (suc j)) start ts (one.goes start ts short)
    (λ a between late read. later_goes (suc j) S p one (suc j) (le_refl (suc j)) between late (left_short (suc j) ts read.used late read.whole short)))

take_used : (used rest : List Token) → take (length used) (used ++ rest) ≡ used
take_used [] rest = refl
take_used (token ∷ used) rest = ap (λ us. token ∷ us) (take_used used rest)

taken : (ts used rest : List Token) (place : ℕ) → ts ≡ used ++ rest → place ≡ 0 + length used → take place ts ≡ used
taken ts used rest place whole at =
    let here : place ≡ length used = omega (arith, at) in
    ap (take place) whole ∙ ap (λ n. take n (used ++ rest)) here ∙ take_used used rest

-- where the reader of files is stuck, the tokens before begin a file
pub file_begins : (room place : ℕ) (ts : List Token) → length ts < suc room → read_file (suc room) (nested room) start ts ≡ Stuck place
    → Begins SpellsFile (take place ts)
file_begins room place ts short stuck =
    let begun = subst (Goes (file (within (suc room))) start ts) stuck (file_goes room start ts short) in (
      begun.more,
      begun.value,
      subst (λ us. SpellsFile (us ++ begun.more) begun.value) (sym (taken ts begun.used begun.rest place begun.whole begun.at))
          (begun.end, (suc room, begun.spelled)),
    )

-- where that of expressions is stuck, they begin an expression
pub regex_begins : (room place : ℕ) (ts : List Token) → length ts < room → read_regex room start ts ≡ Stuck place → Begins SpellsRegex (take place ts)
regex_begins room place ts short stuck =
    let begun = subst (Goes (regex_within (suc room)) start ts) stuck ((viable_within room room (le_refl room)).goes start ts short) in (
      begun.more,
      begun.value.tree,
      subst (λ us. SpellsRegex (us ++ begun.more) begun.value.tree) (sym (taken ts begun.used begun.rest place begun.whole begun.at))
          (begun.end, begun.value, (suc room, begun.spelled), refl),
    )

-- what it gives before tokens that are left over is an expression
pub regex_before : (room end : ℕ) (ts rest : List Token) (e : Expression) → length ts < room → read_regex room start ts ≡ Got e (bare end) rest
    → Begins SpellsRegex (take end ts)
regex_before room end ts rest e short got =
    let read = subst (Goes (regex_within (suc room)) start ts) got ((viable_within room room (le_refl room)).goes start ts short) in
    let at : end ≡ 0 + length read.used = read.place in (
      [],
      e.tree,
      subst (λ us. SpellsRegex us e.tree) (sym (append-nil (take end ts) ∙ taken ts read.used rest end read.whole at))
          (bare end, e, (suc room, read.spelled), refl),
    )
