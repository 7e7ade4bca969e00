-- The tokens of regular path expressions spell them.
use Rattle.std.proofs.Common.{◌≡◌, ℕ, zero, suc, ◌+◌, ◌<◌, ◌≤◌, Bool, true, false, nat_lt, List, [], ◌∷◌, ◌++◌, map, Some, None, refl, sym, ap, subst, ◌∙◌, arith, cond, ◌-◌, zero-add, append_assoc}
use Rattle.std.specs.List.{flat_map}
use Rattle.std.proofs.lemmas.Bool.Decides.{nat_tests}
use Rattle.std.proofs.lemmas.List.{append-nil}
use Rattle.gc_lex.specs.declared.token.Token.{Token}
use Rattle.gc_lex.specs.declared.token.Token.TheVariants.{Word, Symbol}
use Rattle.gc_lex.specs.declared.token.Mark.{Mark}
use Rattle.gc_lex.specs.declared.token.Mark.TheVariants as mark
use Rattle.gc_regx.specs.Trees.{Kind, RegexTree, ARegex, ARow, Label, Back, Any, AnyBack, Test, View, Cat, Alt, Star, none, more, row}
use Rattle.gc_ast.specs.Trees.{Named}
use Rattle.gc_grammar.specs.Words.{Point, Lang, next, IsName, this, that, several, many, ◌▸◌}
use Rattle.gc_grammar.specs.Words as words
use Rattle.gc_grammar.specs.Regexes.{Expression, plain, atom, star, cat, alt, regex_within, chained}
use Rattle.gc_grammar.specs.Queries.{SpellsRegex, start}
use Rattle.gc_grammar.proofs.Spellings.{spells_mark, spells_word, spells_name, spells_label, spells_inside}
use Rattle.gc_print.specs.LooseTrees.{looseness_of, rank}
use Rattle.gc_print.specs.declared.looseness.Looseness.{Looseness}
use Rattle.gc_print.specs.declared.looseness.Looseness.TheVariants as loose
use Rattle.gc_print.specs.RegexTokens.{TokenPart, enclosed_tokens, joined, tokens_of}
use Rattle.gc_regx.specs.Expressions.{IsFormed, IsLong, IsExpression}

-- no expression has parentheses deeper than this
height : {k : Kind} → RegexTree k → ℕ
height (Label l) = 0
height (Back l) = 0
height Any = 0
height AnyBack = 0
height (Test l) = 0
height (View v) = 0
height (Cat parts) = suc (height parts)
height (Alt parts) = suc (height parts)
height (Star part) = suc (height part)
height none = 0
height (more part parts) = height part + height parts

-- the expressions that hold together as tightly as some looseness
level : ℕ → Lang Expression → Lang Expression
level zero = atom
level (suc zero) = star
level (suc (suc zero)) = cat
level (suc (suc (suc n))) = alt

looseness_most : (tree : RegexTree ARegex) → rank (looseness_of tree) ≤ 3
looseness_most (Label l) = omega arith
looseness_most (Back l) = omega arith
looseness_most Any = omega arith
looseness_most AnyBack = omega arith
looseness_most (Test l) = omega arith
looseness_most (View v) = omega arith
looseness_most (Cat parts) = omega arith
looseness_most (Alt parts) = omega arith
looseness_most (Star part) = omega arith

-- tokens spell a tree in a language
pub record Spelled (L : Lang Expression) (p : Point) (ts : List Token) (tree : RegexTree ARegex) : Type 0 where
  pub value : Expression
  pub end : Point
  pub spelled : L p ts value end
  pub tree_is : value.tree ≡ tree

-- a symbol, and what is spelled behind it
behind_mark : {A : Type 0} (m : Mark) (L : Lang A) (p q : Point) (ts : List Token) (a : A) → L (next p) ts a q → (words.mark m ▸ L) p (Symbol m ∷ ts) a q
behind_mark m L p q ts a spelled = record {
  value = (tt, a);
  spelled = record { early = Symbol m ∷ []; late = ts; between = next p; whole = refl; before = spells_mark m p; behind = spelled };
  made = refl;
}

-- the units
label_spelled : (inside : Lang Expression) (p : Point) (l : List ℕ) → Spelled (atom inside) p (Symbol mark.Colon ∷ Word l ∷ []) (Label l)
label_spelled inside p l = record { value = plain (Label l); end = next (next p); spelled = this (spells_label l p); tree_is = refl }

back_spelled : (inside : Lang Expression) (p : Point) (l : List ℕ) → Spelled (atom inside) p (Symbol mark.Colon ∷ Word l ∷ Symbol mark.Minus ∷ []) (Back l)
back_spelled inside p l = record {
  value = plain (Back l);
  end = next (next (next p));
  spelled = this (record {
    value = (l, Some tt);
    spelled = record {
      early = Symbol mark.Colon ∷ Word l ∷ [];
      late = Symbol mark.Minus ∷ [];
      between = next (next p);
      whole = refl;
      before = behind_mark mark.Colon words.word p (next (next p)) (Word l ∷ []) l (spells_word l (next p));
      behind = spells_mark mark.Minus (next (next p));
    };
    made = refl;
  });
  tree_is = refl;
}

any_spelled : (inside : Lang Expression) (p : Point) → Spelled (atom inside) p (Symbol mark.LowLine ∷ []) Any
any_spelled inside p = record {
  value = plain Any;
  end = next p;
  spelled = that (this (record {
    value = None;
    spelled = behind_mark mark.LowLine (words.optional (words.mark mark.Minus)) p (next p) [] None (refl, refl);
    made = refl;
  }));
  tree_is = refl;
}

any_back_spelled : (inside : Lang Expression) (p : Point) → Spelled (atom inside) p (Symbol mark.LowLine ∷ Symbol mark.Minus ∷ []) AnyBack
any_back_spelled inside p = record {
  value = plain AnyBack;
  end = next (next p);
  spelled = that (this (record {
    value = Some tt;
    spelled = behind_mark mark.LowLine (words.optional (words.mark mark.Minus)) p (next (next p)) (Symbol mark.Minus ∷ []) (Some tt) (spells_mark mark.Minus (next p));
    made = refl;
  }));
  tree_is = refl;
}

test_spelled : (inside : Lang Expression) (p : Point) (l : List ℕ) → Spelled (atom inside) p (Symbol mark.Bang ∷ Symbol mark.Colon ∷ Word l ∷ []) (Test l)
test_spelled inside p l = record {
  value = plain (Test l);
  end = next (next (next p));
  spelled = that (that (this (record {
    value = l;
    spelled =
        behind_mark mark.Bang (words.mark mark.Colon ▸ words.word) p (next (next (next p))) (Symbol mark.Colon ∷ Word l ∷ []) l
        (behind_mark mark.Colon words.word (next p) (next (next (next p))) (Word l ∷ []) l (spells_word l (next (next p))));
    made = refl;
  })));
  tree_is = refl;
}

view_spelled : (inside : Lang Expression) (p : Point) (v : List ℕ) → IsName v → Spelled (atom inside) p (Symbol mark.Tilde ∷ Word v ∷ []) (View v)
view_spelled inside p v is_name =
    let named : Named = record { name = v; token = (next p).token } in
    record {
      value = record { tree = View v; views = named ∷ [] };
      end = next (next p);
      spelled = that (that (that (this (record {
        value = named;
        spelled = behind_mark mark.Tilde words.name p (next (next p)) (Word v ∷ []) named (spells_name v is_name (next p));
        made = refl;
      }))));
      tree_is = refl;
    }

-- what holds together tightly is in each looser language
star_of_atom : (inside : Lang Expression) (p : Point) (ts : List Token) (tree : RegexTree ARegex) → Spelled (atom inside) p ts tree → Spelled (star inside) p ts tree
star_of_atom inside p ts tree s = record {
  value = s.value;
  end = s.end;
  spelled = record {
    value = (s.value, None);
    spelled = record { early = ts; late = []; between = s.end; whole = sym (append-nil ts); before = s.spelled; behind = (refl, refl) };
    made = refl;
  };
  tree_is = s.tree_is;
}

cat_of_star : (inside : Lang Expression) (p : Point) (ts : List Token) (tree : RegexTree ARegex) → Spelled (star inside) p ts tree → Spelled (cat inside) p ts tree
cat_of_star inside p ts tree s = record {
  value = s.value;
  end = s.end;
  spelled = record {
    value = s.value ∷ [];
    spelled = record {
      value = (s.value, []);
      spelled = record { early = ts; late = []; between = s.end; whole = sym (append-nil ts); before = s.spelled; behind = (refl, refl) };
      made = refl;
    };
    made = refl;
  };
  tree_is = s.tree_is;
}

alt_of_cat : (inside : Lang Expression) (p : Point) (ts : List Token) (tree : RegexTree ARegex) → Spelled (cat inside) p ts tree → Spelled (alt inside) p ts tree
alt_of_cat inside p ts tree s = record {
  value = s.value;
  end = s.end;
  spelled = record {
    value = s.value ∷ [];
    spelled = record {
      value = (s.value, []);
      spelled = record { early = ts; late = []; between = s.end; whole = sym (append-nil ts); before = s.spelled; behind = (refl, refl) };
      made = refl;
    };
    made = refl;
  };
  tree_is = s.tree_is;
}

loosened : (n : ℕ) (inside : Lang Expression) (p : Point) (ts : List Token) (tree : RegexTree ARegex) → Spelled (level n inside) p ts tree → Spelled (level (suc n) inside) p ts tree
unfolding level
loosened zero inside p ts tree s = star_of_atom inside p ts tree s
loosened (suc zero) inside p ts tree s = cat_of_star inside p ts tree s
loosened (suc (suc zero)) inside p ts tree s = alt_of_cat inside p ts tree s
loosened (suc (suc (suc n))) inside p ts tree s = s

loosened_by : (k n : ℕ) (inside : Lang Expression) (p : Point) (ts : List Token) (tree : RegexTree ARegex) → Spelled (level n inside) p ts tree → Spelled (level (k + n) inside) p ts tree
loosened_by zero n inside p ts tree s = subst (λ m. Spelled (level m inside) p ts tree) (sym (zero-add n)) s
loosened_by (suc k) n inside p ts tree s =
    subst (λ m. Spelled (level m inside) p ts tree) {x = suc (k + n)} {y = suc k + n} (omega arith) (loosened (k + n) inside p ts tree (loosened_by k n inside p ts tree s))

loosened_to : (n most : ℕ) → n ≤ most → (inside : Lang Expression) (p : Point) (ts : List Token) (tree : RegexTree ARegex) → Spelled (level n inside) p ts tree → Spelled (level most inside) p ts tree
loosened_to n most within inside p ts tree s =
    subst (λ m. Spelled (level m inside) p ts tree) {x = most - n + n} {y = most} (omega (arith, within)) (loosened_by (most - n) n inside p ts tree s)

-- in parentheses it holds together as tightly as a unit
grouped : (inside : Lang Expression) (p : Point) (ts : List Token) (tree : RegexTree ARegex) → Spelled inside (next p) ts tree
    → Spelled (atom inside) p (Symbol mark.OpenParenthesis ∷ (ts ++ Symbol mark.CloseParenthesis ∷ [])) tree
grouped inside p ts tree s = record {
  value = s.value;
  end = next s.end;
  spelled = that (that (that (that (spells_inside inside p s.end ts s.value s.spelled))));
  tree_is = s.tree_is;
}

-- however deep parentheses may be, if they may be deep enough
abbrev SpellsTree : RegexTree ARegex → Type 0
SpellsTree tree = (depth : ℕ) (p : Point) → height tree ≤ depth → Spelled (level (rank (looseness_of tree)) (regex_within depth)) p (tokens_of tree) tree

abbrev token_part : RegexTree ARegex → TokenPart
token_part tree = record { looseness = looseness_of tree; tokens = tokens_of tree }

-- a part of a list
enclosed_spelled : (most : Looseness) (tree : RegexTree ARegex) → SpellsTree tree → (depth : ℕ) (p : Point) → height tree < depth
    → Spelled (level (rank most) (regex_within depth)) p (enclosed_tokens most (token_part tree)) tree
unfolding level
enclosed_spelled most tree spells depth p low = by (nat_lt (rank most) (rank (looseness_of tree))) refl
  where
    in_marks : (d : ℕ) → height tree < d → Spelled (atom (regex_within d)) p (Symbol mark.OpenParenthesis ∷ (tokens_of tree ++ Symbol mark.CloseParenthesis ∷ [])) tree
    in_marks zero h = absurd (omega (arith, h))
    in_marks (suc d) h =
        grouped (regex_within (suc d)) p (tokens_of tree) tree
        (loosened_to (rank (looseness_of tree)) 3 (looseness_most tree) (regex_within d) (next p) (tokens_of tree) tree (spells d (next p) (omega (arith, h))))

    by : (loose : Bool) → nat_lt (rank most) (rank (looseness_of tree)) ≡ loose
        → Spelled (level (rank most) (regex_within depth)) p (cond loose (Symbol mark.OpenParenthesis ∷ (tokens_of tree ++ Symbol mark.CloseParenthesis ∷ [])) (tokens_of tree)) tree
    by true h = loosened_to 0 (rank most) (omega arith) (regex_within depth) p _ tree (in_marks depth low)
    by false h = loosened_to (rank (looseness_of tree)) (rank most) (grind (arith, nat_tests)) (regex_within depth) p (tokens_of tree) tree (spells depth p (omega (arith, low)))

-- rows of trees, spelled one after another behind what stands between
record ManySpelled (L : Lang Expression) (p : Point) (ts : List Token) (parts : RegexTree ARow) : Type 0 where
  pub values : List Expression
  pub end : Point
  pub spelled : many L p ts values end
  pub trees_are : row (map (λ e. e.tree) values) ≡ parts

module _ (L : Lang Expression) (between : List Token) (most : Looseness) where
  -- each part is spelled, wherever it stands
  EachSpelled : RegexTree ARow → Type 0
  EachSpelled none = Unit {0}
  EachSpelled (more part parts) =
      ((p : Point) → Spelled L p (between ++ enclosed_tokens most (token_part part)) part) × EachSpelled parts

  many_spelled : (parts : RegexTree ARow) → EachSpelled parts → (p : Point)
      → ManySpelled L p (flat_map (λ part. between ++ enclosed_tokens most part) (tokens_of parts)) parts
  unfolding EachSpelled tokens_of
  many_spelled none each p = record { values = []; end = p; spelled = (refl, refl); trees_are = refl }
  many_spelled (more part parts) each p =
      let first = each.0 p in
      let later = many_spelled parts each.1 first.end in
      record {
        values = first.value ∷ later.values;
        end = later.end;
        spelled = (between ++ enclosed_tokens most (token_part part), flat_map (λ other. between ++ enclosed_tokens most other) (tokens_of parts), first.end, refl, first.spelled, later.spelled);
        trees_are = λ i. more (first.tree_is i) (later.trees_are i);
      }

-- joined lists are the first, and each later one behind what stands between
joined_first : (between tokens : List Token) (lists : List (List Token)) → joined between (tokens ∷ lists) ≡ tokens ++ flat_map (λ other. between ++ other) lists
joined_first between tokens [] = sym (append-nil tokens)
joined_first between tokens (other ∷ lists) =
    ap (λ rest. tokens ++ (between ++ rest)) (joined_first between other lists)
    ∙ ap (λ rest. tokens ++ rest) (sym (append_assoc between other (flat_map (λ list. between ++ list) lists)))

flat_map_map : {X Y Z : Type 0} (f : Y → List Z) (g : X → Y) (xs : List X) → flat_map f (map g xs) ≡ flat_map (λ x. f (g x)) xs
flat_map_map f g [] = refl
flat_map_map f g (x ∷ xs) = ap (λ rest. f (g x) ++ rest) (flat_map_map f g xs)

-- the tokens of a list are those of its first part, and then of the others
list_tokens : (between : List Token) (most : Looseness) (part : RegexTree ARegex) (parts : RegexTree ARow)
    → joined between (map (enclosed_tokens most) (tokens_of (more part parts)))
    ≡ enclosed_tokens most (token_part part) ++ flat_map (λ other. between ++ enclosed_tokens most other) (tokens_of parts)
unfolding tokens_of
list_tokens between most part parts =
    joined_first between (enclosed_tokens most (token_part part)) (map (enclosed_tokens most) (tokens_of parts))
    ∙ ap (λ rest. enclosed_tokens most (token_part part) ++ rest) (flat_map_map (λ other. between ++ other) (enclosed_tokens most) (tokens_of parts))

-- the value of a list of two parts or more
chained_tree : (make : RegexTree ARow → RegexTree ARegex) (e : Expression) (es : List Expression) (part other : RegexTree ARegex) (parts : RegexTree ARow)
    → e.tree ≡ part → row (map (λ f. f.tree) es) ≡ more other parts → (chained make (e ∷ es)).tree ≡ make (more part (more other parts))
chained_tree make e [] part other parts first later = absurd (cc)
chained_tree make e (f ∷ es) part other parts first later = λ i. make (more (first i) (later i))

-- a list of two parts or more that follow one another
cat_spelled : (inside : Lang Expression) (p : Point) (parts : RegexTree ARow) → IsLong parts → EachSpelled (star inside) [] loose.Star parts
    → Spelled (cat inside) p (joined [] (map (enclosed_tokens loose.Star) (tokens_of parts))) (Cat parts)
unfolding EachSpelled
cat_spelled inside p none long each = absurd long
cat_spelled inside p (more part none) long each = absurd long
cat_spelled inside p (more part (more other parts)) long each =
    let first = each.0 p in
    let later = many_spelled (star inside) [] loose.Star (more other parts) each.1 first.end in
    record {
      value = chained Cat (first.value ∷ later.values);
      end = later.end;
      spelled = record {
        value = first.value ∷ later.values;
        spelled = record {
          value = (first.value, later.values);
          spelled = record {
            early = enclosed_tokens loose.Star (token_part part);
            late = flat_map (λ next. enclosed_tokens loose.Star next) (tokens_of (more other parts));
            between = first.end;
            whole = list_tokens [] loose.Star part (more other parts);
            before = first.spelled;
            behind = later.spelled;
          };
          made = refl;
        };
        made = refl;
      };
      tree_is = chained_tree Cat first.value later.values part other parts first.tree_is later.trees_are;
    }

-- a branch behind its bar
behind_bar : (inside : Lang Expression) (p : Point) (ts : List Token) (tree : RegexTree ARegex) → Spelled (cat inside) (next p) ts tree
    → Spelled (words.mark mark.Bar ▸ cat inside) p (Symbol mark.Bar ∷ ts) tree
behind_bar inside p ts tree s = record {
  value = s.value;
  end = s.end;
  spelled = behind_mark mark.Bar (cat inside) p s.end ts s.value s.spelled;
  tree_is = s.tree_is;
}

-- two branches or more
alt_spelled : (inside : Lang Expression) (p : Point) (part : RegexTree ARegex) (parts : RegexTree ARow) → IsLong (more part parts)
    → Spelled (cat inside) p (enclosed_tokens loose.Juxtaposition (token_part part)) part → EachSpelled (words.mark mark.Bar ▸ cat inside) (Symbol mark.Bar ∷ []) loose.Juxtaposition parts
    → Spelled (alt inside) p (joined (Symbol mark.Bar ∷ []) (map (enclosed_tokens loose.Juxtaposition) (tokens_of (more part parts)))) (Alt (more part parts))
alt_spelled inside p part none long first each = absurd long
alt_spelled inside p part (more other parts) long first each =
    let later = many_spelled (words.mark mark.Bar ▸ cat inside) (Symbol mark.Bar ∷ []) loose.Juxtaposition (more other parts) each first.end in
    record {
      value = chained Alt (first.value ∷ later.values);
      end = later.end;
      spelled = record {
        value = first.value ∷ later.values;
        spelled = record {
          value = (first.value, later.values);
          spelled = record {
            early = enclosed_tokens loose.Juxtaposition (token_part part);
            late = flat_map (λ next. Symbol mark.Bar ∷ enclosed_tokens loose.Juxtaposition next) (tokens_of (more other parts));
            between = first.end;
            whole = list_tokens (Symbol mark.Bar ∷ []) loose.Juxtaposition part (more other parts);
            before = first.spelled;
            behind = later.spelled;
          };
          made = refl;
        };
        made = refl;
      };
      tree_is = chained_tree Alt first.value later.values part other parts first.tree_is later.trees_are;
    }

-- a part any number of times
star_spelled : (inside : Lang Expression) (p : Point) (ts : List Token) (tree : RegexTree ARegex) → Spelled (atom inside) p ts tree
    → Spelled (star inside) p (ts ++ Symbol mark.Star ∷ []) (Star tree)
star_spelled inside p ts tree s = record {
  value = record { tree = Star s.value.tree; views = s.value.views };
  end = next s.end;
  spelled = record {
    value = (s.value, Some tt);
    spelled = record { early = ts; late = Symbol mark.Star ∷ []; between = s.end; whole = refl; before = s.spelled; behind = spells_mark mark.Star s.end };
    made = refl;
  };
  tree_is = ap Star s.tree_is;
}

-- a row of expressions spells each
SpellsRow : RegexTree ARow → Type 0
SpellsRow none = Unit {0}
SpellsRow (more part parts) = SpellsTree part × SpellsRow parts

SpellsKind : (k : Kind) → RegexTree k → Type 0
SpellsKind ARegex tree = SpellsTree tree
SpellsKind ARow parts = SpellsRow parts

cat_parts : (parts : RegexTree ARow) → SpellsRow parts → (depth : ℕ) → height parts < depth → EachSpelled (star (regex_within depth)) [] loose.Star parts
unfolding SpellsRow EachSpelled height level
cat_parts none row depth low = tt
cat_parts (more part parts) row depth low =
    (λ p. enclosed_spelled loose.Star part row.0 depth p (omega (arith, low)), cat_parts parts row.1 depth (omega (arith, low)))

alt_parts : (parts : RegexTree ARow) → SpellsRow parts → (depth : ℕ) → height parts < depth → EachSpelled (words.mark mark.Bar ▸ cat (regex_within depth)) (Symbol mark.Bar ∷ []) loose.Juxtaposition parts
unfolding SpellsRow EachSpelled height level
alt_parts none row depth low = tt
alt_parts (more part parts) row depth low = (
  λ p. behind_bar (regex_within depth) p (enclosed_tokens loose.Juxtaposition (token_part part)) part (enclosed_spelled loose.Juxtaposition part row.0 depth (next p) (omega (arith, low))),
  alt_parts parts row.1 depth (omega (arith, low)),
)

-- every expression that the grammar gives is spelled by its tokens
spells_tree : {k : Kind} (tree : RegexTree k) → IsExpression tree → SpellsKind k tree
unfolding IsFormed IsName tokens_of SpellsKind SpellsRow height level
spells_tree (Label l) is = λ depth p low. label_spelled (regex_within depth) p l
spells_tree (Back l) is = λ depth p low. back_spelled (regex_within depth) p l
spells_tree Any is = λ depth p low. any_spelled (regex_within depth) p
spells_tree AnyBack is = λ depth p low. any_back_spelled (regex_within depth) p
spells_tree (Test l) is = λ depth p low. test_spelled (regex_within depth) p l
spells_tree (View v) is = λ depth p low. view_spelled (regex_within depth) p v is.1
spells_tree (Cat parts) is =
    let row = spells_tree parts is.1 in
    λ depth p low. cat_spelled (regex_within depth) p parts is.0 (cat_parts parts row depth (omega (arith, low)))
spells_tree (Alt none) is = absurd is.0
spells_tree (Alt (more part parts)) is =
    let row = spells_tree (more part parts) is.1 in
    λ depth p low. alt_spelled (regex_within depth) p part parts is.0
    (enclosed_spelled loose.Juxtaposition part row.0 depth p (omega (arith, low))) (alt_parts parts row.1 depth (omega (arith, low)))
spells_tree (Star part) is =
    let spells = spells_tree part is in
    λ depth p low. star_spelled (regex_within depth) p (enclosed_tokens loose.Unit (token_part part)) part (enclosed_spelled loose.Unit part spells depth p (omega (arith, low)))
spells_tree none is = tt
spells_tree (more part parts) is = (spells_tree part is.0, spells_tree parts is.1)

pub tokens_spell : (tree : RegexTree ARegex) → IsExpression tree → SpellsRegex (tokens_of tree) tree
unfolding SpellsKind level
tokens_spell tree is =
    let depth = height tree in
    let spelled = spells_tree tree is depth start (omega arith) in
    let whole = loosened_to (rank (looseness_of tree)) 3 (looseness_most tree) (regex_within depth) start (tokens_of tree) tree spelled in
    (whole.end, whole.value, (suc depth, whole.spelled), whole.tree_is)
