-- Spellings of the examples.
use Rattle.std.proofs.Common.{◌≡◌, refl, ℕ, zero, suc, List, [], ◌∷◌, ◌++◌, None}
use Rattle.gc_lex.specs.declared.token.Token.{Token}
use Rattle.gc_lex.specs.declared.token.Token.TheVariants.{Word, Symbol}
use Rattle.gc_lex.specs.declared.token.Mark.{Mark}
use Rattle.gc_lex.specs.declared.token.Mark.TheVariants.{Colon, OpenParenthesis, CloseParenthesis}
use Rattle.gc_regx.specs.Trees.{Label}
use Rattle.gc_ast.specs.Trees.{Tree, AQuery, Ask, Query, GraphTerm, none, Named}
use Rattle.gc_grammar.specs.Words.{Point, Lang, next, IsName, mark, word, name, this, that}
use Rattle.gc_grammar.specs.Regexes.{plain, label, regex_within}
use Rattle.gc_grammar.specs.Expressions.{Inside, in_parentheses}
use Rattle.gc_grammar.specs.Queries.{term, query, file, within}

-- a symbol is spelled by itself
pub spells_mark : (m : Mark) (p : Point) → mark m p (Symbol m ∷ []) tt (next p)
spells_mark m p = record { token = Symbol m; alone = refl; means = refl; after = refl }

-- a word is spelled by itself
pub spells_word : (a : List ℕ) (p : Point) → word p (Word a ∷ []) a (next p)
spells_word a p = record { token = Word a; alone = refl; means = refl; after = refl }

-- a name is spelled by its word
pub spells_name : (a : List ℕ) → IsName a → (p : Point) → name p (Word a ∷ []) (record { name = a; token = p.token }) (next p)
spells_name a is_name p = record {
  value = a;
  spelled = record { token = Word a; alone = refl; means = (refl, is_name); after = refl };
  made = refl;
}

-- `:` and a word
pub spells_label : (a : List ℕ) (p : Point) → label p (Symbol Colon ∷ Word a ∷ []) (plain (Label a)) (next (next p))
spells_label a p = record {
  value = (a, None);
  spelled = record {
    early = Symbol Colon ∷ Word a ∷ [];
    late = [];
    between = next (next p);
    whole = refl;
    before = record {
      value = (tt, a);
      spelled = record {
        early = Symbol Colon ∷ [];
        late = Word a ∷ [];
        between = next p;
        whole = refl;
        before = spells_mark Colon p;
        behind = spells_word a (next p);
      };
      made = refl;
    };
    behind = (refl, refl);
  };
  made = refl;
}

-- the same as an expression
pub spells_regex : (a : List ℕ) (p : Point) → regex_within (suc zero) p (Symbol Colon ∷ Word a ∷ []) (plain (Label a)) (next (next p))
spells_regex a p = record {
  value = plain (Label a) ∷ [];
  spelled = record {
    value = (plain (Label a), []);
    spelled = record {
      early = Symbol Colon ∷ Word a ∷ [];
      late = [];
      between = next (next p);
      whole = refl;
      before = record {
        value = plain (Label a) ∷ [];
        spelled = record {
          value = (plain (Label a), []);
          spelled = record {
            early = Symbol Colon ∷ Word a ∷ [];
            late = [];
            between = next (next p);
            whole = refl;
            before = record {
              value = (plain (Label a), None);
              spelled = record {
                early = Symbol Colon ∷ Word a ∷ [];
                late = [];
                between = next (next p);
                whole = refl;
                before = this (spells_label a p);
                behind = (refl, refl);
              };
              made = refl;
            };
            behind = (refl, refl);
          };
          made = refl;
        };
        made = refl;
      };
      behind = (refl, refl);
    };
    made = refl;
  };
  made = refl;
}

-- the query that asks for a graph
abbrev pub graph_query : List ℕ → ℕ → Tree AQuery
graph_query g token = Query none (GraphTerm (record { name = g; token = token })) none

-- a term alone is a query
pub spells_query : (inside : Inside) (p q : Point) (ts : List Token) (named : Named) → ts ≡ ts ++ []
    → term inside p ts (GraphTerm named) q → query inside p ts (Query none (GraphTerm named) none) q
spells_query inside p q ts named whole t = record {
  value = ([], (GraphTerm named, []));
  spelled = record {
    early = [];
    late = ts;
    between = p;
    whole = refl;
    before = (refl, refl);
    behind = record {
      early = ts;
      late = [];
      between = q;
      whole = whole;
      before = t;
      behind = (refl, refl);
    };
  };
  made = refl;
}

-- a name is a term
pub spells_graph : (inside : Inside) (g : List ℕ) → IsName g → (p : Point)
    → query inside p (Word g ∷ []) (graph_query g p.token) (next p)
spells_graph inside g is_name p =
    spells_query inside p (next p) (Word g ∷ []) (record { name = g; token = p.token }) refl
    (that (this (record { value = record { name = g; token = p.token }; spelled = spells_name g is_name p; made = refl })))

-- what is in parentheses
pub spells_inside : {A : Type 0} (L : Lang A) (p q : Point) (ts : List Token) (a : A) → L (next p) ts a q
    → in_parentheses L p (Symbol OpenParenthesis ∷ (ts ++ Symbol CloseParenthesis ∷ [])) a (next q)
spells_inside L p q ts a l = record {
  value = (a, tt);
  spelled = record {
    early = Symbol OpenParenthesis ∷ ts;
    late = Symbol CloseParenthesis ∷ [];
    between = q;
    whole = refl;
    before = record {
      value = (tt, a);
      spelled = record {
        early = Symbol OpenParenthesis ∷ [];
        late = ts;
        between = next p;
        whole = refl;
        before = spells_mark OpenParenthesis p;
        behind = l;
      };
      made = refl;
    };
    behind = spells_mark CloseParenthesis q;
  };
  made = refl;
}

-- a name in parentheses is a query
pub spells_graph_inside : (depth : ℕ) (g : List ℕ) → IsName g → (p : Point)
    → query (within (suc depth)) p (Symbol OpenParenthesis ∷ Word g ∷ Symbol CloseParenthesis ∷ []) (graph_query g (next p).token) (next (next (next p)))
spells_graph_inside depth g is_name p =
    spells_query (within (suc depth)) p (next (next (next p))) (Symbol OpenParenthesis ∷ Word g ∷ Symbol CloseParenthesis ∷ [])
    (record { name = g; token = (next p).token }) refl
    (that (that (record {
      value = graph_query g (next p).token;
      spelled = spells_inside (query (within depth)) p (next (next p)) (Word g ∷ []) (graph_query g (next p).token)
          (spells_graph (within depth) g is_name (next p));
      made = refl;
    })))

-- a query alone is a file
pub spells_file : (inside : Inside) (p q : Point) (ts : List Token) (asked : Tree AQuery) → ts ≡ ts ++ []
    → query inside p ts asked q → file inside p ts (Ask asked ∷ []) q
spells_file inside p q ts asked whole spelled = record {
  value = (Ask asked ∷ [], None);
  spelled = record {
    early = ts;
    late = [];
    between = q;
    whole = whole;
    before = record {
      value = (Ask asked, []);
      spelled = record {
        early = ts;
        late = [];
        between = q;
        whole = whole;
        before = that (record { value = asked; spelled = spelled; made = refl });
        behind = (refl, refl);
      };
      made = refl;
    };
    behind = (refl, refl);
  };
  made = refl;
}
