use Rattle.std.proofs.Common.{◌≡◌, sym, subst, ◌∙◌, ◌+◌, drop, true, Some, ◌∷◌, []}
use Rattle.gc_expr.specs.Views.{name_of}
use Rattle.gc_parse_readers.specs.Kinds.{begins, name_kind}
use Rattle.gc_parse_readers.specs.Readers.{first_means, means_name, behind}
use Rattle.gc_parse_source.proofs.NameNumbers.{name_at, numbers_length}
use Rattle.gc_parse_readers.proofs.TokenKinds.{place_within}
use Rattle.gc_parse_source.proofs.source.Source.name.Goals as goal
use native.Mathlib.Omega.{arith}

pub index-sym-requires : goal.index-sym-requires
index-sym-requires c =
    let h = subst (λ v. begins (name_kind ∷ []) (drop c.args.at v.tokens) ≡ true) (sym c.self.view_is) (sym c.is_name_at.ensures.stands ∙ c.if-not-is_name_at.false) in
    omega (arith, c.self.inside.syms.ok, place_within (name_kind ∷ []) c.args.at c.self.inside.tokens.now h, numbers_length c.self.inside.names c.self.inside.tokens.now c.self.inside.syms.items c.self.invariant.2)

pub returns-clause-taken : goal.returns-clause-taken
returns-clause-taken c =
    let h = subst (λ v. begins (name_kind ∷ []) (drop c.args.at v.tokens) ≡ true) (sym c.self.view_is) (sym c.is_name_at.ensures.stands ∙ c.if-not-is_name_at.false) in
    subst
    (λ v. (first_means means_name (drop c.args.at v.tokens) ≡ Some (name_of v.names c.index-sym.result.now)) × (c.args.at + 1 ≡ c.args.at + 1) × (behind (drop c.args.at v.tokens) ≡ drop (c.args.at + 1) v.tokens))
    c.self.view_is
    (name_at c.self.inside.names c.self.inside.tokens.now c.self.inside.syms.items c.args.at c.index-sym.result.now c.self.invariant.2 h c.index-sym.ensures)
