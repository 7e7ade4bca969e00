-- The atoms of one property and those of the ones behind it.
use Rattle.std.proofs.Common.{◌≡◌, sym, ap, ◌∙◌, ℕ, ◌+◌, ◌<◌, List, [], ◌∷◌, ◌++◌, length, get_or, drop, map}
use Rattle.std.proofs.lemmas.List.{append_assoc}
use Rattle.gc_base.specs.declared.place.Sym.{Sym}
use Rattle.gc_ppg.specs.declared.shape.Kind.{Kind}
use Rattle.gc_expr.specs.Views.{Names, name_of}
use Rattle.gc_alg.specs.declared.atom.Atom.{Atom}
use Rattle.gc_ast.specs.declared.pattern.PropertyUse.{PropertyUse}
use Rattle.gc_ast.specs.PatternViews.{property_use_by}
use Rattle.gc_ast.specs.Trees.{row}
use Rattle.gc_lower.specs.Chains.{property_atom, property_atoms}
use Rattle.gc_lower.specs.Scopes.{Scope}
use Rattle.gc_lower.proofs.Dealings.{one_and_rest}

pub next_property : (s : Scope) (names : Names) (graph : ℕ) (x : Sym) (kind : Kind) (before after : List Atom) (items : List PropertyUse) (i : ℕ) (p : PropertyUse)
    → i < length items → p ≡ get_or items i p
    → after ≡ before ++ property_atom s graph x kind (property_use_by (name_of names) p) ∷ []
    → after ++ property_atoms s graph x kind (row (map (property_use_by (name_of names)) (drop (i + 1) items)))
    ≡ before ++ property_atoms s graph x kind (row (map (property_use_by (name_of names)) (drop i items)))
next_property s names graph x kind before after items i p h at given =
    let atom = property_atom s graph x kind (property_use_by (name_of names) p) in
    let rest = property_atoms s graph x kind (row (map (property_use_by (name_of names)) (drop (i + 1) items))) in
    ap (λ atoms. atoms ++ rest) given
    ∙ (append_assoc before (atom ∷ []) rest
    ∙ ap (λ ps. before ++ property_atoms s graph x kind (row (map (property_use_by (name_of names)) ps))) (sym (one_and_rest items i p h at)))
