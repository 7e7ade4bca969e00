-- The places at which variables stand in patterns, in text order. A property's variable stands behind
-- the element, a cost behind its path.
use Rattle.std.specs.Prelude.{List, [], ◌∷◌, ◌++◌, Option, Some, None}
use Rattle.gc_ast.specs.Trees as tree
use Rattle.gc_ast.specs.Trees.{Tree, TreeOf, Named, RowOf, ABlock, AnOptional, ALocated, APattern, AnElement, APropertyUse, APathBody}
use Rattle.gc_sorts.specs.declared.sort.Role.{Role}
use Rattle.gc_sorts.specs.declared.sort.Role.TheVariants as role
use Rattle.gc_sorts.specs.Variables.{Use}

-- the lists of all trees of a row, one behind another
abbrev pub all_of : {A N : Type 0} {k : tree.Kind} → (TreeOf N k → List A) → TreeOf N (RowOf k) → List A
all_of f tree.none = []
all_of f (tree.more t ts) = f t ++ all_of f ts

-- a name at a place
abbrev pub use_at : Role → Named → Use
use_at role x = record { name = x.name; token = x.token; role = role }

abbrev pub use_if : Role → Option Named → List Use
use_if role None = []
use_if role (Some x) = use_at role x ∷ []

abbrev pub property_uses : Tree APropertyUse → List Use
property_uses (tree.PropertyUse token key value) = use_at role.Property value ∷ []

abbrev pub element_uses : Role → Tree AnElement → List Use
element_uses role (tree.Element token name labels properties) = use_if role name ++ all_of property_uses properties

abbrev pub body_uses : Tree APathBody → List Use
body_uses (tree.Reach regex views) = []
body_uses (tree.Found k path regex views cost) = use_at role.Found path ∷ use_if role.Cost cost
body_uses (tree.All path regex views) = use_at role.All path ∷ []
body_uses (tree.Stored path labels) = use_at role.Stored path ∷ []

abbrev pub pattern_uses : Tree APattern → List Use
pattern_uses (tree.Node element) = element_uses role.Node element
pattern_uses (tree.Edge way element) = element_uses role.Edge element
pattern_uses (tree.Path token regex_at body) = body_uses body

abbrev pub located_uses : Tree ALocated → List Use
located_uses (tree.Located parts on) = all_of pattern_uses parts

-- those of a block; of its EXISTS queries only what they see counts
abbrev pub block_uses : Tree ABlock → List Use
block_uses (tree.Block patterns filter) = all_of located_uses patterns

abbrev pub optional_uses : Tree AnOptional → List Use
optional_uses (tree.Optional token block) = block_uses block
