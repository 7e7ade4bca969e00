use Rattle.gc_sets.proofs.OriginLaws.{difference_comes, intersection_comes, union_comes}
use Rattle.gc_sets.proofs.laws.what_is_combined_comes_from_where_its_graphs_do.Goals as goal

pub returns-clause-union : goal.returns-clause-union
returns-clause-union c = λ graphs next after a b g turns is_a is_b u. union_comes graphs next after a b turns g is_a is_b u

pub returns-clause-intersection : goal.returns-clause-intersection
returns-clause-intersection c = λ graphs next after a b g turns is_a is_b u. intersection_comes graphs next after a b turns g is_a is_b u

pub returns-clause-difference : goal.returns-clause-difference
returns-clause-difference c = λ graphs next after a b turns is_a. difference_comes graphs next after a b turns is_a
