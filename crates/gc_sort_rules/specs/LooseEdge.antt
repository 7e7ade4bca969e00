-- S8. A link of the CONSTRUCT is a variable of the MATCH, and is none of its links there: it has other neighbours or
-- another arrow, read from either side. Or a new edge has no direction.
-- `CONSTRUCT (n)-[e]->(n) MATCH (n)-[e]->(m)` breaks it at the first `[`.
use Rattle.std.specs.Prelude.{List, Bool, false, not, ◌&&◌, ◌||◌, Some, None, if◌then◌else◌}
use Rattle.std.specs.List.{list_any}
use Rattle.gc_ast.specs.Names.{same_name}
use Rattle.gc_sorts.specs.Links.{Link, same_neighbour, same_way, turned, is_either}
use Rattle.gc_sorts.specs.Variables.{has_use}
use Rattle.gc_sort_rules.specs.Places.{Occurrence, At, EdgeLink, PathLink}

-- whether two links are one: they have the same name, and the same neighbours and arrow, as they stand or with one of them
-- read from the other side. A neighbour with no name is not the same as another
abbrev pub fits : Link → Link → Bool
fits a b =
    same_name a.name b.name
    && ((same_neighbour a.left b.left && (same_neighbour a.right b.right && same_way a.way b.way))
    || (same_neighbour a.left b.right && (same_neighbour a.right b.left && same_way a.way (turned b.way))))

-- whether a link is none of these
abbrev pub is_loose : List Link → Link → Bool
is_loose links link = not (list_any (fits link) links)

abbrev pub breaks : Occurrence → Bool
breaks (At token (EdgeLink None left right way links) seen) = is_either way
breaks (At token (EdgeLink (Some name) left right way links) seen) =
    if has_use seen.variables name then is_loose links (record { name = name; left = left; right = right; way = way })
    else is_either way
breaks (At token (PathLink link links) seen) = has_use seen.variables link.name && is_loose links link
breaks occurrence = false
