-- The values that a reader gives of an element, as the definitions see them.
use Rattle.std.specs.Prelude.{option_map}
use Rattle.serde_json.specs.View.{view}
use Rattle.gc_json.specs.ElementValues.{ElementValues}
use Rattle.gc_json.specs.declared.element.Element.{Element}

abbrev pub element_seen : Element → ElementValues
element_seen e =
    record {
      id = option_map view e.id;
      from = option_map view e.from;
      to = option_map view e.to;
      labels = option_map view e.labels;
      properties = option_map view e.properties;
      walk = option_map view e.walk;
      is_known = e.is_known;
    }
