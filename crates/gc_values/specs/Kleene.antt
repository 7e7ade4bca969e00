-- Three-valued truth, by Kleene's tables.
use Rattle.std.specs.Prelude.{Bool, true, false}
use Rattle.gc_values.specs.declared.truth3.Truth3.{Truth3}
use Rattle.gc_values.specs.declared.truth3.Truth3.TheVariants.{Yes, No, Unknown}

-- the truth of what is known
abbrev pub told : Bool → Truth3
told true = Yes
told false = No

abbrev pub denied : Truth3 → Truth3
denied Yes = No
denied No = Yes
denied Unknown = Unknown

abbrev pub both : Truth3 → Truth3 → Truth3
both Yes t = t
both No t = No
both Unknown No = No
both Unknown t = Unknown

abbrev pub either : Truth3 → Truth3 → Truth3
either No t = t
either Yes t = Yes
either Unknown Yes = Yes
either Unknown t = Unknown
