use Rattle.std.proofs.Common.{◌≡◌, subst, OnOk}
use Rattle.gc_build_numbers.proofs.KeysLaws.{keys_long}
use Rattle.gc_build_numbers.proofs.WholeRowLaws.{each_row}
use Rattle.gc_build_numbers.proofs.numbering.add.Goals as goal

pub returns-in-EachRow : goal.returns-in-EachRow
returns-in-EachRow g c =
    subst (λ n. OnOk c.add_rows.result (c.add_rows.new.numbering ≡ n))
    (each_row c.args.setting.now c.args.numbering.now c.args.variable.now c.in-EachRow.is c.add_rows.ensures.ascend)
    c.add_rows.ensures.rows

pub add_groups-requires : goal.add_groups-requires
add_groups-requires g c = (
  keys_long c.args.setting.now c.args.numbering.now.variables c.args.variable.now 0 c.args.setting.now.rows,
  (c.in_ok-groups-in_default.ensures.groups, c.in_ok-groups-in_default.ensures.each),
)
