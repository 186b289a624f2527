-- The rows that are left have the answer of all.
use Rattle.std.proofs.Common.{◌≡◌, drop, map}
use Rattle.pur_csstok.specs.Colors.{color_in}
use Rattle.pur_csstok.proofs.colors.color_in.Given as goal

abbrev pub invariant-loop-row : goal.invariant-loop-row
invariant-loop-row l =
    color_in (map (λ row. (row.0.now, row.1.now)) (drop l.row-index l.table)) l.name ≡ color_in (map (λ row. (row.0.now, row.1.now)) l.table) l.name
