use Rattle.std.proofs.Common.{◌≡◌, ◌≤◌, ◌+◌, ◌-◌}
use Rattle.pur_io.specs.Texts.{text_chosen}
use Rattle.pur_commands.specs.Private.Reading.{TakenSoFar}
use Rattle.pur_commands.proofs.texts.read_chosen.Given as goal

abbrev pub invariant-reading : goal.invariant-reading
invariant-reading g l = let shelf = g.H.Shelf in record {
  texts : shelf.texts l.shelf ≡ shelf.texts l.fn.shelf;
  chosen : shelf.chosen l.shelf ≡ shelf.chosen l.fn.shelf;
  mark : shelf.mark l.shelf ≡ shelf.mark l.fn.shelf;
  kept : shelf.faults l.shelf ≡ shelf.faults l.fn.shelf;
  small : l.count ≤ l.limit + 1;
  taken : TakenSoFar (g.T.Intake.took l.taking) (shelf.texts l.fn.shelf) (λ texts. text_chosen texts (shelf.chosen l.fn.shelf)) (shelf.place l.shelf) l.count;
}

abbrev pub decreases-reading : goal.decreases-reading
decreases-reading g l = l.limit + 1 - l.count
