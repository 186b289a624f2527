use Rattle.std.proofs.Common.{◌∙◌, ◌≤◌, length, drop, sym}
use Rattle.std.proofs.lemmas.List.{take-append-le}
use Rattle.pur_commands.proofs.StreamLemmas.{taken_on, read_small, succeeded}
use Rattle.pur_commands.proofs.texts.read_chosen.Goals as goal

pub reading-preserved : goal.reading-preserved
reading-preserved g c =
    let shelf = g.H.Shelf in
    let next = c.in-Ok.next in
    let into = c.read.new.into in
    let bound : next ≤ length into = c.in-Ok.ensures.bound in
    let step = succeeded c.take_piece.result (sym c.if-is_err.ensures.value) c.take_piece.ensures in
    record {
      texts = c.in-Ok.ensures.texts ∙ c.reading.invariant.texts;
      chosen = c.in-Ok.ensures.chosen ∙ c.reading.invariant.chosen;
      mark = c.in-Ok.ensures.mark ∙ c.reading.invariant.mark;
      kept = c.in-Ok.ensures.cause.kept ∙ c.reading.invariant.kept;
      small = read_small into c.reading.buffer next c.reading.count c.min-want.result (length c.reading.buffer) c.args.limit bound c.read.auto.into
          c.min-want.ensures c.reading-test.true;
      taken = taken_on (g.T.Intake.took c.reading.taking) (g.T.Intake.took c.take_piece.new.self) (shelf.texts c.args.shelf.now)
          (shelf.chosen c.args.shelf.now) (shelf.chosen c.reading.shelf) _ _ next c.reading.count into _ c.reading.invariant.chosen bound
          (take-append-le next into (drop c.min-want.result c.reading.buffer) bound) step c.reading.invariant.taken (rw c.reading.invariant.texts at c.in-Ok.ensures.bytes);
    }
