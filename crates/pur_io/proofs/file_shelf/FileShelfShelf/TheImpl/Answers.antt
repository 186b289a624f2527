-- A shelf over the real world tells no texts, so nothing is owed of what was read, and its place is
-- always the same.
use Rattle.std.proofs.Common.{◌≡◌, Ok, Err, IfOk, OnErr, refl}
use Rattle.std.specs.Prelude.{⊤}
use Rattle.pur_io.proofs.file_shelf.FileShelfShelf.TheImpl.Goals as goal

pub read-tells : goal.read-tells
read-tells g c = record {
  bound = c.ensures.bound;
  bytes = elim c.result as (λ r. IfOk r (λ _. ⊤)) [ Ok _ ↦ tt | Err _ ↦ tt ];
  err = elim c.result as (λ r. OnErr r (0 ≡ 0)) [ Ok _ ↦ tt | Err _ ↦ refl ];
  texts = refl;
  chosen = c.ensures.chosen;
  mark = c.ensures.mark;
  cause = c.ensures.cause;
}
