use Rattle.std.proofs.Common.{refl}
use Rattle.pur_tree.proofs.TextLemmas.{chars_of_none}
use Rattle.pur_tree.proofs.builder.Builder.new.Goals as goal

pub returns-clause-written : goal.returns-clause-written
returns-clause-written c = rw (c.new.ensures.items, c.new-2.ensures.items, chars_of_none _ c.new-3.ensures.bytes) refl
