use Rattle.std.proofs.Common.{◌≡◌, ◌++◌, drop}
use Rattle.std.specs.Prelude.{encode_utf8_all}
use Rattle.pur_tree.specs.Spelling.{attributes_text}
use Rattle.pur_writer.proofs.attributes.push_attributes.Given as goal

abbrev pub invariant-loop-at : goal.invariant-loop-at
invariant-loop-at l =
    l.out.items ++ encode_utf8_all (attributes_text (drop l.at l.attrs)) ≡ l.initial.out.items ++ encode_utf8_all (attributes_text l.attrs)
