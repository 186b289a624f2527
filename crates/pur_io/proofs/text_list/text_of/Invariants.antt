-- The texts from the loop's place on answer as all of them do.
use Rattle.std.proofs.Common.{◌≡◌, drop}
use Rattle.pur_io.specs.Texts.{text_named, is_named, plain_name, plain_texts}
use Rattle.pur_io.proofs.text_list.text_of.Given as goal

abbrev pub invariant-loop-text : goal.invariant-loop-text
invariant-loop-text l = record {
  named : is_named (plain_texts (drop l.text-index l.texts)) (plain_name l.name) ≡ is_named (plain_texts l.texts) (plain_name l.name);
  text : text_named (plain_texts (drop l.text-index l.texts)) (plain_name l.name) ≡ text_named (plain_texts l.texts) (plain_name l.name);
}
