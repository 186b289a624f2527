use Rattle.std.proofs.Common.{◌≡◌, ◌+◌, drop}
use Rattle.std.specs.List.{prefix_len}
use Rattle.pur_models.specs.Languages.{has_letter}
use Rattle.pur_models.proofs.matching.letters_in_front.Given as goal

abbrev pub invariant-loop-at : goal.invariant-loop-at
invariant-loop-at l = prefix_len (has_letter l.letters) l.word ≡ l.at + prefix_len (has_letter l.letters) (drop l.at l.word)
