use Rattle.std.proofs.Common.{◌≡◌, ◌∙◌, ◌++◌, ap, sym, rules, string_bytes}
use Rattle.pur_commands.specs.Samples.{piece_of}
use Rattle.pur_commands.proofs.SampleLemmas.{next_piece, no_pieces}
use Rattle.pur_commands.proofs.samples.sample.Goals as goal

pub loop-number-init : goal.loop-number-init
loop-number-init c = search (rules, no_pieces)

pub loop-number-preserved : goal.loop-number-preserved
loop-number-preserved c =
    let grown : string_bytes c.push_piece.new.text ≡ string_bytes c.loop-number.text ++ piece_of c.loop-number.number = c.in_ok-push_piece.ensures in
    grown ∙ ap (λ text. text ++ piece_of c.loop-number.number) c.loop-number.invariant ∙ sym (next_piece c.loop-number.number)
