use Rattle.std.proofs.Common.{◌∙◌, ap, sym, map}
use Rattle.std.specs.Char.{is_ascii}
use Rattle.std.specs.List.{list_all}
use Rattle.pur_laws.proofs.Cases.{test-chars}
use Rattle.pur_laws.proofs.Tests.{all-named}
use Rattle.pur_values.specs.Words.{is_among}
use Rattle.pur_values.proofs.choices.is_one_of.Goals as goal

pub returns : goal.returns
returns c =
    let words = map (λ w. w.now) c.args.words.now in
    c.is_among.ensures ∙ ap (is_among words) c.as_bytes.ensures.value
    ∙ sym (test-chars (is_among words) (λ t is. all-named (list_all is_ascii) words t c.requires is) c.args.word.now c.utf8.word)
