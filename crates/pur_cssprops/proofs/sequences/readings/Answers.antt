use Rattle.std.proofs.Common.{◌∙◌, ◌++◌, ◌+◌, [], ap, sym, drop, map, arith}
use Rattle.std.specs.List.{cons_option}
use Rattle.std.specs.Str.{chars}
use Rattle.std.proofs.lemmas.List.{drop_all}
use Rattle.pur_text.specs.Texts.{text_of}
use Rattle.pur_cssprops.specs.Forms.{readings, word_read}
use Rattle.pur_cssprops.proofs.ReadingLemmas.{next_reading, all_read}
use Rattle.pur_cssprops.proofs.sequences.readings.Goals as goal

pub loop-word-preserved : goal.loop-word-preserved
loop-word-preserved c =
    let form = c.args.form in
    let words = c.args.words.now in
    let i = c.loop-word.word-index in
    ap (λ t. t ++ readings form (map text_of (drop (i + 1) words)))
    (c.in_ok-push_reading.ensures ∙ ap (λ b. map text_of c.loop-word.values.items ++ cons_option (word_read form (chars b)) []) c.as_str.ensures.value)
    ∙ next_reading form words i c.word-item.result (map text_of c.loop-word.values.items) (omega (arith, c.loop-word-test.true)) (sym c.word-item.is)
    ∙ c.loop-word.invariant

pub returns : goal.returns
returns c =
    let words = c.args.words.now in
    let i = c.loop-word.word-index in
    all_read c.args.form words i (map text_of c.loop-word.values.items) (drop_all i words (omega (arith, c.loop-word-test.false))) ∙ c.loop-word.invariant
