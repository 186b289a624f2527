use Rattle.std.proofs.Common.{◌∙◌, sym, arith}
use Rattle.std.proofs.lemmas.List.Sums.{prefix_len-le-length}
use Rattle.pur_text.specs.Characters.{is_space}
use Rattle.pur_sheet.specs.Private.Words.{is_no_space}
use Rattle.pur_sheet.proofs.SelectorLemmas.{no_words, tail_words, word_read}
use Rattle.pur_sheet.proofs.selectors.next_word.Goals as goal

pub split_at-requires : goal.split_at-requires
split_at-requires c = omega (arith, prefix_len-le-length is_space c.args.text.now, c.space_length.ensures)

pub returns-then-is_empty-clause-none : goal.returns-then-is_empty-clause-none
returns-then-is_empty-clause-none c =
    tail_words c.args.text.now c.split_at.result.1.now c.space_length.result c.space_length.ensures c.split_at.ensures.back
    ∙ no_words c.split_at.result.1.now (sym c.is_empty.ensures ∙ c.if-is_empty.true)

pub split_at-requires-2 : goal.split_at-requires-2
split_at-requires-2 c = omega (arith, prefix_len-le-length is_no_space c.split_at.result.1.now, c.word_length.ensures)

pub returns-clause-word : goal.returns-clause-word
returns-clause-word c =
    (word_read c.args.text.now c.split_at.result.1.now c.space_length.result c.space_length.ensures c.split_at.ensures.back
    c.word_length.result c.split_at-2.result.0.now c.split_at-2.result.1.now c.word_length.ensures (sym c.is_empty.ensures ∙ c.if-is_empty.false) c.split_at-2.ensures.front c.split_at-2.ensures.back).0

pub returns-clause-shorter : goal.returns-clause-shorter
returns-clause-shorter c =
    (word_read c.args.text.now c.split_at.result.1.now c.space_length.result c.space_length.ensures c.split_at.ensures.back
    c.word_length.result c.split_at-2.result.0.now c.split_at-2.result.1.now c.word_length.ensures (sym c.is_empty.ensures ∙ c.if-is_empty.false) c.split_at-2.ensures.front c.split_at-2.ensures.back).1
