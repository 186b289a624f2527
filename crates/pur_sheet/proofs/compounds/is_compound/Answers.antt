use Rattle.std.proofs.Common.{◌∙◌, sym, ap, arith}
use Rattle.std.specs.Prelude.{◌&&◌}
use Rattle.std.proofs.lemmas.List.Sums.{prefix_len-le-length}
use Rattle.std.proofs.lemmas.Bool.{and_right}
use Rattle.pur_laws.proofs.Truth.{and_true}
use Rattle.pur_sheet.specs.Selectors.{is_head}
use Rattle.pur_sheet.specs.Private.Words.{is_no_mark}
use Rattle.pur_sheet.proofs.CompoundLemmas.{head_cut, compound_tested}
use Rattle.pur_sheet.proofs.compounds.is_compound.Goals as goal

pub split_at-requires : goal.split_at-requires
split_at-requires c = omega (arith, prefix_len-le-length is_no_mark c.args.text.now, c.head_length.ensures)

pub are_parts-requires : goal.are_parts-requires
are_parts-requires c =
    let cut = head_cut c.args.text.now c.split_at.result.0.now c.split_at.result.1.now c.head_length.result c.head_length.ensures c.split_at.ensures.front c.split_at.ensures.back in
    cut.begins

pub returns-then-not-are_parts : goal.returns-then-not-are_parts
returns-then-not-are_parts c =
    let cut = head_cut c.args.text.now c.split_at.result.0.now c.split_at.result.1.now c.head_length.result c.head_length.ensures c.split_at.ensures.front c.split_at.ensures.back in
    sym (compound_tested c.args.settings.now c.args.text.now c.split_at.result.0.now c.split_at.result.1.now cut
    ∙ and_right _ _ (sym c.are_parts.ensures ∙ c.if-not-are_parts.true))

pub returns : goal.returns
returns c =
    let cut = head_cut c.args.text.now c.split_at.result.0.now c.split_at.result.1.now c.head_length.result c.head_length.ensures c.split_at.ensures.front c.split_at.ensures.back in
    let head = is_head c.args.settings.now c.split_at.result.0.now in
    c.in_ok-is.ensures ∙ sym (compound_tested c.args.settings.now c.args.text.now c.split_at.result.0.now c.split_at.result.1.now cut
    ∙ ap (λ b. head && b) (sym c.are_parts.ensures ∙ c.if-not-are_parts.false) ∙ and_true head)
