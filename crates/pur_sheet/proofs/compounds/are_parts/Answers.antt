use Rattle.std.proofs.Common.{◌∙◌, sym, ap, arith}
use Rattle.std.specs.Prelude.{◌&&◌}
use Rattle.std.specs.List.{list_all}
use Rattle.std.proofs.lemmas.List.Sums.{prefix_len-le-length}
use Rattle.std.proofs.lemmas.Bool.{and_left}
use Rattle.pur_sheet.specs.Selectors.{compound_of, is_part}
use Rattle.pur_sheet.specs.Private.Words.{is_no_mark}
use Rattle.pur_sheet.proofs.CompoundLemmas.{head_cut, part_read, no_parts}
use Rattle.pur_sheet.proofs.compounds.are_parts.Goals as goal

pub split_at-requires : goal.split_at-requires
split_at-requires c = omega (arith, prefix_len-le-length is_no_mark c.in-Some.behind.now, c.head_length.ensures)

pub returns-then-not-is_part : goal.returns-then-not-is_part
returns-then-not-is_part c =
    let cut = head_cut c.in-Some.behind.now c.split_at.result.0.now c.split_at.result.1.now c.head_length.result c.head_length.ensures c.split_at.ensures.front c.split_at.ensures.back in
    let read = part_read c.reading.rest.now c.in-Some.mark c.in-Some.behind.now c.split_at.result.0.now c.split_at.result.1.now c.in-Some.ensures.cut c.reading.invariant.0 cut in
    sym (ap (list_all is_part) read ∙ and_left _ _ (sym c.is_part.ensures ∙ c.if-not-is_part.true)) ∙ c.reading.invariant.1

pub reading-preserved : goal.reading-preserved
reading-preserved c =
    let cut = head_cut c.in-Some.behind.now c.split_at.result.0.now c.split_at.result.1.now c.head_length.result c.head_length.ensures c.split_at.ensures.front c.split_at.ensures.back in
    let read = part_read c.reading.rest.now c.in-Some.mark c.in-Some.behind.now c.split_at.result.0.now c.split_at.result.1.now c.in-Some.ensures.cut c.reading.invariant.0 cut in (
      cut.begins,
      ap (λ b. b && list_all is_part (compound_of c.split_at.result.1.now).parts) (sym c.if-not-is_part.false ∙ c.is_part.ensures)
          ∙ sym (ap (list_all is_part) read) ∙ c.reading.invariant.1,
    )

pub returns : goal.returns
returns c = sym (ap (list_all is_part) (no_parts c.reading.rest.now c.in_default.ensures.empty)) ∙ c.reading.invariant.1
