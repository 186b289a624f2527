use Rattle.std.proofs.Common.{◌∙◌, ◌++◌, sym, ap, arith, append_assoc}
use Rattle.std.specs.Str.{str_to_ascii_lowercase}
use Rattle.std.proofs.lemmas.List.Sums.{prefix_len-le-length}
use Rattle.pur_text.specs.Texts.{text_of}
use Rattle.pur_sheet.specs.Private.Words.{is_no_mark}
use Rattle.pur_sheet.proofs.CompoundLemmas.{head_cut, compound_written}
use Rattle.pur_sheet.proofs.compounds.push_compound.Goals as goal

pub split_at-requires : goal.split_at-requires
split_at-requires c = omega (arith, prefix_len-le-length is_no_mark c.args.compound.now, c.head_length.ensures)

pub returns : goal.returns
returns c =
    let cut = head_cut c.args.compound.now c.split_at.result.0.now c.split_at.result.1.now c.head_length.result c.head_length.ensures c.split_at.ensures.front c.split_at.ensures.back in
    let old = text_of c.args.text.now in
    let head = str_to_ascii_lowercase c.split_at.result.0.now in
    let parts = c.split_at.result.1.now in
    c.in_ok-push_characters.ensures ∙ ap (λ t. t ++ parts) c.in_ok-push_lowered.ensures ∙ append_assoc old head parts
    ∙ ap (λ t. old ++ t) (sym (compound_written c.args.compound.now c.split_at.result.0.now parts cut))
