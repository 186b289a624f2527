use Rattle.std.proofs.Common.{◌∙◌, ap, rules, IsUtf8}
use Rattle.std.specs.List.{position}
use Rattle.pur_text.specs.Characters.{is_space}
use Rattle.pur_values.proofs.CutLemmas.{cut_found, before_cut, behind_cut, cut_pieces, whole_pieces}
use Rattle.pur_values.proofs.tokens.cut_at_space.Goals as goal

pub split_at-requires : goal.split_at-requires
split_at-requires c =
    before_cut c.args.text.now c.in-Some.place (cut_found c.args.text.now c.in-Some.place (c.in-Some.ensures ∙ ap (position is_space) c.as_bytes.ensures.value))

pub split_at-requires-in-Some : goal.split_at-requires-in-Some
split_at-requires-in-Some c =
    let tail : IsUtf8 c.split_at.result.1.now = search rules in
    behind_cut c.args.text.now c.split_at.result.1.now c.in-Some.place tail c.split_at.ensures.back
    (cut_found c.args.text.now c.in-Some.place (c.in-Some.ensures ∙ ap (position is_space) c.as_bytes.ensures.value))

pub returns-in-Some-clause-cut : goal.returns-in-Some-clause-cut
returns-in-Some-clause-cut c =
    let piece : IsUtf8 c.split_at.result.0.now = search rules in
    let behind : IsUtf8 c.split_at-in-Some.result.1.now = search rules in
    cut_pieces c.args.text.now c.split_at.result.0.now c.split_at.result.1.now c.split_at-in-Some.result.1.now c.in-Some.place piece behind c.split_at.ensures.front c.split_at.ensures.back
    c.split_at-in-Some.ensures.back (cut_found c.args.text.now c.in-Some.place (c.in-Some.ensures ∙ ap (position is_space) c.as_bytes.ensures.value))

pub returns-in-None-clause-whole : goal.returns-in-None-clause-whole
returns-in-None-clause-whole c = whole_pieces c.args.text.now c.utf8.text (c.in-None.ensures ∙ ap (position is_space) c.as_bytes.ensures.value)
