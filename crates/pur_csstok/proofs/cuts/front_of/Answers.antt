use Rattle.std.proofs.Common.{◌∙◌, ◌++◌, ◌-◌, length, drop, rules, ap, sym, subst, IsUtf8, arith}
use Rattle.std.specs.Str.{chars}
use Rattle.std.proofs.lemmas.List.{take-append-drop}
use Rattle.std.proofs.lemmas.Str.{IsCharBoundary-from_drop, chars-append}
use Rattle.pur_csstok.proofs.cuts.front_of.Goals as goal

pub split_at-requires : goal.split_at-requires
split_at-requires c =
    IsCharBoundary-from_drop c.args.text.now (length c.args.text.now - length c.args.end.now) (omega arith) (subst IsUtf8 (sym c.requires.end) c.utf8.end)

pub returns : goal.returns
returns c =
    let text = c.args.text.now in
    let n = length text - length c.args.end.now in
    ap chars (sym (take-append-drop n text) ∙ ap (λ t. t ++ drop n text) (sym c.split_at.ensures.front) ∙ ap (λ t. c.split_at.result.0.now ++ t) c.requires.end)
    ∙ chars-append c.split_at.result.0.now c.args.end.now (search rules)
