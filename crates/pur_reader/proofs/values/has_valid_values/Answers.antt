use Rattle.std.proofs.Common.{◌≡◌, ◌∙◌, ◌+◌, ap, sym, arith, suc, drop, Bool}
use Rattle.std.specs.Prelude.{◌&&◌}
use Rattle.std.specs.List.{list_all}
use Rattle.std.specs.Str.{chars}
use Rattle.pur_attrlist.specs.Attributes.{Attribute}
use Rattle.pur_validity.specs.Attributes.{is_valid_attribute}
use Rattle.pur_reader.proofs.ValueLemmas.{attribute_at}
use Rattle.pur_reader.proofs.values.has_valid_values.Goals as goal

pub returns-then-not-is_valid : goal.returns-then-not-is_valid
returns-then-not-is_valid g c =
    let test : Attribute → Bool = is_valid_attribute c.args.settings.now c.args.gate.now c.args.element in
    let at = c.loop-at.at in
    let here = attribute_at c.args.attrs.now at (chars c.name_at-name.result.now) (chars c.value_at-value.result.now) c.name_at-name.ensures c.value_at-value.ensures in
    sym (sym c.loop-at.invariant ∙ ap (list_all test) here ∙ ap (λ b. b && list_all test (drop (suc at) c.args.attrs.now)) (sym c.in_ok-is_valid.ensures ∙ c.if-not-is_valid.true))

pub loop-at-preserved : goal.loop-at-preserved
loop-at-preserved g c =
    let test : Attribute → Bool = is_valid_attribute c.args.settings.now c.args.gate.now c.args.element in
    let at = c.loop-at.at in
    let here = attribute_at c.args.attrs.now at (chars c.name_at-name.result.now) (chars c.value_at-value.result.now) c.name_at-name.ensures c.value_at-value.ensures in
    let up : at + 1 ≡ suc at = omega arith in
    ap (λ k. list_all test (drop k c.args.attrs.now)) up
    ∙ sym (ap (λ b. b && list_all test (drop (suc at) c.args.attrs.now)) (sym c.in_ok-is_valid.ensures ∙ c.if-not-is_valid.false))
    ∙ sym (ap (list_all test) here) ∙ c.loop-at.invariant
