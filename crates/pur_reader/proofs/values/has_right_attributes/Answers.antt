use Rattle.std.proofs.Common.{◌∙◌, sym}
use Rattle.pur_tree.specs.Nodes.{plain_elem}
use Rattle.pur_reader.proofs.WithinLemmas.{lacking, two_languages, by_values}
use Rattle.pur_reader.proofs.values.has_right_attributes.Goals as goal

pub returns-then-not-has_required : goal.returns-then-not-has_required
returns-then-not-has_required g c =
    sym (lacking c.args.settings.now c.args.gate.now (plain_elem c.args.element c.args.attrs.now) (sym c.has_required.ensures ∙ c.if-not-has_required.true))

pub returns-then-not-has_one_language : goal.returns-then-not-has_one_language
returns-then-not-has_one_language g c =
    sym (two_languages c.args.settings.now c.args.gate.now (plain_elem c.args.element c.args.attrs.now) (sym c.has_required.ensures ∙ c.if-not-has_required.false)
    (sym c.has_one_language.ensures ∙ c.if-not-has_one_language.true))

pub returns : goal.returns
returns g c =
    c.in_ok-is_valid.ensures
    ∙ sym (by_values c.args.settings.now c.args.gate.now (plain_elem c.args.element c.args.attrs.now) (sym c.has_required.ensures ∙ c.if-not-has_required.false)
    (sym c.has_one_language.ensures ∙ c.if-not-has_one_language.false))
