-- The steps one after another.
use Rattle.std.proofs.Common.{◌∙◌, ap}
use Rattle.pur_attrs.specs.Steps.{completed_attributes}
use Rattle.pur_attrs.specs.Private.Along.{seen_in, seen_behind, prefixed_ids, with_id_behind}
use Rattle.pur_attrs.proofs.validating.valid_attributes.Goals as goal

pub returns-clause-attrs : goal.returns-clause-attrs
returns-clause-attrs g c =
    let rules = c.args.settings.now in
    let seen = seen_in c.args.seen.now in
    c.in_ok-finish.ensures.attrs
    ∙ ap (λ kept. completed_attributes c.args.element (with_id_behind rules.id_prefix seen kept)) c.in_ok-attrs.ensures.attrs

pub returns-clause-seen : goal.returns-clause-seen
returns-clause-seen g c =
    let rules = c.args.settings.now in
    let seen = seen_in c.args.seen.now in
    λ id. c.in_ok-finish.ensures.seen id
    ∙ ap (λ attrs. seen_behind seen (prefixed_ids rules.id_prefix attrs) id) c.in_ok-attrs.ensures.attrs
