-- The steps one after another; the prefix is plain, so its bytes are its characters.
use Rattle.std.proofs.Common.{◌≡◌, ◌∙◌, ap, sym}
use Rattle.std.specs.Str.{chars}
use Rattle.pur_laws.proofs.Texts.{chars_ascii}
use Rattle.pur_attrs.specs.Steps.{completed_attributes}
use Rattle.pur_attrs.specs.Private.Along.{seen_in, seen_behind, told_behind, prefixed_ids, with_id_behind}
use Rattle.pur_attrs.specs.Private.Parts.{source_of}
use Rattle.pur_attrs.proofs.SourceLemmas.{source-id}
use Rattle.pur_attrs.proofs.WalkLemmas.{prefix-plain}
use Rattle.pur_attrs.proofs.validating.finish.Goals as goal

pub complete-requires : goal.complete-requires
complete-requires c =
    let seen = seen_in c.args.seen.now in
    let kept = c.args.attrs.now in
    c.requires
    ∙ sym (source-id (told_behind seen (prefixed_ids (chars c.id_prefix.result.now) kept)) kept)
    ∙ ap source_of (sym c.in_ok-keep_first_id.ensures.attrs)

pub returns-clause-attrs : goal.returns-clause-attrs
returns-clause-attrs c =
    let rules = c.args.settings.now in
    let seen = seen_in c.args.seen.now in
    let kept = c.args.attrs.now in
    let prefix : chars c.id_prefix.result.now ≡ rules.id_prefix = ap chars c.id_prefix.ensures.value ∙ chars_ascii rules.id_prefix (prefix-plain rules.id_prefix c.id_prefix.ensures.form) in
    c.in_ok-complete.ensures
    ∙ ap (completed_attributes c.args.element)
    (c.in_ok-keep_first_id.ensures.attrs ∙ ap (λ p. with_id_behind p seen kept) prefix)

pub returns-clause-seen : goal.returns-clause-seen
returns-clause-seen c =
    let rules = c.args.settings.now in
    let seen = seen_in c.args.seen.now in
    let kept = c.args.attrs.now in
    let prefix : chars c.id_prefix.result.now ≡ rules.id_prefix = ap chars c.id_prefix.ensures.value ∙ chars_ascii rules.id_prefix (prefix-plain rules.id_prefix c.id_prefix.ensures.form) in
    λ id. c.in_ok-keep_first_id.ensures.seen id
    ∙ ap (λ p. seen_behind seen (prefixed_ids p kept) id) prefix
