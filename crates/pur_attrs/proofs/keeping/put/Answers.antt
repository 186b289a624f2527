-- A pair whose name is new brings the URI that it writes, and another brings nothing.
use Rattle.std.proofs.Common.{◌≡◌, ◌∙◌, not, ap, sym}
use Rattle.std.specs.Option.{option_or}
use Rattle.std.proofs.lemmas.Bool.{not-true, not-false}
use Rattle.pur_attrlist.specs.Attributes.{has_name}
use Rattle.pur_attrlist.specs.Texts.{text_of}
use Rattle.pur_attrs.specs.Private.Parts.{source_of}
use Rattle.pur_attrs.proofs.SourceLemmas.{source-more, source-same}
use Rattle.pur_attrs.proofs.keeping.put.Goals as goal

pub returns-then-not-is_new-clause-source : goal.returns-then-not-is_new-clause-source
returns-then-not-is_new-clause-source c =
    let old = c.args.kept.now.attrs in
    let name = text_of c.args.name in
    let known : c.in_ok-is_new.is_new ≡ not (has_name old name) = c.in_ok-is_new.ensures.new in
    c.requires.kept
    ∙ source-same old name (text_of c.args.reading.value) (not-false _ (sym known ∙ c.if-not-is_new.true))
    ∙ ap source_of (sym c.in_ok-is_new.ensures.ok)

pub returns-clause-source : goal.returns-clause-source
returns-clause-source c =
    let old = c.args.kept.now.attrs in
    let name = text_of c.args.name in
    let known : c.in_ok-is_new.is_new ≡ not (has_name old name) = c.in_ok-is_new.ensures.new in
    c.or.ensures
    ∙ ap (λ s. option_or s c.args.reading.source) (c.take.ensures.value ∙ c.requires.kept)
    ∙ ap (option_or (source_of old)) c.requires.reading
    ∙ source-more old name (text_of c.args.reading.value) (not-true _ (sym known ∙ c.if-not-is_new.false))
    ∙ ap source_of (sym c.in_ok-is_new.ensures.ok)
