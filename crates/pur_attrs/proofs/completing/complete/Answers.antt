-- Languages leave the source.
use Rattle.std.proofs.Common.{◌∙◌, ap, sym}
use Rattle.pur_attrs.specs.Private.Parts.{source_of}
use Rattle.pur_attrs.specs.Steps.{language_told}
use Rattle.pur_attrs.proofs.SourceLemmas.{source-language}
use Rattle.pur_attrs.proofs.completing.complete.Goals as goal

pub put_required-requires : goal.put_required-requires
put_required-requires c =
    let attrs = c.args.attrs.now in
    c.requires ∙ sym (source-language (language_told attrs) attrs) ∙ ap source_of (sym c.in_ok-put_language.ensures)
