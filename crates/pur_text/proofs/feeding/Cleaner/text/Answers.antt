use Rattle.std.proofs.Common.{[], string_bytes, sym, ap, ◌∙◌}
use Rattle.std.specs.Str.{chars}
use Rattle.pur_text.specs.Feeding.{cleaned_with}
use Rattle.pur_text.proofs.FeedingLemmas.{held_is_none}
use Rattle.pur_text.proofs.feeding.Cleaner.text.Goals as goal

pub returns : goal.returns
returns c =
    let inside = c.self.inside in
    ap chars c.as_str.ensures.value
    ∙ sym (held_is_none (chars (string_bytes inside.written.text)) inside.written.after_cr inside.held.bytes.items c.self.invariant.none)
    ∙ ap (λ fed. cleaned_with fed []) c.self.view_is
