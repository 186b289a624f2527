use Rattle.std.proofs.Common.{◌≡◌, ◌++◌, ◌∙◌, ap, sym, string_bytes, filter}
use Rattle.std.specs.Char.{encode_utf8}
use Rattle.std.specs.Str.{chars}
use Rattle.pur_text.specs.Characters.{is_allowed}
use Rattle.pur_text.specs.Cleaning.{character_list, line_feed_for}
use Rattle.pur_text.proofs.CleaningLemmas.{first_written}
use Rattle.pur_text.proofs.cleaning.push_first.Goals as goal

pub returns-clause-step : goal.returns-clause-step
returns-clause-step c =
    let first = c.in-Some.first in
    let behind = c.as_str-2.result.now in
    let same : c.next.new.self.rest.now ≡ behind = sym c.as_str-2.ensures in
    first_written (chars (string_bytes c.args.clean.now)) (chars (string_bytes c.push_kept.new.clean)) c.args.text.now behind first
    (character_list c.replacement.result) c.utf8.text
    (sym c.chars-behind.ensures.rest ∙ c.in-Some.ensures.steps.0 ∙ ap (λ t. encode_utf8 first ++ t) same)
    (c.replacement.ensures ∙ ap (λ t. filter is_allowed (line_feed_for first (chars t))) (c.as_str.ensures ∙ same))
    c.in_ok-push_kept.ensures.text
