use Rattle.std.proofs.Common.{◌++◌, sym, ap, ◌∙◌, string_bytes}
use Rattle.std.specs.Str.{chars}
use Rattle.pur_text.specs.Cleaning.{character_list}
use Rattle.pur_text.proofs.cleaning.push_kept.Goals as goal

pub returns-in_ok-push_character-clause-text : goal.returns-in_ok-push_character-clause-text
returns-in_ok-push_character-clause-text c =
    c.in_ok-push_character.ensures.text ∙ ap (λ k. chars (string_bytes c.args.clean.now) ++ character_list k) (sym c.in-Some.is)
