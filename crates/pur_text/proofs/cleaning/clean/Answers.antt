use Rattle.std.proofs.Common.{◌≡◌, ◌∙◌, List, ℕ, ap, sym, subst, IfOk, filter, string_bytes}
use Rattle.std.specs.Str.{chars}
use Rattle.pur_text.specs.Characters.{is_allowed}
use Rattle.pur_text.specs.Cleaning.{with_line_feeds, cleaned}
use Rattle.pur_text.proofs.CleaningLemmas.{chars_of-IsUtf8}
use Rattle.pur_text.proofs.cleaning.clean.Goals as goal

pub returns-in-Ok : goal.returns-in-Ok
unfolding cleaned
returns-in-Ok c =
    let P : List ℕ → Type 0 =
    λ cs. IfOk c.clean_text.result (λ text. chars (string_bytes text) ≡ filter is_allowed (with_line_feeds cs)) in
    subst P (ap chars c.in-Ok.ensures.0 ∙ sym (chars_of-IsUtf8 c.args.bytes.now c.in-Ok.ensures.1)) c.clean_text.ensures
