-- A piece may be closed where the token that says the same may.
use Rattle.std.proofs.Common.{◌∙◌, ap, sym, true}
use Rattle.std.specs.List.{list_all}
use Rattle.std.proofs.lemmas.Bool.{and_parts}
use Rattle.pur_tokens.specs.Shown.{plain_shown, shown_given}
use Rattle.pur_wellform.specs.Standing.{can_be_closed}
use Rattle.pur_wellform.proofs.ShownFacts.{may-close}
use Rattle.pur_engine.proofs.passes.put_kept.Goals as goal

pub put-requires : goal.put-requires
put-requires c =
    let can = can_be_closed c.args.closing.now.rules in
    let all = ap (λ kept. list_all can (shown_given kept)) (sym c.in-Some.is) ∙ c.requires in
    sym (may-close c.args.closing.now.rules c.in-Some.shown) ∙ (and_parts (can (plain_shown c.in-Some.shown)) true all).0
