-- A token shows a piece that says the same, which may be closed where the token may.
use Rattle.std.proofs.Common.{◌∙◌, ap, sym}
use Rattle.pur_wellform.specs.Standing.{can_be_closed}
use Rattle.pur_wellform.proofs.ShownFacts.{may-close}
use Rattle.pur_wellform.proofs.closing.put_token.Goals as goal

pub put-requires : goal.put-requires
put-requires c =
    let rules = c.args.closing.now.rules in
    sym (may-close rules c.in-Some.shown) ∙ ap (can_be_closed rules) c.in-Some.ensures.some ∙ c.requires
