-- A piece is closed as the token that says the same.
use Rattle.std.proofs.Common.{◌≡◌, ap, refl}
use Rattle.pur_names.proofs.ElementLaws.{element_named-name}
use Rattle.pur_settings.specs.Rules.{Rules, permits_found}
use Rattle.pur_tokens.specs.Shown.{plain_shown}
use Rattle.pur_tokens.specs.declared.shown.Shown.{Shown}
use Rattle.pur_tokens.specs.declared.shown.Shown.TheVariants.{Text, Start, End, Empty}
use Rattle.pur_wellform.specs.Standing.{can_be_closed, may_be_closed}

-- it may be closed where the token may
pub may-close : (rules : Rules) (shown : Shown) → can_be_closed rules (plain_shown shown) ≡ may_be_closed rules shown
may-close rules (Text text) = refl
may-close rules (Start tag) = ap (permits_found rules) (element_named-name tag.element)
may-close rules (End element) = ap (permits_found rules) (element_named-name element)
may-close rules (Empty tag) = ap (permits_found rules) (element_named-name tag.element)
