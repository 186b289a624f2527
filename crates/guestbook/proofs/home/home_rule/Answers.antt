use Rattle.std.proofs.Common.{◌≡◌, ◌∙◌, ap, refl, true, false, [], Some, codes, map, string_bytes}
use Rattle.pur_text.specs.Hosts.{is_host}
use Rattle.pur_uripolicy.specs.HostRules.{in_order}
use Rattle.guestbook.proofs.home.home_rule.Goals as goal

own_is_host : is_host (codes "guests.example") ≡ true
unfolding is_host
own_is_host = refl

pub new-requires-2-clause-host : goal.new-requires-2-clause-host
new-requires-2-clause-host c = ap is_host c.in_ok-host.ensures.ok ∙ own_is_host

pub returns : goal.returns
returns c =
    c.new-2.ensures
    ∙ ap (λ items. record { denied = in_order (map string_bytes items); host = Some (string_bytes c.in_ok-host.host); external = false }) c.new.ensures.items
    ∙ ap (λ host. record { denied = in_order []; host = Some host; external = false }) c.in_ok-host.ensures.ok
