use Rattle.std.proofs.Common.{◌≡◌, ◌∙◌, ap, sym, true, not, ◌&&◌, [], List, ℕ, codes}
use Rattle.std.specs.Option.{option_map_or}
use Rattle.pur_uripolicy.specs.HostRules.{admits, admits_host, is_under}
use Rattle.pur_uripolicy.proofs.SetLemmas.{any-in_order}
use Rattle.guestbook.specs.Home.{home}
use Rattle.guestbook.proofs.home.leads_home.Goals as goal

-- no host is denied, so the own one and those below it are admitted
home_admits : (host : List ℕ) → is_under host (codes "guests.example") ≡ admits_host home host
unfolding admits_host
home_admits host = ap (λ denied. not denied && is_under host (codes "guests.example")) (sym (any-in_order (is_under host) []))

pub returns-in-Some : goal.returns-in-Some
unfolding admits
returns-in-Some c =
    c.is_home.ensures
    ∙ ap (λ host. is_under host (codes "guests.example")) c.as_bytes.ensures.value
    ∙ home_admits c.in-Some.host.now
    ∙ ap (λ host. option_map_or (admits_host home) host true) c.in-Some.ensures
