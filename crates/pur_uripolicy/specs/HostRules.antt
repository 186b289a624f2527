-- Which hosts may be linked to: the rule of a site, and what it admits.
use Rattle.std.specs.Prelude.{ℕ, Bool, true, false, ◌&&◌, ◌||◌, not, nat_eq, List, ◌∷◌, Option}
use Rattle.std.specs.Cmp.Lexicographic.{slice_cmp}
use Rattle.std.specs.FinSet.{from_list, items}
use Rattle.std.specs.List.{list_any, ends_with}
use Rattle.std.specs.Option.{option_map_or}
use Rattle.std.specs.Ordering.{nat_cmp}
use Rattle.std.specs.Str.{bytes_eq}
use Rattle.pur_settings.specs.Rules.{Rules}
use Rattle.pur_uri.specs.Uris.{PlainUri}

-- the denied hosts in order, the site's own host, and whether other hosts may be linked to
pub record PlainHostRule : Type 0 where
  pub denied : List (List ℕ)
  pub host : Option (List ℕ)
  pub external : Bool

-- the set of the hosts: in the order of their bytes, each once
unfoldable pub in_order : List (List ℕ) → List (List ℕ)
in_order hosts = items (from_list {R = slice_cmp nat_cmp} hosts)

-- the host is the domain, or a subdomain of it: it ends in a dot and the domain (RFC 1034, section 3.1)
unfoldable pub is_under : List ℕ → List ℕ → Bool
is_under host domain = bytes_eq host domain || ends_with nat_eq host (0x2E ∷ domain)

-- under a denied host
abbrev pub is_denied : PlainHostRule → List ℕ → Bool
is_denied rule host = list_any (is_under host) rule.denied

-- under the site's own host
abbrev pub is_own : PlainHostRule → List ℕ → Bool
is_own rule host = option_map_or (is_under host) rule.host false

-- a denied host is refused, also an own one; any other is admitted, but where `external` is false only an own one
unfoldable pub admits_host : PlainHostRule → List ℕ → Bool
admits_host rule host = not (is_denied rule host) && (rule.external || is_own rule host)

-- a URI without a host is admitted: it leads nowhere else
unfoldable pub admits : PlainHostRule → PlainUri → Bool
admits rule uri = option_map_or (admits_host rule) uri.host true

-- the rule that settings give: the denied hosts, the site's own, and whether others may be linked to
abbrev pub rule_of : Rules → PlainHostRule
rule_of rules = record { denied = in_order rules.denied_hosts; host = rules.host; external = rules.external }
