use Rattle.std.proofs.Common.{◌∙◌, sym, map, string_bytes}
use Rattle.std.specs.List.{list_any}
use Rattle.std.specs.Str.{bytes_eq}
use Rattle.pur_uripolicy.specs.HostRules.{is_under}
use Rattle.pur_uripolicy.proofs.SetLemmas.{any-in_order}
use Rattle.pur_uripolicy.proofs.SubdomainLemmas.{is_one, by_what_is_behind, dot_first, nothing_left}
use Rattle.pur_uripolicy.proofs.hosts.is_under_any.Goals as goal

pub returns-then-is_among : goal.returns-then-is_among
returns-then-is_among c =
    let domains = map string_bytes c.args.domains.now in
    sym (any-in_order (is_under c.args.host.now) domains ∙ is_one c.args.host.now domains (sym c.is_among.ensures ∙ c.if-is_among.true))

pub loop-rest-init : goal.loop-rest-init
loop-rest-init c =
    by_what_is_behind c.args.host.now (map string_bytes c.args.domains.now) (sym c.is_among.ensures ∙ c.if-is_among.false)

pub returns-then-is_among-2 : goal.returns-then-is_among-2
returns-then-is_among-2 c =
    let domains = map string_bytes c.args.domains.now in
    let passes = sym c.is_among-then-is_dot.ensures ∙ c.if-is_among-2.true in
    sym (any-in_order (is_under c.args.host.now) domains ∙ c.loop-rest.invariant
    ∙ dot_first (λ t. list_any (bytes_eq t) domains) c.loop-rest.rest.now c.in-len1-up.len_at_least c.if-is_dot.true passes)

pub returns : goal.returns
returns c =
    let domains = map string_bytes c.args.domains.now in
    sym (any-in_order (is_under c.args.host.now) domains ∙ c.loop-rest.invariant
    ∙ nothing_left (λ t. list_any (bytes_eq t) domains) c.loop-rest.rest.now c.in_default.len_below)
