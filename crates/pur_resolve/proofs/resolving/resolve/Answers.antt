use Rattle.std.proofs.Common.{◌≡◌, ◌∙◌, true, false, ap, sym, subst, rules, IfOk}
use Rattle.std.specs.Prelude.{is_some}
use Rattle.pur_uri.specs.Uris.{IsCanonical}
use Rattle.pur_resolve.proofs.ResolvingLemmas.{keeps_own, takes_scheme, takes_host, part_there}
use Rattle.pur_resolve.proofs.resolving.resolve.Goals as goal

pub with_settled_path-requires : goal.with_settled_path-requires
with_settled_path-requires c =
    let there : is_some c.args.uri.now.scheme ≡ true = ap is_some (sym c.scheme.ensures) ∙ search rules in
    subst IsCanonical (keeps_own c.args.base.now c.args.uri.now there)
    (c.resolved_is_canonical.ensures c.args.base.now c.args.uri.now c.base_is_absolute.ensures.base c.base_is_absolute.ensures.canonical c.uri_is_canonical.ensures)

pub under_scheme-requires : goal.under_scheme-requires
under_scheme-requires c =
    let bare : is_some c.args.uri.now.scheme ≡ false = ap is_some (sym c.scheme.ensures) ∙ search rules in
    let there : is_some c.args.uri.now.host ≡ true = ap is_some (sym c.host.ensures) ∙ part_there c.host.result ∙ search rules in
    rw c.uri.ensures
    (subst IsCanonical (takes_scheme c.args.base.now c.args.uri.now bare there)
    (c.resolved_is_canonical.ensures c.args.base.now c.args.uri.now c.base_is_absolute.ensures.base c.base_is_absolute.ensures.canonical c.uri_is_canonical.ensures))

pub under_host-requires : goal.under_host-requires
under_host-requires c =
    let bare : is_some c.args.uri.now.scheme ≡ false = ap is_some (sym c.scheme.ensures) ∙ search rules in
    let none : is_some c.args.uri.now.host ≡ false = ap is_some (sym c.host.ensures) ∙ part_there c.host.result ∙ search rules in
    rw c.uri-else-is_some-2.ensures
    (subst IsCanonical (takes_host c.args.base.now c.args.uri.now bare none)
    (c.resolved_is_canonical.ensures c.args.base.now c.args.uri.now c.base_is_absolute.ensures.base c.base_is_absolute.ensures.canonical c.uri_is_canonical.ensures))

pub returns-then-is_some : goal.returns-then-is_some
returns-then-is_some c =
    let there : is_some c.args.uri.now.scheme ≡ true = ap is_some (sym c.scheme.ensures) ∙ search rules in
    subst (λ t. IfOk c.with_settled_path.result (λ found. found ≡ t)) (sym (keeps_own c.args.base.now c.args.uri.now there)) c.with_settled_path.ensures

pub returns-then-is_some-2 : goal.returns-then-is_some-2
returns-then-is_some-2 c =
    let bare : is_some c.args.uri.now.scheme ≡ false = ap is_some (sym c.scheme.ensures) ∙ search rules in
    let there : is_some c.args.uri.now.host ≡ true = ap is_some (sym c.host.ensures) ∙ part_there c.host.result ∙ search rules in
    subst (λ t. IfOk c.under_scheme.result (λ found. found ≡ t)) (sym (takes_scheme c.args.base.now c.args.uri.now bare there))
    (rw c.uri.ensures at c.under_scheme.ensures)

pub returns-else-is_some-2 : goal.returns-else-is_some-2
returns-else-is_some-2 c =
    let bare : is_some c.args.uri.now.scheme ≡ false = ap is_some (sym c.scheme.ensures) ∙ search rules in
    let none : is_some c.args.uri.now.host ≡ false = ap is_some (sym c.host.ensures) ∙ part_there c.host.result ∙ search rules in
    subst (λ t. IfOk c.under_host.result (λ found. found ≡ t)) (sym (takes_host c.args.base.now c.args.uri.now bare none))
    (rw c.uri-else-is_some-2.ensures at c.under_host.ensures)
