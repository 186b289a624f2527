use Rattle.std.proofs.Common.{◌≡◌, ◌∙◌, true, ap, sym, subst}
use Rattle.idna.proofs.Uts46Lemmas.{IsAscii-to_ascii}
use Rattle.pur_uri.specs.Splitting.{are_bytes}
use Rattle.pur_resolve.proofs.HostLemmas.{ascii_bytes}
use Rattle.pur_resolve.proofs.base.named_host.Goals as goal

pub returns-in_ok-owned-in-Ok-clause-bytes : goal.returns-in_ok-owned-in-Ok-clause-bytes
returns-in_ok-owned-in-Ok-clause-bytes c =
    subst (λ t. are_bytes t ≡ true) (sym (ap (λ v. v.items) c.into_bytes.ensures.value ∙ c.in_ok-owned-in-Ok.ensures.ok))
    (ascii_bytes _ (IsAscii-to_ascii _ _ _ _ _ c.in-Ok.ensures.value))
