use Rattle.std.proofs.Common.{ap, sym, string_bytes, option_map}
use Rattle.std.proofs.lemmas.List.Sorted.{IsPermutation-map}
use Rattle.pur_uripolicy.proofs.SetLemmas.{in_order-moved}
use Rattle.pur_uripolicy.proofs.rule.HostRule.new.Goals as goal

pub returns : goal.returns
returns c =
    ap (λ denied. record { denied = denied; host = option_map string_bytes c.args.host; external = c.args.external })
    (sym (in_order-moved _ _ (IsPermutation-map string_bytes _ _ c.sort_unstable.ensures.permutation)))
