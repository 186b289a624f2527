use Rattle.std.proofs.Common.{◌≡◌, ◌∙◌, ap, arith, rules, string_bytes}
use Rattle.std.specs.Str.{chars}
use Rattle.std.proofs.lemmas.Str.{IsUtf8-string_bytes}
use Rattle.pur_csstok.specs.Ends.{in_quotes}
use Rattle.pur_csstok.proofs.TextLemmas.{chars-between}
use Rattle.pur_csstok.proofs.families.quoted.Goals as goal

pub returns : goal.returns
returns c =
    let name = string_bytes c.in_ok-name.name in
    let bytes : string_bytes c.push-2.new.self ≡ in_quotes 0x27 name = search rules in
    ap chars bytes ∙ chars-between 0x27 (omega arith) name (IsUtf8-string_bytes c.in_ok-name.name) ∙ ap (in_quotes 0x27) c.in_ok-name.ensures
