use Rattle.std.proofs.Common.{◌≡◌, ◌∷◌, ◌+◌, ◌∙◌, ap, sym, drop, drop-drop}
use Rattle.std.specs.Prelude.{◌==◌}
use Rattle.pur_text.specs.Hosts.{between_colons}
use Rattle.pur_text.proofs.HostLemmas.{split_found, split_whole}
use Rattle.pur_text.proofs.addresses.cut_at_colon.Goals as goal

pub returns-in-Some-clause-cut : goal.returns-in-Some-clause-cut
returns-in-Some-clause-cut c =
    let text = c.args.text.now in
    let end = c.in-Some.end in
    let behind : c.behind_first.result.now ≡ drop (end + 1) text =
    c.behind_first.ensures ∙ ap (drop 1) c.split_at.ensures.back ∙ drop-drop 1 end text in
    split_found (λ b. b == 0x3A) text end c.in-Some.ensures
    ∙ ap (λ piece. piece ∷ between_colons (drop (end + 1) text)) (sym c.split_at.ensures.front)
    ∙ ap (λ t. c.split_at.result.0.now ∷ between_colons t) (sym behind)

pub returns-in-None-clause-whole : goal.returns-in-None-clause-whole
returns-in-None-clause-whole c = split_whole (λ b. b == 0x3A) c.args.text.now c.in-None.ensures
