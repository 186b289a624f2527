use Rattle.std.proofs.Common.{◌≡◌, sym, ap, ◌∙◌}
use Rattle.std.specs.Prelude.{encode_utf8_all}
use Rattle.pur_text.specs.Cleaning.{cleaned}
use Rattle.pur_tree.specs.Spelling.{spelling_of}
use Rattle.pur_engine.specs.Purified.{purified, purified_nodes}
use Rattle.pur_engine.proofs.laws.good_is_kept.Goals as goal

pub returns : goal.returns
unfolding purified
returns c rules rule bytes off good =
    let nodes = good.nodes in
    let text = good.spelled.text in
    let spells = good.spelled.spells in
    let clean : cleaned bytes ≡ text = ap cleaned good.spelled.in_utf8 ∙ c.spelled_is_cleaned.ensures nodes text spells in
    let stays : purified_nodes rules rule (cleaned bytes) ≡ nodes =
    ap (purified_nodes rules rule) clean ∙ c.good_stays.ensures rules rule nodes text spells good.valid off in
    ap (λ n. encode_utf8_all (spelling_of n)) stays ∙ ap encode_utf8_all (c.spelled_as_itself.ensures nodes text spells) ∙ sym good.spelled.in_utf8
