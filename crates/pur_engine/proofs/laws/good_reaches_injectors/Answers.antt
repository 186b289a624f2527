-- Each pass before the injectors leaves what is good as it is.
use Rattle.std.proofs.Common.{◌≡◌, ap, ◌∙◌}
use Rattle.pur_foreign.specs.Removal.{without_foreign}
use Rattle.pur_tree.specs.Tokens.{tokens_of_nodes, tree_of}
use Rattle.pur_wellform.specs.Closing.{closed}
use Rattle.pur_nesting.specs.Nesting.{nested, permits_of}
use Rattle.pur_engine.specs.Purified.{closed_tags, closed_tree}
use Rattle.pur_engine.proofs.laws.good_reaches_injectors.Goals as goal

pub returns : goal.returns
returns c rules rule nodes text spells valid =
    let closing = c.closing_leaves_good.ensures rules rule nodes text spells valid in
    let tags : closed_tags rules rule text ≡ tokens_of_nodes nodes =
    ap (λ ts. closed rules (without_foreign rules rule ts)) (c.spelled_is_read.ensures nodes text spells)
    ∙ ap (closed rules) (c.removal_leaves_good.ensures rules rule nodes text spells valid) ∙ closing.0 in
    let tree : closed_tree rules rule text ≡ nodes = ap tree_of tags ∙ closing.1 in
    ap (nested (permits_of rules)) tree ∙ c.nesting_leaves_good.ensures rules rule nodes text spells valid
