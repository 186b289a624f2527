use Rattle.std.proofs.Common.{◌≡◌, rules, subst}
use Rattle.std.specs.Prelude.{IsTrue}
use Rattle.pur_validity.specs.Validity.{IsValid}
use Rattle.pur_tree.specs.Image.{nodes_of}
use Rattle.pur_tree.specs.Nodes.{Nodes}
use Rattle.pur_tree.specs.Spelling.{AreSpelled}
use Rattle.pur_tree.specs.Forests.{IsForest}
use Rattle.pur_cli.proofs.checking.verdict_by.Goals as goal

pub returns : goal.returns
returns g c =
    let spelled : AreSpelled (nodes_of c.in-Some.forest) c.args.input.now = search (rules, c.in_ok-forest.ensures.spelled, c.in-Some.is) in
    let sound : IsForest (nodes_of c.in-Some.forest) = search (rules, c.in_ok-forest.ensures.forest, c.in-Some.is) in (
      record { nodes = nodes_of c.in-Some.forest; low = sound.low; spelled = spelled },
      λ good.
          let same : good.nodes ≡ nodes_of c.in-Some.forest = c.spelling_is_unique.ensures good.nodes (nodes_of c.in-Some.forest) c.args.input.now good.spelled spelled in
          let is_valid : IsValid c.args.settings.now c.args.rule.now (nodes_of c.in-Some.forest) = subst (λ (n : Nodes). IsValid c.args.settings.now c.args.rule.now n) same good.valid in
          let found : IsTrue c.in_ok-is_valid.is_valid = search (rules, c.in_ok-is_valid.ensures, c.new-gate.ensures, is_valid) in
          search (rules, found, c.if-is_valid.false),
    )
