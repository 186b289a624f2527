use Rattle.std.proofs.Common.{◌≡◌, true, false, sym, ◌∙◌}
use Rattle.pur_tree.specs.Image.{nodes_of}
use Rattle.pur_nesting.specs.Private.Order.{is_settled}
use Rattle.pur_nesting.specs.Nesting.{permits_of}
use Rattle.pur_nesting.proofs.SettledLemmas.{tested_same, test-settled}
use Rattle.pur_nesting.proofs.nesting.fix_nesting.Goals as goal

pub returns-then-is_settled-clause-nested : goal.returns-then-is_settled-clause-nested
returns-then-is_settled-clause-nested c =
    let test : is_settled (nodes_of c.args.forest.now) ≡ true = rw (← c.nodes.ensures.nodes) (sym c.is_settled.ensures ∙ c.if-is_settled.true) in
    sym (tested_same (permits_of c.args.settings.now) (nodes_of c.args.forest.now) test)

pub returns-in_err-nodes-clause-settled : goal.returns-in_err-nodes-clause-settled
returns-in_err-nodes-clause-settled c = λ settled.
    let test : is_settled (nodes_of c.args.forest.now) ≡ false = rw (← c.nodes.ensures.nodes) (sym c.is_settled.ensures ∙ c.if-is_settled.false) in
    let passed = test-settled (nodes_of c.args.forest.now) settled in absurd (cc)

pub returns-clause-settled : goal.returns-clause-settled
returns-clause-settled c = λ settled.
    let test : is_settled (nodes_of c.args.forest.now) ≡ false = rw (← c.nodes.ensures.nodes) (sym c.is_settled.ensures ∙ c.if-is_settled.false) in
    let passed = test-settled (nodes_of c.args.forest.now) settled in absurd (cc)
