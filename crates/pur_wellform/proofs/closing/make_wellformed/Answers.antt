use Rattle.std.proofs.Common.{map}
use Rattle.pur_tokens.specs.Tokens.{plain_token}
use Rattle.pur_tree.specs.Image.{nodes_of}
use Rattle.pur_wellform.proofs.StepFacts.{few_pend, run_pays}
use Rattle.pur_wellform.proofs.PropertyFacts.{is_closed}
use Rattle.pur_wellform.proofs.ClosingFacts.{forest_stands, forest_text}
use Rattle.pur_wellform.proofs.closing.make_wellformed.Goals as goal

pub returns-in_err-forest-clause-few : goal.returns-in_err-forest-clause-few
returns-in_err-forest-clause-few c = few_pend c.args.settings.now (map plain_token c.args.tokens.items) c.requires

pub returns-in_err-forest-clause-paid : goal.returns-in_err-forest-clause-paid
returns-in_err-forest-clause-paid c = run_pays c.args.settings.now (map plain_token c.args.tokens.items) c.requires

pub returns : goal.returns
returns c =
    let rules = c.args.settings.now in
    let tokens = map plain_token c.args.tokens.items in
    let nodes = nodes_of c.in_ok-forest.forest in
    let closed = is_closed rules nodes (forest_stands rules tokens nodes c.requires c.in_ok-forest.ensures.forest.sound c.in_ok-forest.ensures.tree) in
    record {
      tree = c.in_ok-forest.ensures.tree;
      permitted = closed.permitted;
      letters = closed.letters;
      free = closed.free;
      low = closed.low;
      text = λ c'. forest_text rules tokens nodes c' c.in_ok-forest.ensures.tree;
      few = few_pend rules tokens c.requires;
      paid = run_pays rules tokens c.requires;
    }
