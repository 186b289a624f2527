use Rattle.std.proofs.Common.{◌≡◌, [], length, string_bytes}
use Rattle.pur_tree.specs.Image.{nodes_of}
use Rattle.pur_tree.specs.Nodes.{nodes_append}
use Rattle.pur_inject.specs.Links.{may_be_linked}
use Rattle.pur_inject.specs.Private.Linking.{texts_linked}
use Rattle.pur_inject.specs.Private.Remaining.{remaining}
use Rattle.pur_inject.proofs.linking.texts_linked.Given as goal

abbrev pub invariant-taking : goal.invariant-taking
invariant-taking g l =
    let made = texts_linked (may_be_linked l.settings l.gate) in
    record {
      over : string_bytes l.out.text ≡ [];
      whole : nodes_append (nodes_of l.out.nodes.items) (made (remaining l.remaining)) ≡ made (nodes_of l.fn.nodes.items);
    }

abbrev pub decreases-taking : goal.decreases-taking
decreases-taking g l = length l.remaining.nodes.items
