use Rattle.std.proofs.Common.{◌≡◌, length}
use Rattle.pur_tree.specs.Image.{nodes_of}
use Rattle.pur_inject.specs.Paragraphs.{in_paragraphs}
use Rattle.pur_inject.specs.Private.Remaining.{remaining}
use Rattle.pur_inject.specs.Private.Standing.{standing}
use Rattle.pur_inject.specs.Signs.{signs_of}
use Rattle.pur_inject.proofs.paragraphs.in_paragraphs.Given as goal

abbrev pub invariant-taking : goal.invariant-taking
invariant-taking l = standing l.doctype l.paragraphs (signs_of (remaining l.remaining)) ≡ in_paragraphs l.doctype (nodes_of l.fn.nodes.items)

abbrev pub decreases-taking : goal.decreases-taking
decreases-taking l = length l.remaining.nodes.items
