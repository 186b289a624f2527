use Rattle.std.proofs.Common.{ap, ◌∙◌}
use Rattle.pur_tree.specs.Image.{nodes_of}
use Rattle.pur_inject.proofs.growing.Growing.finish.Goals as goal

pub returns : goal.returns
returns c = ap nodes_of c.shrink_to_fit.ensures.items ∙ c.in_ok-end_text.ensures.all
