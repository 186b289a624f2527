-- Comparing children is the test for the same letter.
use Rattle.std.proofs.Common.{◌∙◌}
use Rattle.pur_modules.specs.contracts.kinds.ChildPartialEq.TheImpl.{ghosts}
use Rattle.pur_models.specs.Languages.{same_child}
use Rattle.pur_laws.proofs.Lists.{any-same}
use Rattle.pur_models.proofs.SameLemmas.{same_children}
use Rattle.pur_models.proofs.matching.is_letter.Goals as goal

pub returns : goal.returns
returns c =
    c.contains.ensures.value
    ∙ any-same (λ y. ghosts.eq y c.args.letter) (same_child c.args.letter) (λ y. same_children y c.args.letter) c.args.letters.now
