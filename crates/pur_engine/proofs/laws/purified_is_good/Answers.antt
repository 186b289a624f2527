use Rattle.std.proofs.Common.{refl}
use Rattle.pur_text.specs.Cleaning.{cleaned}
use Rattle.pur_engine.specs.Purified.{purified, purified_nodes}
use Rattle.pur_engine.proofs.FragmentLemmas.{written}
use Rattle.pur_engine.proofs.laws.purified_is_good.Goals as goal

pub returns : goal.returns
unfolding purified
returns c rules kind begins no_forms rule input =
    let nodes = purified_nodes rules rule (cleaned input) in
    let good = c.fragments_are_good.ensures rules rule (cleaned input) kind begins no_forms (c.cleaned_is_allowed.ensures input) in
    record { nodes = nodes; spelled = written nodes good.spells refl; valid = good.valid }
