use Rattle.std.proofs.Common.{refl}
use Rattle.pur_text.specs.Cleaning.{cleaned}
use Rattle.pur_engine.specs.Purified.{purified, purified_nodes}
use Rattle.pur_engine.proofs.FragmentLemmas.{written}
use Rattle.pur_engine.proofs.laws.purified_keeps_ledger.Goals as goal

pub returns : goal.returns
unfolding purified
returns c rules kind begins no_forms rule input =
    let text = cleaned input in
    let nodes = purified_nodes rules rule text in
    let good = c.fragments_are_good.ensures rules rule text kind begins no_forms (c.cleaned_is_allowed.ensures input) in
    record {
      nodes = nodes;
      spelled = written nodes good.spells refl;
      balance = λ ch seen. (c.fragments_are_counted.ensures rules rule text ch).balance seen;
    }
