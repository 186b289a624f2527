use Rattle.std.proofs.Common.{◌≡◌, ◌∙◌, ◌++◌, true, refl, ap, sym, rules}
use Rattle.std.specs.Prelude.{if◌then◌else◌}
use Rattle.std.specs.List.{list_all}
use Rattle.std.specs.Str.{chars}
use Rattle.pur_tree.specs.Nodes.{no_nodes}
use Rattle.pur_inject.specs.Addresses.{is_address_character}
use Rattle.pur_inject.specs.Links.{is_address_sign, linked_run, may_be_linked}
use Rattle.pur_inject.specs.Private.Cutting.{is_over, says}
use Rattle.pur_inject.specs.Private.Growing.{grown}
use Rattle.pur_inject.specs.Runs.{with_runs}
use Rattle.pur_inject.specs.Signs.{letters, nodes_from}
use Rattle.pur_inject.proofs.GrowingLemmas.{cut-with}
use Rattle.pur_inject.proofs.SignLemmas.{before-append}
use Rattle.pur_inject.proofs.linking.put_linked_text.Goals as goal

pub cutting-preserved : goal.cutting-preserved
cutting-preserved g c =
    let run = chars c.in-Some.run'.now in
    let behind = chars c.in-Some.behind.now in
    let is = c.in-Some.is' in
    let made = linked_run (may_be_linked c.args.settings.now c.args.gate.now) in
    let whole : chars c.cutting.rest.now ≡ run ++ behind = search rules in
    let said : list_all (says is_address_character is) run ≡ true = search rules in
    let over : is_over is_address_character is behind ≡ true = search rules in
    let cut = cut-with is_address_sign is_address_character (λ c. refl) made refl is (chars c.cutting.rest.now) run behind whole said over in
    let front = if is then made (letters run) else letters run in
    let rest = with_runs is_address_sign made (letters behind) in
    record {
      utf8 = search rules;
      whole =
          c.in_ok-put_run.ensures (nodes_from rest)
          ∙ ap (grown c.cutting.out) (sym (ap nodes_from cut ∙ before-append front rest no_nodes))
          ∙ c.cutting.invariant.whole;
    }
