use Rattle.std.proofs.Common.{◌≡◌, string_bytes, subst, true, sym, ap, ◌∙◌}
use Rattle.pur_tokens.specs.Shown.{plain_shown}
use Rattle.pur_tree.specs.Nodes.{plain_elem}
use Rattle.pur_wellform.specs.Closing.{step}
use Rattle.pur_wellform.specs.Standing.{may_be_closed}
use Rattle.pur_wellform.specs.Private.Machines.{Did, state_of}
use Rattle.pur_wellform.proofs.FixFacts.{named_start, named_empty, named_end}
use Rattle.pur_wellform.proofs.TextFacts.{some_bytes}
use Rattle.pur_wellform.proofs.steps.put_shown.Goals as goal

pub put_text-requires-clause-some : goal.put_text-requires-clause-some
put_text-requires-clause-some c =
    some_bytes (string_bytes c.in-Text.text) (subst (λ shown. may_be_closed c.args.settings.now shown ≡ true) c.in-Text.is c.requires.good)

pub returns-in_ok-put_start-in-Start : goal.returns-in_ok-put_start-in-Start
returns-in_ok-put_start-in-Start c =
    let rules = c.args.settings.now in
    let state = state_of c.args.machine.now in
    let tag = c.in-Start.tag in
    subst (Did rules c.args.machine.now c.put_start.new.machine)
    (sym (ap (λ shown. step rules (plain_shown shown) state) c.in-Start.is ∙ named_start rules (plain_elem tag.element tag.attrs) state)) c.in_ok-put_start-in-Start.ensures

pub returns-in_ok-put_start-in-Empty : goal.returns-in_ok-put_start-in-Empty
returns-in_ok-put_start-in-Empty c =
    let rules = c.args.settings.now in
    let state = state_of c.args.machine.now in
    let tag = c.in-Empty.tag in
    subst (Did rules c.args.machine.now c.put_start-in-Empty.new.machine)
    (sym (ap (λ shown. step rules (plain_shown shown) state) c.in-Empty.is ∙ named_empty rules (plain_elem tag.element tag.attrs) state)) c.in_ok-put_start-in-Empty.ensures

pub returns-in_ok-put_end-in-End : goal.returns-in_ok-put_end-in-End
returns-in_ok-put_end-in-End c =
    let rules = c.args.settings.now in
    let state = state_of c.args.machine.now in
    subst (Did rules c.args.machine.now c.put_end.new.machine)
    (sym (ap (λ shown. step rules (plain_shown shown) state) c.in-End.is ∙ named_end rules c.in-End.element state)) c.in_ok-put_end-in-End.ensures
