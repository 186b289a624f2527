use Rattle.std.proofs.Common.{◌≡◌, length}
use Rattle.std.specs.Str.{chars}
use denote.Text.{Utf8}
use denote.Shadow.{shadow}
use Rattle.pur_inject.specs.Links.{is_address_sign, linked_run, may_be_linked}
use Rattle.pur_inject.specs.Private.Growing.{grown}
use Rattle.pur_inject.specs.Runs.{with_runs}
use Rattle.pur_inject.specs.Signs.{letters, nodes_from}
use Rattle.pur_inject.proofs.linking.put_linked_text.Given as goal

-- what is done, and the runs of what is left
abbrev pub invariant-cutting : goal.invariant-cutting
invariant-cutting g l =
    let made = with_runs is_address_sign (linked_run (may_be_linked l.settings l.gate)) in
    record {
      utf8 : shadow (Utf8 l.rest);
      whole : grown l.out (nodes_from (made (letters (chars l.rest)))) ≡ grown l.fn.out (nodes_from (made (letters (chars l.fn.text))));
    }

abbrev pub decreases-cutting : goal.decreases-cutting
decreases-cutting g l = length l.rest
