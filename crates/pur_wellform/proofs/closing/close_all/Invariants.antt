use Rattle.std.proofs.Common.{◌≡◌, map, true}
use Rattle.std.specs.List.{list_all}
use Rattle.pur_tokens.specs.Tokens.{plain_token}
use Rattle.pur_wellform.specs.Closing.{closed}
use Rattle.pur_wellform.specs.Standing.{can_be_closed}
use Rattle.pur_wellform.specs.Progress.{closed_behind}
use Rattle.pur_wellform.proofs.closing.close_all.Given as goal

-- what was closed, and the tokens left behind it, are all closed
abbrev pub invariant-loop-token : goal.invariant-loop-token
invariant-loop-token l = record {
  rules : l.closing.rules ≡ l.settings;
  good : list_all (can_be_closed l.settings) (map plain_token l.token-iterator.rest.items) ≡ true;
  closed : closed_behind l.closing (map plain_token l.token-iterator.rest.items) ≡ closed l.settings (map plain_token l.initial.token-iterator.rest.items);
}
