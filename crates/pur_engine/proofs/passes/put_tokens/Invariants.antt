-- What was written, and then what the tokens that are left will write, is what all of them write; and those can be closed.
use Rattle.std.proofs.Common.{◌≡◌, length, true}
use Rattle.std.specs.List.{list_all}
use Rattle.pur_foreign.specs.Keeping.{kept_behind}
use Rattle.pur_wellform.specs.Progress.{closed_behind}
use Rattle.pur_wellform.specs.Standing.{can_be_closed}
use Rattle.pur_engine.proofs.passes.put_tokens.Given as goal

abbrev pub invariant-reading : goal.invariant-reading
invariant-reading g l = record {
  rules : l.closing.rules ≡ l.settings;
  can : list_all (can_be_closed l.settings) (kept_behind l.settings l.gate l.removal l.lexer) ≡ true;
  same : closed_behind l.closing (kept_behind l.settings l.gate l.removal l.lexer)
      ≡ closed_behind l.initial.closing (kept_behind l.settings l.gate l.initial.removal l.initial.lexer);
}

abbrev pub decreases-reading : goal.decreases-reading
decreases-reading g l = length l.lexer
