use Rattle.std.proofs.Common.{◌≡◌, ◌≤◌, length, map, drop}
use Rattle.pur_models.specs.Images.{step_of}
use Rattle.pur_models.specs.Deciding.{is_cut}
use Rattle.pur_models.proofs.matching.is_in_way.Given as goal

abbrev pub invariant-loop-step : goal.invariant-loop-step
invariant-loop-step l = record {
  within : l.at ≤ length l.word;
  rest : is_cut (map step_of l.way) l.word ≡ is_cut (map step_of (drop l.step-index l.way)) (drop l.at l.word);
}
