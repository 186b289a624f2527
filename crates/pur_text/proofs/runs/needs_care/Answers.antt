-- The table is held against the definition at each of the 256 bytes, by computing.
use Rattle.std.proofs.Common.{get_or, refl, arith}
use Rattle.std.specs.Prelude.{◌==◌}
use Rattle.std.proofs.lemmas.Bool.{agree_below_at}
use Rattle.pur_text.specs.declared.runs.TheConstants.{CARE}
use Rattle.pur_text.specs.Private.Runs.{needs_care}
use Rattle.pur_text.proofs.runs.needs_care.Goals as goal

pub returns : goal.returns
returns c = agree_below_at (λ b. get_or CARE b 0 == 33) needs_care 256 c.args.byte.now refl (omega arith)
