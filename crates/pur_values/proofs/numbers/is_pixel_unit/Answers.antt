use Rattle.std.proofs.Common.{◌∙◌, ap, sym}
use Rattle.pur_laws.proofs.Cases.{test-chars}
use Rattle.pur_values.specs.Numbers.{is_pixel_unit}
use Rattle.pur_values.proofs.SolidLemmas.{pixel_unit-ascii}
use Rattle.pur_values.proofs.numbers.is_pixel_unit.Goals as goal

pub returns : goal.returns
returns c = c.are_pixels.ensures ∙ ap is_pixel_unit c.as_bytes.ensures.value ∙ sym (test-chars is_pixel_unit pixel_unit-ascii c.args.unit.now c.utf8.unit)
