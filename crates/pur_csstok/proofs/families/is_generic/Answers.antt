use Rattle.std.proofs.Common.{◌∙◌, sym}
use Rattle.pur_csstok.specs.Families.{generics}
use Rattle.pur_csstok.specs.Names.{is_one_of}
use Rattle.pur_csstok.proofs.FamilyLaws.{generic-ascii}
use Rattle.pur_laws.proofs.Cases.{test-chars}
use Rattle.pur_csstok.proofs.families.is_generic.Goals as goal

pub returns : goal.returns
returns c = c.is_generic_name.ensures ∙ sym (test-chars (is_one_of generics) generic-ascii c.args.name.now c.utf8.name)
