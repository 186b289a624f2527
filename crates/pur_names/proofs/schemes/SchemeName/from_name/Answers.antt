-- Names are distinct, so the answer is the look-up's.
use Rattle.std.proofs.Common.{sym, ◌∙◌, ap}
use Rattle.pur_names.specs.Schemes.{scheme_named}
use Rattle.pur_names.proofs.SchemeNameLaws.{scheme_named-name, scheme_named-only}
use Rattle.pur_names.proofs.schemes.SchemeName.from_name.Goals as goal

pub returns-clause-value : goal.returns-clause-value
returns-clause-value c = scheme_named-only c.spelled.result c.args.name.now c.spelled.ensures.some c.spelled.ensures.none

pub returns-clause-inverse : goal.returns-clause-inverse
returns-clause-inverse c = λ s same. returns-clause-value c ∙ sym (ap scheme_named same) ∙ scheme_named-name s
