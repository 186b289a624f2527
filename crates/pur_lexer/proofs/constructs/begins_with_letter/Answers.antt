use Rattle.std.proofs.Common.{◌∙◌, ap, slice_get}
use Rattle.pur_lexer.proofs.ConstructLemmas.{some_letter, no_letters}
use Rattle.pur_lexer.proofs.constructs.begins_with_letter.Goals as goal

pub returns-in-Some : goal.returns-in-Some
returns-in-Some c =
    some_letter c.args.text.now c.in-Some.byte.now c.is_letter.result c.utf8.text (c.in-Some.ensures.value ∙ ap (λ t. slice_get t 0) c.as_bytes.ensures.value) c.is_letter.ensures

pub returns-in-None : goal.returns-in-None
returns-in-None c = no_letters c.args.text.now c.utf8.text (c.in-None.ensures.value ∙ ap (λ t. slice_get t 0) c.as_bytes.ensures.value)
