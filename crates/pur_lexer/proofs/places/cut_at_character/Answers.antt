-- Both parts are what the test cuts.
use Rattle.std.proofs.Common.{◌∙◌, ap, subst}
use Rattle.std.specs.Str.{chars}
use Rattle.pur_lexer.specs.Private.Cutting.{IsFirstPlace}
use Rattle.pur_lexer.specs.Places.{begins_with, is_character}
use Rattle.pur_lexer.proofs.PlaceLemmas.{cut_there, character_is_plain}
use Rattle.pur_lexer.proofs.places.cut_at_character.Goals as goal

pub returns-clause-run : goal.returns-clause-run
returns-clause-run c =
    let test = begins_with (is_character c.args.character) in
    let first : IsFirstPlace test c.args.text.now c.place_of_byte-place.result = subst (λ t. IsFirstPlace test t c.place_of_byte-place.result) c.as_bytes.ensures.value c.place_of_byte-place.ensures in
    ap chars c.split_at.ensures.front ∙ (cut_there test c.args.text.now c.place_of_byte-place.result (character_is_plain c.args.character c.requires) c.utf8.text first).run

pub returns-clause-rest : goal.returns-clause-rest
returns-clause-rest c =
    let test = begins_with (is_character c.args.character) in
    let first : IsFirstPlace test c.args.text.now c.place_of_byte-place.result = subst (λ t. IsFirstPlace test t c.place_of_byte-place.result) c.as_bytes.ensures.value c.place_of_byte-place.ensures in
    ap chars c.split_at.ensures.back ∙ (cut_there test c.args.text.now c.place_of_byte-place.result (character_is_plain c.args.character c.requires) c.utf8.text first).rest
