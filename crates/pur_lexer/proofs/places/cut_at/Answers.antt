-- Both parts are what the test cuts.
use Rattle.std.proofs.Common.{◌∙◌, ap, subst}
use Rattle.std.specs.Str.{chars}
use Rattle.pur_lexer.specs.Private.Cutting.{IsFirstPlace}
use Rattle.pur_lexer.specs.Places.{begins_with}
use Rattle.pur_lexer.specs.Private.Cutting.{stops_at}
use Rattle.pur_lexer.proofs.PlaceLemmas.{cut_there, stop_is_plain}
use Rattle.pur_lexer.proofs.places.cut_at.Goals as goal

pub split_at-requires : goal.split_at-requires
split_at-requires c =
    let test = begins_with (stops_at c.args.stop) in
    let first : IsFirstPlace test c.args.text.now c.place_of_stop-place.result = subst (λ t. IsFirstPlace test t c.place_of_stop-place.result) c.as_bytes.ensures.value c.place_of_stop-place.ensures in
    (cut_there test c.args.text.now c.place_of_stop-place.result (stop_is_plain c.args.stop) c.utf8.text first).boundary

pub returns-clause-run : goal.returns-clause-run
returns-clause-run c =
    let test = begins_with (stops_at c.args.stop) in
    let first : IsFirstPlace test c.args.text.now c.place_of_stop-place.result = subst (λ t. IsFirstPlace test t c.place_of_stop-place.result) c.as_bytes.ensures.value c.place_of_stop-place.ensures in
    ap chars c.split_at.ensures.front ∙ (cut_there test c.args.text.now c.place_of_stop-place.result (stop_is_plain c.args.stop) c.utf8.text first).run

pub returns-clause-rest : goal.returns-clause-rest
returns-clause-rest c =
    let test = begins_with (stops_at c.args.stop) in
    let first : IsFirstPlace test c.args.text.now c.place_of_stop-place.result = subst (λ t. IsFirstPlace test t c.place_of_stop-place.result) c.as_bytes.ensures.value c.place_of_stop-place.ensures in
    ap chars c.split_at.ensures.back ∙ (cut_there test c.args.text.now c.place_of_stop-place.result (stop_is_plain c.args.stop) c.utf8.text first).rest
