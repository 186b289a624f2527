-- Both parts are what the test cuts.
use Rattle.std.proofs.Common.{◌∙◌, ap, subst}
use Rattle.std.specs.Str.{chars}
use Rattle.pur_lexer.specs.Private.Cutting.{IsFirstPlace}
use Rattle.pur_lexer.specs.Constructs.{is_end_mark}
use Rattle.pur_lexer.proofs.PlaceLemmas.{cut_there, end_mark_is_plain}
use Rattle.pur_lexer.proofs.places.cut_at_end_mark.Goals as goal

pub split_at-requires : goal.split_at-requires
split_at-requires c =
    let text = c.args.text.now in
    let n = c.place_of_end_mark-place.result in
    let told : IsFirstPlace (is_end_mark c.as_bytes-2.result.now) text n = subst (λ t. IsFirstPlace (is_end_mark c.as_bytes-2.result.now) t n) c.as_bytes.ensures.value c.place_of_end_mark-place.ensures in
    let first : IsFirstPlace (is_end_mark c.args.name.now) text n = subst (λ m. IsFirstPlace (is_end_mark m) text n) c.as_bytes-2.ensures.value told in
    (cut_there (is_end_mark c.args.name.now) text n (end_mark_is_plain c.args.name.now c.requires) c.utf8.text first).boundary

pub returns-clause-run : goal.returns-clause-run
returns-clause-run c =
    let text = c.args.text.now in
    let n = c.place_of_end_mark-place.result in
    let told : IsFirstPlace (is_end_mark c.as_bytes-2.result.now) text n = subst (λ t. IsFirstPlace (is_end_mark c.as_bytes-2.result.now) t n) c.as_bytes.ensures.value c.place_of_end_mark-place.ensures in
    let first : IsFirstPlace (is_end_mark c.args.name.now) text n = subst (λ m. IsFirstPlace (is_end_mark m) text n) c.as_bytes-2.ensures.value told in
    ap chars c.split_at.ensures.front ∙ (cut_there (is_end_mark c.args.name.now) text n (end_mark_is_plain c.args.name.now c.requires) c.utf8.text first).run

pub returns-clause-rest : goal.returns-clause-rest
returns-clause-rest c =
    let text = c.args.text.now in
    let n = c.place_of_end_mark-place.result in
    let told : IsFirstPlace (is_end_mark c.as_bytes-2.result.now) text n = subst (λ t. IsFirstPlace (is_end_mark c.as_bytes-2.result.now) t n) c.as_bytes.ensures.value c.place_of_end_mark-place.ensures in
    let first : IsFirstPlace (is_end_mark c.args.name.now) text n = subst (λ m. IsFirstPlace (is_end_mark m) text n) c.as_bytes-2.ensures.value told in
    ap chars c.split_at.ensures.back ∙ (cut_there (is_end_mark c.args.name.now) text n (end_mark_is_plain c.args.name.now c.requires) c.utf8.text first).rest
