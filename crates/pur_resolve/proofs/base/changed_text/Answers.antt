use Rattle.std.proofs.Common.{◌≡◌, ◌∙◌, IsTrue, ap, sym, subst, option_map, rules}
use Rattle.pur_uri.specs.Images.{plain_place}
use Rattle.pur_uri.specs.Splitting.{are_bytes, tidied}
use Rattle.pur_resolve.proofs.base.changed_text.Goals as goal

pub with_ascii_host-requires : goal.with_ascii_host-requires
with_ascii_host-requires c =
    let same : c.as_slice.result.now ≡ tidied c.args.raw.now = search rules in
    c.places_have_bytes.ensures.places c.as_slice.result.now (plain_place c.in-Some.place)
    (subst (λ t. IsTrue (are_bytes t)) (sym same) (c.places_have_bytes.ensures.tidied c.args.raw.now c.utf8.raw))
    (sym c.host_place.ensures ∙ ap (option_map plain_place) c.in-Some.is)
