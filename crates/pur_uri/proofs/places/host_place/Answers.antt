use Rattle.std.proofs.Common.{◌≡◌, Some, sym, ap, ◌∙◌, rules}
use Rattle.pur_uri.specs.Images.{part_of}
use Rattle.pur_uri.specs.Places.{host_place}
use Rattle.pur_uri.specs.Splitting.{authority_part, behind_scheme}
use Rattle.pur_uri.proofs.PlaceLemmas.{place_fits}
use Rattle.pur_uri.proofs.places.host_place.Goals as goal

pub overflow_sub-text : goal.overflow_sub-text
overflow_sub-text c =
    let there : authority_part (behind_scheme c.args.text.now) ≡ Some c.in-Some.authority.now =
    sym (ap authority_part c.cut_scheme.ensures.rest) ∙ sym c.cut_authority.ensures.part ∙ ap part_of c.in-Some.is in
    rw (c.without_user-named.ensures, c.cut_authority.ensures.rest, c.cut_scheme.ensures.rest) (place_fits c.args.text.now c.in-Some.authority.now there)

pub returns-in-Some : goal.returns-in-Some
unfolding host_place
returns-in-Some c = search rules

pub returns-in-None : goal.returns-in-None
unfolding host_place
returns-in-None c = search rules
