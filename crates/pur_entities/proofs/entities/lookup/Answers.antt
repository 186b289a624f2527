use Rattle.std.proofs.Common.{◌∙◌, ap, sym, refl}
use Rattle.pur_entities.specs.Entities.{latin_1, special, greek, other_symbols, entities, character_in, named_character}
use Rattle.pur_entities.proofs.BodyLemmas.{named_character-chars}
use Rattle.pur_entities.proofs.entities.lookup.Goals as goal

pub find-requires-clause-rising : goal.find-requires-clause-rising
find-requires-clause-rising c = refl

pub find-requires-clause-right : goal.find-requires-clause-right
unfolding named_character entities latin_1 special greek other_symbols character_in
find-requires-clause-right c = refl

pub find-requires-clause-whole : goal.find-requires-clause-whole
unfolding entities latin_1 special greek other_symbols
find-requires-clause-whole c = refl

pub returns-in-Some : goal.returns-in-Some
returns-in-Some c =
    sym c.in-Some.ensures ∙ ap named_character c.as_bytes.ensures.value ∙ sym (named_character-chars c.args.name.now c.utf8.name)

pub returns-in-None : goal.returns-in-None
returns-in-None c = c.find.ensures ∙ sym (named_character-chars c.args.name.now c.utf8.name)
