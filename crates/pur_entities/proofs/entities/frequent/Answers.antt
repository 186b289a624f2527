-- The bytes that the match read are the name, and what the name stands for is computed.
use Rattle.std.proofs.Common.{◌∙◌, ap, codes, refl, arith}
use Rattle.std.proofs.lemmas.Slice.Eq.{text_from_reads}
use Rattle.pur_entities.specs.Entities.{latin_1, special, greek, other_symbols, entities, character_in, named_character}
use Rattle.pur_entities.proofs.entities.frequent.Goals as goal

pub returns-in-amp : goal.returns-in-amp
unfolding named_character entities latin_1 special greek other_symbols character_in
returns-in-amp c = ap named_character (text_from_reads c.args.name.now (codes "amp") (omega arith) (omega arith, (omega arith, (omega arith, tt)))) ∙ refl

pub returns-in-lt : goal.returns-in-lt
unfolding named_character entities latin_1 special greek other_symbols character_in
returns-in-lt c = ap named_character (text_from_reads c.args.name.now (codes "lt") (omega arith) (omega arith, (omega arith, tt))) ∙ refl

pub returns-in-gt : goal.returns-in-gt
unfolding named_character entities latin_1 special greek other_symbols character_in
returns-in-gt c = ap named_character (text_from_reads c.args.name.now (codes "gt") (omega arith) (omega arith, (omega arith, tt))) ∙ refl

pub returns-in-quot : goal.returns-in-quot
unfolding named_character entities latin_1 special greek other_symbols character_in
returns-in-quot c = ap named_character (text_from_reads c.args.name.now (codes "quot") (omega arith) (omega arith, (omega arith, (omega arith, (omega arith, tt))))) ∙ refl

pub returns-in-nbsp : goal.returns-in-nbsp
unfolding named_character entities latin_1 special greek other_symbols character_in
returns-in-nbsp c = ap named_character (text_from_reads c.args.name.now (codes "nbsp") (omega arith) (omega arith, (omega arith, (omega arith, (omega arith, tt))))) ∙ refl
