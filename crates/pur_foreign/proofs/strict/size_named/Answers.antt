-- Each size is plain.
use Rattle.std.proofs.Common.{refl, codes}
use Rattle.pur_laws.proofs.Texts.{chars_ascii}
use Rattle.pur_foreign.proofs.strict.size_named.Goals as goal

pub returns-in-text-clause-plain : goal.returns-in-text-clause-plain
returns-in-text-clause-plain c = chars_ascii (codes "xx-small") refl

pub returns-in-text-2-clause-plain : goal.returns-in-text-2-clause-plain
returns-in-text-2-clause-plain c = chars_ascii (codes "small") refl

pub returns-in-text-3-clause-plain : goal.returns-in-text-3-clause-plain
returns-in-text-3-clause-plain c = chars_ascii (codes "medium") refl

pub returns-in-text-4-clause-plain : goal.returns-in-text-4-clause-plain
returns-in-text-4-clause-plain c = chars_ascii (codes "large") refl

pub returns-in-text-5-clause-plain : goal.returns-in-text-5-clause-plain
returns-in-text-5-clause-plain c = chars_ascii (codes "x-large") refl

pub returns-in-text-6-clause-plain : goal.returns-in-text-6-clause-plain
returns-in-text-6-clause-plain c = chars_ascii (codes "xx-large") refl

pub returns-in-text-7-clause-plain : goal.returns-in-text-7-clause-plain
returns-in-text-7-clause-plain c = chars_ascii (codes "300%") refl

pub returns-in-text-8-clause-plain : goal.returns-in-text-8-clause-plain
returns-in-text-8-clause-plain c = chars_ascii (codes "larger") refl

pub returns-in-text-9-clause-plain : goal.returns-in-text-9-clause-plain
returns-in-text-9-clause-plain c = chars_ascii (codes "smaller") refl
