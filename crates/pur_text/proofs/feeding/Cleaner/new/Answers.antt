use Rattle.std.proofs.Common.{refl, sym, subst}
use Rattle.std.proofs.lemmas.Str.{chars-nil}
use Rattle.pur_text.specs.Cleaning.{cleaned}
use Rattle.pur_text.specs.Private.Feeding.{MayGoOn}
use Rattle.pur_text.proofs.FeedingLemmas.{none_held}
use Rattle.pur_text.proofs.feeding.Cleaner.new.Goals as goal

pub invariant_of-result : goal.invariant_of-result
invariant_of-result c = subst MayGoOn (sym c.new-2.ensures) none_held

pub returns : goal.returns
unfolding cleaned
returns c bytes = rw (c.new-2.ensures, c.new.ensures.bytes, chars-nil) refl
