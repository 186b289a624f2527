use Rattle.std.proofs.Common.{arith}
use Rattle.pur_settings.proofs.ItemLemmas.{all_items-rank, items-within}
use Rattle.pur_settings.specs.declared.items.Item.TheVariants.{Everywhere, On}
use Rattle.pur_settings.proofs.sorts.ItemSort.place.Goals as goal

pub returns-in-Everywhere-clause-within : goal.returns-in-Everywhere-clause-within
returns-in-Everywhere-clause-within c = rw c.place_of.ensures.number (items-within (Everywhere c.in-Everywhere.attr))

pub returns-in-Everywhere-clause-member : goal.returns-in-Everywhere-clause-member
returns-in-Everywhere-clause-member c = all_items-rank c.args.self

pub returns-in-On-clause-within : goal.returns-in-On-clause-within
returns-in-On-clause-within c = omega (arith, items-within (On c.in-On.element c.in-On.attr), c.rank.ensures.number, c.place_of-in-On.ensures.number)

pub returns-in-On-clause-member : goal.returns-in-On-clause-member
returns-in-On-clause-member c = all_items-rank c.args.self
