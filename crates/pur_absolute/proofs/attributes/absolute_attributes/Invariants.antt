use Rattle.std.proofs.Common.{◌≡◌, Bool, map}
use Rattle.std.specs.List.{filter_map, list_any}
use Rattle.std.specs.Vec.Iter.{into_iter_items}
use Rattle.pur_attrlist.specs.Pairs.{attribute_of}
use Rattle.pur_uri.specs.Uris.{PlainUri}
use Rattle.pur_absolute.specs.Absolute.{absolute_attribute, is_missed}
use Rattle.pur_absolute.specs.Rules.{AnswersAs}
use Rattle.pur_absolute.proofs.KeptLemmas.{put_all}
use Rattle.pur_absolute.proofs.attributes.absolute_attributes.Given as goal

-- what is kept, and what becomes of the attributes that are left, is what becomes of all, and none before them is missed
abbrev pub invariant-loop-pair : goal.invariant-loop-pair
invariant-loop-pair g l =
    (allows : PlainUri → Bool) → AnswersAs (g.R.SiteRule.allows l.site) allows
    → (put_all l.kept (filter_map (absolute_attribute allows l.base) (map attribute_of (into_iter_items l.pair-iterator)))
    ≡ filter_map (absolute_attribute allows l.base) l.fn.attrs)
    × (list_any (is_missed allows l.base l.element) (map attribute_of (into_iter_items l.pair-iterator))
    ≡ list_any (is_missed allows l.base l.element) l.fn.attrs)
