use Rattle.std.proofs.Common.{◌≡◌, ◌∙◌, map, ap, string_bytes, String, nat_cmp, rules}
use Rattle.std.specs.BTreeMap.{is_at}
use Rattle.std.specs.Cmp.Lexicographic.{slice_cmp}
use Rattle.std.specs.Map.{lookup}
use Rattle.std.specs.declared.alloc.Global.{Global}
use Rattle.std.proofs.lemmas.Map.Made.{map_same_pairs, lookup-map_values}
use Rattle.pur_attrlist.specs.Private.Places.{moved_down}
use Rattle.pur_attrlist.proofs.indexed_pairs.move_down.Goals as goal

pub returns : goal.returns
returns c =
    let kept : c.retain.new.self.entries ≡ map (λ e. (e.0, moved_down c.args.gone e.1)) c.args.places.now.entries =
    map_same_pairs _ (moved_down c.args.gone) _ (λ k v b w f' t. search rules) _ _ c.retain.ensures.filtered in
    λ name.
    ap (lookup (is_at (λ (k : String Global). slice_cmp nat_cmp name (string_bytes k)))) kept
    ∙ lookup-map_values (moved_down c.args.gone) (is_at (λ (k : String Global). slice_cmp nat_cmp name (string_bytes k))) c.args.places.now.entries
