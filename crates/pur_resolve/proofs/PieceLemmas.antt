-- A path and its segments.
use Rattle.std.proofs.Common.{◌≡◌, ℕ, zero, suc, Bool, true, false, cond, List, [], ◌∷◌, ◌++◌, take, drop, refl, sym, ap, subst, ◌∙◌, append-nil}
use Rattle.std.specs.Prelude.{◌==◌, not}
use Rattle.std.specs.List.{list_all, onto_first, join_with_byte}
use Rattle.std.proofs.lemmas.Bool.{and_from}
use Rattle.std.proofs.lemmas.List.Splits.{join_with_byte-slice_split}
use Rattle.pur_laws.proofs.Firsts.{split-at, split-none}
use Rattle.pur_laws.proofs.Tests.{Each}
use Rattle.pur_laws.proofs.Truth.{or_true}
use Rattle.pur_uri.specs.Escapes.{normalised}
use Rattle.pur_uri.specs.Laws.{IsNormalPath, is_rooted}
use Rattle.pur_resolve.specs.Dots.{pieces, segments, path_of, settled, without_dots}
use Rattle.pur_resolve.proofs.DotLemmas.{each_settled, plain_settled, settled_plain}

-- ---- no slash stands in a segment

abbrev HasNoSlash : List ℕ → Type 0
HasNoSlash text = list_all (λ b. not (b == 0x2F)) text ≡ true

onto_clean : (b : ℕ) (parts : List (List ℕ)) → (b == 0x2F) ≡ false → Each HasNoSlash parts → Each HasNoSlash (onto_first b parts)
onto_clean b [] other all = (and_from _ _ (ap not other) refl, tt)
onto_clean b (part ∷ parts) other all = (and_from _ _ (ap not other) all.0, all.1)

clean_if : (slash : Bool) (b : ℕ) (parts : List (List ℕ)) → (b == 0x2F) ≡ slash → Each HasNoSlash parts
    → Each HasNoSlash (cond slash ([] ∷ parts) (onto_first b parts))
clean_if true b parts e all = (refl, all)
clean_if false b parts e all = onto_clean b parts e all

pieces_clean : (text : List ℕ) → Each HasNoSlash (pieces text)
pieces_clean [] = (refl, tt)
pieces_clean (b ∷ text) = clean_if (b == 0x2F) b (pieces text) refl (pieces_clean text)

behind_each : (P : List ℕ → Type 0) (parts : List (List ℕ)) → Each P parts → Each P (drop 1 parts)
behind_each P [] all = tt
behind_each P (part ∷ parts) all = all.1

pub each_front : (P : List ℕ → Type 0) (n : ℕ) (parts : List (List ℕ)) → Each P parts → Each P (take n parts)
each_front P zero parts all = tt
each_front P (suc n) [] all = tt
each_front P (suc n) (part ∷ parts) all = (all.0, each_front P n parts all.1)

-- ---- the segments of the path of segments

path_pieces : (segment : List ℕ) (behind : List (List ℕ)) → HasNoSlash segment → Each HasNoSlash behind
    → pieces (segment ++ path_of behind) ≡ segment ∷ behind
unfolding path_of
path_pieces segment [] one all = ap pieces (append-nil segment) ∙ split-none (λ b. b == 0x2F) segment one
path_pieces segment (next ∷ behind) one all =
    split-at (λ b. b == 0x2F) 0x2F refl segment (next ++ path_of behind) one ∙ ap (λ t. segment ∷ t) (path_pieces next behind all.0 all.1)

pub path_segments : (parts : List (List ℕ)) → Each HasNoSlash parts → segments (path_of parts) ≡ parts
unfolding path_of
path_segments [] all = refl
path_segments (segment ∷ behind) all = path_pieces segment behind all.0 all.1

-- ---- without dot segments once is without them twice

pub dots_settle : (path : List ℕ) → without_dots (without_dots path) ≡ without_dots path
unfolding without_dots
dots_settle path =
    let kept = (settled false (segments path)).stays in
    let clean = each_settled HasNoSlash refl false (segments path) (behind_each HasNoSlash (pieces path) (pieces_clean path)) in
    ap (λ t. path_of (settled false t).stays) (path_segments kept clean)
    ∙ ap (λ t. path_of t.stays) (settled_plain kept (plain_settled false (segments path)))

-- ---- a path of segments is empty or begins with a slash

pub path_rooted : (parts : List (List ℕ)) → is_rooted (path_of parts) ≡ true
unfolding path_of
path_rooted [] = refl
path_rooted (segment ∷ behind) = or_true _

-- ---- and it is in its one spelling where its segments are

module _
    (split : (front behind : List ℕ) → IsNormalPath (front ++ (0x2F ∷ behind)) → IsNormalPath front × IsNormalPath behind)
    (join : (front behind : List ℕ) → IsNormalPath front → IsNormalPath behind → IsNormalPath (front ++ (0x2F ∷ behind)))
  where
    normal_parts : (parts : List (List ℕ)) → IsNormalPath (join_with_byte 0x2F parts) → Each IsNormalPath parts
    normal_parts [] e = tt
    normal_parts (part ∷ []) e = (e, tt)
    normal_parts (part ∷ next ∷ parts) e =
        let both = split part (join_with_byte 0x2F (next ∷ parts)) e in (both.0, normal_parts (next ∷ parts) both.1)

    pub normal_segments : (path : List ℕ) → IsNormalPath path → Each IsNormalPath (segments path)
    normal_segments path e =
        behind_each IsNormalPath (pieces path) (normal_parts (pieces path) (subst IsNormalPath (sym (join_with_byte-slice_split 0x2F path)) e))

    normal_behind : (segment : List ℕ) (behind : List (List ℕ)) → IsNormalPath segment → Each IsNormalPath behind
        → IsNormalPath (segment ++ path_of behind)
    unfolding path_of
    normal_behind segment [] one all = subst IsNormalPath (sym (append-nil segment)) one
    normal_behind segment (next ∷ behind) one all = join segment (next ++ path_of behind) one (normal_behind next behind all.0 all.1)

    nothing_normal : IsNormalPath []
    unfolding normalised
    nothing_normal = refl

    pub normal_path : (parts : List (List ℕ)) → Each IsNormalPath parts → IsNormalPath (path_of parts)
    unfolding path_of
    normal_path [] all = nothing_normal
    normal_path (segment ∷ behind) all = join [] (segment ++ path_of behind) nothing_normal (normal_behind segment behind all.0 all.1)

    pub dots_normal : (path : List ℕ) → IsNormalPath path → IsNormalPath (without_dots path)
    unfolding without_dots
    dots_normal path e =
        normal_path (settled false (segments path)).stays (each_settled IsNormalPath nothing_normal false (segments path) (normal_segments path e))

pub dots_rooted : (path : List ℕ) → is_rooted (without_dots path) ≡ true
unfolding without_dots
dots_rooted path = path_rooted (settled false (segments path)).stays
