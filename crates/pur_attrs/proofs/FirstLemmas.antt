-- Of the same texts the first is kept.
use Rattle.std.proofs.Common.{◌≡◌, ℕ, suc, Bool, true, false, not, ◌||◌, cond, List, [], ◌∷◌, ◌++◌, length, map, filter, Option, Some, None, refl, sym, ap, subst, ◌∙◌}
use Rattle.std.specs.List.{list_all, list_any, filter_map, cons_option}
use Rattle.std.specs.Option.{option_map_or}
use Rattle.std.proofs.Math.Seq.{take-append_seam}
use Rattle.std.proofs.lemmas.Bool.{and_parts, and_from, cond-true, cond-false, not-true}
use Rattle.std.proofs.lemmas.List.{length-map}
use Rattle.pur_attrlist.specs.Attributes.{is_same_text}
use Rattle.pur_attrlist.proofs.AttributeLaws.{both_false}
use Rattle.pur_attrlist.proofs.TextLaws.{is_same_text-refl}
use Rattle.pur_validity.specs.Attributes.{has_prefix, are_different}
use Rattle.pur_attrs.specs.Ids.{with_prefix, unless_same, first_of_same, ids_kept}

-- those that are there
abbrev pub somes : List (Option (List ℕ)) → List (List ℕ)
somes told = filter_map (λ one. one) told

-- whether what is there passes a test
abbrev pub passes : (List ℕ → Bool) → Option (List ℕ) → Bool
passes test one = option_map_or test one true

abbrev other_than : List ℕ → List ℕ → Bool
other_than text other = not (is_same_text text other)

somes-unless : (id : List ℕ) (told : List (Option (List ℕ))) → somes (map (unless_same id) told) ≡ filter (other_than id) (somes told)
somes-unless id [] = refl
somes-unless id (None ∷ told) = somes-unless id told
somes-unless id (Some other ∷ told) = go (is_same_text id other) (somes-unless id told)
  where
    go : (b : Bool) → somes (map (unless_same id) told) ≡ filter (other_than id) (somes told)
        → cons_option (cond b None (Some other)) (somes (map (unless_same id) told))
        ≡ cond (not b) (other ∷ filter (other_than id) (somes told)) (filter (other_than id) (somes told))
    go true rest = rest
    go false rest = ap (λ l. other ∷ l) rest

none-filter : (test keep : List ℕ → Bool) (texts : List (List ℕ)) → list_any test texts ≡ false → list_any test (filter keep texts) ≡ false
none-filter test keep [] none = refl
none-filter test keep (text ∷ texts) none =
    let parts = both_false (test text) (list_any test texts) none in
    go (keep text) parts.0 (none-filter test keep texts parts.1)
  where
    go : (b : Bool) → test text ≡ false → list_any test (filter keep texts) ≡ false
        → list_any test (cond b (text ∷ filter keep texts) (filter keep texts)) ≡ false
    go true first rest = ap (λ b. b || list_any test (filter keep texts)) first ∙ rest
    go false first rest = rest

none-kept : (test : List ℕ → Bool) (texts : List (List ℕ)) → list_any test (filter (λ text. not (test text)) texts) ≡ false
none-kept test [] = refl
none-kept test (text ∷ texts) = go (test text) refl (none-kept test texts)
  where
    go : (b : Bool) → test text ≡ b → list_any test (filter (λ t. not (test t)) texts) ≡ false
        → list_any test (cond (not b) (text ∷ filter (λ t. not (test t)) texts) (filter (λ t. not (test t)) texts)) ≡ false
    go true e rest = rest
    go false e rest = ap (λ b. b || list_any test (filter (λ t. not (test t)) texts)) e ∙ rest

distinct-filter : (keep : List ℕ → Bool) (texts : List (List ℕ)) → are_different texts ≡ true → are_different (filter keep texts) ≡ true
distinct-filter keep [] apart = refl
distinct-filter keep (text ∷ texts) apart =
    let parts = and_parts (not (list_any (is_same_text text) texts)) (are_different texts) apart in
    go (keep text) (not-true _ parts.0) (distinct-filter keep texts parts.1)
  where
    go : (b : Bool) → list_any (is_same_text text) texts ≡ false → are_different (filter keep texts) ≡ true
        → are_different (cond b (text ∷ filter keep texts) (filter keep texts)) ≡ true
    go true none rest = and_from _ _ (ap not (none-filter (is_same_text text) keep texts none)) rest
    go false none rest = rest

pub first-distinct : (ids : List (List ℕ)) → are_different (somes (first_of_same ids)) ≡ true
first-distinct [] = refl
first-distinct (id ∷ ids) =
    let told = first_of_same ids in
    subst (λ l. are_different (id ∷ l) ≡ true) (sym (somes-unless id told))
    (and_from _ _ (ap not (none-kept (is_same_text id) (somes told))) (distinct-filter (other_than id) (somes told) (first-distinct ids)))

pub first-length : (ids : List (List ℕ)) → length (first_of_same ids) ≡ length ids
first-length [] = refl
first-length (id ∷ ids) = ap suc (length-map (first_of_same ids) (unless_same id) ∙ first-length ids)

module _ (test : List ℕ → Bool) where
  pub all-somes : (told : List (Option (List ℕ))) → list_all (passes test) told ≡ true → list_all test (somes told) ≡ true
  all-somes [] all = refl
  all-somes (None ∷ told) all = all-somes told all
  all-somes (Some one ∷ told) all =
      let parts = and_parts (test one) (list_all (passes test) told) all in
      and_from _ _ parts.0 (all-somes told parts.1)

  passes-unless : (id : List ℕ) (told : List (Option (List ℕ))) → list_all (passes test) told ≡ true
      → list_all (passes test) (map (unless_same id) told) ≡ true
  passes-unless id [] all = refl
  passes-unless id (None ∷ told) all = passes-unless id told all
  passes-unless id (Some one ∷ told) all =
      let parts = and_parts (test one) (list_all (passes test) told) all in
      and_from _ _ (go (is_same_text id one) parts.0) (passes-unless id told parts.1)
    where
      go : (b : Bool) → test one ≡ true → passes test (cond b None (Some one)) ≡ true
      go true passed = refl
      go false passed = passed

  pub first-passes : (ids : List (List ℕ)) → list_all test ids ≡ true → list_all (passes test) (first_of_same ids) ≡ true
  first-passes [] all = refl
  first-passes (id ∷ ids) all =
      let parts = and_parts (test id) (list_all test ids) all in
      and_from _ _ parts.0 (passes-unless id (first_of_same ids) (first-passes ids parts.1))

  pub all-mapped : (changed : List ℕ → List ℕ) (before : List ℕ → Bool) → ((id : List ℕ) → before id ≡ true → test (changed id) ≡ true)
      → (ids : List (List ℕ)) → list_all before ids ≡ true → list_all test (map changed ids) ≡ true
  all-mapped changed before keeps [] all = refl
  all-mapped changed before keeps (id ∷ ids) all =
      let parts = and_parts (before id) (list_all before ids) all in
      and_from _ _ (keeps id parts.0) (all-mapped changed before keeps ids parts.1)

pub all-true : {X : Type 0} (xs : List X) → list_all (λ x. true) xs ≡ true
all-true [] = refl
all-true (x ∷ xs) = all-true xs

pub kept-length : (prefix : List ℕ) (ids : List (List ℕ)) → length (ids_kept prefix ids) ≡ length ids
kept-length prefix ids = first-length (map (with_prefix prefix) ids) ∙ length-map ids (with_prefix prefix)

pub begins-with_prefix : (prefix id : List ℕ) → has_prefix prefix (with_prefix prefix id) ≡ true
begins-with_prefix prefix id = go (has_prefix prefix id) refl
  where
    go : (b : Bool) → has_prefix prefix id ≡ b → has_prefix prefix (cond b id (prefix ++ id)) ≡ true
    go true e = e
    go false e = ap (λ t. is_same_text t prefix) (take-append_seam prefix id) ∙ is_same_text-refl prefix

pub kept-begin : (prefix : List ℕ) (ids : List (List ℕ)) → list_all (has_prefix prefix) (somes (ids_kept prefix ids)) ≡ true
kept-begin prefix ids =
    all-somes (has_prefix prefix) (ids_kept prefix ids)
    (first-passes (has_prefix prefix) (map (with_prefix prefix) ids)
    (all-mapped (has_prefix prefix) (with_prefix prefix) (λ id. true) (λ id is. begins-with_prefix prefix id) ids (all-true ids)))

pub kept-distinct : (prefix : List ℕ) (ids : List (List ℕ)) → are_different (somes (ids_kept prefix ids)) ≡ true
kept-distinct prefix ids = first-distinct (map (with_prefix prefix) ids)

-- ---- where all begin with the prefix and no two are the same, each is kept as it is

begun-same : (prefix : List ℕ) (ids : List (List ℕ)) → list_all (has_prefix prefix) ids ≡ true → map (with_prefix prefix) ids ≡ ids
begun-same prefix [] all = refl
begun-same prefix (id ∷ ids) all =
    let parts = and_parts (has_prefix prefix id) (list_all (has_prefix prefix) ids) all in
    ap (λ t. t ∷ map (with_prefix prefix) ids) (cond-true (has_prefix prefix id) id (prefix ++ id) parts.0)
    ∙ ap (λ l. id ∷ l) (begun-same prefix ids parts.1)

unless-none : (id : List ℕ) (ids : List (List ℕ)) → list_any (is_same_text id) ids ≡ false → map (unless_same id) (map Some ids) ≡ map Some ids
unless-none id [] none = refl
unless-none id (other ∷ ids) none =
    let parts = both_false (is_same_text id other) (list_any (is_same_text id) ids) none in
    ap (λ o. o ∷ map (unless_same id) (map Some ids)) (cond-false (is_same_text id other) None (Some other) parts.0)
    ∙ ap (λ l. Some other ∷ l) (unless-none id ids parts.1)

first-same : (ids : List (List ℕ)) → are_different ids ≡ true → first_of_same ids ≡ map Some ids
first-same [] apart = refl
first-same (id ∷ ids) apart =
    let parts = and_parts (not (list_any (is_same_text id) ids)) (are_different ids) apart in
    ap (λ l. Some id ∷ map (unless_same id) l) (first-same ids parts.1) ∙ ap (λ l. Some id ∷ l) (unless-none id ids (not-true _ parts.0))

pub kept-same : (prefix : List ℕ) (ids : List (List ℕ)) → list_all (has_prefix prefix) ids ≡ true → are_different ids ≡ true
    → ids_kept prefix ids ≡ map Some ids
kept-same prefix ids begin apart = ap first_of_same (begun-same prefix ids begin) ∙ first-same ids apart
