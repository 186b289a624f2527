-- Ids: which begin with the prefix, and which were seen.
use Rattle.std.proofs.Common.{◌≡◌, ℕ, nat_eq, Bool, true, false, ◌||◌, List, [], ◌∷◌, ◌++◌, length, take, drop, IsUtf8, String, string_bytes, encode_utf8_all, refl, sym, ap, ◌∙◌}
use Rattle.std.specs.List.{list_any, starts_with}
use Rattle.std.specs.Ordering.{is_eq, nat_cmp, match_ordering}
use Rattle.std.specs.declared.cmp.Ordering.{Ordering}
use Rattle.std.specs.declared.cmp.Ordering.TheVariants.{Less, Equal, Greater}
use Rattle.std.specs.Cmp.Lexicographic.{slice_cmp}
use Rattle.std.specs.BTreeSet.{BTreeSet, insert_key}
use Rattle.std.specs.Str.{chars, bytes_eq}
use Rattle.std.specs.String.{string_cmp}
use Rattle.std.specs.declared.alloc.Global.{Global}
use Rattle.std.proofs.lemmas.List.{take-append-drop}
use Rattle.std.proofs.lemmas.Map.Text.{is_eq-slice_cmp}
use Rattle.std.proofs.lemmas.Slice.Eq.{bytes_eq-Decides}
use Rattle.std.proofs.lemmas.Str.{chars-append, encodes-append, encodes-chars}
use Rattle.std.proofs.Math.Seq.{take-append_seam}
use Rattle.pur_laws.proofs.Lists.{any-same}
use Rattle.pur_laws.proofs.Truth.{true_together}
use Rattle.pur_attrlist.specs.Attributes.{is_same_text}
use Rattle.pur_attrlist.specs.Texts.{text_of}
use Rattle.pur_attrlist.proofs.TextLaws.{same_text, is_same_text-refl, is_same_text-sym, bytes_eq-stored}
use Rattle.pur_validity.specs.Attributes.{has_prefix}
use Rattle.pur_reader.specs.Private.Judging.{seen_in, seen_with}

-- the bytes of an id begin with those of the prefix exactly where its characters do
pub begins-alike : (prefix id : List ℕ) → IsUtf8 prefix → IsUtf8 id → starts_with nat_eq id prefix ≡ has_prefix (chars prefix) (chars id)
begins-alike prefix id one two = true_together _ _ forth back
  where
    forth : starts_with nat_eq id prefix ≡ true → has_prefix (chars prefix) (chars id) ≡ true
    forth is =
        let front : prefix ≡ take (length prefix) id = (bytes_eq-Decides prefix (take (length prefix) id)).0 is in
        let cut : id ≡ prefix ++ drop (length prefix) id = sym (take-append-drop (length prefix) id) ∙ ap (λ l. l ++ drop (length prefix) id) (sym front) in
        let told : chars id ≡ chars prefix ++ chars (drop (length prefix) id) = ap chars cut ∙ chars-append prefix (drop (length prefix) id) one in
        ap (λ t. is_same_text t (chars prefix))
        (ap (take (length (chars prefix))) told ∙ take-append_seam (chars prefix) (chars (drop (length prefix) id)))
        ∙ is_same_text-refl (chars prefix)

    back : has_prefix (chars prefix) (chars id) ≡ true → starts_with nat_eq id prefix ≡ true
    back is =
        let n = length (chars prefix) in
        let front : take n (chars id) ≡ chars prefix = same_text (take n (chars id)) (chars prefix) is in
        let cut : chars id ≡ chars prefix ++ drop n (chars id) = sym (take-append-drop n (chars id)) ∙ ap (λ l. l ++ drop n (chars id)) front in
        let told : id ≡ prefix ++ encode_utf8_all (drop n (chars id)) =
        sym (encodes-chars id two) ∙ ap encode_utf8_all cut ∙ encodes-append (chars prefix) (drop n (chars id))
        ∙ ap (λ bs. bs ++ encode_utf8_all (drop n (chars id))) (encodes-chars prefix one) in
        (bytes_eq-Decides prefix (take (length prefix) id)).1
        (sym (ap (take (length prefix)) told ∙ take-append_seam prefix (encode_utf8_all (drop n (chars id)))))

-- a set has a text where it was seen
pub seen-bytes : (set : BTreeSet (String Global)) (bytes : List ℕ) → IsUtf8 bytes
    → list_any (λ key. is_eq (slice_cmp nat_cmp bytes (string_bytes key))) set.keys ≡ seen_in set (chars bytes)
seen-bytes set bytes is =
    any-same (λ key. is_eq (slice_cmp nat_cmp bytes (string_bytes key))) (λ key. is_same_text (chars bytes) (text_of key))
    (λ key. is_eq-slice_cmp bytes (string_bytes key) ∙ bytes_eq-stored bytes is key) set.keys

or-turned : (a b c : Bool) → (a || (b || c)) ≡ (b || (a || c))
or-turned true true c = refl
or-turned true false c = refl
or-turned false b c = refl

or-once : (a b : Bool) → (a || b) ≡ (a || (a || b))
or-once true b = refl
or-once false b = refl

-- with one more
keys-with : (keys : List (String Global)) (key : String Global) (text : List ℕ)
    → list_any (λ k. is_same_text text (text_of k)) (insert_key string_cmp keys key)
    ≡ (is_same_text text (text_of key) || list_any (λ k. is_same_text text (text_of k)) keys)
keys-with [] key text = refl
keys-with (first ∷ keys) key text = go (string_cmp key first) refl (keys-with keys key text)
  where
    test : String Global → Bool
    test k = is_same_text text (text_of k)

    go : (o : Ordering) → string_cmp key first ≡ o → list_any test (insert_key string_cmp keys key) ≡ (test key || list_any test keys)
        → list_any test (match_ordering o (key ∷ first ∷ keys) (first ∷ keys) (first ∷ insert_key string_cmp keys key))
        ≡ (test key || (test first || list_any test keys))
    go Less e rest = refl
    go Equal e rest =
        let tied : bytes_eq (string_bytes key) (string_bytes first) ≡ true = sym (is_eq-slice_cmp (string_bytes key) (string_bytes first)) ∙ ap is_eq e in
        let same : string_bytes key ≡ string_bytes first = (bytes_eq-Decides (string_bytes key) (string_bytes first)).0 tied in
        or-once (test first) (list_any test keys)
        ∙ ap (λ bs. is_same_text text (chars bs) || (test first || list_any test keys)) (sym same)
    go Greater e rest = ap (λ b. test first || b) rest ∙ or-turned (test first) (test key) (list_any test keys)

pub seen-more : (old new : BTreeSet (String Global)) (key : String Global) → new.keys ≡ insert_key string_cmp old.keys key
    → (text : List ℕ) → seen_in new text ≡ seen_with (text_of key) (seen_in old) text
seen-more old new key is text =
    ap (list_any (λ k. is_same_text text (text_of k))) is ∙ keys-with old.keys key text
    ∙ ap (λ b. b || seen_in old text) (is_same_text-sym text (text_of key))
