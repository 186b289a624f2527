-- Where bytes may be cut.
use Rattle.std.proofs.Common.{◌≡◌, ◌≢◌, ◌⊎◌, ℕ, zero, suc, ◌+◌, ◌-◌, ◌<◌, ◌≤◌, true, false, List, [], ◌∷◌, ◌++◌, length, take, drop, slice_index, Some, None, refl, sym, ap, subst, ◌∙◌, arith, inl, ⊎_elim, append_assoc, append-nil, length-append, length-drop, take-append-drop, get_or-drop}
use Rattle.std.specs.Prelude.{Option}
use Rattle.std.specs.Char.{encode_utf8}
use Rattle.std.proofs.lemmas.List.{get_or_append_left, get_or-take, length-take, drop-append-le, get_or-append-add}
use Rattle.std.proofs.lemmas.Bool.{cases_lt}
use Rattle.std.proofs.lemmas.Str.{length-encode, len_utf8_bounds}
use Rattle.bstr.specs.Utf8.{Decoded, decoded, decoded_by, continues, good, pieces}
use Rattle.bstr.proofs.lemmas.EncodeLemmas.{decoded-encode}
use Rattle.bstr.proofs.lemmas.SoundLemmas.{SpellsChar-decoded}
use Rattle.bstr.proofs.lemmas.PieceLemmas.{piece-bounds, pieces-nil, pieces-step, pieces-append, StartsClean, decoded_by-cut}
use Rattle.pur_text.specs.Cleaning.{character_list, chars_of, chars_behind}
use Rattle.pur_text.specs.Private.Feeding.{IsTail}
use Rattle.pur_text.proofs.CleaningLemmas.{chars_of-bad, chars_of-continues, encoded_front}

-- the characters of pieces
said : List Decoded → List ℕ
said [] = []
said (p ∷ ps) = character_list p.char ++ said ps

said-append : (ps qs : List Decoded) → said (ps ++ qs) ≡ said ps ++ said qs
unfolding said
said-append [] qs = refl
said-append (p ∷ ps) qs =
    ap (λ t. character_list p.char ++ t) (said-append ps qs) ∙ sym (append_assoc (character_list p.char) (said ps) (said qs))

-- the character of the first piece, and those behind it
chars_of-step : (bytes : List ℕ) (o : Option ℕ) → 0 < length bytes → (decoded bytes).char ≡ o
    → chars_of bytes ≡ character_list o ++ chars_of (drop (decoded bytes).size bytes)
chars_of-step bytes None some is = chars_of-bad bytes some is
chars_of-step bytes (Some c) some is =
    let spelt = SpellsChar-decoded bytes c is in
    let size = (decoded bytes).size in
    let first = encode_utf8 c in
    let rest = drop size bytes in
    let read : decoded (first ++ rest) ≡ good c (length first) = decoded-encode c rest spelt.scalar in
    ap chars_of spelt.bytes ∙ encoded_front first rest c (omega (arith, length-encode c, len_utf8_bounds c)) read

-- the characters of bytes are those of their pieces
chars_of-pieces : (f : ℕ) (bytes : List ℕ) → length bytes ≤ f → chars_of bytes ≡ said (pieces bytes)
unfolding said chars_behind
chars_of-pieces f [] le = ap said (sym pieces-nil)
chars_of-pieces zero (b ∷ bytes) le = absurd (omega arith)
chars_of-pieces (suc f) (b ∷ bytes) le =
    let l = b ∷ bytes in
    let size = (decoded l).size in
    let bounds = piece-bounds l (omega arith) in
    let rest = chars_of-pieces f (drop size l) (omega (arith, length-drop size l)) in
    chars_of-step l (decoded l).char (omega arith) refl ∙ ap (λ t. character_list (decoded l).char ++ t) rest
    ∙ ap said (sym (pieces-step l (omega arith)))

-- bytes break where a byte stands that continues nothing
pub parted : (front back : List ℕ) → StartsClean back → chars_of (front ++ back) ≡ chars_of front ++ chars_of back
parted front back clean =
    chars_of-pieces (length (front ++ back)) (front ++ back) (omega arith)
    ∙ ap said (pieces-append (length front) front back (omega arith) clean)
    ∙ said-append (pieces front) (pieces back)
    ∙ ap (λ t. t ++ said (pieces back)) (sym (chars_of-pieces (length front) front (omega arith)))
    ∙ ap (λ t. chars_of front ++ t) (sym (chars_of-pieces (length back) back (omega arith)))

-- bytes that only continue are none
pub all_skipped : (bytes more : List ℕ) → ((i : ℕ) → i < length bytes → continues (slice_index bytes i) ≡ true) → chars_of (bytes ++ more) ≡ chars_of more
all_skipped [] more all = refl
all_skipped (b ∷ bytes) more all =
    chars_of-continues b (bytes ++ more) (all 0 (omega arith)) ∙ all_skipped bytes more (λ i lt. all (suc i) (omega arith))

-- what stands behind a place that isn't the first of a tail
tail_behind : (q : List ℕ) (n : ℕ) → IsTail q → 0 < n → (i : ℕ) → i < length (drop n q) → continues (slice_index (drop n q) i) ≡ true
tail_behind q n tail some i lt =
    subst (λ b. continues b ≡ true) (sym (get_or-drop n q i 0)) (tail (n + i) (omega arith) (omega (arith, length-drop n q)))

-- what is read of a front is read of the whole, where it doesn't reach behind the front
read_of_front : (q more : List ℕ) → 0 < length q → (decoded (q ++ more)).size ≤ length q → decoded q ≡ decoded (q ++ more)
read_of_front q more some fits =
    let l = q ++ more in
    let at : (k : ℕ) → k < length q → slice_index q k ≡ slice_index l k = λ k lt. sym (get_or_append_left q more 0 k lt) in
    ap (λ b. decoded_by (length q) b (slice_index q 1) (slice_index q 2) (slice_index q 3)) (at 0 some)
    ∙ decoded_by-cut (length q) (length l) (slice_index l 0) (slice_index l 1) (slice_index l 2) (slice_index l 3)
    (slice_index q 1) (slice_index q 2) (slice_index q 3) fits (omega (arith, length-append q more)) some (at 1) (at 2) (at 3)

-- a tail with a character, or of four bytes, ends what was read
pub tail_whole : (q more : List ℕ) → IsTail q → ((4 ≤ length q) ⊎ (chars_of q ≢ [])) → chars_of (q ++ more) ≡ chars_of q ++ chars_of more
unfolding chars_behind
tail_whole [] more tail end = refl
tail_whole (b ∷ conts) more tail end =
    let q = b ∷ conts in
    let size = (decoded q).size in
    let bounds = piece-bounds q (omega arith) in
    let rest = drop size q in
    let skipped : (m : List ℕ) → chars_of (rest ++ m) ≡ chars_of m = λ m. all_skipped rest m (tail_behind q size tail (omega arith)) in
    let none : chars_of rest ≡ [] = ap chars_of (sym (append-nil rest)) ∙ skipped [] in
    by_char q more (decoded q).char refl (omega arith) end skipped none
  where
    by_char : (q more : List ℕ) (o : Option ℕ) → (decoded q).char ≡ o → 0 < length q → ((4 ≤ length q) ⊎ (chars_of q ≢ []))
        → ((m : List ℕ) → chars_of (drop (decoded q).size q ++ m) ≡ chars_of m) → chars_of (drop (decoded q).size q) ≡ []
        → chars_of (q ++ more) ≡ chars_of q ++ chars_of more
    by_char q more (Some c) is some end skipped none =
        let spelt = SpellsChar-decoded q c is in
        let first = encode_utf8 c in
        let rest = drop (decoded q).size q in
        let one : chars_of q ≡ c ∷ [] = chars_of-step q (Some c) some is ∙ ap (λ t. c ∷ t) none in
        let read = decoded-encode c (rest ++ more) spelt.scalar in
        ap (λ t. chars_of (t ++ more)) spelt.bytes ∙ ap chars_of (append_assoc first rest more)
        ∙ encoded_front first (rest ++ more) c (omega (arith, length-encode c, len_utf8_bounds c)) read
        ∙ ap (λ t. c ∷ t) (skipped more) ∙ ap (λ t. t ++ chars_of more) (sym one)
    by_char q more None is some end skipped none =
        let nothing : chars_of q ≡ [] = chars_of-step q None some is ∙ none in
        let long : 4 ≤ length q = ⊎_elim (λ l. l) (λ no. absurd (no nothing)) end in
        let most : (decoded (q ++ more)).size ≤ 4 = (piece-bounds (q ++ more) (omega (arith, length-append q more))).1 in
        let same = read_of_front q more some (omega (arith, most, long)) in
        let size : (decoded q).size ≤ length q = (piece-bounds q some).2 in
        chars_of-step (q ++ more) None (omega (arith, length-append q more)) (ap (λ (d : Decoded). d.char) (sym same) ∙ is)
        ∙ ap (λ (d : Decoded). chars_of (drop d.size (q ++ more))) (sym same)
        ∙ ap chars_of (drop-append-le (decoded q).size q more size) ∙ skipped more ∙ ap (λ t. t ++ chars_of more) (sym nothing)

-- ---- the pieces of a cleaner

-- what stands behind the last byte that may begin a character
pub last_is_tail : (piece : List ℕ) (n : ℕ) → ((i : ℕ) → n < i → i < length piece → continues (slice_index piece i) ≡ true) → IsTail (drop n piece)
last_is_tail piece n all i some lt =
    subst (λ b. continues b ≡ true) (sym (get_or-drop n piece i 0)) (all (n + i) (omega arith) (omega (arith, length-drop n piece)))

-- a piece is cut where a character may begin
pub piece_apart : (piece more : List ℕ) (n : ℕ) → n ≤ length piece → (0 < n → (n < length piece) × (continues (slice_index piece n) ≡ false))
    → chars_of (piece ++ more) ≡ chars_of (take n piece) ++ chars_of (drop n piece ++ more)
unfolding chars_behind
piece_apart [] more zero within clean = refl
piece_apart (b ∷ piece) more zero within clean = refl
piece_apart piece more (suc n) within clean =
    let here = clean (omega arith) in
    let front = take (suc n) piece in
    let back = drop (suc n) piece in
    let some : 0 < length back = omega (arith, here.0, length-drop (suc n) piece) in
    let same : suc n + 0 ≡ suc n = omega arith in
    let first : slice_index (back ++ more) 0 ≡ slice_index piece (suc n) =
    get_or_append_left back more 0 0 some ∙ get_or-drop (suc n) piece 0 0 ∙ ap (slice_index piece) same in
    ap (λ t. chars_of (t ++ more)) (sym (take-append-drop (suc n) piece)) ∙ ap chars_of (append_assoc front back more)
    ∙ parted front (back ++ more) (λ any. ap continues first ∙ here.1)

-- what was held, and the bytes of a piece that only continue
front_continues : (piece : List ℕ) (n : ℕ) → ((i : ℕ) → i < n → continues (slice_index piece i) ≡ true)
    → (i : ℕ) → i < length (take n piece) → continues (slice_index (take n piece) i) ≡ true
front_continues piece n all i lt =
    let within : i < n = omega (arith, length-take n piece, lt) in
    subst (λ b. continues b ≡ true) (sym (get_or-take n piece i 0 within)) (all i within)

pub joint_is_tail : (held piece : List ℕ) (n : ℕ) → 0 < length held → IsTail held → ((i : ℕ) → i < n → continues (slice_index piece i) ≡ true)
    → IsTail (held ++ take n piece)
joint_is_tail held piece n some tail all i pos lt =
    let front = take n piece in
    ⊎_elim
    (λ (inside : i < length held). subst (λ b. continues b ≡ true) (sym (get_or_append_left held front 0 i inside)) (tail i pos inside))
    (λ (behind : length held ≤ i).
    let at : length held + (i - length held) ≡ i = omega arith in
    let byte : slice_index (held ++ front) i ≡ slice_index front (i - length held) =
    ap (slice_index (held ++ front)) (sym at) ∙ get_or-append-add held front (i - length held) 0 in
    subst (λ b. continues b ≡ true) (sym byte) (front_continues piece n all (i - length held) (omega (arith, length-append held front))))
    (cases_lt i (length held))

-- are read apart from what stands behind these
pub held_apart : (held piece more : List ℕ) (n : ℕ) → 0 < length held → IsTail held → n ≤ length piece
    → ((i : ℕ) → i < n → continues (slice_index piece i) ≡ true) → (n < 3 → n < length piece → continues (slice_index piece n) ≡ false)
    → ((0 < length (drop n piece)) ⊎ ((4 ≤ length (held ++ take n piece)) ⊎ (chars_of (held ++ take n piece) ≢ [])))
    → chars_of (held ++ (piece ++ more)) ≡ chars_of (held ++ take n piece) ++ chars_of (drop n piece ++ more)
held_apart held piece more n some tail within all clean end =
    let front = take n piece in
    let rest = drop n piece in
    let joint = held ++ front in
    let whole = joint_is_tail held piece n some tail all in
    let same : held ++ (piece ++ more) ≡ joint ++ (rest ++ more) =
    ap (λ t. held ++ (t ++ more)) (sym (take-append-drop n piece)) ∙ ap (λ t. held ++ t) (append_assoc front rest more)
    ∙ sym (append_assoc held front (rest ++ more)) in
    ap chars_of same ∙ ⊎_elim
    (λ (goes_on : 0 < length rest). ⊎_elim
    (λ (few : n < 3).
    let at : n + 0 ≡ n = omega arith in
    let first : slice_index (rest ++ more) 0 ≡ slice_index piece n =
    get_or_append_left rest more 0 0 goes_on ∙ get_or-drop n piece 0 0 ∙ ap (slice_index piece) at in
    parted joint (rest ++ more) (λ any. ap continues first ∙ clean few (omega (arith, goes_on, length-drop n piece))))
    (λ (many : 3 ≤ n). tail_whole joint (rest ++ more) whole (inl (omega (arith, length-append held front, length-take n piece))))
    (cases_lt n 3))
    (λ ended. tail_whole joint (rest ++ more) whole ended)
    end
