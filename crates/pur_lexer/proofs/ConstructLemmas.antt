-- What a `<` begins, by the first row that applies.
use Rattle.std.proofs.Common.{◌≡◌, ◌≢◌, ℕ, ◌<◌, Bool, true, false, cond, List, [], ◌∷◌, ◌++◌, length, drop, map, nat_eq, Option, None, Some, codes, refl, sym, ap, subst, ◌∙◌, arith, ⊎_elim, encode_utf8_all, IsUtf8, lit<, true≢false, ◌≤◌, ◌⊎◌, inl, inr, slice_get}
use Rattle.std.specs.Prelude.{◌&&◌, ◌||◌}
use Rattle.std.specs.List.{list_all}
use Rattle.std.specs.Cmp.Lexicographic.{pointwise}
use Rattle.std.specs.Str.{chars}
use Rattle.std.proofs.lemmas.Bool.Decides.{nat_tests}
use Rattle.std.proofs.lemmas.Bool.{or_cases}
use Rattle.std.proofs.lemmas.Slice.Eq.{bytes_eq-Decides, slice_eq-Decides}
use Rattle.std.proofs.lemmas.Bool.Decides.{Decides-eqb}
use Rattle.std.specs.Char.{to_ascii_lowercase}
use Rattle.pur_attrlist.specs.Attributes.{is_same_text}
use Rattle.pur_laws.proofs.Truth.{true_together}
use Rattle.pur_lexer.proofs.TagLemmas.{not_behind, lowered-chars}
use Rattle.std.proofs.lemmas.Str.{chars-nil, encodes-chars, encodes-IsAscii}
use Rattle.pur_laws.proofs.Texts.{ascii_at, chars_ascii, is_ascii, same_chars}
use Rattle.pur_tokens.specs.Tokens.{PlainToken, text_token, start_token, end_token, empty_token, hidden_token, comment_token}
use Rattle.pur_lexer.specs.Places.{begins_with, begins_with_mark, is_character, run_to, rest_from}
use Rattle.pur_lexer.specs.Tags.{lowered, is_letter, ends_tag_name, TagEnd, tag_end}
use Rattle.pur_lexer.specs.Private.Cutting.{IsMark}
use Rattle.pur_lexer.specs.Constructs.{Construct, dropped, gives_one, closed_by, through_mark, end_tag_of, is_hiding, is_end_mark, hidden_of, tag_by_end, tag_of, tag_or_text, markup_of}
use Rattle.pur_lexer.proofs.CutLemmas.{begins_not}
use Rattle.pur_lexer.proofs.PlaceLemmas.{first_is_plain}

-- the rows of markup
pub markup-comment : (t : List ℕ) → markup_of (codes "!--" ++ t) ≡ through_mark (codes "-->") comment_token t
unfolding markup_of
markup-comment t = refl

pub markup-data : (t : List ℕ) → markup_of (codes "![CDATA[" ++ t) ≡ through_mark (codes "]]>") text_token t
unfolding markup_of
markup-data t = refl

abbrev markup_by : Bool → Bool → Bool → List ℕ → Construct
markup_by comments holds declares text =
    cond comments (through_mark (codes "-->") comment_token (drop 3 text))
    (cond holds (through_mark (codes "]]>") text_token (drop 8 text))
    (cond declares (through_mark (codes ">") comment_token (drop 1 text)) (tag_or_text text)))

markup_is : (t : List ℕ) → markup_of t ≡ markup_by (begins_with_mark (codes "!--") t) (begins_with_mark (codes "![CDATA[") t) (begins_with (is_character 0x21) t || begins_with (is_character 0x3F) t) t
unfolding markup_of
markup_is t = refl

pub markup-declaration : (t rest : List ℕ) → t ≡ 0x21 ∷ rest → begins_with_mark (codes "!--") t ≡ false → begins_with_mark (codes "![CDATA[") t ≡ false → markup_of t ≡ through_mark (codes ">") comment_token rest
markup-declaration t rest e no_comment no_data =
    let declares : (begins_with (is_character 0x21) t || begins_with (is_character 0x3F) t) ≡ true =
    ap (λ (l : List ℕ). begins_with (is_character 0x21) l || begins_with (is_character 0x3F) l) e in
    markup_is t ∙ (λ i. markup_by (no_comment i) (no_data i) (declares i) t) ∙ ap (λ (l : List ℕ). through_mark (codes ">") comment_token (drop 1 l)) e

pub markup-instruction : (t : List ℕ) → markup_of (0x3F ∷ t) ≡ through_mark (codes ">") comment_token t
unfolding markup_of
markup-instruction t = refl

pub markup-tag : (t : List ℕ) → begins_with_mark (codes "!--") t ≡ false → begins_with_mark (codes "![CDATA[") t ≡ false → begins_with (is_character 0x21) t ≡ false → begins_with (is_character 0x3F) t ≡ false → markup_of t ≡ tag_or_text t
markup-tag t no_comment no_data no_declaration no_instruction =
    markup_is t ∙ (λ i. markup_by (no_comment i) (no_data i) (no_declaration i || no_instruction i) t)

-- the rows of tags
abbrev tag_by : Bool → Bool → List ℕ → Construct
tag_by ends starts text =
    cond ends (through_mark (codes ">") end_tag_of (drop 1 text)) (cond starts (tag_of text) (gives_one (text_token (codes "<")) text))

tag_is : (t : List ℕ) → tag_or_text t ≡ tag_by (begins_with (is_character 0x2F) t && begins_with is_letter (drop 1 t)) (begins_with is_letter t) t
unfolding tag_or_text
tag_is t = refl

pub tag-end : (t rest : List ℕ) → t ≡ 0x2F ∷ rest → begins_with is_letter rest ≡ true → tag_or_text t ≡ through_mark (codes ">") end_tag_of rest
tag-end t rest e letter =
    let ends : (begins_with (is_character 0x2F) t && begins_with is_letter (drop 1 t)) ≡ true =
    ap (λ (l : List ℕ). begins_with (is_character 0x2F) l && begins_with is_letter (drop 1 l)) e ∙ letter in
    tag_is t ∙ (λ i. tag_by (ends i) (begins_with is_letter t) t) ∙ ap (λ (l : List ℕ). through_mark (codes ">") end_tag_of (drop 1 l)) e

pub tag-start : (t : List ℕ) → (begins_with (is_character 0x2F) t && begins_with is_letter (drop 1 t)) ≡ false → begins_with is_letter t ≡ true → tag_or_text t ≡ tag_of t
tag-start t no_end letter = tag_is t ∙ (λ i. tag_by (no_end i) (letter i) t)

pub tag-text : (t : List ℕ) → (begins_with (is_character 0x2F) t && begins_with is_letter (drop 1 t)) ≡ false → begins_with is_letter t ≡ false → tag_or_text t ≡ gives_one (text_token (codes "<")) t
tag-text t no_end none = tag_is t ∙ (λ i. tag_by (no_end i) (none i) t)

-- through a mark
rest_none : (test : List ℕ → Bool) (t : List ℕ) → test (rest_from test t) ≡ false → rest_from test t ≡ []
unfolding rest_from
rest_none test [] e = refl
rest_none test (c ∷ t) e = by (test (c ∷ t)) refl e (λ later. rest_none test t later)
  where
    by : (b : Bool) → test (c ∷ t) ≡ b → test (cond b (c ∷ t) (rest_from test t)) ≡ false → (test (rest_from test t) ≡ false → rest_from test t ≡ []) → cond b (c ∷ t) (rest_from test t) ≡ []
    by true here e later = absurd (true≢false (sym here ∙ e))
    by false here e later = later e

pub no_mark : (mark end t : List ℕ) → IsMark mark → IsUtf8 end → chars end ≡ rest_from (begins_with_mark mark) t → ((rest : List ℕ) → end ≢ mark ++ rest) → rest_from (begins_with_mark mark) t ≡ []
no_mark mark end t is is_end e none =
    rest_none (begins_with_mark mark) t (ap (begins_with_mark mark) (sym e) ∙ begins_not mark end is_end is.ascii none)

behind_mark : (mark r : List ℕ) (token : PlainToken) → 0 < length mark → closed_by mark token (mark ++ r) ≡ gives_one token (drop (length mark) (mark ++ r))
behind_mark [] r token some = absurd (omega arith)
behind_mark (c ∷ mark) r token some = refl

past : (mark r : List ℕ) → drop (length mark) (mark ++ r) ≡ r
past [] r = refl
past (c ∷ mark) r = past mark r

pub through-found : (mark : List ℕ) (token : List ℕ → PlainToken) (t content r : List ℕ) → 0 < length mark → content ≡ run_to (begins_with_mark mark) t
    → mark ++ r ≡ rest_from (begins_with_mark mark) t → gives_one (token content) r ≡ through_mark mark token t
unfolding through_mark
through-found mark token t content r some run rest =
    ap (gives_one (token content)) (sym (past mark r)) ∙ sym (behind_mark mark r (token content) some)
    ∙ (λ i. closed_by mark (token (run i)) (rest i))

pub through-missed : (mark : List ℕ) (token : List ℕ → PlainToken) (t : List ℕ) → rest_from (begins_with_mark mark) t ≡ [] → dropped ≡ through_mark mark token t
unfolding through_mark
through-missed mark token t none = sym (ap (closed_by mark (token (run_to (begins_with_mark mark) t))) none)

-- nothing is left
pub nothing_left : (t : List ℕ) → t ≡ [] → record { gives = []; rest = chars t } ≡ dropped
nothing_left t e = ap (λ (l : List ℕ). record { gives = []; rest = l }) (ap chars e ∙ chars-nil)

-- letters in bytes and in characters
no_letter : (c : ℕ) → 128 ≤ c → is_letter c ≡ false
no_letter c high = grind (arith, nat_tests)

pub letter_in : (text : List ℕ) → IsUtf8 text → begins_with is_letter text ≡ begins_with is_letter (chars text)
letter_in text is =
    let plain = first_is_plain is_letter false no_letter in
    ap (begins_with is_letter) (sym (encodes-chars text is)) ∙ plain.same (chars text)

-- the names of hidden content
same_bytes : (name mark : List ℕ) (r : Bool) → IsUtf8 name → list_all is_ascii mark ≡ true → r ≡ pointwise nat_eq name mark → is_same_text (chars name) mark ≡ r
same_bytes name mark r is ascii e =
    let decides = slice_eq-Decides Decides-eqb name mark r e in
    true_together (is_same_text (chars name) mark) r
    (λ same. decides.1 (sym (encodes-chars name is) ∙ ap encode_utf8_all ((bytes_eq-Decides (chars name) mark).0 same) ∙ encodes-IsAscii mark (ascii_at mark ascii)))
    (λ here. (bytes_eq-Decides (chars name) mark).1 (ap chars (decides.0 here) ∙ chars_ascii mark ascii))

pub hiding_first : (name : List ℕ) (r : Bool) → IsUtf8 name → r ≡ pointwise nat_eq name (codes "script") → r ≡ true → r ≡ is_hiding (chars name)
hiding_first name r is e here =
    let same = same_bytes name (codes "script") r is refl e in
    here ∙ sym (ap (λ (b : Bool). b || is_same_text (chars name) (codes "style")) (same ∙ here))

pub hiding_second : (name : List ℕ) (r s : Bool) → IsUtf8 name → r ≡ pointwise nat_eq name (codes "script") → r ≡ false → s ≡ pointwise nat_eq name (codes "style") → s ≡ is_hiding (chars name)
hiding_second name r s is e other f =
    let first = same_bytes name (codes "script") r is refl e in
    let second = same_bytes name (codes "style") s is refl f in
    sym second ∙ sym (ap (λ (b : Bool). b || is_same_text (chars name) (codes "style")) (first ∙ other))

hiding_is : (cs : List ℕ) → is_hiding cs ≡ true → (cs ≡ codes "script") ⊎ (cs ≡ codes "style")
hiding_is cs e = ⊎_elim
    (λ (a : is_same_text cs (codes "script") ≡ true). inl ((bytes_eq-Decides cs (codes "script")).0 a))
    (λ (b : is_same_text cs (codes "style") ≡ true). inr ((bytes_eq-Decides cs (codes "style")).0 b))
    (or_cases _ _ e)

hiding_ascii : (cs : List ℕ) → is_hiding cs ≡ true → IsMark cs
hiding_ascii cs e = ⊎_elim
    (λ (a : cs ≡ codes "script"). subst IsMark (sym a) (record { some = lit< tt; ascii = refl }))
    (λ (b : cs ≡ codes "style"). subst IsMark (sym b) (record { some = lit< tt; ascii = refl }))
    (hiding_is cs e)

pub hiding_same : (bytes : List ℕ) → IsUtf8 bytes → is_hiding (chars bytes) ≡ true → chars bytes ≡ bytes
hiding_same bytes is e = let mark = hiding_ascii (chars bytes) e in same_chars bytes is mark.ascii

pub hiding_mark : (bytes : List ℕ) → IsUtf8 bytes → is_hiding (chars bytes) ≡ true → IsMark bytes
hiding_mark bytes is e = subst IsMark (hiding_same bytes is e) (hiding_ascii (chars bytes) e)

-- hidden content
pub hidden-read : (name told t body end close rest : List ℕ) → told ≡ name → body ≡ run_to (is_end_mark told) t → end ≡ rest_from (is_end_mark told) t
    → close ≡ rest_from (begins_with (is_character 0x3E)) end → rest ≡ drop 1 close → gives_one (hidden_token name body) rest ≡ hidden_of name t
unfolding hidden_of
hidden-read name told t body end close rest same run from closes behind =
    let body_is : body ≡ run_to (is_end_mark name) t = run ∙ ap (λ (n : List ℕ). run_to (is_end_mark n) t) same in
    let end_is : end ≡ rest_from (is_end_mark name) t = from ∙ ap (λ (n : List ℕ). rest_from (is_end_mark n) t) same in
    let rest_is : rest ≡ drop 1 (rest_from (begins_with (is_character 0x3E)) (rest_from (is_end_mark name) t)) =
    behind ∙ ap (drop 1) (closes ∙ ap (rest_from (begins_with (is_character 0x3E))) end_is) in
    λ i. gives_one (hidden_token name (body_is i)) (rest_is i)

-- a tag by its name and its end
pub tag-found : (bytes t name behind : List ℕ) (found : Option TagEnd) → IsUtf8 bytes → chars bytes ≡ run_to (begins_with ends_tag_name) t → behind ≡ rest_from (begins_with ends_tag_name) t
    → name ≡ chars (map to_ascii_lowercase bytes) → found ≡ tag_end behind → tag_by_end name found ≡ tag_of t
unfolding tag_of
tag-found bytes t name behind found is run rest lower end =
    let name_is : name ≡ lowered (run_to (begins_with ends_tag_name) t) = lower ∙ lowered-chars bytes is ∙ ap lowered run in
    let found_is : found ≡ tag_end (rest_from (begins_with ends_tag_name) t) = end ∙ ap tag_end rest in
    λ i. tag_by_end (name_is i) (found_is i)

pub by-empty : (name : List ℕ) (tag : TagEnd) → tag.is_empty ≡ true → gives_one (empty_token name tag.attrs) tag.rest ≡ tag_by_end name (Some tag)
by-empty name tag e = rw e refl

pub by-hiding : (name : List ℕ) (tag : TagEnd) → tag.is_empty ≡ false → is_hiding name ≡ true → hidden_of name tag.rest ≡ tag_by_end name (Some tag)
by-hiding name tag e f = both tag.is_empty (is_hiding name) e f
  where
    both : (a b : Bool) → a ≡ false → b ≡ true → hidden_of name tag.rest ≡ cond a (gives_one (empty_token name tag.attrs) tag.rest) (cond b (hidden_of name tag.rest) (gives_one (start_token name tag.attrs) tag.rest))
    both a b e f = rw (e, f) refl

pub by-start : (name : List ℕ) (tag : TagEnd) → tag.is_empty ≡ false → is_hiding name ≡ false → gives_one (start_token name tag.attrs) tag.rest ≡ tag_by_end name (Some tag)
by-start name tag e f = both tag.is_empty (is_hiding name) e f
  where
    both : (a b : Bool) → a ≡ false → b ≡ false → gives_one (start_token name tag.attrs) tag.rest ≡ cond a (gives_one (empty_token name tag.attrs) tag.rest) (cond b (hidden_of name tag.rest) (gives_one (start_token name tag.attrs) tag.rest))
    both a b e f = rw (e, f) refl

-- the first byte
pub some_letter : (text : List ℕ) (b : ℕ) (r : Bool) → IsUtf8 text → Some b ≡ slice_get text 0 → r ≡ is_letter b → r ≡ begins_with is_letter (chars text)
some_letter [] b r is e f = cc
some_letter (c ∷ text) b r is e f =
    let same : b ≡ c = cc in
    f ∙ ap is_letter same ∙ letter_in (c ∷ text) is

pub no_letters : (text : List ℕ) → IsUtf8 text → None ≡ slice_get text 0 → false ≡ begins_with is_letter (chars text)
no_letters [] is e = letter_in [] is
no_letters (c ∷ text) is e = cc

pub no_slash : (text : List ℕ) (b : Bool) → IsUtf8 text → ((rest : List ℕ) → text ≢ 0x2F ∷ rest) → (begins_with (is_character 0x2F) (chars text) && b) ≡ false
no_slash text b is none = ap (λ (x : Bool). x && b) (not_behind text 0x2F is (lit< tt) none)

pub slash_no_letter : (t rest : List ℕ) → t ≡ 0x2F ∷ rest → begins_with is_letter rest ≡ false → (begins_with (is_character 0x2F) t && begins_with is_letter (drop 1 t)) ≡ false
slash_no_letter t rest e none = ap (λ (l : List ℕ). begins_with (is_character 0x2F) l && begins_with is_letter (drop 1 l)) e ∙ none

pub end_read : (content bytes name : List ℕ) → IsUtf8 bytes → chars bytes ≡ run_to (begins_with ends_tag_name) content → name ≡ chars (map to_ascii_lowercase bytes) → end_token name ≡ end_tag_of content
end_read content bytes name is run lower = ap end_token (lower ∙ lowered-chars bytes is ∙ ap lowered run)
