-- Runs and references of a text that is written with references.
use Rattle.std.proofs.Common.{◌≡◌, ℕ, Bool, true, false, List, [], ◌∷◌, ◌++◌, refl, sym, ap, subst, ◌∙◌, codes, append_assoc, append-nil, encode_utf8, String, string_bytes}
use Rattle.std.specs.Prelude.{◌==◌, ◌||◌}
use Rattle.std.proofs.lemmas.List.Folds.{list_any-append}
use Rattle.pur_tree.specs.Spelling.{escape_in_value, escaped_value}
use Rattle.std.specs.declared.alloc.Global.{Global}
use Rattle.std.specs.List.{list_all, list_any}
use Rattle.std.specs.Str.{chars}
use lib.Utf8.{scalar}
use Rattle.std.proofs.lemmas.Bool.{and_parts, and_from, eqb-true, both_ways}
use Rattle.std.proofs.lemmas.Grind.{flat_map-append}
use Rattle.std.proofs.lemmas.List.{append_cancel_left}
use Rattle.std.proofs.lemmas.Str.{chars-append, IsUtf8-string_bytes}
use Rattle.pur_laws.proofs.Lists.{all-append}
use Rattle.pur_laws.proofs.Tests.{same_number}
use Rattle.pur_laws.proofs.Texts.{chars_push}
use Rattle.pur_text.specs.Characters.{is_allowed}
use Rattle.pur_text.specs.Texts.{text_of}
use Rattle.pur_attrlist.proofs.AttributeLaws.{both_false}
use Rattle.pur_tree.proofs.CutLemmas.{head_same, tail_same}
use Rattle.pur_reader.specs.Private.Escaping.{escape_where, written_where, is_plain, IsWritten}

-- a character is written as itself, or as a reference
data Form (b : Bool) (c : ℕ) : Type 0 where
  plain : escape_where b c ≡ c ∷ [] → (is_allowed c ≡ true → is_plain b c ≡ true) → Form b c
  amp : is_plain b c ≡ false → escape_where b c ≡ codes "&amp;" → Form b c
  lt : is_plain b c ≡ false → escape_where b c ≡ codes "&lt;" → Form b c
  gt : is_plain b c ≡ false → escape_where b c ≡ codes "&gt;" → Form b c
  quot : b ≡ true → is_plain b c ≡ false → escape_where b c ≡ codes "&quot;" → Form b c

form : (b : Bool) (c : ℕ) → Form b c
form false c = go (c == 38) refl (c == 60) refl (c == 62) refl
  where
    go : (a : Bool) → (c == 38) ≡ a → (l : Bool) → (c == 60) ≡ l → (g : Bool) → (c == 62) ≡ g → Form false c
    go true p l q g r = amp (ap (is_plain false) (eqb-true c 38 p)) (rw p refl)
    go false p true q g r = lt (ap (is_plain false) (eqb-true c 60 q)) (rw (p, q) refl)
    go false p false q true r = gt (ap (is_plain false) (eqb-true c 62 r)) (rw (p, q, r) refl)
    go false p false q false r = plain (rw (p, q, r) refl) (λ is. and_from _ _ is (rw (p, q, r) refl))
form true c = go (c == 34) refl (c == 38) refl (c == 60) refl (c == 62) refl
  where
    go : (o : Bool) → (c == 34) ≡ o → (a : Bool) → (c == 38) ≡ a → (l : Bool) → (c == 60) ≡ l → (g : Bool) → (c == 62) ≡ g → Form true c
    go true o a p l q g r = quot refl (ap (is_plain true) (eqb-true c 34 o)) (rw o refl)
    go false o true p l q g r = amp (ap (is_plain true) (eqb-true c 38 p)) (rw (o, p) refl)
    go false o false p true q g r = lt (ap (is_plain true) (eqb-true c 60 q)) (rw (o, p, q) refl)
    go false o false p false q true r = gt (ap (is_plain true) (eqb-true c 62 r)) (rw (o, p, q, r) refl)
    go false o false p false q false r = plain (rw (o, p, q, r) refl) (λ is. and_from _ _ is (rw (o, p, q, r) refl))

-- what begins with `&` begins with no other character
no_mark : {A : Type 0} (c : ℕ) (x y : List ℕ) → (c == 38) ≡ false → 38 ∷ x ≡ c ∷ y → A
no_mark c x y other e = absurd (both_ways (c == 38) other (rw (sym (head_same 38 c x y e)) refl))

apart : {A : Type 0} (c d : ℕ) (x y : List ℕ) → (c == d) ≡ false → c ∷ x ≡ d ∷ y → A
apart c d x y other e = absurd (both_ways (c == d) other (rw (head_same c d x y e) (same_number d)))

-- a run without `&` is written as itself
pub written_run : (b : Bool) (run behind : List ℕ) → list_any (λ d. d == 38) run ≡ false → IsWritten b (run ++ behind) → (list_all (is_plain b) run ≡ true) × IsWritten b behind
written_run b [] behind none w = (refl, w)
written_run b (c ∷ run) behind none w =
    let other = both_false (c == 38) (list_any (λ d. d == 38) run) none in
    go other.0 (written_run b run behind other.1) w.text w.allowed w.is
  where
    go : (c == 38) ≡ false → (IsWritten b (run ++ behind) → (list_all (is_plain b) run ≡ true) × IsWritten b behind)
        → (s : List ℕ) → list_all is_allowed s ≡ true → written_where b s ≡ c ∷ (run ++ behind) → (list_all (is_plain b) (c ∷ run) ≡ true) × IsWritten b behind
    go other again [] all e = absurd (cc)
    go other again (d ∷ s) all e = by (form b d)
      where
        both : (is_allowed d ≡ true) × (list_all is_allowed s ≡ true)
        both = and_parts (is_allowed d) (list_all is_allowed s) all

        by : Form b d → (list_all (is_plain b) (c ∷ run) ≡ true) × IsWritten b behind
        by (plain is passes) =
            let f : d ∷ written_where b s ≡ c ∷ (run ++ behind) = ap (λ t. t ++ written_where b s) (sym is) ∙ e in
            let more = again (record { text = s; allowed = both.1; is = tail_same d c _ _ f }) in
            (and_from _ _ (subst (λ x. is_plain b x ≡ true) (head_same d c _ _ f) (passes both.0)) more.0, more.1)
        by (amp fails is) = no_mark c _ _ other (ap (λ t. t ++ written_where b s) (sym is) ∙ e)
        by (lt fails is) = no_mark c _ _ other (ap (λ t. t ++ written_where b s) (sym is) ∙ e)
        by (gt fails is) = no_mark c _ _ other (ap (λ t. t ++ written_where b s) (sym is) ∙ e)
        by (quot v fails is) = no_mark c _ _ other (ap (λ t. t ++ written_where b s) (sym is) ∙ e)

-- what stands behind a `&`: one of the references, and what is written behind it
pub data Reference (b : Bool) (x : List ℕ) : Type 0 where
  amp : (rest : List ℕ) → IsWritten b rest → codes "amp;" ++ rest ≡ x → Reference b x
  lt : (rest : List ℕ) → IsWritten b rest → codes "lt;" ++ rest ≡ x → Reference b x
  gt : (rest : List ℕ) → IsWritten b rest → codes "gt;" ++ rest ≡ x → Reference b x
  quot : b ≡ true → (rest : List ℕ) → IsWritten b rest → codes "quot;" ++ rest ≡ x → Reference b x

pub reference : (b : Bool) (x : List ℕ) → IsWritten b (38 ∷ x) → Reference b x
reference b x w = go w.text w.allowed w.is
  where
    go : (s : List ℕ) → list_all is_allowed s ≡ true → written_where b s ≡ 38 ∷ x → Reference b x
    go [] all e = absurd (cc)
    go (d ∷ s) all e = by (form b d)
      where
        both : (is_allowed d ≡ true) × (list_all is_allowed s ≡ true)
        both = and_parts (is_allowed d) (list_all is_allowed s) all

        rest : IsWritten b (written_where b s)
        rest = record { text = s; allowed = both.1; is = refl }

        by : Form b d → Reference b x
        by (plain is passes) =
            let f : d ∷ written_where b s ≡ 38 ∷ x = ap (λ t. t ++ written_where b s) (sym is) ∙ e in
            let same : d ≡ 38 = head_same d 38 _ _ f in
            let impossible : is_plain b 38 ≡ true = subst (λ k. is_plain b k ≡ true) same (passes both.0) in
            absurd (cc)
        by (amp fails is) = amp (written_where b s) rest (tail_same 38 38 _ _ (ap (λ t. t ++ written_where b s) (sym is) ∙ e))
        by (lt fails is) = lt (written_where b s) rest (tail_same 38 38 _ _ (ap (λ t. t ++ written_where b s) (sym is) ∙ e))
        by (gt fails is) = gt (written_where b s) rest (tail_same 38 38 _ _ (ap (λ t. t ++ written_where b s) (sym is) ∙ e))
        by (quot v fails is) = quot v (written_where b s) rest (tail_same 38 38 _ _ (ap (λ t. t ++ written_where b s) (sym is) ∙ e))

-- behind a reference of each kind
same_rest : (b : Bool) (mark one two : List ℕ) → mark ++ one ≡ mark ++ two → IsWritten b one → IsWritten b two
same_rest b mark one two e w = subst (IsWritten b) (append_cancel_left mark one two e) w

pub behind_amp : (b : Bool) (x rest : List ℕ) → x ≡ codes "amp;" ++ rest → Reference b x → IsWritten b rest
behind_amp b x rest e (amp r w f) = same_rest b (codes "amp;") r rest (f ∙ e) w
behind_amp b x rest e (lt r w f) = apart 108 97 _ _ refl (f ∙ e)
behind_amp b x rest e (gt r w f) = apart 103 97 _ _ refl (f ∙ e)
behind_amp b x rest e (quot v r w f) = apart 113 97 _ _ refl (f ∙ e)

pub behind_lt : (b : Bool) (x rest : List ℕ) → x ≡ codes "lt;" ++ rest → Reference b x → IsWritten b rest
behind_lt b x rest e (amp r w f) = apart 97 108 _ _ refl (f ∙ e)
behind_lt b x rest e (lt r w f) = same_rest b (codes "lt;") r rest (f ∙ e) w
behind_lt b x rest e (gt r w f) = apart 103 108 _ _ refl (f ∙ e)
behind_lt b x rest e (quot v r w f) = apart 113 108 _ _ refl (f ∙ e)

pub behind_gt : (b : Bool) (x rest : List ℕ) → x ≡ codes "gt;" ++ rest → Reference b x → IsWritten b rest
behind_gt b x rest e (amp r w f) = apart 97 103 _ _ refl (f ∙ e)
behind_gt b x rest e (lt r w f) = apart 108 103 _ _ refl (f ∙ e)
behind_gt b x rest e (gt r w f) = same_rest b (codes "gt;") r rest (f ∙ e) w
behind_gt b x rest e (quot v r w f) = apart 113 103 _ _ refl (f ∙ e)

pub behind_quot : (b : Bool) (x rest : List ℕ) → x ≡ codes "quot;" ++ rest → Reference b x → IsWritten b rest
behind_quot b x rest e (amp r w f) = apart 97 113 _ _ refl (f ∙ e)
behind_quot b x rest e (lt r w f) = apart 108 113 _ _ refl (f ∙ e)
behind_quot b x rest e (gt r w f) = apart 103 113 _ _ refl (f ∙ e)
behind_quot b x rest e (quot v r w f) = same_rest b (codes "quot;") r rest (f ∙ e) w

-- none of them
pub no_reference : (b : Bool) (x : List ℕ) → ((r : List ℕ) → x ≡ codes "amp;" ++ r → ⊥) → ((r : List ℕ) → x ≡ codes "lt;" ++ r → ⊥) → ((r : List ℕ) → x ≡ codes "gt;" ++ r → ⊥)
    → (b ≡ true → (r : List ℕ) → x ≡ codes "quot;" ++ r → ⊥) → Reference b x → ⊥
no_reference b x a l g q (amp r w f) = a r (sym f)
no_reference b x a l g q (lt r w f) = l r (sym f)
no_reference b x a l g q (gt r w f) = g r (sym f)
no_reference b x a l g q (quot v r w f) = q v r (sym f)

-- ---- what was read

-- plain characters are written as themselves
plain_one : (b : Bool) (c : ℕ) → is_plain b c ≡ true → escape_where b c ≡ c ∷ []
plain_one b c passes = by (form b c)
  where
    by : Form b c → escape_where b c ≡ c ∷ []
    by (plain is p) = is
    by (amp fails is) = absurd (both_ways (is_plain b c) fails passes)
    by (lt fails is) = absurd (both_ways (is_plain b c) fails passes)
    by (gt fails is) = absurd (both_ways (is_plain b c) fails passes)
    by (quot v fails is) = absurd (both_ways (is_plain b c) fails passes)

pub written_plain : (b : Bool) (run : List ℕ) → list_all (is_plain b) run ≡ true → written_where b run ≡ run
written_plain b [] all = refl
written_plain b (c ∷ run) all =
    let both = and_parts (is_plain b c) (list_all (is_plain b) run) all in
    ap (λ t. t ++ written_where b run) (plain_one b c both.0) ∙ ap (λ t. c ∷ t) (written_plain b run both.1)

pub plain_allowed : (b : Bool) (run : List ℕ) → list_all (is_plain b) run ≡ true → list_all is_allowed run ≡ true
plain_allowed b [] all = refl
plain_allowed b (c ∷ run) all =
    let both = and_parts (is_plain b c) (list_all (is_plain b) run) all in
    and_from _ _ (and_parts (is_allowed c) _ both.0).0 (plain_allowed b run both.1)

-- one run more
pub run_more : (b : Bool) (read run rest more all : List ℕ) → written_where b read ++ rest ≡ all → rest ≡ run ++ more → list_all (is_plain b) run ≡ true
    → written_where b (read ++ run) ++ more ≡ all
run_more b read run rest more all e f passes =
    ap (λ t. t ++ more) (flat_map-append (escape_where b) read run ∙ ap (λ t. written_where b read ++ t) (written_plain b run passes))
    ∙ append_assoc (written_where b read) run more ∙ ap (λ t. written_where b read ++ t) (sym f) ∙ e

-- one character more
pub one_more : (b : Bool) (read rest more all : List ℕ) (c : ℕ) → written_where b read ++ rest ≡ all → rest ≡ escape_where b c ++ more
    → written_where b (read ++ c ∷ []) ++ more ≡ all
one_more b read rest more all c e f =
    ap (λ t. t ++ more) (flat_map-append (escape_where b) read (c ∷ []) ∙ ap (λ t. written_where b read ++ t) (append-nil (escape_where b c)))
    ∙ append_assoc (written_where b read) (escape_where b c) more ∙ ap (λ t. written_where b read ++ t) (sym f) ∙ e

pub text_run : (old new : String Global) (run : List ℕ) → string_bytes new ≡ string_bytes old ++ run → text_of new ≡ text_of old ++ chars run
text_run old new run e = ap chars e ∙ chars-append (string_bytes old) run (IsUtf8-string_bytes old)

pub text_char : (old new : String Global) (c : ℕ) → scalar c ≡ true → string_bytes new ≡ string_bytes old ++ encode_utf8 c → text_of new ≡ text_of old ++ c ∷ []
text_char old new c is e = ap chars e ∙ chars_push (string_bytes old) c (IsUtf8-string_bytes old) is

-- ---- what isn't written

-- no quotation mark stands in a written value
no_quote : (c : ℕ) → list_any (λ d. d == 34) (escape_where true c) ≡ false
no_quote c = by (form true c)
  where
    by : Form true c → list_any (λ d. d == 34) (escape_where true c) ≡ false
    by (amp fails is) = ap (list_any (λ d. d == 34)) is
    by (lt fails is) = ap (list_any (λ d. d == 34)) is
    by (gt fails is) = ap (list_any (λ d. d == 34)) is
    by (quot v fails is) = ap (list_any (λ d. d == 34)) is
    by (plain is passes) = go (c == 34) refl
      where
        go : (b : Bool) → (c == 34) ≡ b → list_any (λ d. d == 34) (escape_where true c) ≡ false
        go false other = ap (list_any (λ d. d == 34)) is ∙ rw other refl
        go true same = ap (λ k. list_any (λ d. d == 34) (escape_where true k)) (eqb-true c 34 same)

pub no_quotes : (s : List ℕ) → list_any (λ d. d == 34) (escaped_value s) ≡ false
unfolding escaped_value
no_quotes [] = refl
no_quotes (c ∷ s) =
    list_any-append (λ d. d == 34) (escape_in_value c) (escaped_value s) ∙ ap (λ b. b || list_any (λ d. d == 34) (escaped_value s)) (no_quote c) ∙ no_quotes s

-- no `>` does
no_close : (c : ℕ) → list_any (λ d. d == 62) (escape_where true c) ≡ false
no_close c = by (form true c)
  where
    by : Form true c → list_any (λ d. d == 62) (escape_where true c) ≡ false
    by (amp fails is) = ap (list_any (λ d. d == 62)) is
    by (lt fails is) = ap (list_any (λ d. d == 62)) is
    by (gt fails is) = ap (list_any (λ d. d == 62)) is
    by (quot v fails is) = ap (list_any (λ d. d == 62)) is
    by (plain is passes) = go (c == 62) refl
      where
        go : (b : Bool) → (c == 62) ≡ b → list_any (λ d. d == 62) (escape_where true c) ≡ false
        go false other = ap (list_any (λ d. d == 62)) is ∙ rw other refl
        go true same = ap (λ k. list_any (λ d. d == 62) (escape_where true k)) (eqb-true c 62 same)

pub no_closes : (s : List ℕ) → list_any (λ d. d == 62) (escaped_value s) ≡ false
unfolding escaped_value
no_closes [] = refl
no_closes (c ∷ s) =
    list_any-append (λ d. d == 62) (escape_in_value c) (escaped_value s) ∙ ap (λ b. b || list_any (λ d. d == 62) (escaped_value s)) (no_close c) ∙ no_closes s

-- what is written has allowed characters alone
one_allowed : (b : Bool) (c : ℕ) → is_allowed c ≡ true → list_all is_allowed (escape_where b c) ≡ true
one_allowed b c allowed = by (form b c)
  where
    by : Form b c → list_all is_allowed (escape_where b c) ≡ true
    by (amp fails is) = ap (list_all is_allowed) is
    by (lt fails is) = ap (list_all is_allowed) is
    by (gt fails is) = ap (list_all is_allowed) is
    by (quot v fails is) = ap (list_all is_allowed) is
    by (plain is passes) = ap (list_all is_allowed) is ∙ and_from _ _ allowed refl

pub all_allowed : (b : Bool) (s : List ℕ) → list_all is_allowed s ≡ true → list_all is_allowed (written_where b s) ≡ true
all_allowed b [] all = refl
all_allowed b (c ∷ s) all =
    let both = and_parts (is_allowed c) (list_all is_allowed s) all in
    all-append is_allowed (escape_where b c) (written_where b s) (one_allowed b c both.0) (all_allowed b s both.1)
