use Rattle.std.proofs.Common.{◌≡◌, ℕ, List, [], ◌∷◌, ◌++◌, refl, ap, sym, ◌∙◌, Bool, true, false, ◌||◌, ◌==◌, if◌then◌else◌, slice_index, codes}
use Rattle.std.specs.List.{list_any}
use Rattle.std.proofs.lemmas.Bool.{eqb-true}
use Rattle.std.proofs.lemmas.List.{append_cancel_left}
use Rattle.std.proofs.lemmas.List.Folds.{list_any-append}
use Rattle.pur_text.specs.Escapes.{escape, escaped}

-- the forms that a character is written in, by what it is
abbrev pub form_of : Bool → Bool → Bool → ℕ → List ℕ
form_of true l g c = codes "&amp;"
form_of false true g c = codes "&lt;"
form_of false false true c = codes "&gt;"
form_of false false false c = c ∷ []

pub escape-form : (c : ℕ) → escape c ≡ form_of (c == 38) (c == 60) (c == 62) c
escape-form c = go (c == 38) (c == 60) (c == 62)
  where
    go : (a l g : Bool) → (if a then codes "&amp;" else (if l then codes "&lt;" else (if g then codes "&gt;" else c ∷ []))) ≡ form_of a l g c
    go true l g = refl
    go false true g = refl
    go false false true = refl
    go false false false = refl

-- a written character begins with something else than `<`
pub record EscapeFront (c : ℕ) : Type 0 where
  pub head : ℕ
  pub tail : List ℕ
  pub is : escape c ≡ head ∷ tail
  pub no_tag : (head == 60) ≡ false

pub escape_front : (c : ℕ) → EscapeFront c
escape_front c = go (c == 38) refl (c == 60) refl (c == 62) refl
  where
    go : (a : Bool) → (c == 38) ≡ a → (l : Bool) → (c == 60) ≡ l → (g : Bool) → (c == 62) ≡ g → EscapeFront c
    go true p l q g r = record { head = 38; tail = codes "amp;"; is = rw p refl; no_tag = refl }
    go false p true q g r = record { head = 38; tail = codes "lt;"; is = rw (p, q) refl; no_tag = refl }
    go false p false q true r = record { head = 38; tail = codes "gt;"; is = rw (p, q, r) refl; no_tag = refl }
    go false p false q false r = record { head = c; tail = []; is = rw (p, q, r) refl; no_tag = q }

-- no `<` stands in a written text
no_tag_in_form : (a l g : Bool) (c : ℕ) → (c == 60) ≡ l → list_any (λ d. d == 60) (form_of a l g c) ≡ false
no_tag_in_form true l g c h = refl
no_tag_in_form false true g c h = refl
no_tag_in_form false false true c h = refl
no_tag_in_form false false false c h = rw h refl

pub no_tag_in_escaped : (s : List ℕ) → list_any (λ d. d == 60) (escaped s) ≡ false
unfolding escaped
no_tag_in_escaped [] = refl
no_tag_in_escaped (c ∷ s) =
    list_any-append (λ d. d == 60) (escape c) (escaped s)
    ∙ ap (λ b. b || list_any (λ d. d == 60) (escaped s)) (ap (list_any (λ d. d == 60)) (escape-form c) ∙ no_tag_in_form (c == 38) (c == 60) (c == 62) c refl)
    ∙ no_tag_in_escaped s

-- the character that a written text begins with
abbrev front_char : List ℕ → ℕ
front_char [] = 0
front_char (a ∷ x) = if a == 38 then (if slice_index x 0 == 97 then 38 else (if slice_index x 0 == 108 then 60 else 62)) else a

front_char-form : (c : ℕ) (x : List ℕ) (a : Bool) → (c == 38) ≡ a → (l : Bool) → (c == 60) ≡ l → (g : Bool) → (c == 62) ≡ g
    → front_char (form_of a l g c ++ x) ≡ c
front_char-form c x true p l q g r = sym (eqb-true c 38 p)
front_char-form c x false p true q g r = sym (eqb-true c 60 q)
front_char-form c x false p false q true r = sym (eqb-true c 62 r)
front_char-form c x false p false q false r = rw p refl

front_char-escape : (c : ℕ) (x : List ℕ) → front_char (escape c ++ x) ≡ c
front_char-escape c x = ap (λ e. front_char (e ++ x)) (escape-form c) ∙ front_char-form c x (c == 38) refl (c == 60) refl (c == 62) refl

-- two texts that are written alike are one
pub escaped_alike : (s t : List ℕ) → escaped s ≡ escaped t → s ≡ t
unfolding escaped
escaped_alike [] [] h = refl
escaped_alike [] (d ∷ t) h = absurd (let f = escape_front d in let w : [] ≡ f.head ∷ (f.tail ++ escaped t) = h ∙ ap (λ e. e ++ escaped t) f.is in cc)
escaped_alike (c ∷ s) [] h = absurd (let f = escape_front c in let w : [] ≡ f.head ∷ (f.tail ++ escaped s) = sym h ∙ ap (λ e. e ++ escaped s) f.is in cc)
escaped_alike (c ∷ s) (d ∷ t) h =
    let same : c ≡ d = sym (front_char-escape c (escaped s)) ∙ ap front_char h ∙ front_char-escape d (escaped t) in
    let rest : s ≡ t = escaped_alike s t (append_cancel_left (escape d) (escaped s) (escaped t) (ap (λ e. escape e ++ escaped s) (sym same) ∙ h)) in
    ap (λ e. e ∷ s) same ∙ ap (λ u. d ∷ u) rest
