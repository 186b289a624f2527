-- Styles put together, as characters and as bytes.
use Rattle.std.proofs.Common.{◌≡◌, ℕ, ◌==◌, ◌&&◌, ◌||◌, ◌<◌, Bool, true, false, List, [], ◌∷◌, ◌++◌, length, Option, Some, None, String, string_bytes, IsUtf8, codes, refl, ap, sym, ◌∙◌, append-nil, append_assoc, arith, length-append}
use Rattle.std.specs.declared.alloc.Global.{Global}
use Rattle.std.specs.List.{cons_option, list_all}
use Rattle.std.specs.Str.{bytes_eq, chars}
use Rattle.std.proofs.lemmas.Str.{chars-append, IsUtf8-string_bytes}
use Rattle.pur_attrlist.specs.Texts.{text_of}
use Rattle.pur_csstok.specs.Declarations.{Pair, declaration_body, style_text}
use Rattle.pur_csstok.specs.Urls.{url_text}
use Rattle.pur_laws.proofs.Lists.{all-append}
use Rattle.pur_laws.proofs.Texts.{is_ascii, bytes_eq-ascii, chars_ascii, chars_past}
use Rattle.pur_laws.proofs.Truth.{or_false}
use Rattle.pur_uri.specs.Laws.{has_comment, is_canonical_byte}
use Rattle.pur_uri.specs.Splitting.{begins_with}
use Rattle.pur_absolute.specs.Absolute.{style_with, takes_url}
use Rattle.pur_absolute.proofs.TextLemmas.{canonical-ascii}

-- ---- comments

-- a comment stands in what is behind a byte, or begins with it
abbrev pub has_comment_behind : Bool → List ℕ → Bool
has_comment_behind after_slash text = (after_slash && begins_with 0x2A text) || has_comment text

pub comment-begins : (after_slash : Bool) (byte : ℕ) (text : List ℕ) → (after_slash && byte == 0x2A) ≡ true
    → has_comment_behind after_slash (byte ∷ text) ≡ true
comment-begins after_slash byte text is = ap (λ b. b || has_comment (byte ∷ text)) is

pub comment-later : (after_slash : Bool) (byte : ℕ) (text : List ℕ) → (after_slash && byte == 0x2A) ≡ false
    → has_comment_behind after_slash (byte ∷ text) ≡ has_comment_behind (byte == 0x2F) text
unfolding has_comment
comment-later after_slash byte text isnt = ap (λ b. b || has_comment (byte ∷ text)) isnt

pub nothing-behind : (after_slash : Bool) → has_comment_behind after_slash [] ≡ false
unfolding has_comment
nothing-behind true = refl
nothing-behind false = refl

-- ---- URLs

pub url-joined : (text : List ℕ) → codes "url(\"" ++ (text ++ codes "\")") ≡ url_text text
url-joined text = ap (λ t. codes "url(\"" ++ t) (sym (append_assoc text (0x22 ∷ []) (0x29 ∷ [])))

pub url-ascii : (text : List ℕ) → list_all is_canonical_byte text ≡ true → list_all is_ascii (url_text text) ≡ true
url-ascii text all = all-append is_ascii (text ++ 0x22 ∷ []) (0x29 ∷ []) (all-append is_ascii text (0x22 ∷ []) (canonical-ascii text all) refl) refl

-- ---- declarations

-- one more in front of others
pub style-more : (pair : Option Pair) (pairs : List Pair) → style_text (cons_option pair []) ++ style_text pairs ≡ style_text (cons_option pair pairs)
style-more None pairs = refl
style-more (Some pair) pairs = ap (λ t. t ++ style_text pairs) (append-nil (declaration_body pair ++ 0x3B ∷ []))

written : (pair : Pair) (pairs : List Pair) → 0 < length (style_text (pair ∷ pairs))
written pair pairs =
    let body = declaration_body pair ++ 0x3B ∷ [] in
    omega (arith, length-append body (style_text pairs), length-append (declaration_body pair) (0x3B ∷ []))

-- the empty text is that of no declarations, and any other that of some
pub style-none : (pairs : List Pair) → style_text pairs ≡ [] → None ≡ style_with pairs
style-none [] none = refl
style-none (pair ∷ pairs) none = absurd (omega (arith, ap length none, written pair pairs))

pub style-some : (pairs : List Pair) (text : List ℕ) → text ≡ style_text pairs → 0 < length text → Some (style_text pairs) ≡ style_with pairs
style-some [] text is some = absurd (omega (arith, ap length is, some))
style-some (pair ∷ pairs) text is some = refl

-- a text with one more declaration
pub declaration-added : (out more : String Global) (property value : List ℕ) → IsUtf8 property → IsUtf8 value
    → string_bytes more ≡ (((string_bytes out ++ property) ++ 0x3A ∷ []) ++ value) ++ 0x3B ∷ []
    → text_of more ≡ text_of out ++ style_text ((chars property, chars value) ∷ [])
declaration-added out more property value p v is =
    let front = string_bytes out in
    let flat : string_bytes more ≡ front ++ (property ++ (0x3A ∷ (value ++ (0x3B ∷ [])))) =
    is ∙ append_assoc ((front ++ property) ++ (0x3A ∷ [])) value (0x3B ∷ [])
    ∙ append_assoc (front ++ property) (0x3A ∷ []) (value ++ (0x3B ∷ []))
    ∙ append_assoc front property (0x3A ∷ (value ++ (0x3B ∷ []))) in
    let ends : chars (value ++ (0x3B ∷ [])) ≡ chars value ++ (0x3B ∷ []) = chars-append value (0x3B ∷ []) v ∙ ap (λ t. chars value ++ t) (chars_ascii (0x3B ∷ []) refl) in
    ap chars flat
    ∙ chars-append front (property ++ (0x3A ∷ (value ++ (0x3B ∷ [])))) (IsUtf8-string_bytes out)
    ∙ ap (λ t. text_of out ++ t)
    (chars-append property (0x3A ∷ (value ++ (0x3B ∷ []))) p
    ∙ ap (λ t. chars property ++ t) (chars_past (0x3A ∷ []) (value ++ (0x3B ∷ [])) refl ∙ ap (λ t. 0x3A ∷ t) ends)
    ∙ sym (append_assoc (chars property) (0x3A ∷ chars value) (0x3B ∷ []))
    ∙ sym (append-nil ((chars property ++ (0x3A ∷ chars value)) ++ (0x3B ∷ []))))

-- ---- properties

pub takes-first : (name : List ℕ) → IsUtf8 name → bytes_eq name (codes "background-image") ≡ true → true ≡ takes_url (chars name)
takes-first name is e =
    sym (ap (λ b. b || (bytes_eq (chars name) (codes "list-style-image") || false)) (bytes_eq-ascii name (codes "background-image") is refl ∙ e))

pub takes-second : (name : List ℕ) → IsUtf8 name → bytes_eq name (codes "background-image") ≡ false
    → bytes_eq name (codes "list-style-image") ≡ takes_url (chars name)
takes-second name is e =
    sym (ap (λ b. b || (bytes_eq (chars name) (codes "list-style-image") || false)) (bytes_eq-ascii name (codes "background-image") is refl ∙ e)
    ∙ or_false (bytes_eq (chars name) (codes "list-style-image")) ∙ bytes_eq-ascii name (codes "list-style-image") is refl)
