-- Words put together, as characters and as bytes.
use Rattle.std.proofs.Common.{◌≡◌, ℕ, List, [], ◌∷◌, ◌++◌, map, String, string_bytes, refl, ap, ◌∙◌, append-nil, append_assoc, codes, sym, true, arith}
use Rattle.std.specs.declared.alloc.Global.{Global}
use Rattle.std.specs.List.{join_by, list_all}
use Rattle.std.specs.Str.{chars}
use Rattle.std.proofs.lemmas.Bool.Decides.{nat_tests}
use Rattle.std.proofs.lemmas.Str.{chars-nil, chars-append, IsUtf8-string_bytes}
use Rattle.pur_laws.proofs.Lists.{all-weaker, all-append}
use Rattle.pur_laws.proofs.Texts.{is_ascii, chars_past}
use Rattle.pur_text.specs.Texts.{text_of}
use Rattle.pur_csstok.specs.Declarations.{declaration_body}
use Rattle.pur_csstok.specs.Urls.{url_text}
use Rattle.pur_uri.specs.Laws.{is_canonical_byte}
use Rattle.pur_uri.specs.Escapes.{stays_in_query, stays_in_path}
use Rattle.pur_cssprops.specs.Forms.{spaced}

pub chars-spaced : (words : List (String Global)) → chars (join_by string_bytes (0x20 ∷ []) words) ≡ spaced (map text_of words)
chars-spaced [] = chars-nil
chars-spaced (word ∷ []) = ap chars (append-nil (string_bytes word))
chars-spaced (word ∷ next ∷ words) =
    let more = join_by string_bytes (0x20 ∷ []) (next ∷ words) in
    chars-append (string_bytes word) (0x20 ∷ more) (IsUtf8-string_bytes word)
    ∙ ap (λ t. text_of word ++ t) (chars_past (0x20 ∷ []) more refl)
    ∙ ap (λ t. text_of word ++ 0x20 ∷ t) (chars-spaced (next ∷ words))

-- ---- the text of a URI

byte-ascii : (b : ℕ) → is_canonical_byte b ≡ true → is_ascii b ≡ true
unfolding is_canonical_byte stays_in_query stays_in_path
byte-ascii b is = grind (arith, nat_tests)

pub canonical-ascii : (text : List ℕ) → list_all is_canonical_byte text ≡ true → list_all is_ascii text ≡ true
canonical-ascii text all = all-weaker is_canonical_byte is_ascii byte-ascii text all

pub url-joined : (text : List ℕ) → codes "url(\"" ++ (text ++ codes "\")") ≡ url_text text
url-joined text = ap (λ t. codes "url(\"" ++ t) (sym (append_assoc text (0x22 ∷ []) (0x29 ∷ [])))

pub url-ascii : (text : List ℕ) → list_all is_canonical_byte text ≡ true → list_all is_ascii (url_text text) ≡ true
url-ascii text all = all-append is_ascii (text ++ 0x22 ∷ []) (0x29 ∷ []) (all-append is_ascii text (0x22 ∷ []) (canonical-ascii text all) refl) refl

-- ---- a declaration

-- a style with one more declaration
pub declaration-added : (style property value : List ℕ)
    → (((style ++ property) ++ 0x3A ∷ []) ++ value) ++ 0x3B ∷ [] ≡ style ++ (declaration_body (property, value) ++ 0x3B ∷ [])
declaration-added style property value =
    append_assoc ((style ++ property) ++ (0x3A ∷ [])) value (0x3B ∷ [])
    ∙ append_assoc (style ++ property) (0x3A ∷ []) (value ++ (0x3B ∷ []))
    ∙ append_assoc style property (0x3A ∷ (value ++ (0x3B ∷ [])))
    ∙ ap (λ t. style ++ t) (sym (append_assoc property (0x3A ∷ value) (0x3B ∷ [])))
