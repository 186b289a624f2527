-- What a text begins with, and where it has no `<`, as bytes and as characters.
use Rattle.std.proofs.Common.{◌≡◌, ◌≢◌, ℕ, ◌+◌, true, false, List, ◌++◌, drop, length, Option, None, Some, nat_eq, refl, ap, sym, ◌∙◌, encode_utf8_all, Bor}
use Rattle.std.specs.List.{starts_with, list_all}
use Rattle.std.specs.Option.{MatchOption}
use Rattle.std.specs.Str.{chars, IsUtf8}
use Rattle.std.specs.Str.Pattern.{FindsTextPrefix}
use Rattle.std.proofs.lemmas.Bool.Decides.{Decides-eqb}
use Rattle.std.proofs.lemmas.Slice.Eq.{starts_is}
use Rattle.std.proofs.lemmas.Str.{encodes-chars, encodes-append, encodes-IsAscii}
use Rattle.std.proofs.lemmas.Bool.{false_from_ne_true}
use Rattle.pur_laws.proofs.Texts.{ascii_at, is_ascii}

-- where the bytes don't begin with them, nor do the characters
pub begins_not : (tag text : List ℕ) → IsUtf8 text → list_all is_ascii tag ≡ true → ((rest : List ℕ) → text ≢ tag ++ rest) → starts_with nat_eq (chars text) tag ≡ false
begins_not tag text is all apart = false_from_ne_true (starts_with nat_eq (chars text) tag) (λ starts.
    let rest = drop (length tag) (chars text) in
    let front : chars text ≡ tag ++ rest = (starts_is Decides-eqb (chars text) tag _ refl).0 starts in
    apart (encode_utf8_all rest) (sym (encodes-chars text is) ∙ ap encode_utf8_all front ∙ encodes-append tag rest ∙ ap (λ bs. bs ++ encode_utf8_all rest) (encodes-IsAscii tag (ascii_at tag all))))

-- what `strip_prefix` says of a text
pub prefix_parts : (tag text : List ℕ) (r : Option (Bor (List ℕ))) → MatchOption r (FindsTextPrefix tag text None) (λ x. (n : ℕ) × FindsTextPrefix tag text (Some n) × (x.now ≡ drop n text) × (length x.now + n ≡ length text)) → MatchOption r ((rest : List ℕ) → text ≢ tag ++ rest) (λ x. text ≡ tag ++ x.now)
prefix_parts tag text None h = h
prefix_parts tag text (Some x) h = h.1.1 ∙ ap (λ rest. tag ++ rest) (sym h.2)
