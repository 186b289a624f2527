-- Styles of Strict, as bytes and as characters.
use Rattle.std.proofs.Common.{◌≡◌, ℕ, List, [], ◌∷◌, ◌++◌, ap, ◌∙◌, refl, Some, None, codes}
use Rattle.std.specs.Prelude.{IfSome}
use Rattle.std.specs.Option.{option_map}
use Rattle.std.specs.Str.{chars, IsUtf8}
use Rattle.pur_laws.proofs.Texts.{bytes_eq-ascii}
use Rattle.pur_foreign.specs.Strict.{size_named, declaration}

-- characters name the size that their bytes name
pub size-chars : (text : List ℕ) → IsUtf8 text → size_named (chars text) ≡ size_named text
size-chars text valid =
    rw (
      bytes_eq-ascii text (codes "1") valid refl,
      bytes_eq-ascii text (codes "2") valid refl,
      bytes_eq-ascii text (codes "3") valid refl,
      bytes_eq-ascii text (codes "4") valid refl,
      bytes_eq-ascii text (codes "5") valid refl,
      bytes_eq-ascii text (codes "6") valid refl,
      bytes_eq-ascii text (codes "7") valid refl,
      bytes_eq-ascii text (codes "+1") valid refl,
      bytes_eq-ascii text (codes "-1") valid refl,
    ) refl

-- a plain answer is that of its characters
pub plain-answer : {B : Type 0} (f : B → List ℕ) (o answer : _) → option_map f o ≡ answer → IfSome o (λ b. chars (f b) ≡ f b)
    → option_map (λ b. chars (f b)) o ≡ answer
plain-answer f None answer e plain = e
plain-answer f (Some b) answer e plain = ap Some plain ∙ e

-- a declaration behind a style, part by part
regrouped : (old p v : List ℕ) → (((old ++ p) ++ codes ":") ++ v) ++ codes ";" ≡ old ++ declaration p (Some v)
regrouped [] [] v = refl
regrouped [] (c ∷ p) v = ap (λ l. c ∷ l) (regrouped [] p v)
regrouped (c ∷ old) p v = ap (λ l. c ∷ l) (regrouped old p v)

-- a declaration that is written behind a style
pub declared : (style new p v colon semicolon : List ℕ) → colon ≡ codes ":" → semicolon ≡ codes ";"
    → new ≡ (((style ++ p) ++ colon) ++ v) ++ semicolon → new ≡ style ++ declaration p (Some v)
declared style new p v colon semicolon is_colon is_semicolon e = e ∙ rw (is_colon, is_semicolon) (regrouped style p v)

-- the three declarations of a font
pub three-parts : (s0 s1 s2 s3 d1 d2 d3 : List ℕ) → s0 ≡ [] → s1 ≡ s0 ++ d1 → s2 ≡ s1 ++ d2 → s3 ≡ s2 ++ d3 → s3 ≡ d1 ++ d2 ++ d3
three-parts s0 s1 s2 s3 d1 d2 d3 e0 e1 e2 e3 = e3 ∙ ap (λ l. l ++ d3) (e2 ∙ ap (λ l. l ++ d2) (e1 ∙ ap (λ l. l ++ d1) e0))
