-- The style that Strict has for attributes.
use Rattle.std.proofs.Common.{◌≡◌, ℕ, Bool, true, false, cond, List, [], ◌∷◌, ◌++◌, append-nil, Option, Some, None, refl, sym, ap, ◌∙◌}
use Rattle.std.specs.Prelude.{codes}
use Rattle.std.specs.Option.{option_map_or}
use Rattle.pur_names.specs.declared.elements.Element.{Element}
use Rattle.pur_modules.specs.Groups.{is_among}
use Rattle.pur_attrs.specs.Private.Parts.{declared}
use Rattle.pur_attrs.specs.Steps.{styled_by}

module _ (elements : List Element) (element : Element) (told : List ℕ → List ℕ) (found : Option (List ℕ)) (style : List ℕ) where
  -- an element that isn't one of these gets nothing
  pub not-styled : is_among elements element ≡ false → style ≡ style ++ styled_by elements element told found
  not-styled isnt = sym (append-nil style) ∙ ap (λ b. style ++ cond b (option_map_or told found []) []) (sym isnt)

  pub is-styled : is_among elements element ≡ true → style ++ option_map_or told found [] ≡ style ++ styled_by elements element told found
  is-styled is = ap (λ b. style ++ cond b (option_map_or told found []) []) (sym is)

  -- an element without the attribute gets nothing
  pub none-styled : found ≡ None → style ≡ style ++ styled_by elements element told found
  none-styled none = sym (append-nil style) ∙ ap (λ l. style ++ l) (go (is_among elements element) found none)
    where
      go : (b : Bool) (o : Option (List ℕ)) → o ≡ None → [] ≡ cond b (option_map_or told o []) []
      go true None e = refl
      go true (Some value) e = absurd (cc)
      go false o e = refl

-- ---- the text of the style, part by part

regrouped : (old p v : List ℕ) → (((old ++ p) ++ codes ":") ++ v) ++ codes ";" ≡ old ++ declared p (Some v)
regrouped [] [] v = refl
regrouped [] (c ∷ p) v = ap (λ l. c ∷ l) (regrouped [] p v)
regrouped (c ∷ old) p v = ap (λ l. c ∷ l) (regrouped old p v)

-- a declaration that is written behind a style
pub written : (style new p v colon semicolon : List ℕ) → colon ≡ codes ":" → semicolon ≡ codes ";"
    → new ≡ (((style ++ p) ++ colon) ++ v) ++ semicolon → new ≡ style ++ declared p (Some v)
written style new p v colon semicolon is_colon is_semicolon e = e ∙ rw (is_colon, is_semicolon) (regrouped style p v)

-- the three parts
pub three-parts : (s0 s1 s2 s3 d1 d2 d3 : List ℕ) → s0 ≡ [] → s1 ≡ s0 ++ d1 → s2 ≡ s1 ++ d2 → s3 ≡ s2 ++ d3 → s3 ≡ d1 ++ d2 ++ d3
three-parts s0 s1 s2 s3 d1 d2 d3 e0 e1 e2 e3 = e3 ∙ ap (λ l. l ++ d3) (e2 ∙ ap (λ l. l ++ d2) (e1 ∙ ap (λ l. l ++ d1) e0))
