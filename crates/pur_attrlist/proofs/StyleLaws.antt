-- A style that isn't empty is put in front.
use Rattle.std.proofs.Common.{◌≡◌, ◌<◌, ℕ, length, arith, List, [], ◌∷◌, ◌++◌, refl, codes}
use Rattle.pur_attrlist.specs.Attributes.{Attribute, value_of, with_value}
use Rattle.pur_attrlist.specs.Styles.{with_style, text_or_none}

pub styled : (style : List ℕ) (attrs : List Attribute) → 0 < length style
    → with_style style attrs ≡ with_value attrs (codes "style") (style ++ text_or_none (value_of attrs (codes "style")))
styled [] attrs some = absurd (omega arith)
styled (c ∷ style) attrs some = refl
