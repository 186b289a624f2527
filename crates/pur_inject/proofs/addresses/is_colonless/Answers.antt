use Rattle.std.proofs.Common.{◌≡◌, ◌<◌, ◌≤◌, ℕ, true, false, List, [], ◌∷◌, length, ap, sym, ◌∙◌, arith}
use Rattle.std.specs.Prelude.{◌==◌, not}
use Rattle.std.proofs.lemmas.Bool.Decides.{nat_tests}
use Rattle.pur_laws.proofs.Texts.{text_passes}
use Rattle.pur_inject.specs.Private.Cutting.{is_colonless}
use Rattle.pur_inject.proofs.addresses.is_colonless.Goals as goal

wide : (c : ℕ) → 128 ≤ c → not (c == 0x3A) ≡ true
wide c high = grind (arith, nat_tests)

pub returns-clause-colonless : goal.returns-clause-colonless
returns-clause-colonless c = λ is. text_passes (λ c. not (c == 0x3A)) wide c.args.text.now c.utf8.text (ap is_colonless (sym c.as_bytes.ensures.value) ∙ sym c.are_colonless.ensures ∙ is)

has-some : (s : List ℕ) → is_colonless s ≡ false → 0 < length s
has-some [] has = absurd (cc)
has-some (c ∷ s) has = omega arith

pub returns-clause-some : goal.returns-clause-some
returns-clause-some c = λ isnt. has-some c.args.text.now (ap is_colonless (sym c.as_bytes.ensures.value) ∙ sym c.are_colonless.ensures ∙ isnt)
