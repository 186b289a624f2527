-- What is ASCII is bytes.
use Rattle.std.proofs.Common.{◌≡◌, ◌<◌, ℕ, suc, true, List, [], ◌∷◌, refl, arith}
use Rattle.std.specs.Str.{IsAscii}
use Rattle.std.proofs.lemmas.Bool.{and_from, lt-ltb}
use Rattle.pur_uri.specs.Splitting.{are_bytes}

pub ascii_bytes : (text : List ℕ) → IsAscii text → are_bytes text ≡ true
ascii_bytes [] is = refl
ascii_bytes (b ∷ text) is =
    let low : b < 128 = is 0 in
    and_from _ _ (lt-ltb b 256 (omega (arith, low))) (ascii_bytes text (λ i. is (suc i)))
