-- A sample grows by its next piece.
use Rattle.std.proofs.Common.{◌≡◌, ℕ, suc, ◌+◌, [], ◌++◌, refl, ap, arith, ◌∙◌}
use Rattle.pur_commands.specs.Samples.{piece_of, sample_of}

pub no_pieces : sample_of 0 ≡ []
unfolding sample_of
no_pieces = refl

step : (n : ℕ) → sample_of (suc n) ≡ sample_of n ++ piece_of n
unfolding sample_of
step n = refl

pub next_piece : (n : ℕ) → sample_of (n + 1) ≡ sample_of n ++ piece_of n
next_piece n = let more : n + 1 ≡ suc n = omega arith in ap sample_of more ∙ step n
