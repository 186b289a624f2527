use Rattle.std.proofs.Common.{◌≡◌, ◌≤◌, ◌<◌, ℕ, true, length, slice_index}
use Rattle.bstr.specs.Utf8.{continues}
use Rattle.pur_text.proofs.feeding.last_start.Given as goal

abbrev pub invariant-searching : goal.invariant-searching
invariant-searching l =
    (l.at ≤ length l.bytes) × ((i : ℕ) → l.at ≤ i → i < length l.bytes → continues (slice_index l.bytes i) ≡ true)

abbrev pub decreases-searching : goal.decreases-searching
decreases-searching l = l.at
