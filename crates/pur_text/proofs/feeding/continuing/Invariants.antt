use Rattle.std.proofs.Common.{◌-◌, ◌≡◌, ◌≤◌, ◌<◌, ℕ, true, length, slice_index}
use Rattle.bstr.specs.Utf8.{continues}
use Rattle.pur_text.proofs.feeding.continuing.Given as goal

abbrev pub invariant-counting : goal.invariant-counting
invariant-counting l =
    (l.count ≤ 3) × (l.count ≤ length l.bytes) × ((i : ℕ) → i < l.count → continues (slice_index l.bytes i) ≡ true)

abbrev pub decreases-counting : goal.decreases-counting
decreases-counting l = 3 - l.count
