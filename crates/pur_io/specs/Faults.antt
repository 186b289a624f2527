use Rattle.std.specs.Prelude.{◌≡◌, ℕ, ◌+◌, ◌-◌, ◌^◌, ◌≤◌, ◌==◌, min, Bool, List, Result, OnOk, OnErr}
use Rattle.std.specs.List.{list_any}

-- one more than a count of 64 bits, which stays at 2^64 - 1 once it stands there
abbrev pub one_more : ℕ → ℕ
one_more count = min (count + 1) (2 ^ 64 - 1)

-- a count rose; one that stands at 2^64 - 1 counts as risen
abbrev pub Rose : ℕ → ℕ → Type 0
Rose before now = one_more before ≤ now

-- what a call may do to the count of faults: it never falls and stays a number of 64 bits; it rose
-- where the call failed, and it is what it was where the call answered Ok
pub record HasCause {T E : Type 0} (before now : ℕ) (result : Result T E) : Type 0 where
  pub later : before ≤ now
  pub small : now ≤ 2 ^ 64 - 1
  pub failed : OnErr result (Rose before now)
  pub kept : OnOk result (now ≡ before)

-- whether a call's number is in the list of the calls that are to fail
abbrev pub is_failing : List ℕ → ℕ → Bool
is_failing failing number = list_any (λ n. n == number) failing
