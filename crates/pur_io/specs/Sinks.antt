use Rattle.std.specs.Prelude.{ℕ, ◌-◌, min, Bool, nat_le, ◌||◌, List, length}
use Rattle.pur_io.specs.Faults.{one_more, is_failing}

-- a sink in memory as its caller sees it: the bytes it has taken, the most bytes it takes in all, the
-- numbers of the calls that are to fail, the most bytes that one call takes, the number of its last
-- call, and its count of faults
pub record MemSinkState : Type 0 where
  pub taken : List ℕ
  pub room : ℕ
  pub failing : List ℕ
  pub most : ℕ
  pub number : ℕ
  pub faults : ℕ

-- whether the next call of a sink in memory fails: its number is in the list, or the room is full
abbrev pub write_fails : MemSinkState → Bool
write_fails sink = is_failing sink.failing (one_more sink.number) || nat_le sink.room (length sink.taken)

-- how many bytes of a piece of this length the next call takes, where it doesn't fail
abbrev pub write_count : MemSinkState → ℕ → ℕ
write_count sink len = min (sink.room - length sink.taken) (min sink.most len)

-- a standard stream as its caller sees it: its count of faults and the writer
pub record StdSinkState (W : Type 0) : Type 0 where
  pub faults : ℕ
  pub writer : W

-- a sink that never fails as its caller sees it: how many bytes it was given, at most 2^64 - 1
pub record SureSinkState : Type 0 where
  pub given : ℕ
