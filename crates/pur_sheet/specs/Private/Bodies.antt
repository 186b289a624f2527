-- A body as it is written.
use Rattle.std.specs.Prelude.{ℕ, Bool, true, false, List, ◌++◌, codes}

-- behind a line feed where one was written before
abbrev pub body_behind : Bool → List ℕ → List ℕ
body_behind true body = codes "\n" ++ body
body_behind false body = body
