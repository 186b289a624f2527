-- What is open behind a text (CSS 2.1, sections 4.1.6 and 4.1.7).
use Rattle.std.specs.Prelude.{ℕ, true, List, [], ◌∷◌}
use Rattle.pur_csstok.specs.Cuts.{open_after}
use Rattle.pur_csstok.specs.declared.cuts.Nesting.{Nesting}

-- where this is open before it
abbrev pub open_behind : Nesting → List ℕ → Nesting
open_behind before [] = before
open_behind before (c ∷ text) = open_behind (open_after true before c) text
