use Rattle.std.specs.Prelude.{ℕ, List, ◌++◌, Option, option_map}

-- what a sink has taken after it took a piece more; it tells this afterwards exactly where it told it before
abbrev pub taken_more : Option (List ℕ) → List ℕ → Option (List ℕ)
taken_more taken piece = option_map (λ bytes. bytes ++ piece) taken
