use Rattle.std.specs.Prelude.{ℕ}

-- the most bytes that a settings text may have
abbrev pub settings_limit : ℕ
settings_limit = 65536

-- the most bytes that an input may have
abbrev pub input_limit : ℕ
input_limit = 1048576

-- the most pieces that the sample of a command may have
abbrev pub sample_limit : ℕ
sample_limit = 10000
