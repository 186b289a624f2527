-- The line of a sample.
use Rattle.std.specs.Prelude.{ℕ, List, ◌++◌, length, sum, codes, decimal}
use Rattle.pur_settings.specs.Rules.{default_rules}
use Rattle.pur_uripolicy.specs.HostRules.{rule_of}
use Rattle.pur_engine.specs.Purified.{purified}
use Rattle.pur_commands.specs.Samples.{sample_of}

-- the line that tells a number of pieces, the bytes of their sample, the bytes of its purification, and the sum of these bytes
abbrev pub line_with : ℕ → ℕ → ℕ → ℕ → List ℕ
line_with pieces read written total =
    codes "sample " ++ (decimal pieces ++ (codes " in " ++ (decimal read ++ (codes " out " ++ (decimal written ++ (codes " sum " ++ (decimal total ++ codes "\n")))))))

-- the line of a sample and what the filter makes of it under the defaults
abbrev pub line_of : ℕ → List ℕ → List ℕ → List ℕ
line_of pieces text output = line_with pieces (length text) (length output) (sum output)

-- the line of the sample of so many pieces
abbrev pub sample_line : ℕ → List ℕ
sample_line pieces = line_of pieces (sample_of pieces) (purified default_rules (rule_of default_rules) (sample_of pieces))
