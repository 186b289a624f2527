-- The words so far, and then those that are left, are the name and all words.
use Rattle.std.proofs.Common.{◌≡◌, ◌++◌, ◌∷◌, map, drop, codes, string_bytes}
use Rattle.pur_commands.proofs.words.with_name.Given as goal

abbrev pub invariant-loop-word : goal.invariant-loop-word
invariant-loop-word l =
    map (λ word. word.now) l.all.items ++ map string_bytes (drop l.word-index l.words) ≡ codes "purify" ∷ map string_bytes l.fn.words
