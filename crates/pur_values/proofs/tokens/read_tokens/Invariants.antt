use Rattle.std.proofs.Common.{◌≡◌, [], length, filter, false}
use denote.Text.{Utf8}
use denote.Shadow.{shadow}
use Rattle.std.specs.Str.{chars}
use Rattle.pur_text.specs.Texts.{text_of}
use Rattle.pur_values.specs.Tokens.{pieces}
use Rattle.pur_values.specs.Private.Seen.{fresh, has, passes, put_all}
use Rattle.pur_values.proofs.tokens.read_tokens.Given as goal

-- what was written, and then the tokens that are left, is what all tokens give
abbrev pub invariant-reading : goal.invariant-reading
invariant-reading l =
    shadow (Utf8 l.rest)
    × (put_all (text_of l.written) (fresh (has l.seen) (filter (passes l.kind) (pieces (chars l.rest))))
    ≡ put_all [] (fresh (λ token. false) (filter (passes l.kind) (pieces (chars l.fn.text)))))

abbrev pub decreases-reading : goal.decreases-reading
decreases-reading l = length l.rest
