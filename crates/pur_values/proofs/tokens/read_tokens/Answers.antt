use Rattle.std.proofs.Common.{◌≡◌, ◌∙◌, ℕ, List, [], false, sym, ap, filter, rules}
use Rattle.std.proofs.lemmas.Str.{chars-nil}
use Rattle.std.specs.Str.{chars}
use Rattle.pur_values.specs.Private.Seen.{fresh, has, passes, put_all}
use Rattle.pur_values.specs.Tokens.{pieces}
use Rattle.pur_text.specs.Texts.{text_of}
use Rattle.pur_values.proofs.SeenLemmas.{fresh_same}
use Rattle.pur_values.proofs.TokenLemmas.{walked, walk_is, walk_ends, some_text}
use Rattle.pur_values.proofs.tokens.read_tokens.Goals as goal

pub returns : goal.returns
returns c =
    let text = chars c.args.text.now in
    let last = c.in_ok-push_token-2.ensures [] in
    let whole : text_of c.push_token-2.new.written ≡ walked c.args.kind (pieces text) =
    walk_ends (passes c.args.kind) (has c.push_token-2.new.seen) _ _
    (last ∙ ap (λ l. put_all (text_of c.reading.written) (fresh (has c.reading.seen) (filter (passes c.args.kind) l))) (sym c.in_default.ensures.whole)
    ∙ c.reading.invariant.1) in
    c.some_text.ensures ∙ ap some_text whole ∙ walk_is c.args.kind (pieces text)

pub reading-init : goal.reading-init
reading-init c =
    let tokens = filter (passes c.args.kind) (pieces (chars c.args.text.now)) in
    let none : (token : List ℕ) → has c.new-seen.result token ≡ false = λ token. search rules in (
      c.utf8.text,
      ap (λ t. put_all t (fresh (has c.new-seen.result) tokens)) (ap chars c.new-written.ensures.bytes ∙ chars-nil)
          ∙ ap (put_all []) (fresh_same (has c.new-seen.result) (λ token. false) tokens none),
    )
