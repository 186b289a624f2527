use Rattle.std.proofs.Common.{◌≡◌, ◌∙◌, true, false, ap, sym, rules}
use Rattle.std.specs.Prelude.{if◌then◌else◌}
use Rattle.std.specs.Str.{chars, bytes_eq}
use Rattle.pur_laws.proofs.Texts.{same_chars}
use Rattle.pur_values.specs.Private.Seen.{passes, has}
use Rattle.pur_text.specs.Texts.{text_of}
use Rattle.pur_values.proofs.SeenLemmas.{repeated, written_now, not_false, not_true}
use Rattle.pur_values.proofs.SolidLemmas.{token-ascii}
use Rattle.pur_values.proofs.tokens.push_token.Goals as goal

pub returns-then-not-branch : goal.returns-then-not-branch
returns-then-not-branch c = λ more.
    let piece = c.args.piece.now in
    let does : passes c.args.kind (chars piece) ≡ true = search rules in
    let key : c.as_bytes.result.now ≡ chars piece = c.as_bytes.ensures.value ∙ sym (same_chars piece c.utf8.piece (token-ascii c.args.kind (chars piece) does)) in
    let known : has c.args.seen.now c.as_bytes.result.now ≡ true = not_false _ (cc c.in_ok-is_new.ensures.new) in
    repeated (passes c.args.kind) (has c.args.seen.now) (has c.is_new.new.seen) (text_of c.args.written.now) (chars piece) more
    does (ap (has c.args.seen.now) (sym key) ∙ known)
    (λ other. c.in_ok-is_new.ensures.met other ∙ ap (λ t. if bytes_eq t other then true else has c.args.seen.now other) key)

pub returns : goal.returns
returns c = λ more.
    let piece = c.args.piece.now in
    let does : passes c.args.kind (chars piece) ≡ true = search rules in
    let key : c.as_bytes.result.now ≡ chars piece = c.as_bytes.ensures.value ∙ sym (same_chars piece c.utf8.piece (token-ascii c.args.kind (chars piece) does)) in
    let new : has c.args.seen.now c.as_bytes.result.now ≡ false = not_true _ (cc c.in_ok-is_new.ensures.new) in
    written_now (passes c.args.kind) (has c.args.seen.now) (has c.is_new.new.seen) (text_of c.args.written.now) (text_of c.push_behind_space.new.written) (chars piece) more
    does (ap (has c.args.seen.now) (sym key) ∙ new)
    (λ other. c.in_ok-is_new.ensures.met other ∙ ap (λ t. if bytes_eq t other then true else has c.args.seen.now other) key)
    c.in_ok-push_behind_space.ensures
