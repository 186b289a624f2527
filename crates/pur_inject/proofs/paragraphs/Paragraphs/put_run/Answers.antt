use Rattle.std.proofs.Common.{◌≡◌, ◌∙◌, ◌∷◌, ◌++◌, ◌<◌, ◌≤◌, Bool, [], length, refl, ap, sym, arith}
use Rattle.std.specs.Prelude.{if◌then◌else◌}
use Rattle.std.specs.Str.{chars}
use Rattle.pur_laws.proofs.Texts.{chars_ascii}
use Rattle.pur_inject.specs.Paragraphs.{marked_run}
use Rattle.pur_inject.specs.Private.Growing.{grown}
use Rattle.pur_inject.specs.Private.Standing.{ahead}
use Rattle.pur_inject.specs.Signs.{blank_line, letters, sign_before, signs_before, two_line_feeds}
use Rattle.pur_inject.proofs.GrowingLemmas.{all-stand, ends, goes-on, marked-long, marked-one}
use Rattle.pur_inject.proofs.SignLemmas.{letters-before}
use Rattle.pur_inject.proofs.paragraphs.Paragraphs.put_run.Goals as goal
use Rattle.pur_inject.proofs.paragraphs.Paragraphs.put_run.Goals.{else-is-via-then-is+else-run-gt1, else-is-via-else-is}

pub returns-then-run-gt1-clause-same : goal.returns-then-run-gt1-clause-same
returns-then-run-gt1-clause-same c = λ more.
    let run = chars c.args.run.now in
    let old = c.args.self.now in
    let mid = c.end_piece.new.self in
    let same : run ≡ c.args.run.now = c.requires c.if-is.true in
    let long : 1 < length run = omega (arith, ap length same) in
    let two : chars two_line_feeds ≡ two_line_feeds = chars_ascii two_line_feeds refl in
    ends c.args.doctype old.done old.piece c.put_text.new.self mid.piece blank_line more refl c.in_ok-end_piece.ensures.piece
    (λ after.
    c.in_ok-put_text.ensures after
    ∙ ap (λ s. grown mid.done (signs_before (letters s) after)) two
    ∙ ap (grown mid.done) (letters-before 0xA (0xA ∷ []) after)
    ∙ c.in_ok-end_piece.ensures.done (sign_before blank_line after))
    ∙ ap (λ l. ahead c.args.doctype old.done old.piece (l ++ more))
    (sym (ap (λ (b : Bool). if b then marked_run (letters run) else letters run) c.if-is.true ∙ marked-long run long))

pub returns-clause-same : goal.returns-clause-same
returns-clause-same c = λ more.
    let run = chars c.args.run.now in
    let old = c.args.self.now in
    let same : (if c.args.is then marked_run (letters run) else letters run) ≡ letters run =
    elim c.else-is.branch [
      | else-is-via-then-is+else-run-gt1 w ↦
          let ascii : run ≡ c.args.run.now = c.requires w.if-is.true in
          let short : length run ≤ 1 = omega (arith, ap length ascii) in
          ap (λ (b : Bool). if b then marked_run (letters run) else letters run) w.if-is.true ∙ marked-one run short
      | else-is-via-else-is w ↦ ap (λ (b : Bool). if b then marked_run (letters run) else letters run) w.if-is.false
    ] in
    goes-on c.args.doctype old.done old.piece c.put_text-2.new.self (letters run) more (all-stand c.args.doctype run) c.in_ok-put_text-2.ensures
    ∙ ap (λ l. ahead c.args.doctype old.done old.piece (l ++ more)) (sym same)
