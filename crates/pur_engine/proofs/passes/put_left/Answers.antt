-- What stays of what is left goes through the removal, and what the removal still held comes last.
use Rattle.std.proofs.Common.{◌∙◌, [], ap, sym, append-nil}
use Rattle.pur_tokens.specs.Shown.{shown_given}
use Rattle.pur_wellform.specs.Progress.{closed_behind}
use Rattle.pur_engine.proofs.passes.put_left.Goals as goal

pub returns : goal.returns
returns g c =
    let rules = c.args.settings.now in
    let rule = c.args.gate.now in
    let closing = c.put_tokens.new.closing in
    c.in_ok-put_kept.ensures.ok []
    ∙ ap (closed_behind closing) (append-nil (shown_given c.finish.result) ∙ sym (c.finish.ensures rules rule))
    ∙ c.in_ok-put_tokens.ensures.same
    ∙ ap (closed_behind c.args.closing.now) (c.new-removal.ensures rules rule c.args.lexer.now)
