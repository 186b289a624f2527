use Rattle.std.proofs.Common.{◌∙◌, ap, sym}
use Rattle.pur_laws.proofs.Cases.{test-chars}
use Rattle.pur_values.specs.Private.Seen.{passes}
use Rattle.pur_values.proofs.SolidLemmas.{token-ascii}
use Rattle.pur_values.proofs.tokens.is_token.Goals as goal

pub returns : goal.returns
returns c =
    let kind = c.args.kind in
    c.passes.ensures ∙ ap (passes kind) c.as_bytes.ensures.value ∙ sym (test-chars (passes kind) (token-ascii kind) c.args.piece.now c.utf8.piece)
