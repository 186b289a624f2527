use Rattle.std.proofs.Common.{◌∙◌, Some, ap, sym}
use Rattle.std.specs.Str.{chars}
use Rattle.pur_csstok.specs.Declarations.{Pair}
use Rattle.pur_csstok.proofs.DeclarationLemmas.{piece_read, piece_none}
use Rattle.pur_csstok.proofs.declarations.declaration_of.Goals as goal

pub returns-in_ok-declaration_with-in-Some : goal.returns-in_ok-declaration_with-in-Some
returns-in_ok-declaration_with-in-Some c =
    ap (λ (pair : Pair). Some pair) c.in_ok-declaration_with-in-Some.ensures
    ∙ sym (piece_read (chars c.args.piece.now) (chars c.in-Some.property.now) (chars c.in-Some.value.now)
    (sym c.has_escape_or_comment.ensures ∙ c.if-has_escape_or_comment.false) c.in-Some.ensures.cut c.in-Some.ensures.first)

pub returns-in-None : goal.returns-in-None
returns-in-None c = sym (piece_none (chars c.args.piece.now) (sym c.has_escape_or_comment.ensures ∙ c.if-has_escape_or_comment.false) c.in-None.ensures.whole)
