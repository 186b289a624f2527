use Rattle.std.proofs.Common.{◌∙◌, ap, sym}
use Rattle.std.specs.Prelude.{◌||◌}
use Rattle.std.specs.Str.{chars}
use Rattle.pur_csstok.specs.Declarations.{has_escape_or_comment}
use Rattle.pur_csstok.proofs.DeclarationLemmas.{escape_none, escape_first}
use Rattle.pur_csstok.proofs.declarations.has_escape_or_comment.Goals as goal

pub returns-then-is_escape_or_comment : goal.returns-then-is_escape_or_comment
returns-then-is_escape_or_comment c =
    let behind = chars c.in-Some.behind.now in
    ap (λ b. b || has_escape_or_comment behind) (sym c.if-is_escape_or_comment.true ∙ c.is_escape_or_comment.ensures)
    ∙ sym (escape_first c.in-Some.c behind) ∙ ap has_escape_or_comment (sym c.in-Some.ensures.cut) ∙ c.looking.invariant.1

pub looking-preserved : goal.looking-preserved
looking-preserved c =
    let behind = chars c.in-Some.behind.now in (
      c.in-Some.ensures.text,
      ap (λ b. b || has_escape_or_comment behind) (sym c.if-is_escape_or_comment.false ∙ c.is_escape_or_comment.ensures)
          ∙ sym (escape_first c.in-Some.c behind) ∙ ap has_escape_or_comment (sym c.in-Some.ensures.cut) ∙ c.looking.invariant.1,
    )

pub returns : goal.returns
returns c = sym escape_none ∙ ap has_escape_or_comment (sym c.in_default.ensures.empty) ∙ c.looking.invariant.1
