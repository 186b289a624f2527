use Rattle.std.proofs.Common.{◌∙◌, sym, Some, None, lit<}
use Rattle.std.specs.Str.{chars}
use Rattle.std.proofs.lemmas.Str.Pattern.{strip_prefix_char}
use Rattle.pur_laws.proofs.Options.{if_none}
use Rattle.pur_lexer.proofs.TagLemmas.{chars_behind}
use Rattle.pur_lexer.proofs.ConstructLemmas.{no_slash, slash_no_letter}
use Rattle.pur_lexer.proofs.constructs.end_tag_text.Goals as goal

pub returns-in_err-behind-clause-none : goal.returns-in_err-behind-clause-none
returns-in_err-behind-clause-none c =
    if_none _ _ (no_slash c.args.text.now _ c.utf8.text (strip_prefix_char 47 c.args.text.now None c.in_err-behind.ensures.cases (lit< tt)))

pub returns-then-not-begins_with_letter-clause-none : goal.returns-then-not-begins_with_letter-clause-none
returns-then-not-begins_with_letter-clause-none c =
    let behind = c.in_ok-behind.behind in
    let front = strip_prefix_char 47 c.args.text.now (Some behind) c.in_ok-behind.ensures.cases (lit< tt) in
    slash_no_letter (chars c.args.text.now) (chars behind.now) (chars_behind c.args.text.now behind.now 47 (lit< tt) front)
    (sym c.begins_with_letter.ensures ∙ c.if-not-begins_with_letter.true)

pub returns-clause-slash : goal.returns-clause-slash
returns-clause-slash c =
    let behind = c.in_ok-behind.behind in
    let front = strip_prefix_char 47 c.args.text.now (Some behind) c.in_ok-behind.ensures.cases (lit< tt) in
    chars_behind c.args.text.now behind.now 47 (lit< tt) front
