-- A `<` begins markup, and anything else a run of text.
use Rattle.std.proofs.Common.{◌∙◌, ap, sym, arith, lit<, Some, None}
use Rattle.std.specs.Str.{chars}
use Rattle.std.proofs.lemmas.Str.Pattern.{strip_prefix_char}
use Rattle.pur_laws.proofs.Texts.{some_chars}
use Rattle.pur_entities.specs.References.{decoded}
use Rattle.pur_tokens.specs.Tokens.{text_token}
use Rattle.pur_tokens.specs.declared.tokens.Token.TheVariants as variants
use Rattle.pur_lexer.specs.Constructs.{construct_of, gives_one}
use Rattle.pur_lexer.proofs.LexLemmas.{construct-markup, construct-plain, given-construct, run-some}
use Rattle.pur_lexer.proofs.TagLemmas.{chars_behind, not_behind}
use Rattle.pur_lexer.proofs.lexing.cut_construct.Goals as goal

pub returns-in-Some-clause-given : goal.returns-in-Some-clause-given
returns-in-Some-clause-given c =
    let text = c.args.text.now in
    let markup = c.in-Some.markup.now in
    let stripped = strip_prefix_char 60 text (Some c.in-Some.markup) c.in-Some.ensures.cases (lit< tt) in
    given-construct c.in_ok-cut.cut.0 (chars text) (chars c.in_ok-cut.cut.1.now) (some_chars text c.utf8.text c.requires)
    (c.in_ok-cut.ensures.construct ∙ sym (construct-markup (chars markup)) ∙ ap construct_of (sym (chars_behind text markup 60 (lit< tt) stripped)))

pub returns-clause-shorter : goal.returns-clause-shorter
returns-clause-shorter c =
    let stripped = strip_prefix_char 60 c.args.text.now None c.in_default.ensures.cases (lit< tt) in
    let other = not_behind c.args.text.now 60 c.utf8.text (lit< tt) stripped in
    let some = run-some c.args.text.now c.cut_at_character.result.0.now c.utf8.text c.requires other c.cut_at_character.ensures.run in
    omega (arith, c.cut_at_character.ensures.lengths, some)

pub returns-clause-given : goal.returns-clause-given
returns-clause-given c =
    let text = c.args.text.now in
    let stripped = strip_prefix_char 60 text None c.in_default.ensures.cases (lit< tt) in
    let other = not_behind text 60 c.utf8.text (lit< tt) stripped in
    let read = c.in_ok-read.ensures.text ∙ ap decoded c.cut_at_character.ensures.run in
    given-construct (Some (variants.Text c.in_ok-read.read)) (chars text) (chars c.cut_at_character.result.1.now) (some_chars text c.utf8.text c.requires)
    ((λ i. gives_one (text_token (read i)) (c.cut_at_character.ensures.rest i)) ∙ sym (construct-plain (chars text) other))
