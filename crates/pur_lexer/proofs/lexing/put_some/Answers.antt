-- A token that isn't an empty text is held.
use Rattle.std.proofs.Common.{◌≡◌, ◌++◌, true, ap, sym, ◌∙◌, filter}
use Rattle.std.proofs.lemmas.Bool.{cond-true, not-false}
use Rattle.pur_tokens.specs.Joining.{joined, held_before, tokens_given, is_some_token}
use Rattle.pur_tokens.specs.Tokens.{plain_token}
use Rattle.pur_tokens.proofs.JoiningLaws.{held-next}
use Rattle.pur_lexer.proofs.lexing.put_some.Goals as goal

pub returns-in_ok-given-in-Some-clause-given : goal.returns-in_ok-given-in-Some-clause-given
returns-in_ok-given-in-Some-clause-given c = λ more.
    let held = c.args.joiner.now in
    let token = plain_token c.in-Some.token in
    let some : is_some_token token ≡ true = not-false _ (sym c.if-is_empty_text.ensures) in
    ap (λ t. held_before held (joined (filter is_some_token (tokens_given t ++ more)))) c.in-Some.is
    ∙ ap (λ tokens. held_before held (joined tokens)) (cond-true _ _ _ some)
    ∙ held-next held c.put.new.self token (tokens_given c.in_ok-given-in-Some.given) c.in_ok-given-in-Some.ensures.given (filter is_some_token more)
