-- A construct is read while nothing is given; behind the text what is held is given.
use Rattle.std.proofs.Common.{◌≡◌, ◌++◌, ◌∙◌, ap, sym, arith, length}
use Rattle.std.specs.Str.{chars}
use Rattle.std.proofs.lemmas.Bool.Decides.{nat_tests}
use Rattle.pur_laws.proofs.Texts.{no_chars}
use Rattle.pur_tokens.specs.Joining.{tokens_given}
use Rattle.pur_lexer.specs.Private.Readings.{left_of}
use Rattle.pur_lexer.proofs.LexLemmas.{left-next, left-some, left-none}
use Rattle.pur_lexer.proofs.lexing.Lexer.next.Goals as goal

pub reading-init : goal.reading-init
reading-init c = c.self.view_is

pub returns-in-Some-clause-token : goal.returns-in-Some-clause-token
returns-in-Some-clause-token c =
    let held = c.put_some.new.joiner in
    let behind = chars c.in_ok-token.behind.now in
    sym c.reading.invariant
    ∙ left-next c.reading.self-inside.joiner held c.in_ok-token.token c.in_ok-given.given (chars c.reading.self-inside.rest.now) behind c.in_ok-given.ensures.given c.in_ok-token.ensures.given
    ∙ ap (λ given. tokens_given given ++ left_of held behind) c.in-Some.is

pub reading-preserved : goal.reading-preserved
reading-preserved c =
    let held = c.put_some.new.joiner in
    let behind = chars c.in_ok-token.behind.now in
    let left = left-next c.reading.self-inside.joiner held c.in_ok-token.token c.in_ok-given.given (chars c.reading.self-inside.rest.now) behind c.in_ok-given.ensures.given c.in_ok-token.ensures.given in
    sym (left ∙ ap (λ given. tokens_given given ++ left_of held behind) c.in_default.is) ∙ c.reading.invariant

pub returns-clause-token : goal.returns-clause-token
returns-clause-token c =
    let rest = c.reading.self-inside.rest.now in
    let none : length rest ≡ 0 = grind (arith, nat_tests, c.is_empty.ensures, c.reading-test.ensures) in
    left-some c.reading.self-inside.joiner c.take.new.self c.take.result (chars rest) c.args.self.now (no_chars rest none) c.take.ensures.given c.take.ensures.none c.reading.invariant

pub returns-clause-end : goal.returns-clause-end
returns-clause-end c =
    let rest = c.reading.self-inside.rest.now in
    let none : length rest ≡ 0 = grind (arith, nat_tests, c.is_empty.ensures, c.reading-test.ensures) in
    left-none c.reading.self-inside.joiner c.take.result (chars rest) c.args.self.now (no_chars rest none) c.take.ensures.given c.reading.invariant
