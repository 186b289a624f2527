use Rattle.std.specs.Prelude.{filter}
use Rattle.pur_laws.proofs.Lists.{all-kept}
use Rattle.pur_tokens.specs.Joining.{is_some_token}
use Rattle.pur_tokens.proofs.JoiningLaws.{neighbours-joined, some-joined}
use Rattle.pur_lexer.specs.Lexing.{given_behind, tokens_of}
use Rattle.pur_lexer.proofs.laws.tokens_are_joined.Goals as goal

pub returns : goal.returns
unfolding tokens_of
returns c = record {
  neighbours = λ text. neighbours-joined (filter is_some_token (given_behind 0 text));
  texts = λ text. some-joined (filter is_some_token (given_behind 0 text)) (all-kept is_some_token (given_behind 0 text));
}
