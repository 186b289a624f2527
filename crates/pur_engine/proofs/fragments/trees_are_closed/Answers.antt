use Rattle.pur_lexer.specs.Lexing.{tokens_of}
use Rattle.pur_engine.specs.Purified.{closed_tree, kept_tokens}
use Rattle.pur_engine.proofs.fragments.trees_are_closed.Goals as goal

pub returns : goal.returns
returns c rules rule text =
    let kept = kept_tokens rules rule text in
    let can = c.kept_is_permitted.ensures rules rule (tokens_of text) (c.tokens_are_joined.ensures.texts text) in
    record {
      closed = c.stands_closed.ensures rules (closed_tree rules rule text) (c.closed_stands.ensures rules kept can);
      tree = c.closed_has_tree.ensures rules kept can;
      forest = c.closed_is_forest.ensures rules kept can;
    }
