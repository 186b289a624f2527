use Rattle.pur_modules.specs.Expressions.{expression_of}
use Rattle.pur_models.proofs.CuttingLemmas.{IsInLanguage-cut, cut-IsInLanguage}
use Rattle.pur_models.proofs.ExpressionLemmas.{AreDisjoint-expression_of}
use Rattle.pur_models.proofs.laws.words_are_decided.Goals as goal

pub returns : goal.returns
returns c doctype content word =
    (IsInLanguage-cut (expression_of doctype content) word, λ w. cut-IsInLanguage w (AreDisjoint-expression_of doctype content))
