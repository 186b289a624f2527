use Rattle.std.proofs.Common.{◌∙◌, ap, sym}
use Rattle.pur_laws.proofs.Cases.{test-chars}
use Rattle.pur_csstok.specs.Names.{is_one_of}
use Rattle.pur_cssprops.specs.Keywords.{words_in}
use Rattle.pur_cssprops.proofs.KeywordLemmas.{keyword-ascii}
use Rattle.pur_cssprops.proofs.keywords.has.Goals as goal

pub returns : goal.returns
returns c =
    let keywords = c.args.keywords in
    c.is_one_of.ensures ∙ ap (λ words. is_one_of words c.as_bytes.result.now) c.words_in.ensures ∙ ap (is_one_of (words_in keywords)) c.as_bytes.ensures.value
    ∙ sym (test-chars (is_one_of (words_in keywords)) (keyword-ascii keywords) c.args.word.now c.utf8.word)
