use Rattle.std.proofs.Common.{◌≡◌, ◌∙◌, None, true, false, ap, sym}
use Rattle.std.specs.Str.{chars}
use Rattle.std.proofs.lemmas.Bool.{cond-false, cond-true}
use Rattle.std.proofs.lemmas.Result.{IfOk-weaker}
use Rattle.pur_csstok.specs.Urls.{url_read}
use Rattle.pur_csstok.specs.Written.{pair_of}
use Rattle.pur_absolute.specs.Absolute.{takes_url, url_in}
use Rattle.pur_absolute.proofs.styles.url_in.Goals as goal

pub returns-then-not-takes_url : goal.returns-then-not-takes_url
unfolding url_in
returns-then-not-takes_url c =
    let pair = pair_of c.args.declaration.now in
    let isnt : takes_url pair.0 ≡ false = sym (c.if-not-takes_url.ensures ∙ ap (λ t. takes_url (chars t)) c.as_str.ensures.value) in
    sym (cond-false (takes_url pair.0) (url_read pair.1) None isnt)

pub returns : goal.returns
unfolding url_in
returns c =
    let pair = pair_of c.args.declaration.now in
    let is : takes_url pair.0 ≡ true = sym (c.if-not-takes_url.ensures ∙ ap (λ t. takes_url (chars t)) c.as_str.ensures.value) in
    IfOk-weaker c.read_url.result _ _
    (λ url read. read ∙ ap (λ t. url_read (chars t)) c.as_str-2.ensures.value ∙ sym (cond-true (takes_url pair.0) (url_read pair.1) None is))
    c.read_url.ensures
