use Rattle.std.proofs.Common.{◌∙◌, Some, ap, sym}
use Rattle.std.specs.Option.{option_map}
use Rattle.pur_csstok.specs.Urls.{url_text}
use Rattle.pur_uri.specs.Uris.{uri_text}
use Rattle.pur_cssprops.specs.Forms.{embedded}
use Rattle.pur_cssprops.proofs.images.embedded.Goals as goal

pub returns-in_ok-url-in-Some : goal.returns-in_ok-url-in-Some
unfolding embedded
returns-in_ok-url-in-Some g c =
    ap Some c.in_ok-url-in-Some.ensures ∙ ap (option_map (λ uri. url_text (uri_text uri))) (sym c.in-Some.is ∙ c.in_ok-uri.ensures)

pub returns-in-None : goal.returns-in-None
unfolding embedded
returns-in-None g c = ap (option_map (λ uri. url_text (uri_text uri))) (sym c.in-None.is ∙ c.in_ok-uri.ensures)
