use Rattle.std.proofs.Common.{◌∙◌, sym, string_bytes}
use Rattle.std.proofs.lemmas.List.Folds.{list_all-map}
use Rattle.pur_text.specs.Hosts.{is_host}
use Rattle.pur_uri_rows.proofs.gate.all_are_hosts.Goals as goal

pub returns : goal.returns
returns c = c.each_is_host.ensures ∙ sym (list_all-map is_host string_bytes c.args.texts.now)
