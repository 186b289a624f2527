use Rattle.pur_attrs.proofs.DocumentLemmas.{valid}
use Rattle.pur_attrs.proofs.laws.gives_valid_attributes.Goals as goal

pub returns : goal.returns
returns c rules rule nodes begins allowed sources =
    valid rules rule nodes
    (record {
      values = c.canonical_is_read_as_itself.ensures;
      allowed = c.values_are_allowed.ensures;
      uris = c.uris_are_read_again.ensures;
      uris_allowed = c.uris_are_allowed.ensures;
      characters = c.text_is_canonical.ensures;
      styles = c.styles_are_read_as_themselves.ensures;
      styles_allowed = c.styles_are_allowed.ensures;
    })
    begins allowed sources
