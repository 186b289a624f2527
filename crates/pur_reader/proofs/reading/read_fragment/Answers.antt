use Rattle.std.proofs.Common.{◌≡◌, ◌∙◌, sym, ap, subst, append-nil, [], refl, encode_utf8_all}
use Rattle.std.specs.Str.{chars}
use Rattle.pur_tree.specs.Spelling.{AreSpelled}
use Rattle.std.proofs.lemmas.Str.{encodes-chars, chars-encodes}
use Rattle.pur_reader.specs.Private.Reading.{Left, left_nothing}
use Rattle.pur_reader.proofs.OptionLemmas.{from_none, if_some}
use Rattle.pur_reader.proofs.LeftLemmas.{left_spelled}
use Rattle.pur_reader.proofs.StepLemmas.{if_ok}
use Rattle.pur_reader.proofs.WrittenLemmas.{spelled_scalars}
use Rattle.pur_reader.proofs.reading.read_fragment.Goals as goal

pub returns-in-Ok-clause-spelled : goal.returns-in-Ok-clause-spelled
returns-in-Ok-clause-spelled c =
    let e = c.in-Ok.ensures in
    if_ok _ _ c.read_nodes.result (λ found h. if_some _ _ found (λ forest s. record {
      text = chars c.in-Ok.text.now;
      spells = s;
      in_utf8 = sym (ap (λ t. encode_utf8_all (chars t)) e.0 ∙ encodes-chars c.args.bytes.now e.1);
    }) h) c.read_nodes.ensures.spelled

pub returns-in-Ok-clause-none : goal.returns-in-Ok-clause-none
returns-in-Ok-clause-none c =
    if_ok _ _ c.read_nodes.result (λ found h is nodes low (spelled : AreSpelled nodes c.args.bytes.now).
    let same : chars c.in-Ok.text.now ≡ spelled.text = ap chars (c.in-Ok.ensures.0 ∙ spelled.in_utf8) ∙ chars-encodes spelled.text (spelled_scalars spelled.spells) in
    let left = left_spelled spelled.spells [] [] low refl left_nothing in
    from_none (Left [] (chars c.in-Ok.text.now) → ⊥) found is h (subst (λ t. Left [] t) (append-nil spelled.text ∙ sym same) left)) c.read_nodes.ensures.none

pub returns-in-Err-clause-none : goal.returns-in-Err-clause-none
returns-in-Err-clause-none c = λ u nodes low spelled.
    c.in-Err.ensures (spelled.text, (spelled_scalars spelled.spells, sym spelled.in_utf8))
