use Rattle.std.proofs.Common.{◌∙◌, sym, subst}
use Rattle.std.proofs.lemmas.Str.{encodes_same}
use Rattle.pur_tree.specs.Spelling.{Spells}
use Rattle.pur_reader.proofs.laws.spelling_is_unique.Goals as goal

pub returns : goal.returns
returns c = λ n m bytes a b.
    c.spells_at_most_one.ensures n m b.text (subst (Spells n) (encodes_same a.text b.text (sym a.in_utf8 ∙ b.in_utf8)) a.spells) b.spells
