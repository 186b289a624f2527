-- The value is trimmed and looked up by its characters.
use Rattle.std.proofs.Common.{◌≡◌, List, ℕ, Bor, Some, ap, sym, ◌∙◌, refl, codes}
use Rattle.std.specs.Str.{chars}
use Rattle.pur_laws.proofs.Texts.{chars_ascii}
use Rattle.pur_attrlist.specs.Attributes.{value_of}
use Rattle.pur_foreign.specs.Strict.{size_named, size_of}
use Rattle.pur_foreign.proofs.StrictLemmas.{size-chars, plain-answer}
use Rattle.pur_foreign.proofs.strict.font_size.Goals as goal

pub returns-in-Some : goal.returns-in-Some
returns-in-Some c =
    let found : value_of c.args.attrs.now (codes "size") ≡ Some (chars c.in-Some.size.now) = sym (rw (chars_ascii (codes "size") refl) at c.in-Some.ensures) in
    plain-answer (λ (b : Bor (List ℕ)). b.now) c.size_named.result (size_of (value_of c.args.attrs.now (codes "size")))
    (c.size_named.ensures.value ∙ sym (size-chars c.trim.result.now c.trim.utf8) ∙ ap size_named c.trim.ensures ∙ ap size_of (sym found))
    c.size_named.ensures.plain

pub returns-in-None : goal.returns-in-None
returns-in-None c = ap size_of (rw (chars_ascii (codes "size") refl) at c.in-None.ensures)
