-- Each style is plain.
use Rattle.std.proofs.Common.{◌≡◌, [], ◌∙◌, ap, refl, rules, codes}
use Rattle.std.specs.Str.{chars}
use Rattle.std.proofs.lemmas.Str.{chars-nil}
use Rattle.pur_foreign.specs.Strict.{style_text}
use Rattle.pur_foreign.proofs.TextLemmas.{made-plain}
use Rattle.pur_foreign.proofs.strict.style_text.Goals as goal

pub returns-in-Center : goal.returns-in-Center
returns-in-Center c = rw c.in-Center.is (made-plain c.from_str.result (codes "text-align:center;") refl c.from_str.ensures.ok)

pub returns-in-U : goal.returns-in-U
returns-in-U c = rw c.in-U.is (made-plain c.from_str-in-U.result (codes "text-decoration:underline;") refl c.from_str-in-U.ensures.ok)

pub returns-in-S : goal.returns-in-S
returns-in-S c = rw c.in-S.is (made-plain c.from_str-in-S.result (codes "text-decoration:line-through;") refl c.from_str-in-S.ensures.ok)

pub returns-in-Strike : goal.returns-in-Strike
returns-in-Strike c = rw c.in-Strike.is (made-plain c.from_str-in-Strike.result (codes "text-decoration:line-through;") refl c.from_str-in-Strike.ensures.ok)

pub returns-in_default : goal.returns-in_default
returns-in_default c =
    let none : [] ≡ style_text c.args.element c.args.attrs.now = search rules in
    ap chars c.new.ensures.bytes ∙ chars-nil ∙ none
