-- Expressions whose ways have disjoint steps: those of the content kinds, and each that has one step alone.
use Rattle.std.proofs.Common.{◌≡◌, false, true, not, ◌&&◌, List, [], ◌∷◌, refl, ap, ◌∙◌}
use Rattle.std.specs.List.{list_all, list_any}
use Rattle.pur_modules.specs.declared.kinds.Child.{Child}
use Rattle.pur_modules.specs.declared.kinds.Content.{Content}
use Rattle.pur_modules.specs.declared.kinds.Doctype.{Doctype}
use Rattle.pur_modules.specs.Expressions.{Step, expression_of, one_step}
use Rattle.pur_modules.proofs.KindLaws.{each_kind}
use Rattle.pur_models.specs.Languages.{AreDisjoint, has_disjoint_steps, has_letter}

pub AreDisjoint-expression_of : (doctype : Doctype) (content : Content) → AreDisjoint (expression_of doctype content)
AreDisjoint-expression_of doctype content = each_kind (λ d k. list_all has_disjoint_steps (expression_of d k)) refl doctype content

pub expression_is_disjoint : (doctype : Doctype) (content : Content) (ways : List (List Step)) → ways ≡ expression_of doctype content → AreDisjoint ways
expression_is_disjoint doctype content ways is = ap (list_all has_disjoint_steps) is ∙ AreDisjoint-expression_of doctype content

none_among : (letters : List Child) → list_any (has_letter []) letters ≡ false
none_among [] = refl
none_among (letter ∷ letters) = none_among letters

pub one_step_is_disjoint : (step : Step) → AreDisjoint (one_step step)
one_step_is_disjoint step = ap (λ b. (not b && true) && true) (none_among step.letters)
