-- Where the settings permit no element of forms, repair makes words of what each element holds.
use Rattle.std.proofs.Common.{◌≡◌, Bool, true, false, not, ◌&&◌, ◌||◌, refl}
use Rattle.std.specs.List.{list_all}
use Rattle.std.proofs.lemmas.Bool.{and_parts, not-true}
use Rattle.pur_names.specs.declared.elements.Element.{Element}
use Rattle.pur_names.specs.declared.elements.Element.TheVariants.{P, Tbody}
use Rattle.pur_names.specs.Elements.{all_elements, same_element}
use Rattle.pur_names.proofs.ElementLaws.{each_element}
use Rattle.pur_modules.specs.declared.kinds.Content.{Content}
use Rattle.pur_modules.specs.declared.kinds.Doctype.{Doctype}
use Rattle.pur_modules.specs.Contents.{content_held}
use Rattle.pur_modules.specs.Groups.{is_among, elements_of, of_forms}
use Rattle.pur_modules.proofs.KindLaws.{each_kind}
use Rattle.pur_settings.specs.Rules.{Rules, is_listed, permits_element}
use Rattle.pur_tree.specs.Nodes.{Nodes, no_nodes, text_first, elem_first}
use Rattle.pur_tree.specs.Properties.{Holds, letters, permitted}
use Rattle.pur_tree.specs.Words.{HaveWords}
use Rattle.pur_nesting.specs.Nesting.{nested, permits_of}
use Rattle.pur_nesting.specs.Repaired.{is_repaired, HaveRepairedWords}
use Rattle.pur_nesting.proofs.HoldsLemmas.{Holds-nested}
use Rattle.pur_nesting.proofs.JoinedWordsLemmas.{HaveWords-nested}
use Rattle.pur_nesting.proofs.KeptLemmas.{permitted_stays}

-- repair makes words of what an element holds that is none of forms
abbrev is_repaired_outside : Doctype → Content → Element → Bool
is_repaired_outside d k e = is_among of_forms e || is_repaired (content_held d e k)

all_repaired_outside : (d : Doctype) (k : Content) → list_all (is_repaired_outside d k) all_elements ≡ true
unfolding content_held
all_repaired_outside d k = each_kind (λ d k. list_all (is_repaired_outside d k) all_elements) refl d k

repaired_if_permitted : (rules : Rules) (k : Content) (e : Element) → rules.forms ≡ false → permits_element rules e ≡ true
    → is_repaired (content_held rules.doctype e k) ≡ true
repaired_if_permitted rules k e none is =
    let admitted = (and_parts (is_among (elements_of rules.doctype) e) _ is).1 in
    let outside : is_among of_forms e ≡ false =
    not-true _ (and_parts (not (is_among of_forms e)) (is_listed rules.elements rules.denied_elements (same_element e)) (rw none at admitted)).0 in
    rw outside at (each_element (is_repaired_outside rules.doctype k) (all_repaired_outside rules.doctype k) e)

all_words : (rules : Rules) (k : Content) (f : Nodes) → rules.forms ≡ false → Holds (permitted (permits_element rules)) tt f
    → HaveRepairedWords rules.doctype k f → HaveWords rules.doctype k f
all_words rules k no_nodes none p h = tt
all_words rules k (text_first s f) none p h = all_words rules k f none p.1 h
all_words rules k (elem_first e kids f) none p h = (
  h.0 (repaired_if_permitted rules k e.name none p.0),
  all_words rules (content_held rules.doctype e.name k) kids none p.1 h.1,
  all_words rules k f none p.2 h.2,
)

pub all_words_nested : (rules : Rules) (k : Content) (f : Nodes) → rules.forms ≡ false → Holds (letters rules.doctype) k f
    → Holds (permitted (permits_element rules)) tt f → HaveWords rules.doctype k (nested (permits_of rules) f)
all_words_nested rules k f none l p =
    let stays = permitted_stays (permits_element rules) (permits_of rules) (λ is. is) (λ is. is) in
    all_words rules k (nested (permits_of rules) f) none (Holds-nested (permitted (permits_element rules)) (permits_of rules) stays tt f p)
    (HaveWords-nested rules.doctype (permits_of rules) k f l)
