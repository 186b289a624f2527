-- Repair keeps what is permitted, what may be spelled, and that nothing stands in what excludes it.
use Rattle.std.proofs.Common.{◌≡◌, List, [], ◌∷◌, Bool, true, false, not, ◌&&◌, ◌||◌, refl, ap, sym, ◌∙◌}
use Rattle.std.proofs.lemmas.Bool.{and_from, and_parts, not-true}
use Rattle.std.proofs.lemmas.List.Folds.{list_all-append}
use Rattle.pur_text.specs.Characters.{is_allowed}
use Rattle.pur_names.specs.declared.elements.Element.{Element}
use Rattle.pur_names.specs.declared.elements.Element.TheVariants.{Caption, P, Table, Tbody, Tfoot, Thead, Tr}
use Rattle.pur_names.proofs.ElementLaws.{each_element}
use Rattle.pur_modules.specs.Contents.{is_excluded, is_excluded_in}
use Rattle.pur_attrlist.specs.Attributes.{Attribute}
use Rattle.pur_tree.specs.Nodes.{Nodes, no_nodes, text_first, elem_first}
use Rattle.pur_tree.specs.Properties.{Holds, free, permitted, pictures, allowed, distinct}
use Rattle.pur_nesting.specs.declared.permits.Permits.{Permits}
use Rattle.pur_nesting.specs.Private.Keeping.{StaysInRepair}

-- nothing excludes paragraphs and bodies
never_excluded : (e : Element) → (not (is_excluded e P) && not (is_excluded e Tbody)) ≡ true
never_excluded = each_element (λ e. not (is_excluded e P) && not (is_excluded e Tbody)) refl

put_in : (outer : List Element) → (is_excluded_in outer P ≡ false) × (is_excluded_in outer Tbody ≡ false)
put_in [] = (refl, refl)
put_in (e ∷ outer) =
    let each = and_parts (not (is_excluded e P)) (not (is_excluded e Tbody)) (never_excluded e) in
    let rest = put_in outer in
    (rw (not-true (is_excluded e P) each.0) rest.0, rw (not-true (is_excluded e Tbody) each.1) rest.1)

-- elements round that exclude the same
same_excluded : (a b : List Element) (f : Nodes) → ((e : Element) → is_excluded_in a e ≡ is_excluded_in b e) → Holds free a f → Holds free b f
same_excluded a b no_nodes same h = tt
same_excluded a b (text_first s f) same h = (tt, same_excluded a b f same h.1)
same_excluded a b (elem_first e kids f) same h = (
  sym (same e.name) ∙ h.0,
  same_excluded (e.name ∷ a) (e.name ∷ b) kids (λ x. ap (λ r. is_excluded e.name x || r) (same x)) h.1,
  same_excluded a b f same h.2,
)

pub free_stays : (p : Permits) → StaysInRepair free p
free_stays p = record {
  joined = λ w s t h k. tt;
  paragraph = λ yes w attrs h. (put_in w).0;
  caption = λ w kids h. same_excluded (Caption ∷ Table ∷ w) (P ∷ w) kids (λ e. refl) h;
  head = λ yes w attrs h. (put_in (Table ∷ w)).1;
  foot = λ yes w attrs h. (put_in (Table ∷ w)).1;
  body = λ w attrs h. h;
  in_head = λ w kids h. same_excluded (Thead ∷ Table ∷ w) (Tbody ∷ Table ∷ w) kids (λ e. refl) h;
  in_foot = λ w kids h. same_excluded (Tfoot ∷ Table ∷ w) (Tbody ∷ Table ∷ w) kids (λ e. refl) h;
  out_of_head = λ w kids h. same_excluded (Thead ∷ Table ∷ w) (Table ∷ w) kids (λ e. refl) h;
  out_of_foot = λ w kids h. same_excluded (Tfoot ∷ Table ∷ w) (Table ∷ w) kids (λ e. refl) h;
  row = λ w attrs h. h;
  in_row = λ w kids h. same_excluded (Tr ∷ Table ∷ w) (Tr ∷ Tbody ∷ Table ∷ w) kids (λ e. refl) h;
  beside_rows = λ w s h. tt;
}

pub permitted_stays : (permits : Element → Bool) (p : Permits) → (p.paragraph ≡ true → permits P ≡ true)
    → (p.tbody ≡ true → permits Tbody ≡ true) → StaysInRepair (permitted permits) p
permitted_stays permits p paragraph body = record {
  joined = λ w s t h k. tt;
  paragraph = λ yes w attrs h. paragraph yes;
  caption = λ w kids h. h;
  head = λ yes w attrs h. body yes;
  foot = λ yes w attrs h. body yes;
  body = λ w attrs h. h;
  in_head = λ w kids h. h;
  in_foot = λ w kids h. h;
  out_of_head = λ w kids h. h;
  out_of_foot = λ w kids h. h;
  row = λ w attrs h. h;
  in_row = λ w kids h. h;
  beside_rows = λ w s h. tt;
}

-- what is put in is no picture
pub pictures_stay : (test : List Attribute → Bool) (p : Permits) → StaysInRepair (pictures test) p
pictures_stay test p = record {
  joined = λ w s t h k. tt;
  paragraph = λ yes w attrs h. refl;
  caption = λ w kids h. h;
  head = λ yes w attrs h. refl;
  foot = λ yes w attrs h. refl;
  body = λ w attrs h. refl;
  in_head = λ w kids h. h;
  in_foot = λ w kids h. h;
  out_of_head = λ w kids h. h;
  out_of_foot = λ w kids h. h;
  row = λ w attrs h. h;
  in_row = λ w kids h. h;
  beside_rows = λ w s h. tt;
}

pub allowed_stays : (p : Permits) → StaysInRepair allowed p
allowed_stays p = record {
  joined = λ w s t h k. list_all-append is_allowed s t ∙ and_from _ _ h k;
  paragraph = λ yes w attrs h. refl;
  caption = λ w kids h. h;
  head = λ yes w attrs h. h;
  foot = λ yes w attrs h. h;
  body = λ w attrs h. refl;
  in_head = λ w kids h. h;
  in_foot = λ w kids h. h;
  out_of_head = λ w kids h. h;
  out_of_foot = λ w kids h. h;
  row = λ w attrs h. h;
  in_row = λ w kids h. h;
  beside_rows = λ w s h. h;
}

pub distinct_stays : (p : Permits) → StaysInRepair distinct p
distinct_stays p = record {
  joined = λ w s t h k. tt;
  paragraph = λ yes w attrs h. refl;
  caption = λ w kids h. h;
  head = λ yes w attrs h. h;
  foot = λ yes w attrs h. h;
  body = λ w attrs h. refl;
  in_head = λ w kids h. h;
  in_foot = λ w kids h. h;
  out_of_head = λ w kids h. h;
  out_of_foot = λ w kids h. h;
  row = λ w attrs h. h;
  in_row = λ w kids h. h;
  beside_rows = λ w s h. tt;
}
