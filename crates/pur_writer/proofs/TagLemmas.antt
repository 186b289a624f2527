-- Tags are ASCII, so they are their own UTF-8.
use Rattle.std.proofs.Common.{◌≡◌, ℕ, List, ◌++◌, encode_utf8_all, refl, ap, sym, ◌∙◌, append_assoc, true, codes}
use Rattle.std.specs.Prelude.{nat_lt}
use Rattle.std.specs.List.{list_all}
use Rattle.std.proofs.lemmas.Bool.{and_from}
use Rattle.std.proofs.lemmas.List.Folds.{list_all-append}
use Rattle.std.proofs.lemmas.Str.{encodes-append}
use Rattle.pur_names.proofs.ElementLaws.{element_name-ascii}
use Rattle.pur_laws.proofs.Texts.{encodes_past, is_ascii}
use Rattle.pur_names.specs.declared.elements.Element.{Element}
use Rattle.pur_names.specs.Elements.{element_name}
use Rattle.pur_tree.specs.Nodes.{PlainElem}
use Rattle.pur_tree.specs.Spelling.{attributes_text, start_tag_of, end_tag_of, empty_tag_of}

-- a tag with attributes, and more: its brackets and its name are ASCII
encode-tag : (end : List ℕ) (e : PlainElem) (more : List ℕ) → list_all is_ascii end ≡ true
    → encode_utf8_all ((codes "<" ++ (element_name e.name ++ (attributes_text e.attrs ++ end))) ++ more)
    ≡ (codes "<" ++ (element_name e.name ++ (encode_utf8_all (attributes_text e.attrs) ++ end))) ++ encode_utf8_all more
encode-tag end e more low =
    let name = element_name e.name in
    let attrs = attributes_text e.attrs in
    ap encode_utf8_all (regroup (codes "<") name attrs end more)
    ∙ encodes_past (codes "<") (name ++ (attrs ++ (end ++ more))) refl
    ∙ ap (λ l. codes "<" ++ l) (encodes_past name (attrs ++ (end ++ more)) (element_name-ascii e.name)
    ∙ ap (λ l. name ++ l) (encodes-append attrs (end ++ more) ∙ ap (λ l. encode_utf8_all attrs ++ l) (encodes_past end more low)))
    ∙ sym (regroup (codes "<") name (encode_utf8_all attrs) end (encode_utf8_all more))
  where
    regroup : (a b c d m : List ℕ) → (a ++ (b ++ (c ++ d))) ++ m ≡ a ++ (b ++ (c ++ (d ++ m)))
    regroup a b c d m = simp append_assoc

-- the bytes of a tag with attributes and this end
abbrev pub tag_bytes : PlainElem → List ℕ → List ℕ
tag_bytes e end = codes "<" ++ (element_name e.name ++ (encode_utf8_all (attributes_text e.attrs) ++ end))

pub encode-start_tag : (e : PlainElem) (more : List ℕ) → encode_utf8_all (start_tag_of e ++ more) ≡ tag_bytes e (codes ">") ++ encode_utf8_all more
encode-start_tag e more = encode-tag (codes ">") e more refl

pub encode-empty_tag : (e : PlainElem) (more : List ℕ) → encode_utf8_all (empty_tag_of e ++ more) ≡ tag_bytes e (codes " />") ++ encode_utf8_all more
encode-empty_tag e more = encode-tag (codes " />") e more refl

pub encode-end_tag : (e : Element) (more : List ℕ) → encode_utf8_all (end_tag_of e ++ more) ≡ end_tag_of e ++ encode_utf8_all more
encode-end_tag e more =
    let is_low = λ (c : ℕ). nat_lt c 128 in
    let name_and_back : list_all is_low (element_name e ++ codes ">") ≡ true = list_all-append is_low (element_name e) (codes ">") ∙ and_from _ _ (element_name-ascii e) refl in
    encodes_past (end_tag_of e) more (list_all-append is_low (codes "</") (element_name e ++ codes ">") ∙ and_from _ _ refl name_and_back)
