-- A node is written where its parts are.
use Rattle.std.proofs.Common.{◌≡◌, ℕ, List, ◌++◌, encode_utf8_all, refl, ap, sym, ◌∙◌, true, false, append_assoc, codes}
use Rattle.std.specs.Str.{chars, IsUtf8}
use Rattle.std.proofs.lemmas.Str.{encodes-append, encodes-chars}
use Rattle.pur_modules.specs.Contents.{is_empty_element}
use Rattle.pur_text.specs.Escapes.{escaped}
use Rattle.pur_tree.specs.Nodes.{PlainElem, Nodes, text_first, elem_first}
use Rattle.pur_tree.specs.Spelling.{end_tag_of, spelling_of}
use Rattle.pur_writer.proofs.EscapedLemmas.{encode-escaped}
use Rattle.pur_writer.proofs.TagLemmas.{tag_bytes, encode-start_tag, encode-end_tag, encode-empty_tag}

-- the UTF-8 of an element with children, in its parts
encode-element : (e : PlainElem) (k f : Nodes) → is_empty_element e.name ≡ false
    → encode_utf8_all (spelling_of (elem_first e k f))
    ≡ tag_bytes e (codes ">") ++ (encode_utf8_all (spelling_of k) ++ (end_tag_of e.name ++ encode_utf8_all (spelling_of f)))
encode-element e k f h =
    rw h (encode-start_tag e (spelling_of k ++ (end_tag_of e.name ++ spelling_of f))
    ∙ ap (λ x. tag_bytes e (codes ">") ++ x) (encodes-append (spelling_of k) (end_tag_of e.name ++ spelling_of f)
    ∙ ap (λ x. encode_utf8_all (spelling_of k) ++ x) (encode-end_tag e.name (spelling_of f))))

-- an element is written where its tags and its children are
pub element_written : (e : PlainElem) (k : Nodes) (o a b d : List ℕ) → is_empty_element e.name ≡ false → a ≡ o ++ tag_bytes e (codes ">")
    → b ≡ a ++ encode_utf8_all (spelling_of k) → d ≡ b ++ end_tag_of e.name → (rest : Nodes)
    → d ++ encode_utf8_all (spelling_of rest) ≡ o ++ encode_utf8_all (spelling_of (elem_first e k rest))
element_written e k o a b d h p q r rest =
    let s = tag_bytes e (codes ">") in
    let u = encode_utf8_all (spelling_of k) in
    let t = end_tag_of e.name in
    let v = encode_utf8_all (spelling_of rest) in
    ap (λ x. x ++ v) (r ∙ ap (λ x. x ++ t) (q ∙ ap (λ x. x ++ u) p))
    ∙ regroup o s u t v
    ∙ ap (λ x. o ++ x) (sym (encode-element e k rest h))
  where
    regroup : (o s u t v : List ℕ) → (((o ++ s) ++ u) ++ t) ++ v ≡ o ++ (s ++ (u ++ (t ++ v)))
    regroup o s u t v = simp append_assoc

-- an EMPTY element is written where its tag is
pub empty_written : (e : PlainElem) (k : Nodes) (o d : List ℕ) → is_empty_element e.name ≡ true → d ≡ o ++ tag_bytes e (codes " />") → (rest : Nodes)
    → d ++ encode_utf8_all (spelling_of rest) ≡ o ++ encode_utf8_all (spelling_of (elem_first e k rest))
empty_written e k o d h p rest =
    ap (λ x. x ++ encode_utf8_all (spelling_of rest)) p ∙ append_assoc o (tag_bytes e (codes " />")) (encode_utf8_all (spelling_of rest))
    ∙ ap (λ x. o ++ x) (sym (encode-empty_tag e (spelling_of rest)) ∙ rw h refl)

-- a text is written where its bytes are, with their escapes
pub text_written : (b o d : List ℕ) → IsUtf8 b → d ≡ o ++ escaped b → (rest : Nodes)
    → d ++ encode_utf8_all (spelling_of rest) ≡ o ++ encode_utf8_all (spelling_of (text_first (chars b) rest))
text_written b o d u p rest =
    let v = encode_utf8_all (spelling_of rest) in
    let text : escaped b ≡ encode_utf8_all (escaped (chars b)) = ap escaped (sym (encodes-chars b u)) ∙ sym (encode-escaped (chars b)) in
    ap (λ x. x ++ v) p ∙ append_assoc o (escaped b) v
    ∙ ap (λ x. o ++ x) (ap (λ x. x ++ v) text ∙ sym (encodes-append (escaped (chars b)) (spelling_of rest)))
