use Rattle.std.proofs.Common.{◌≡◌, ◌∙◌, sym, ap, string_bytes, true, false}
use Rattle.std.specs.Str.{chars}
use Rattle.pur_text.specs.Characters.{is_blank}
use Rattle.pur_tree.specs.Image.{node_before}
use Rattle.pur_tree.specs.Words.{word_of}
use Rattle.pur_tree.proofs.NodeLemmas.{before_text, before_elem}
use Rattle.pur_reader.proofs.JudgingLemmas.{text_letter, blank_or_not}
use Rattle.pur_reader.proofs.words.letter_of.Goals as goal

pub returns-then-has_text : goal.returns-then-has_text
returns-then-has_text c = λ rest.
    ap (word_of c.args.has_text) (ap (λ n. node_before n rest) c.in-Text.is ∙ before_text c.in-Text.text rest)
    ∙ text_letter c.args.has_text (chars (string_bytes c.in-Text.text)) rest c.if-has_text.true

pub returns-then-is_blank : goal.returns-then-is_blank
returns-then-is_blank c = λ rest.
    let blank : is_blank (chars (string_bytes c.in-Text.text)) ≡ true = rw c.as_str.ensures.value at (sym c.is_blank.ensures ∙ c.if-is_blank.true) in
    ap (word_of c.args.has_text) (ap (λ n. node_before n rest) c.in-Text.is ∙ before_text c.in-Text.text rest)
    ∙ blank_or_not c.args.has_text (chars (string_bytes c.in-Text.text)) rest true c.if-has_text.false blank

pub returns-else-is_blank : goal.returns-else-is_blank
returns-else-is_blank c = λ rest.
    let blank : is_blank (chars (string_bytes c.in-Text.text)) ≡ false = rw c.as_str.ensures.value at (sym c.is_blank.ensures ∙ c.if-is_blank.false) in
    ap (word_of c.args.has_text) (ap (λ n. node_before n rest) c.in-Text.is ∙ before_text c.in-Text.text rest)
    ∙ blank_or_not c.args.has_text (chars (string_bytes c.in-Text.text)) rest false c.if-has_text.false blank

pub returns-in-Elem : goal.returns-in-Elem
returns-in-Elem c = λ rest.
    ap (word_of c.args.has_text) (ap (λ n. node_before n rest) c.in-Elem.is ∙ before_elem c.in-Elem.elem.name c.in-Elem.elem.attrs c.in-Elem.elem.children rest)
