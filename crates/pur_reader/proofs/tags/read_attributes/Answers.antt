use Rattle.std.proofs.Common.{◌≡◌, ◌∙◌, ◌++◌, ◌∷◌, [], ap, sym, subst, true, false, not}
use Rattle.std.specs.Str.{chars}
use Rattle.std.proofs.lemmas.Bool.{not-true, not-false}
use Rattle.pur_laws.proofs.Cases.{empty-chars}
use Rattle.pur_text.specs.Texts.{text_of}
use Rattle.pur_attrlist.specs.Attributes.{Attribute, has_name}
use Rattle.pur_tree.specs.Spelling.{attributes_text, attribute_text, are_spellable, is_spellable_attribute}
use Rattle.pur_reader.specs.Private.Tags.{IsTagRest, is_end, end_text}
use Rattle.pur_reader.proofs.OptionLemmas.{from_some, from_none}
use Rattle.pur_reader.proofs.TagLemmas.{begins, is_end_text, attribute_taken, name_taken, new_is_last, one_more_is_good, attributes_text-push}
use Rattle.pur_reader.proofs.tags.read_attributes.Goals as goal

pub returns-then-not-is_new-clause-none : goal.returns-then-not-is_new-clause-none
returns-then-not-is_new-clause-none c = λ w.
    let pair : Attribute = (text_of c.in-Some.name, text_of c.in-Some.value) in
    let attrs = c.reading.attrs in
    let rest = chars c.reading.rest.now in
    let behind = chars c.in-Some.behind.now in
    let some : rest ≡ attribute_text pair ++ behind = from_some _ c.in_ok-read.read _ c.in-Some.is c.in_ok-read.ensures.some in
    let good : is_spellable_attribute pair ≡ true = from_some _ c.in_ok-read.read _ c.in-Some.is c.in_ok-read.ensures.good in
    let other : is_end rest ≡ false = sym c.is_tag_end.ensures ∙ c.reading-test.true in
    let has : has_name attrs pair.0 ≡ true = not-false _ (sym c.in_ok-is_new-in-Some.ensures.new ∙ c.if-not-is_new.true) in
    name_taken attrs pair rest behind good some has (begins attrs rest (c.reading.invariant.left w) other)

pub reading-preserved : goal.reading-preserved
reading-preserved c =
    let pair : Attribute = (text_of c.in-Some.name, text_of c.in-Some.value) in
    let attrs = c.reading.attrs in
    let rest = chars c.reading.rest.now in
    let behind = chars c.in-Some.behind.now in
    let some : rest ≡ attribute_text pair ++ behind = from_some _ c.in_ok-read.read _ c.in-Some.is c.in_ok-read.ensures.some in
    let good : is_spellable_attribute pair ≡ true = from_some _ c.in_ok-read.read _ c.in-Some.is c.in_ok-read.ensures.good in
    let other : is_end rest ≡ false = sym c.is_tag_end.ensures ∙ c.reading-test.true in
    let new : has_name attrs pair.0 ≡ false = not-true _ (sym c.in_ok-is_new-in-Some.ensures.new ∙ c.if-not-is_new.false) in
    let more : c.push_if_new.new.self ≡ attrs ++ pair ∷ [] = c.in_ok-is_new-in-Some.ensures.ok ∙ new_is_last attrs pair.0 pair.1 new in
    record {
      utf8 = from_some _ c.in_ok-read.read _ c.in-Some.is c.in_ok-read.ensures.text;
      is = ap (λ a. attributes_text a ++ behind) more ∙ attributes_text-push attrs pair behind ∙ ap (λ t. attributes_text attrs ++ t) (sym some) ∙ c.reading.invariant.is;
      good = ap are_spellable more ∙ one_more_is_good attrs pair.0 pair.1 c.reading.invariant.good good new;
      left = λ w. subst (λ a. IsTagRest a behind) (sym more) (attribute_taken attrs pair rest behind good some (begins attrs rest (c.reading.invariant.left w) other));
    }

pub returns-in-None-clause-none : goal.returns-in-None-clause-none
returns-in-None-clause-none c = λ w.
    let rest = chars c.reading.rest.now in
    let other : is_end rest ≡ false = sym c.is_tag_end.ensures ∙ c.reading-test.true in
    let b = begins c.reading.attrs rest (c.reading.invariant.left w) other in
    from_none _ c.in_ok-read.read c.in-None.is c.in_ok-read.ensures.none b.pair _ b.one b.is

pub returns-clause-some : goal.returns-clause-some
returns-clause-some c =
    let rest = chars c.reading.rest.now in
    let ends : is_end rest ≡ true = sym c.is_tag_end.ensures ∙ c.reading-test.false in
    sym c.reading.invariant.is ∙ ap (λ t. attributes_text c.reading.attrs ++ t) (is_end_text rest ends)
    ∙ ap (λ b. attributes_text c.reading.attrs ++ end_text (not b)) (sym (empty-chars c.reading.rest.now c.reading.invariant.utf8) ∙ sym c.is_empty.ensures)
