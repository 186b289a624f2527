-- Attributes without an id, with one that was seen, and with one that wasn't.
use Rattle.std.proofs.Common.{◌≡◌, ◌∙◌, true, false, ap, sym, refl, codes}
use Rattle.std.specs.Str.{chars}
use Rattle.pur_laws.proofs.Texts.{chars_ascii}
use Rattle.pur_attrlist.specs.Texts.{text_of}
use Rattle.pur_attrs.specs.Private.Along.{seen_in}
use Rattle.pur_attrs.proofs.IdLemmas.{seen-bytes, seen-more, none-left, none-seen, again-left, again-seen, first-left, first-seen}
use Rattle.pur_attrs.proofs.ids.keep_first_id.Goals as goal

pub returns-in-None-clause-attrs : goal.returns-in-None-clause-attrs
returns-in-None-clause-attrs c =
    none-left (chars c.args.prefix.now) (seen_in c.args.seen.now) c.args.attrs.now (rw (chars_ascii (codes "id") refl) at c.in-None.ensures)

pub returns-in-None-clause-seen : goal.returns-in-None-clause-seen
returns-in-None-clause-seen c =
    none-seen (chars c.args.prefix.now) (seen_in c.args.seen.now) c.args.attrs.now (rw (chars_ascii (codes "id") refl) at c.in-None.ensures)

pub returns-then-contains-clause-attrs : goal.returns-then-contains-clause-attrs
returns-then-contains-clause-attrs c =
    let seen = c.args.seen.now in
    let get = rw (chars_ascii (codes "id") refl) at c.in-Some.ensures in
    let is = ap chars c.as_str.ensures.value in
    let was : seen_in seen (text_of c.in_ok-id-in-Some.id) ≡ true =
    ap (seen_in seen) (sym is) ∙ sym (seen-bytes seen c.as_str.result.now c.as_str.utf8) ∙ sym c.if-contains.ensures in
    let removed = rw (chars_ascii (codes "id") refl) at c.remove.ensures.rest in
    removed ∙ again-left (chars c.args.prefix.now) (seen_in seen) c.args.attrs.now (chars c.in-Some.id.now) (text_of c.in_ok-id-in-Some.id) get c.in_ok-id-in-Some.ensures was

pub returns-then-contains-clause-seen : goal.returns-then-contains-clause-seen
returns-then-contains-clause-seen c =
    let seen = c.args.seen.now in
    let get = rw (chars_ascii (codes "id") refl) at c.in-Some.ensures in
    let is = ap chars c.as_str.ensures.value in
    let was : seen_in seen (text_of c.in_ok-id-in-Some.id) ≡ true =
    ap (seen_in seen) (sym is) ∙ sym (seen-bytes seen c.as_str.result.now c.as_str.utf8) ∙ sym c.if-contains.ensures in
    again-seen (chars c.args.prefix.now) (seen_in seen) c.args.attrs.now (chars c.in-Some.id.now) (text_of c.in_ok-id-in-Some.id) get c.in_ok-id-in-Some.ensures was

pub returns-clause-attrs : goal.returns-clause-attrs
returns-clause-attrs c =
    let seen = c.args.seen.now in
    let get = rw (chars_ascii (codes "id") refl) at c.in-Some.ensures in
    let is = ap chars c.as_str.ensures.value in
    let was : seen_in seen (text_of c.in_ok-id-in-Some.id) ≡ false =
    ap (seen_in seen) (sym is) ∙ sym (seen-bytes seen c.as_str.result.now c.as_str.utf8) ∙ sym c.if-contains.ensures in
    let put = rw (chars_ascii (codes "id") refl, c.as_str-2.ensures.value) at c.in_ok-set.ensures.ok in
    put ∙ first-left (chars c.args.prefix.now) (seen_in seen) c.args.attrs.now (chars c.in-Some.id.now) (text_of c.in_ok-id-in-Some.id) get c.in_ok-id-in-Some.ensures was

pub returns-clause-seen : goal.returns-clause-seen
returns-clause-seen c =
    let seen = c.args.seen.now in
    let get = rw (chars_ascii (codes "id") refl) at c.in-Some.ensures in
    λ text. seen-more seen c.insert.new.self c.in_ok-id-in-Some.id c.in_ok-insert.ensures.keys text
    ∙ first-seen (chars c.args.prefix.now) (seen_in seen) c.args.attrs.now (chars c.in-Some.id.now) (text_of c.in_ok-id-in-Some.id) get c.in_ok-id-in-Some.ensures text
