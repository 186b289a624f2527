use Rattle.std.proofs.Common.{◌≡◌, ◌∙◌, true, false, ap, sym, codes, rules, IsUtf8, refl}
use Rattle.std.specs.Str.{chars}
use Rattle.pur_laws.proofs.Texts.{chars_ascii}
use Rattle.pur_validity.specs.Attributes.{has_prefix}
use Rattle.pur_reader.specs.Private.Judging.{seen_in, seen_with, seen_behind, ids_right}
use Rattle.pur_reader.proofs.IdLemmas.{begins-alike, seen-bytes, seen-more}
use Rattle.pur_reader.proofs.JudgingLemmas.{one_id, no_id, other_prefix, seen_before, fresh}
use Rattle.pur_reader.proofs.validity.has_new_id.Goals as goal

pub returns-then-not-starts_with-clause-right : goal.returns-then-not-starts_with-clause-right
returns-then-not-starts_with-clause-right c =
    let is : IsUtf8 c.in-Some.id.now = search rules in
    let id = one_id c.args.attrs.now (chars c.in-Some.id.now) (rw (chars_ascii (codes "id") refl) at c.in-Some.ensures) in
    let isnt : has_prefix (chars c.args.prefix.now) (chars c.in-Some.id.now) ≡ false =
    sym (begins-alike c.args.prefix.now c.in-Some.id.now c.utf8.prefix is) ∙ sym (rw (c.as_bytes.ensures.value, c.as_bytes-in-Some.ensures.value) at c.if-not-starts_with.ensures.value) in
    sym (other_prefix (chars c.args.prefix.now) (seen_in c.args.seen.now) c.args.attrs.now (chars c.in-Some.id.now) id isnt)

pub returns-then-contains-clause-right : goal.returns-then-contains-clause-right
returns-then-contains-clause-right c =
    let is : IsUtf8 c.in-Some.id.now = search rules in
    let id = one_id c.args.attrs.now (chars c.in-Some.id.now) (rw (chars_ascii (codes "id") refl) at c.in-Some.ensures) in
    let begins : has_prefix (chars c.args.prefix.now) (chars c.in-Some.id.now) ≡ true =
    sym (begins-alike c.args.prefix.now c.in-Some.id.now c.utf8.prefix is) ∙ sym (rw (c.as_bytes.ensures.value, c.as_bytes-in-Some.ensures.value) at c.if-not-starts_with.ensures.value) in
    let was : seen_in c.args.seen.now (chars c.in-Some.id.now) ≡ true = sym (seen-bytes c.args.seen.now c.in-Some.id.now is) ∙ sym c.if-contains.ensures in
    sym (seen_before (chars c.args.prefix.now) (seen_in c.args.seen.now) c.args.attrs.now (chars c.in-Some.id.now) id begins was)

pub returns-in_ok-insert-in-Some-clause-right : goal.returns-in_ok-insert-in-Some-clause-right
returns-in_ok-insert-in-Some-clause-right c =
    let is : IsUtf8 c.in-Some.id.now = search rules in
    let id = one_id c.args.attrs.now (chars c.in-Some.id.now) (rw (chars_ascii (codes "id") refl) at c.in-Some.ensures) in
    let begins : has_prefix (chars c.args.prefix.now) (chars c.in-Some.id.now) ≡ true =
    sym (begins-alike c.args.prefix.now c.in-Some.id.now c.utf8.prefix is) ∙ sym (rw (c.as_bytes.ensures.value, c.as_bytes-in-Some.ensures.value) at c.if-not-starts_with.ensures.value) in
    let wasnt : seen_in c.args.seen.now (chars c.in-Some.id.now) ≡ false = sym (seen-bytes c.args.seen.now c.in-Some.id.now is) ∙ sym c.if-contains.ensures in
    sym (fresh (chars c.args.prefix.now) (seen_in c.args.seen.now) c.args.attrs.now (chars c.in-Some.id.now) id begins wasnt)

pub returns-in_ok-insert-in-Some-clause-seen : goal.returns-in_ok-insert-in-Some-clause-seen
returns-in_ok-insert-in-Some-clause-seen c = λ u text.
    let id = one_id c.args.attrs.now (chars c.in-Some.id.now) (rw (chars_ascii (codes "id") refl) at c.in-Some.ensures) in
    seen-more c.args.seen.now c.insert.new.self c.in_ok-id-in-Some.id c.in_ok-insert-in-Some.ensures.keys text
    ∙ ap (λ t. seen_with t (seen_in c.args.seen.now) text) (ap chars c.in_ok-id-in-Some.ensures.ok)
    ∙ sym (ap (λ ids. seen_behind (seen_in c.args.seen.now) ids text) id)

pub returns-in-None-clause-right : goal.returns-in-None-clause-right
returns-in-None-clause-right c =
    sym (ap (ids_right (chars c.args.prefix.now) (seen_in c.args.seen.now)) (no_id c.args.attrs.now (rw (chars_ascii (codes "id") refl) at c.in-None.ensures)))

pub returns-in-None-clause-seen : goal.returns-in-None-clause-seen
returns-in-None-clause-seen c = λ u text.
    sym (ap (λ ids. seen_behind (seen_in c.args.seen.now) ids text) (no_id c.args.attrs.now (rw (chars_ascii (codes "id") refl) at c.in-None.ensures)))
