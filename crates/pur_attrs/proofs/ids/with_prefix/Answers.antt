-- An id begins with the prefix where its bytes do.
use Rattle.std.proofs.Common.{◌≡◌, ◌∙◌, ◌++◌, true, false, ap, sym, string_bytes}
use Rattle.std.specs.Str.{chars}
use Rattle.std.proofs.lemmas.Bool.{cond-true, cond-false}
use Rattle.std.proofs.lemmas.Result.{IfOk-weaker}
use Rattle.pur_attrlist.specs.Texts.{text_of}
use Rattle.pur_attrlist.proofs.TextLaws.{pushed}
use Rattle.pur_validity.specs.Attributes.{has_prefix}
use Rattle.pur_attrs.specs.Ids.{with_prefix}
use Rattle.pur_attrs.proofs.IdLemmas.{begins-alike}
use Rattle.pur_attrs.proofs.ids.with_prefix.Goals as goal

pub returns-then-starts_with : goal.returns-then-starts_with
returns-then-starts_with c =
    let prefix = c.args.prefix.now in
    let id = c.args.id.now in
    let is : has_prefix (chars prefix) (chars id) ≡ true =
    sym (begins-alike prefix id c.utf8.prefix c.utf8.id) ∙ sym (rw (c.as_bytes.ensures.value, c.as_bytes-2.ensures.value) at c.if-starts_with.ensures.value) in
    IfOk-weaker c.from_str.result (λ text. string_bytes text ≡ id) (λ text. text_of text ≡ with_prefix (chars prefix) (chars id))
    (λ text same. ap chars same ∙ sym (cond-true (has_prefix (chars prefix) (chars id)) (chars id) (chars prefix ++ chars id) is)) c.from_str.ensures.ok

pub returns : goal.returns
returns c =
    let prefix = c.args.prefix.now in
    let id = c.args.id.now in
    let isnt : has_prefix (chars prefix) (chars id) ≡ false =
    sym (begins-alike prefix id c.utf8.prefix c.utf8.id) ∙ sym (rw (c.as_bytes.ensures.value, c.as_bytes-2.ensures.value) at c.if-starts_with.ensures.value) in
    pushed c.in_ok-text.text c.push_str.new.self id c.in_ok-push_str.ensures.bytes
    ∙ ap (λ l. l ++ chars id) (ap chars c.in_ok-text.ensures.ok)
    ∙ sym (cond-false (has_prefix (chars prefix) (chars id)) (chars id) (chars prefix ++ chars id) isnt)
