use Rattle.std.proofs.Common.{◌∙◌, refl, string_bytes}
use Rattle.std.proofs.lemmas.Str.{IsUtf8-string_bytes}
use Rattle.pur_entities.proofs.ReadingLemmas.{run_copied, all_read}
use Rattle.pur_entities.proofs.references.decode_onto.Goals as goal

pub decoding-init : goal.decoding-init
decoding-init c = (c.utf8.text, refl)

pub decoding-preserved : goal.decoding-preserved
decoding-preserved c =
    let parts = c.in-Some.ensures in
    let output = c.decoding.output in (
      c.in_ok-rest.ensures.text,
      c.in_ok-rest.ensures.step
          ∙ run_copied (string_bytes output) c.in-Some.run'.now c.in-Some.behind.now c.decoding.rest.now _ _ (IsUtf8-string_bytes output)
          parts.text.0 parts.text.1 c.in_ok-push_str.ensures.bytes parts.parts parts.run c.decoding.invariant.1,
    )

pub returns : goal.returns
returns c =
    let output = c.decoding.output in
    all_read (string_bytes output) c.decoding.rest.now _ _ (IsUtf8-string_bytes output) c.decoding.invariant.0
    c.in_ok-push_str-2.ensures.bytes c.in_default.ensures.none c.decoding.invariant.1
