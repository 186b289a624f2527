use Rattle.std.proofs.Common.{◌≡◌, ◌∙◌, ◌++◌, ◌∷◌, true, ap, sym, subst, append-nil, refl, rules, []}
use Rattle.std.specs.List.{list_all}
use Rattle.std.specs.Str.{chars}
use Rattle.std.proofs.lemmas.Bool.{both_ways, and_from}
use Rattle.std.proofs.lemmas.Str.{chars-nil}
use Rattle.pur_laws.proofs.Lists.{all-append}
use Rattle.pur_text.specs.Characters.{is_allowed}
use Rattle.pur_text.specs.Texts.{text_of}
use Rattle.pur_reader.specs.Private.Escaping.{written_where, is_plain, IsWritten}
use Rattle.pur_reader.proofs.ReferenceLemmas.{written_run, plain_allowed, run_more, one_more, text_run, text_char}
use Rattle.pur_reader.proofs.escapes.read_escaped.Goals as goal

pub reading-init : goal.reading-init
reading-init c =
    let none : text_of c.new-read.result ≡ _ = ap chars c.new-read.ensures.bytes ∙ chars-nil in
    record {
      utf8 = c.utf8.text;
      is = ap (λ r. written_where c.args.in_value r ++ chars c.args.text.now) none;
      allowed = ap (list_all is_allowed) none;
      left = λ w. w;
    }

pub returns-then-not-is_plain_run-clause-none : goal.returns-then-not-is_plain_run-clause-none
returns-then-not-is_plain_run-clause-none c = λ w.
    let run = chars c.in-Some.run'.now in
    let rest = subst (IsWritten c.args.in_value) c.in-Some.ensures.parts (c.reading.invariant.left w) in
    let parts = written_run c.args.in_value run (38 ∷ chars c.in-Some.reference.now) c.in-Some.ensures.first rest in
    both_ways (list_all (is_plain c.args.in_value) run) (sym c.is_plain_run.ensures ∙ c.if-not-is_plain_run.true) parts.0

pub reading-preserved : goal.reading-preserved
reading-preserved c =
    let b = c.args.in_value in
    let read = text_of c.reading.read in
    let run = chars c.in-Some.run'.now in
    let behind = chars c.in-Some-cut_reference.behind.now in
    let passes : list_all (is_plain b) run ≡ true = sym c.is_plain_run.ensures ∙ c.if-not-is_plain_run.false in
    let one : text_of c.push_str.new.self ≡ read ++ run = text_run c.reading.read c.push_str.new.self c.in-Some.run'.now c.in_ok-push_str-in-Some-cut_reference.ensures.bytes in
    let two : text_of c.push.new.self ≡ (read ++ run) ++ c.in-Some-cut_reference.c ∷ [] =
    text_char c.push_str.new.self c.push.new.self c.in-Some-cut_reference.c (search rules) c.in_ok-push-in-Some-cut_reference.ensures.bytes
    ∙ ap (λ t. t ++ c.in-Some-cut_reference.c ∷ []) one in
    record {
      utf8 = c.in-Some-cut_reference.ensures.text;
      is = ap (λ t. written_where b t ++ behind) two
          ∙ one_more b (read ++ run) (38 ∷ chars c.in-Some.reference.now) behind _ c.in-Some-cut_reference.c
          (run_more b read run (chars c.reading.rest.now) (38 ∷ chars c.in-Some.reference.now) _ c.reading.invariant.is c.in-Some.ensures.parts passes)
          c.in-Some-cut_reference.ensures.some;
      allowed = ap (list_all is_allowed) two
          ∙ all-append is_allowed (read ++ run) _ (all-append is_allowed read run c.reading.invariant.allowed (plain_allowed b run passes))
          (and_from _ _ c.in-Some-cut_reference.ensures.allowed refl);
      left = λ w. c.in-Some-cut_reference.ensures.left
          (written_run b run (38 ∷ chars c.in-Some.reference.now) c.in-Some.ensures.first (subst (IsWritten b) c.in-Some.ensures.parts (c.reading.invariant.left w))).1;
    }

pub returns-in-None-clause-none : goal.returns-in-None-clause-none
returns-in-None-clause-none c = λ w.
    c.in-None.ensures.none
    (written_run c.args.in_value (chars c.in-Some.run'.now) (38 ∷ chars c.in-Some.reference.now) c.in-Some.ensures.first
    (subst (IsWritten c.args.in_value) c.in-Some.ensures.parts (c.reading.invariant.left w))).1

pub returns-then-not-is_plain_run-2-clause-none : goal.returns-then-not-is_plain_run-2-clause-none
returns-then-not-is_plain_run-2-clause-none c = λ w.
    let rest = chars c.reading.rest.now in
    let whole = subst (IsWritten c.args.in_value) (sym (append-nil rest)) (c.reading.invariant.left w) in
    both_ways (list_all (is_plain c.args.in_value) rest) (sym c.is_plain_run-2.ensures ∙ c.if-not-is_plain_run-2.true)
    (written_run c.args.in_value rest _ c.in_default.ensures.none whole).0

pub returns-clause-some : goal.returns-clause-some
returns-clause-some c =
    let b = c.args.in_value in
    let read = text_of c.reading.read in
    let rest = chars c.reading.rest.now in
    let passes : list_all (is_plain b) rest ≡ true = sym c.is_plain_run-2.ensures ∙ c.if-not-is_plain_run-2.false in
    let one : text_of c.push_str-2.new.self ≡ read ++ rest = text_run c.reading.read c.push_str-2.new.self c.reading.rest.now c.in_ok-push_str.ensures.bytes in
    ap (written_where b) one ∙ sym (append-nil (written_where b (read ++ rest))) ∙ run_more b read rest rest _ _ c.reading.invariant.is (sym (append-nil rest)) passes

pub returns-clause-allowed : goal.returns-clause-allowed
returns-clause-allowed c =
    let b = c.args.in_value in
    let read = text_of c.reading.read in
    let rest = chars c.reading.rest.now in
    let passes : list_all (is_plain b) rest ≡ true = sym c.is_plain_run-2.ensures ∙ c.if-not-is_plain_run-2.false in
    let one : text_of c.push_str-2.new.self ≡ read ++ rest = text_run c.reading.read c.push_str-2.new.self c.reading.rest.now c.in_ok-push_str.ensures.bytes in
    ap (list_all is_allowed) one ∙ all-append is_allowed read rest c.reading.invariant.allowed (plain_allowed b rest passes)
