use Rattle.std.proofs.Common.{◌∙◌, sym, ap, append-nil, rules, IsUtf8, lit<}
use Rattle.std.specs.Str.{chars}
use Rattle.std.specs.Prelude.{◌++◌, ◌==◌}
use Rattle.std.proofs.lemmas.Str.{chars-nil}
use Rattle.pur_tree.proofs.CutLemmas.{is_stop}
use Rattle.pur_reader.proofs.CharacterLemmas.{found_run, found_rest, found_parts, split_none}
use Rattle.pur_reader.proofs.tags.cut_name.Goals as goal

pub returns-in-Some-clause-parts : goal.returns-in-Some-clause-parts
returns-in-Some-clause-parts c =
    let is : IsUtf8 c.split_at.result.0.now = search rules in
    found_parts c.args.inner.now c.split_at.result.0.now c.split_at.result.1.now c.in-Some.place is c.split_at.ensures.front c.split_at.ensures.back

pub returns-in-Some-clause-first : goal.returns-in-Some-clause-first
returns-in-Some-clause-first c =
    let is : IsUtf8 c.split_at.result.0.now = search rules in
    found_run 32 c.args.inner.now c.split_at.result.0.now c.in-Some.place c.in-Some.ensures.cases.0 is c.split_at.ensures.front c.in-Some.ensures.cases.1

pub returns-in-Some-clause-stop : goal.returns-in-Some-clause-stop
returns-in-Some-clause-stop c =
    found_rest 32 c.args.inner.now c.split_at.result.1.now c.in-Some.place c.in-Some.ensures.cases.0 (lit< tt) c.split_at.ensures.back c.in-Some.ensures.cases.1

pub returns-in-None-clause-parts : goal.returns-in-None-clause-parts
returns-in-None-clause-parts c = sym (ap (λ t. chars c.args.inner.now ++ t) chars-nil ∙ append-nil (chars c.args.inner.now))

pub returns-in-None-clause-first : goal.returns-in-None-clause-first
returns-in-None-clause-first c = split_none 32 c.args.inner.now c.utf8.inner c.in-None.ensures.cases

pub returns-in-None-clause-stop : goal.returns-in-None-clause-stop
returns-in-None-clause-stop c = ap (is_stop (λ d. d == 32)) chars-nil
