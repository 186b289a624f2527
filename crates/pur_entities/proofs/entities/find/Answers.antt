use Rattle.std.proofs.Common.{rules}
use Rattle.std.proofs.lemmas.List.Sorted.{answers_always}
use Rattle.pur_entities.proofs.TableLemmas.{Row, found_at, not_found}
use Rattle.pur_entities.proofs.entities.find.Goals as goal

-- the closure gives a row's name
pub returns-in-Ok : goal.returns-in-Ok
returns-in-Ok c =
    let facts = c.in-Ok.ensures in
    let by_name = facts.position (λ (row : Row). row.0) (answers_always _ _ _ (λ f a r g called. search rules)) in
    found_at c.args.table.now c.args.name.now c.in-Ok.place c.requires.right facts.bound by_name _

pub returns-in-Err : goal.returns-in-Err
returns-in-Err c =
    let facts = c.in-Err.ensures in
    let by_name = facts.position (λ (row : Row). row.0) (answers_always _ _ _ (λ f a r g called. search rules)) in
    not_found c.args.table.now c.args.name.now c.in-Err.field-0 c.requires.rising c.requires.whole by_name
