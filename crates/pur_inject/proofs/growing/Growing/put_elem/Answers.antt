use Rattle.std.proofs.Common.{sym, ◌∙◌}
use Rattle.pur_tree.specs.Image.{nodes_of}
use Rattle.pur_tree.specs.Nodes.{elem_first, plain_elem}
use Rattle.pur_inject.proofs.GrowingLemmas.{grown-ended}
use Rattle.pur_inject.proofs.growing.Growing.put_elem.Goals as goal

pub returns-clause-same : goal.returns-clause-same
returns-clause-same c = λ more.
    let elem = c.args.elem in
    let e = plain_elem elem.name elem.attrs in
    let kids = nodes_of elem.children.items in
    let ended = c.end_text.new.self in
    grown-ended (record { nodes = c.push_elem.new.out; text = ended.text }) more c.in_ok-end_text.ensures.over
    ∙ c.in_ok-push_elem.ensures more
    ∙ sym (grown-ended ended (elem_first e kids more) c.in_ok-end_text.ensures.over)
    ∙ c.in_ok-end_text.ensures.elem e kids more
