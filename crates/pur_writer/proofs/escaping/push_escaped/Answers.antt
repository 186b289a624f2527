use Rattle.std.proofs.Common.{◌∙◌, ◌++◌, ap, sym}
use Rattle.pur_writer.proofs.EscapedLemmas.{run_written, escaped_run}
use Rattle.pur_writer.proofs.escaping.push_escaped.Goals as goal

pub escaping-preserved : goal.escaping-preserved
escaping-preserved c =
    let parts = c.in-Some.ensures in
    run_written c.escaping.out.items c.extend_from_slice.new.self.items c.extend_from_slice-in-Some.new.self.items c.in-Some.run'.now c.reference_of.result.now
    c.in-Some.behind.now c.escaping.rest.now _ c.in-Some.special
    c.in_ok-extend_from_slice.ensures.items c.in_ok-extend_from_slice-2.ensures.items c.reference_of.ensures parts.parts parts.run c.escaping.invariant

pub returns : goal.returns
returns c =
    c.in_ok-extend_from_slice-3.ensures.items
    ∙ ap (λ x. c.escaping.out.items ++ x) (sym (escaped_run c.escaping.rest.now c.in_default.ensures.none))
    ∙ c.escaping.invariant
