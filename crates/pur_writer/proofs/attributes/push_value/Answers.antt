use Rattle.std.proofs.Common.{◌∙◌, ◌++◌, ap, sym}
use Rattle.pur_writer.proofs.ValueLemmas.{quote_written, escaped_value-run}
use Rattle.pur_writer.proofs.attributes.push_value.Goals as goal

pub quoting-preserved : goal.quoting-preserved
quoting-preserved c =
    let parts = c.in-Some.ensures in
    quote_written c.quoting.out.items c.push_escaped.new.out.items c.extend_from_slice.new.self.items c.in-Some.run'.now c.in-Some.behind.now c.quoting.rest.now _
    c.in_ok-push_escaped.ensures c.in_ok-extend_from_slice.ensures.items parts.parts parts.run c.quoting.invariant

pub returns : goal.returns
returns c =
    c.in_ok-push_escaped-2.ensures
    ∙ ap (λ x. c.quoting.out.items ++ x) (sym (escaped_value-run c.quoting.rest.now c.in_default.ensures.none))
    ∙ c.quoting.invariant
