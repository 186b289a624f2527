use Rattle.std.proofs.Common.{◌<◌, length, ◌∙◌, sym, append_assoc, string_bytes, arith}
use Rattle.std.proofs.lemmas.Bool.Decides.{nat_tests}
use Rattle.std.specs.Str.{chars}
use Rattle.pur_tree.specs.Building.{written_of, opened_of, last_of, children_of, finished, opened_by, written_before, closings_of}
use Rattle.pur_tree.specs.Tokens.{tokens_of_nodes}
use Rattle.pur_tree.proofs.TokensLemmas.{joined-tree}
use Rattle.pur_tree.proofs.BuildingLemmas.{length-opened_by, written_and_closings, tokens-finished}
use Rattle.pur_tree.proofs.builder.Builder.finish.Goals as goal

pub leave-requires : goal.leave-requires
leave-requires c =
    let some : 0 < length c.self.inside.outer.items = grind (arith, nat_tests, c.self.inside.outer.ok.0, c.is_empty.ensures, c.closing-test.true) in
    rw (← c.self.view_is) (omega (arith, some, length-opened_by c.self.inside.outer.items))

pub closing-preserved : goal.closing-preserved
closing-preserved c =
    written_and_closings (written_of c.closing.self) (written_of c.leave.new.self) (opened_of c.closing.self) (opened_of c.leave.new.self) (last_of (opened_of c.closing.self))
    c.in_ok-leave.ensures.opened c.in_ok-leave.ensures.written
    ∙ c.closing.invariant

pub returns-clause-settled : goal.returns-clause-settled
returns-clause-settled c =
    let os = c.self.inside.outer.items in
    let kids = children_of (os, c.self.inside.children.items, chars (string_bytes c.self.inside.text)) in
    rw (← c.closing.invariant, ← c.self.view_is)
    (joined-tree (finished os kids) _ c.self.invariant.fits.joined c.self.invariant.fits.sound
    (tokens-finished os kids ∙ sym (append_assoc (written_before os) (tokens_of_nodes kids) (closings_of (opened_by os)))))
