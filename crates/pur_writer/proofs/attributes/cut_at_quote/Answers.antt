use Rattle.std.proofs.Common.{◌≡◌, true, sym, subst}
use Rattle.std.specs.Prelude.{◌==◌}
use Rattle.std.specs.List.{list_all}
use Rattle.pur_writer.specs.Private.Bytes.{is_no_quote}
use Rattle.pur_laws.proofs.Options.{if_none}
use Rattle.pur_laws.proofs.Places.{none_at_all, none_before}
use Rattle.pur_writer.proofs.attributes.cut_at_quote.Goals as goal

pub returns-in_err-place-clause-none : goal.returns-in_err-place-clause-none
returns-in_err-place-clause-none c = if_none _ _ (none_at_all (λ b. b == 0x22) c.args.text.now c.in_err-place.ensures)

pub returns-clause-run : goal.returns-clause-run
returns-clause-run c =
    let before = none_before (λ b. b == 0x22) c.args.text.now c.in_ok-place.place c.in_ok-place.ensures.0.before in
    subst (λ t. list_all is_no_quote t ≡ true) (sym c.split_at.ensures.front) before
