use Rattle.std.proofs.Common.{◌≡◌, true, sym, subst}
use Rattle.std.specs.List.{list_all}
use Rattle.pur_writer.specs.Private.Bytes.{is_special, is_plain}
use Rattle.pur_laws.proofs.Options.{if_none}
use Rattle.pur_laws.proofs.Places.{none_at_all, none_before}
use Rattle.pur_writer.proofs.escaping.cut_at_special.Goals as goal

pub returns-in_err-place-clause-none : goal.returns-in_err-place-clause-none
returns-in_err-place-clause-none c = if_none _ _ (none_at_all is_special c.args.text.now c.in_err-place.ensures)

pub returns-clause-run : goal.returns-clause-run
returns-clause-run c =
    let before = none_before is_special c.args.text.now c.in_ok-place.place c.in_ok-place.ensures.0.before in
    subst (λ t. list_all is_plain t ≡ true) (sym c.split_at.ensures.front) before
