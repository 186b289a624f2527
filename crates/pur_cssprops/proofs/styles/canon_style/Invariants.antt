use Rattle.std.proofs.Common.{◌≡◌, [], drop}
use Rattle.std.specs.List.{filter_map}
use Rattle.pur_csstok.specs.Written.{pairs_of}
use Rattle.pur_cssprops.specs.Private.Held.{held, with_all}
use Rattle.pur_cssprops.specs.Styles.{declaration_kept}
use Rattle.pur_cssprops.proofs.styles.canon_style.Given as goal

-- what is held, with what is kept of the declarations that are left, is what is kept of all
abbrev pub invariant-loop-declaration : goal.invariant-loop-declaration
invariant-loop-declaration g l =
    let kept = filter_map (declaration_kept l.settings l.gate) in
    with_all (held l.values) (kept (pairs_of (drop l.declaration-index l.declaration-items))) ≡ with_all [] (kept (pairs_of l.declaration-items))
