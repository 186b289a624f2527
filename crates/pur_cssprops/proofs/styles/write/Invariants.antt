use Rattle.std.proofs.Common.{◌≡◌, ◌++◌, map, string_bytes}
use Rattle.pur_csstok.specs.Declarations.{style_text}
use Rattle.pur_cssprops.specs.Private.Held.{entry_held, held}
use Rattle.pur_cssprops.proofs.styles.write.Given as goal

-- what was written, and the declarations that are left, are all
abbrev pub invariant-loop-property : goal.invariant-loop-property
invariant-loop-property l = string_bytes l.style ++ style_text (map entry_held l.property-iterator) ≡ style_text (held l.values)
