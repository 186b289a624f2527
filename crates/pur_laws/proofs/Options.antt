-- What is said of an option.
use Rattle.std.proofs.Common.{Some, None}
use Rattle.std.specs.Prelude.{Option, IfNone}

-- an answer without a value keeps what is said of it
pub if_none : {T : Type 0} (o : Option T) (P : Type 0) → P → IfNone o P
if_none None P p = p
if_none (Some x) P p = tt
