-- What is known of a value that is there, and of one that isn't.
use Rattle.std.proofs.Common.{◌≡◌, Some, None, IfSome, IfNone, subst}
use Rattle.std.specs.Prelude.{Option}

pub from_some : {A : Type 0} (P : A → Type 0) (found : Option A) (x : A) → found ≡ Some x → IfSome found P → P x
from_some {A} P found x is h = subst (λ o. IfSome o P) is h

pub from_none : {A : Type 0} (P : Type 0) (found : Option A) → found ≡ None → IfNone found P → P
from_none {A} P found is h = subst (λ (o : Option A). IfNone o P) is h

pub if_some : {A : Type 0} (P Q : A → Type 0) (found : Option A) → ((x : A) → P x → Q x) → IfSome found P → IfSome found Q
if_some P Q (Some x) f h = f x h
if_some P Q None f h = tt
