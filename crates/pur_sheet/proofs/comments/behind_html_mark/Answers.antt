use Rattle.std.proofs.Common.{◌≡◌, ◌∙◌, sym, ap, Bool, true, false, Some, None}
use Rattle.std.specs.Prelude.{Option, IfSome, IfNone, is_some}
use Rattle.pur_sheet.specs.Comments.{unmarked}
use Rattle.pur_sheet.proofs.CommentLemmas.{front_mark, back_mark, no_mark}
use Rattle.pur_sheet.proofs.comments.behind_html_mark.Goals as goal

found : {T : Type 0} (r : Option T) (b : Bool) (Q P : T → Type 0) → b ≡ is_some r → IfSome r Q → (b ≡ true → (x : T) → Q x → P x) → IfSome r P
found None b Q P is told follows = tt
found (Some x) b Q P is told follows = follows is x told

missed : {T : Type 0} (r : Option T) (b : Bool) (P : Type 0) → b ≡ is_some r → (b ≡ false → P) → IfNone r P
missed None b P is follows = follows is
missed (Some x) b P is follows = tt

pub returns-in-Some-clause-mark : goal.returns-in-Some-clause-mark
returns-in-Some-clause-mark c = front_mark c.args.text.now c.in-Some.ensures.begins ∙ ap unmarked (sym c.in-Some.ensures.behind)

pub returns-in-None-clause-mark : goal.returns-in-None-clause-mark
returns-in-None-clause-mark c =
    found c.behind_mark-in-None.result _ _ _ c.behind_mark-in-None.ensures.begins c.behind_mark-in-None.ensures.behind
    (λ is after told. back_mark c.args.text.now c.in-None.ensures.begins is ∙ ap unmarked (sym told))

pub returns-in-None-clause-none : goal.returns-in-None-clause-none
returns-in-None-clause-none c =
    missed c.behind_mark-in-None.result _ _ c.behind_mark-in-None.ensures.begins (λ isnt. no_mark c.args.text.now c.in-None.ensures.begins isnt)
