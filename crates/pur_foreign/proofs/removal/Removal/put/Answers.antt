-- What stays of the token is held.
use Rattle.std.proofs.Common.{◌≡◌, ◌∷◌, [], ap, sym, ◌∙◌, refl}
use Rattle.pur_tokens.specs.Shown.{plain_shown, shown_given}
use Rattle.pur_tokens.specs.Tokens.{plain_token}
use Rattle.pur_tokens.proofs.JoiningLaws.{held-next}
use Rattle.pur_foreign.specs.Keeping.{kept_behind}
use Rattle.pur_foreign.proofs.RemovalLemmas.{kept-next}
use Rattle.pur_foreign.proofs.removal.Removal.put.Goals as goal

pub returns-in_ok-given-in-Some : goal.returns-in_ok-given-in-Some
returns-in_ok-given-in-Some g c = λ more.
    let kept : shown_given c.in_ok-kept.kept ≡ plain_shown c.in-Some.shown ∷ [] = ap shown_given c.in-Some.is in
    ap (λ held. kept_behind c.args.settings.now c.args.gate.now held (plain_token c.args.token ∷ more)) (sym c.self.view_is)
    ∙ kept-next c.args.settings.now c.args.gate.now _ _ (plain_token c.args.token) (plain_shown c.in-Some.shown ∷ []) (shown_given c.in_ok-given-in-Some.given)
    (sym kept ∙ c.in_ok-kept.ensures) (held-next _ _ (plain_shown c.in-Some.shown) (shown_given c.in_ok-given-in-Some.given) c.in_ok-given-in-Some.ensures.given) more

pub returns-in-None : goal.returns-in-None
returns-in-None g c = λ more.
    let kept : shown_given c.in_ok-kept.kept ≡ [] = ap shown_given c.in-None.is in
    kept-next c.args.settings.now c.args.gate.now c.args.self.now c.args.self.now (plain_token c.args.token) [] [] (sym kept ∙ c.in_ok-kept.ensures) (λ later. refl) more
