-- All tokens in the program, and the end.
use Rattle.std.proofs.Common.{arith, ◌≡◌, ℕ, ◌+◌, List, [], ◌∷◌, ◌++◌, length, map, refl, ap, sym, subst, ◌∙◌, true, false, append_assoc, append-nil}
use Rattle.std.proofs.lemmas.List.{take_all}
use Rattle.pur_names.specs.declared.elements.Element.{Element}
use Rattle.pur_modules.specs.Contents.{is_empty_element}
use Rattle.pur_settings.specs.Rules.{Rules}
use Rattle.pur_tokens.specs.Tokens.{PlainToken}
use Rattle.pur_tree.specs.Building.{written_of, opened_of, closings_of}
use Rattle.pur_tree.specs.Nodes.{PlainElem}
use Rattle.pur_tree.specs.Tokens.{Token, end_token, closing_of, joined}
use Rattle.std.specs.List.{list_all}
use Rattle.pur_tree.specs.Nodes.{Nodes, is_sound}
use Rattle.pur_tree.specs.Tokens.{IsTreeOf, tree_of}
use Rattle.pur_tokens.specs.Joining as reading
use Rattle.pur_attrlist.specs.Texts.{times}
use Rattle.pur_tree.specs.Tokens.{count_in_written}
use Rattle.pur_tree.specs.Walks.{count_in_text}
use Rattle.pur_tree.proofs.TokensLemmas.{count-tokens}
use Rattle.pur_tree.proofs.TreeLemmas.{tree_of-tokens}
use Rattle.pur_wellform.specs.Standing.{Stands}
use Rattle.pur_wellform.proofs.TreeFacts.{writes-tree, writes-joined}
use Rattle.pur_wellform.proofs.StepFacts.{run_writes}
use Rattle.pur_wellform.proofs.LedgerFacts.{ledger}
use Rattle.pur_wellform.specs.declared.open_elements.Open.{Open}
use Rattle.pur_wellform.specs.declared.machine.Machine.{Machine}
use Rattle.pur_wellform.specs.Closing.{followed_by, step, steps, end_all, closed, lost_in_closing}
use Rattle.pur_wellform.specs.Standing.{can_be_closed}
use Rattle.pur_wellform.specs.Invariants.{Kept}
use Rattle.pur_wellform.specs.Private.Opens.{tag_of, tags_under, AreOpenUnder}
use Rattle.pur_wellform.specs.Progress.{closed_behind}
use Rattle.pur_wellform.specs.Private.Machines.{state_of, IsMachine, Did, progress_of, IsClosing}
use Rattle.pur_wellform.proofs.StepFacts.{good-step}

pub closing_after : (rules : Rules) (old new : Machine) (token : PlainToken) → IsClosing rules old → can_be_closed rules token ≡ true
    → Did rules old new (step rules token (state_of old)) → IsClosing rules new
closing_after rules old new token h g d = record {
  known = d.machine;
  kept = subst (Kept rules) (sym d.state) (good-step rules token (state_of old) g h.kept).kept;
}

-- what is written behind a token
pub behind : (rules : Rules) (old new : Machine) (token : PlainToken) → Did rules old new (step rules token (state_of old)) → (more : List PlainToken)
    → closed_behind (progress_of rules new) more ≡ closed_behind (progress_of rules old) (token ∷ more)
behind rules old new token d more =
    d.written (followed_by (steps rules more (state_of new)) end_all).written
    ∙ ap (λ s. joined (written_of old.builder ++ ((step rules token (state_of old)).written ++ (followed_by (steps rules more s) end_all).written))) d.state
    ∙ ap (λ ts. joined (written_of old.builder ++ ts))
    (sym (append_assoc (step rules token (state_of old)).written (steps rules more (step rules token (state_of old)).state).written
    (end_all (steps rules more (step rules token (state_of old)).state).state).written))

-- what closes all open elements
closings_under : (rules : Rules) (outer : List PlainElem) (os : List Open) → AreOpenUnder rules outer os
    → closings_of (map (λ o. o.name) os) ++ map (λ tag. end_token tag.name) outer ≡ map (λ tag. end_token tag.name) (tags_under outer os)
closings_under rules outer [] h = refl
closings_under rules outer (o ∷ os) h =
    ap (λ (ts : List Token). (closings_of (map (λ (o : Open). o.name) os) ++ ts) ++ map (λ (tag : PlainElem). end_token tag.name) outer) (full o.name h.0.full)
    ∙ append_assoc (closings_of (map (λ (o : Open). o.name) os)) (end_token o.name ∷ []) (map (λ (tag : PlainElem). end_token tag.name) outer)
    ∙ closings_under rules (tag_of o ∷ outer) os h.1
  where
    full : (e : Element) → is_empty_element e ≡ false → closing_of e ≡ end_token e ∷ []
    full e h = rw h refl

pub ends : (rules : Rules) (m : Machine) → IsMachine rules m
    → joined (written_of m.builder ++ closings_of (opened_of m.builder)) ≡ closed_behind (progress_of rules m) []
ends rules m h =
    ap (λ ts. joined (written_of m.builder ++ ts))
    (ap closings_of h.same ∙ sym (append-nil (closings_of (map (λ o. o.name) m.opened.items)))
    ∙ closings_under rules [] m.opened.items h.known.each
    ∙ ap (map (λ (tag : PlainElem). end_token tag.name)) (sym (take_all (length (state_of m).opened) (state_of m).opened (omega arith))))

-- the forest of all tokens
pub forest_stands : (rules : Rules) (tokens : List PlainToken) (n : Nodes) → list_all (can_be_closed rules) tokens ≡ true → is_sound n ≡ true
    → IsTreeOf n (closed rules tokens) → Stands rules [] n
forest_stands rules tokens n g sound tree =
    subst (Stands rules []) (sym (sym (tree_of-tokens n sound) ∙ ap tree_of tree))
    (writes-tree (writes-joined (run_writes rules tokens g)))

pub forest_text : (rules : Rules) (tokens : List PlainToken) (n : Nodes) (c : ℕ) → IsTreeOf n (closed rules tokens)
    → count_in_text c n + times c (lost_in_closing rules tokens) ≡ reading.count_in_text c tokens
forest_text rules tokens n c tree =
    ap (λ k. k + times c (lost_in_closing rules tokens)) (sym (count-tokens c n) ∙ ap (count_in_written c) tree) ∙ ledger rules tokens c
