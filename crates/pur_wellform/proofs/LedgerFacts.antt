-- What closing reads is written or lost.
use Rattle.std.proofs.Common.{arith, ◌≡◌, ℕ, suc, ◌+◌, ◌-◌, List, [], ◌∷◌, ◌++◌, length, map, take, drop, refl, ap, ◌∙◌, Bool, true, false, ◌||◌, cond, if◌then◌else◌, nat_le, Option, Some, None}
use Rattle.pur_names.specs.declared.elements.Element.{Element}
use Rattle.pur_modules.specs.declared.kinds.Child.TheVariants.{Text, Elem}
use Rattle.pur_modules.specs.Contents.{is_empty_element, is_excluded_in}
use Rattle.pur_modules.specs.Wrappers.{is_running}
use Rattle.pur_settings.specs.Rules.{Rules}
use Rattle.pur_tree.specs.Tokens.{text_token, start_token, end_token, empty_token, count_in_written}
use Rattle.pur_attrlist.specs.Attributes.{Attribute}
use Rattle.pur_tokens.specs.Tokens as read
use Rattle.pur_names.specs.Elements.{element_named}
use Rattle.pur_tree.specs.Nodes.{PlainElem, plain_elem}
use Rattle.pur_tree.proofs.TokensLemmas.{count-append, count-joined}
use Rattle.pur_wellform.specs.Search.{level_in, Entry, barred, direct, inside, entry, wrapped, Place, no_place, at_place, place_of, open_place}
use Rattle.pur_text.specs.Characters.{is_blank}
use Rattle.pur_wellform.specs.Closing.{State, Run, names, kept, changed_to, writing, losing, both_runs, followed_by, close_inner, enter, enter_and_close, cost, fits_again, enter_again, turn_of, turns_of, reopen, enter_wrapper, reopen_before, enter_tag, put_tag, put_at, start_step, put_text, put_text_by, text_step, end_at, end_step, for_element, step, steps, end_all, first_state, run_of, closed}
use Rattle.pur_tokens.specs.Joining.{count_in_text}
use Rattle.pur_attrlist.specs.Texts.{times}
use Rattle.pur_attrlist.proofs.TextLaws.{times-append}

-- a run writes and loses a character so many times
record Holds (c : ℕ) (n : ℕ) (run : Run) : Type 0 where
  all : count_in_written c run.written + times c run.lost ≡ n

holds-then : (c n m k : ℕ) (a b : Run) → n + m ≡ k → Holds c n a → Holds c m b → Holds c k (both_runs a b)
holds-then c n m k a b e p q = record { all = omega (arith, e, p.all, q.all, count-append c a.written b.written, times-append c a.lost b.lost) }

silent : (c : ℕ) (s : State) → Holds c 0 (changed_to s)
silent c s = record { all = refl }

times-ends : (c : ℕ) (tags : List PlainElem) → count_in_written c (map (λ tag. end_token tag.name) tags) ≡ 0
times-ends c [] = refl
times-ends c (tag ∷ tags) = times-ends c tags

silent-close : (c count carried : ℕ) (s : State) → Holds c 0 (close_inner count carried s)
silent-close c count carried s = record { all = omega (arith, times-ends c (take count s.opened)) }

silent-enter : (c : ℕ) (tag : PlainElem) (s : State) → Holds c 0 (enter tag s)
silent-enter c tag s = record { all = refl }

silent-at_once : (c : ℕ) (tag : PlainElem) (s : State) → Holds c 0 (enter_and_close tag s)
silent-at_once c tag s = record { all = go (is_empty_element tag.name) }
  where
    go : (b : Bool) → count_in_written c (cond b (empty_token tag) (start_token tag) ∷ cond b [] (end_token tag.name ∷ [])) + 0 ≡ 0
    go true = refl
    go false = refl

silent-turn : (rules : Rules) (limit c : ℕ) (tag : PlainElem) (s : State) → Holds c 0 (turn_of rules limit tag s)
silent-turn rules limit c tag s = go (fits_again rules limit (names s.opened) tag.name)
  where
    pay : (b : Bool) → Holds c 0 (if b then record {
      state = record { opened = kept tag ∷ s.opened; pending = s.pending; rest = s.rest - cost tag };
      written = start_token tag ∷ [];
      lost = [];
      paid = cost tag;
    } else changed_to s)
    pay true = record { all = refl }
    pay false = record { all = refl }

    go : (b : Bool) → Holds c 0 (if b then enter_again tag s
        else changed_to (record { opened = s.opened; pending = s.pending ++ tag ∷ []; rest = s.rest }))
    go true = pay (nat_le (cost tag) s.rest)
    go false = record { all = refl }

silent-turns : (rules : Rules) (limit c : ℕ) (tags : List PlainElem) (s : State) → Holds c 0 (turns_of rules limit tags s)
silent-turns rules limit c [] s = silent c s
silent-turns rules limit c (tag ∷ tags) s =
    holds-then c 0 0 0 (turn_of rules limit tag s) (turns_of rules limit tags (turn_of rules limit tag s).state) refl
    (silent-turn rules limit c tag s) (silent-turns rules limit c tags (turn_of rules limit tag s).state)

silent-reopen : (rules : Rules) (limit c : ℕ) (s : State) → Holds c 0 (reopen rules limit s)
silent-reopen rules limit c s = silent-turns rules limit c s.pending (record { opened = s.opened; pending = []; rest = s.rest })

silent-wrapper : (c : ℕ) (way : Entry) (s : State) → Holds c 0 (enter_wrapper way s)
silent-wrapper c barred s = silent c s
silent-wrapper c direct s = silent c s
silent-wrapper c (inside w) s = record { all = refl }

silent-before : (rules : Rules) (c : ℕ) (e : Element) (s : State) → Holds c 0 (reopen_before rules e s)
silent-before rules c e s = go (is_running rules.doctype (Elem e))
  where
    go : (b : Bool) → Holds c 0 (if b then reopen rules 127 s else changed_to s)
    go true = silent-reopen rules 127 c s
    go false = silent c s

silent-tag : (c : ℕ) (tag : PlainElem) (at_once : Bool) (s : State) → Holds c 0 (enter_tag tag at_once s)
silent-tag c tag at_once s = go (at_once || is_empty_element tag.name)
  where
    go : (b : Bool) → Holds c 0 (if b then enter_and_close tag s else enter tag s)
    go true = silent-at_once c tag s
    go false = silent-enter c tag s

silent-put : (rules : Rules) (c : ℕ) (tag : PlainElem) (at_once : Bool) (way : Entry) (s : State) → Holds c 0 (put_tag rules tag at_once way s)
silent-put rules c tag at_once way s =
    holds-then c 0 0 0 (followed_by (enter_wrapper way s) (reopen_before rules tag.name))
    (enter_tag tag at_once (reopen_before rules tag.name (enter_wrapper way s).state).state) refl
    (holds-then c 0 0 0 (enter_wrapper way s) (reopen_before rules tag.name (enter_wrapper way s).state) refl (silent-wrapper c way s) (silent-before rules c tag.name (enter_wrapper way s).state))
    (silent-tag c tag at_once (reopen_before rules tag.name (enter_wrapper way s).state).state)

silent-put_at : (rules : Rules) (c : ℕ) (tag : PlainElem) (at_once : Bool) (place : Place) (s : State) → Holds c 0 (put_at rules tag at_once place s)
silent-put_at rules c tag at_once no_place s = silent c s
silent-put_at rules c tag at_once (at_place inner way) s = go (nat_le (level_in (tag.name ∷ wrapped way (drop inner (names s.opened)))) 128)
  where
    go : (b : Bool) → Holds c 0 (if b then followed_by (close_inner inner inner s) (put_tag rules tag at_once way) else changed_to s)
    go true = holds-then c 0 0 0 (close_inner inner inner s) (put_tag rules tag at_once way (close_inner inner inner s).state) refl
        (silent-close c inner inner s) (silent-put rules c tag at_once way (close_inner inner inner s).state)
    go false = silent c s

silent-start : (rules : Rules) (c : ℕ) (tag : PlainElem) (at_once : Bool) (s : State) → Holds c 0 (start_step rules tag at_once s)
silent-start rules c tag at_once s = go (is_excluded_in (names s.opened) tag.name)
  where
    go : (b : Bool) → Holds c 0 (if b then changed_to s else put_at rules tag at_once (place_of rules tag.name (names s.opened)) s)
    go true = silent c s
    go false = silent-put_at rules c tag at_once (place_of rules tag.name (names s.opened)) s

holds-text : (c : ℕ) (text : List ℕ) (s : State) → Holds c (times c text) (writing (text_token text ∷ []) s)
holds-text c text s = record { all = omega arith }

holds-put_text : (rules : Rules) (c : ℕ) (text : List ℕ) (s : State) → Holds c (times c text) (put_text rules text s)
holds-put_text rules c text s =
    holds-then c 0 (times c text) (times c text) (reopen rules 128 s) (writing (text_token text ∷ []) (reopen rules 128 s).state) (omega arith)
    (silent-reopen rules 128 c s) (holds-text c text (reopen rules 128 s).state)

holds-losing : (c : ℕ) (text : List ℕ) (s : State) → Holds c (times c text) (losing text s)
holds-losing c text s = record { all = omega arith }

holds-by : (rules : Rules) (c : ℕ) (text : List ℕ) (way : Entry) (s : State) → Holds c (times c text) (put_text_by rules text way s)
holds-by rules c text barred s = holds-losing c text s
holds-by rules c text direct s = holds-put_text rules c text s
holds-by rules c text (inside w) s = go (nat_le (level_in (w ∷ names s.opened)) 128)
  where
    go : (b : Bool) → Holds c (times c text) (if b then followed_by (enter_wrapper (inside w) s) (put_text rules text) else losing text s)
    go true = holds-then c 0 (times c text) (times c text) (enter_wrapper (inside w) s) (put_text rules text (enter_wrapper (inside w) s).state) (omega arith)
        (silent-wrapper c (inside w) s) (holds-put_text rules c text (enter_wrapper (inside w) s).state)
    go false = holds-losing c text s

holds-text_step : (rules : Rules) (c : ℕ) (text : List ℕ) (s : State) → Holds c (times c text) (text_step rules text s)
holds-text_step rules c text s = go (is_blank text)
  where
    go : (b : Bool) → Holds c (times c text) (if b then writing (text_token text ∷ []) s else put_text_by rules text (entry rules (names s.opened) Text) s)
    go true = holds-text c text s
    go false = holds-by rules c text (entry rules (names s.opened) Text) s

silent-end : (c : ℕ) (e : Element) (s : State) → Holds c 0 (end_step e s)
silent-end c e s = go (open_place e (names s.opened))
  where
    go : (place : Option ℕ) → Holds c 0 (end_at e place s)
    go None = record { all = refl }
    go (Some inner) = silent-close c (suc inner) inner s

silent-named : (rules : Rules) (c : ℕ) (found : Option Element) (attrs : List Attribute) (at_once : Bool) (s : State)
    → Holds c 0 (for_element found (λ element. start_step rules (plain_elem element attrs) at_once) s)
silent-named rules c None attrs at_once s = silent c s
silent-named rules c (Some e) attrs at_once s = silent-start rules c (plain_elem e attrs) at_once s

silent-named_end : (c : ℕ) (found : Option Element) (s : State) → Holds c 0 (for_element found end_step s)
silent-named_end c None s = silent c s
silent-named_end c (Some e) s = silent-end c e s

quiet : (rules : Rules) (c : ℕ) (token : read.PlainToken) (tokens : List read.PlainToken) (s : State) → Holds c 0 (step rules token s)
    → Holds c (count_in_text c tokens) (steps rules tokens (step rules token s).state) → Holds c (0 + count_in_text c tokens) (steps rules (token ∷ tokens) s)
quiet rules c token tokens s p q =
    holds-then c 0 (count_in_text c tokens) (0 + count_in_text c tokens) (step rules token s) (steps rules tokens (step rules token s).state) refl p q

holds-steps : (rules : Rules) (c : ℕ) (tokens : List read.PlainToken) (s : State) → Holds c (count_in_text c tokens) (steps rules tokens s)
holds-steps rules c [] s = silent c s
holds-steps rules c (read.text_token text ∷ tokens) s =
    holds-then c (times c text) (count_in_text c tokens) (times c text + count_in_text c tokens) (text_step rules text s) (steps rules tokens (text_step rules text s).state) refl
    (holds-text_step rules c text s) (holds-steps rules c tokens (text_step rules text s).state)
holds-steps rules c (read.start_token name attrs ∷ tokens) s =
    quiet rules c (read.start_token name attrs) tokens s (silent-named rules c (element_named name) attrs false s)
    (holds-steps rules c tokens (step rules (read.start_token name attrs) s).state)
holds-steps rules c (read.empty_token name attrs ∷ tokens) s =
    quiet rules c (read.empty_token name attrs) tokens s (silent-named rules c (element_named name) attrs true s)
    (holds-steps rules c tokens (step rules (read.empty_token name attrs) s).state)
holds-steps rules c (read.end_token name ∷ tokens) s =
    quiet rules c (read.end_token name) tokens s (silent-named_end c (element_named name) s)
    (holds-steps rules c tokens (step rules (read.end_token name) s).state)
holds-steps rules c (read.hidden_token name body ∷ tokens) s =
    quiet rules c (read.hidden_token name body) tokens s (silent c s) (holds-steps rules c tokens s)
holds-steps rules c (read.comment_token text ∷ tokens) s =
    quiet rules c (read.comment_token text) tokens s (silent c s) (holds-steps rules c tokens s)

pub ledger : (rules : Rules) (tags : List read.PlainToken) (c : ℕ) → count_in_written c (closed rules tags) + times c (run_of rules tags).lost ≡ count_in_text c tags
ledger rules tags c =
    ap (λ n. n + times c (run_of rules tags).lost) (count-joined c (run_of rules tags).written)
    ∙ (holds-then c (count_in_text c tags) 0 (count_in_text c tags) (steps rules tags first_state) (end_all (steps rules tags first_state).state) (omega arith)
    (holds-steps rules c tags first_state) (silent-close c (length (steps rules tags first_state).state.opened) 0 (steps rules tags first_state).state)).all
