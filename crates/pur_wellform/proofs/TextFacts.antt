-- Texts and end tags in the program.
use Rattle.std.proofs.Common.{arith, ◌≡◌, ℕ, ◌≤◌, ◌<◌, List, [], ◌∷◌, ◌++◌, map, refl, ap, sym, subst, ◌∙◌, Bool, true, false, not, ◌&&◌, ◌||◌, if◌then◌else◌, le-leb, length, nat_lt, Option, None}
use Rattle.std.proofs.lemmas.Str.{chars-nil}
use Rattle.std.specs.List.{list_any}
use Rattle.std.specs.Str.{chars}
use Rattle.pur_names.specs.Elements.{same_element}
use Rattle.pur_names.specs.declared.elements.Element.{Element}
use Rattle.pur_modules.specs.declared.kinds.Child.TheVariants.{Text}
use Rattle.pur_modules.specs.Contents.{is_empty_element}
use Rattle.pur_settings.specs.Rules.{Rules}
use Rattle.pur_tree.specs.Nodes.{PlainElem, bare}
use Rattle.pur_wellform.specs.declared.machine.Machine.{Machine}
use Rattle.pur_wellform.specs.declared.machine.Pending.{Pending}
use Rattle.pur_wellform.specs.Search.{level_in, barred, direct, inside, entry, open_place}
use Rattle.pur_text.specs.Characters.{is_blank}
use Rattle.pur_wellform.specs.Closing.{losing, followed_by, enter, enter_wrapper, put_text, text_step, without_newest, end_at, end_step}
use Rattle.pur_wellform.specs.Invariants.{Kept}
use Rattle.pur_wellform.specs.Private.Opens.{names_of}
use Rattle.pur_wellform.specs.Private.Machines.{pending_tag, state_of, IsMachine, Did}
use Rattle.pur_wellform.proofs.TableFacts.{both, wrapper_is_full}
use Rattle.pur_laws.proofs.Truth.{or_true}
use Rattle.pur_wellform.proofs.ListFacts.{nat_le_false}
use Rattle.pur_wellform.proofs.PlaceFacts.{GoodWrapper, IsEntry, entry_is}
use Rattle.pur_wellform.proofs.MachineFacts.{did-next, did-changed, map-more}

lost : (rules : Rules) (m : Machine) (text : List ℕ) → IsMachine rules m → Did rules m m (losing text (state_of m))
lost rules m text h = record { machine = h; state = refl; written = λ more. refl }

pub did-lose : (rules : Rules) (m : Machine) (text : List ℕ) → IsMachine rules m → is_blank text ≡ false → barred ≡ entry rules (names_of m.opened.items) Text
    → Did rules m m (text_step rules text (state_of m))
did-lose rules m text h b e =
    subst (Did rules m m) (sym (let s : text_step rules text (state_of m) ≡ losing text (state_of m) = rw (b, ← e) refl in s)) (lost rules m text h)

pub did-direct : (rules : Rules) (m new : Machine) (text : List ℕ) → is_blank text ≡ false → direct ≡ entry rules (names_of m.opened.items) Text
    → Did rules m new (put_text rules text (state_of m)) → Did rules m new (text_step rules text (state_of m))
did-direct rules m new text b e d =
    subst (Did rules m new) (sym (let s : text_step rules text (state_of m) ≡ put_text rules text (state_of m) = rw (b, ← e) refl in s)) d

pub did-lose_deep : (rules : Rules) (m : Machine) (text : List ℕ) (w : Element) (n : ℕ) → IsMachine rules m → is_blank text ≡ false
    → inside w ≡ entry rules (names_of m.opened.items) Text → n ≡ level_in (w ∷ names_of m.opened.items) → 128 < n
    → Did rules m m (text_step rules text (state_of m))
did-lose_deep rules m text w n h b e l deep =
    subst (Did rules m m) (sym (let s : text_step rules text (state_of m) ≡ losing text (state_of m) =
    rw (b, ← e, nat_le_false (level_in (w ∷ names_of m.opened.items)) 128 (omega (arith, l, deep))) refl in s)) (lost rules m text h)

pub did-wrap : (rules : Rules) (m mid new : Machine) (text : List ℕ) (w : Element) (n : ℕ) → is_blank text ≡ false
    → inside w ≡ entry rules (names_of m.opened.items) Text → n ≡ level_in (w ∷ names_of m.opened.items) → n ≤ 128
    → Did rules m mid (enter (bare w) (state_of m)) → Did rules mid new (put_text rules text (state_of mid))
    → Did rules m new (text_step rules text (state_of m))
did-wrap rules m mid new text w n b e l low p q =
    subst (Did rules m new) (sym (let s : text_step rules text (state_of m) ≡ followed_by (enter_wrapper (inside w) (state_of m)) (put_text rules text) =
    rw (b, ← e, le-leb (level_in (w ∷ names_of m.opened.items)) 128 (omega (arith, l, low))) refl in s))
    (did-next rules m mid new (enter (bare w) (state_of m)) (put_text rules text) p q)

-- the wrapper that a text implies
text_wrapper : (rules : Rules) (es : List Element) (w : Element) → inside w ≡ entry rules es Text → GoodWrapper rules es Text w
text_wrapper rules es w e = subst (IsEntry rules es Text) (sym e) (entry_is rules es Text)

pub text_wrapper_full : (rules : Rules) (es : List Element) (w : Element) → inside w ≡ entry rules es Text → is_empty_element w ≡ false
text_wrapper_full rules es w e = wrapper_is_full w (text_wrapper rules es w e).wraps.kind

pub kept_wrapped : (rules : Rules) (m mid : Machine) (w : Element) → Kept rules (state_of m) → inside w ≡ entry rules (names_of m.opened.items) Text
    → Did rules m mid (enter (bare w) (state_of m)) → Kept rules (state_of mid)
kept_wrapped rules m mid w k e d =
    subst (Kept rules) (sym d.state)
    (record { opened = both (text_wrapper rules (names_of m.opened.items) w e).permitted k.opened; pending = k.pending; few = k.few })

-- the newest of those that wait that has a name
never : (b : Bool) → (b && false) ≡ false
never true = refl
never false = refl

some_later : (e : Element) (x : PlainElem) (tags : List PlainElem) → same_element e x.name ≡ true
    → list_any (λ later. same_element e later.name) (tags ++ (x ∷ [])) ≡ true
some_later e x [] s = rw s refl
some_later e x (t ∷ tags) s = rw (some_later e x tags s) (or_true (same_element e t.name))

without_last : (e : Element) (x : PlainElem) (tags : List PlainElem) → same_element e x.name ≡ true → without_newest e (tags ++ (x ∷ [])) ≡ tags
without_last e x [] s = rw s refl
without_last e x (t ∷ tags) s =
    rw (some_later e x tags s, never (same_element e t.name)) (ap (λ ts. t ∷ ts) (without_last e x tags s))

none_later : (e : Element) (x : PlainElem) (tags : List PlainElem) → same_element e x.name ≡ false
    → list_any (λ later. same_element e later.name) (tags ++ (x ∷ [])) ≡ list_any (λ later. same_element e later.name) tags
none_later e x [] s = rw s refl
none_later e x (t ∷ tags) s = ap (λ b. same_element e t.name || b) (none_later e x tags s)

without_earlier : (e : Element) (x : PlainElem) (tags : List PlainElem) → same_element e x.name ≡ false
    → without_newest e (tags ++ (x ∷ [])) ≡ without_newest e tags ++ (x ∷ [])
without_earlier e x [] s = rw s refl
without_earlier e x (t ∷ tags) s =
    rw (none_later e x tags s) (go (same_element e t.name && not (list_any (λ later. same_element e later.name) tags)) (without_earlier e x tags s))
  where
    go : (b : Bool) → without_newest e (tags ++ (x ∷ [])) ≡ without_newest e tags ++ (x ∷ [])
        → (if b then tags ++ (x ∷ []) else t ∷ without_newest e (tags ++ (x ∷ []))) ≡ (if b then tags else t ∷ without_newest e tags) ++ (x ∷ [])
    go true h = refl
    go false h = ap (λ ts. t ∷ ts) h

-- an end tag
pub did-end : (rules : Rules) (m new : Machine) (e : Element) (found : Option ℕ) → found ≡ open_place e (names_of m.opened.items)
    → Did rules m new (end_at e found (state_of m)) → Did rules m new (end_step e (state_of m))
did-end rules m new e found p d = subst (λ f. Did rules m new (end_at e f (state_of m))) p d

pub did-forget : (rules : Rules) (m new : Machine) (e : Element) → IsMachine rules m → new.builder ≡ m.builder → new.opened.items ≡ m.opened.items
    → map pending_tag new.pending.items ≡ without_newest e (map pending_tag m.pending.items) → new.rest ≡ m.rest
    → Did rules m new (end_at e None (state_of m))
did-forget rules m new e h builder opens pends rests =
    did-changed rules m new (without_newest e (map pending_tag m.pending.items)) m.rest h builder opens pends rests

pub forgets_last : (e : Element) (x : Pending) (old new : List Pending) → old ≡ new ++ (x ∷ []) → same_element e x.name ≡ true
    → map pending_tag new ≡ without_newest e (map pending_tag old)
forgets_last e x old new o s =
    sym (ap (λ (xs : List Pending). without_newest e (map pending_tag xs)) o ∙ ap (without_newest e) (map-more pending_tag new x)
    ∙ without_last e (pending_tag x) (map pending_tag new) s)

pub forgets_earlier : (e : Element) (x : Pending) (old front mid new : List Pending) → old ≡ front ++ (x ∷ []) → same_element e x.name ≡ false
    → map pending_tag mid ≡ without_newest e (map pending_tag front) → new ≡ mid ++ (x ∷ []) → map pending_tag new ≡ without_newest e (map pending_tag old)
forgets_earlier e x old front mid new o s f n =
    ap (map pending_tag) n ∙ map-more pending_tag mid x ∙ ap (λ (ts : List PlainElem). ts ++ (pending_tag x ∷ [])) f
    ∙ sym (ap (λ (xs : List Pending). without_newest e (map pending_tag xs)) o ∙ ap (without_newest e) (map-more pending_tag front x)
    ∙ without_earlier e (pending_tag x) (map pending_tag front) s)

-- a text of characters is one of bytes
pub some_bytes : (bytes : List ℕ) → nat_lt 0 (length (chars bytes)) ≡ true → 0 < length bytes
some_bytes [] h = absurd (let k : nat_lt 0 0 ≡ true = subst (λ (text : List ℕ). nat_lt 0 (length text) ≡ true) chars-nil h in cc)
some_bytes (b ∷ bytes) h = omega arith
