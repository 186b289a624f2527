-- Paragraphs bring up no link: line feeds are no address characters, and what stands in a paragraph stood in a piece.
use Rattle.std.proofs.Common.{◌≡◌, ℕ, Bool, true, false, not, ◌&&◌, List, [], ◌∷◌, ◌++◌, Some, refl, sym, ap, ◌∙◌, arith}
use Rattle.std.specs.Prelude.{Option, if◌then◌else◌, unwrap_or}
use Rattle.std.specs.List.{list_all}
use Rattle.std.proofs.lemmas.Bool.{and_parts, and_from, not-true, cond-false}
use Rattle.std.proofs.lemmas.Bool.Decides.{nat_tests}
use Rattle.pur_laws.proofs.Lists.{all-append}
use Rattle.pur_names.specs.declared.elements.Element.{Element}
use Rattle.pur_names.specs.declared.elements.Element.TheVariants.{A, P}
use Rattle.pur_modules.specs.declared.kinds.Child.TheVariants.{Elem}
use Rattle.pur_modules.specs.declared.kinds.Content.{Content}
use Rattle.pur_modules.specs.declared.kinds.Content.TheVariants.{Flow, Nothing}
use Rattle.pur_modules.specs.declared.kinds.Doctype.{Doctype}
use Rattle.pur_modules.specs.declared.kinds.Doctype.TheVariants.{Strict, Transitional}
use Rattle.pur_modules.specs.Contents.{Holding, content_held, content_in, doctype_holdings, edit_content, holdings, holds}
use Rattle.pur_modules.specs.Expressions.{is_letter, child_letters}
use Rattle.pur_modules.specs.Groups.{is_among, inline, misc}
use Rattle.pur_settings.specs.Rules.{Rules, permits_element}
use Rattle.pur_tree.specs.Nodes.{Nodes, bare, is_joined}
use Rattle.pur_tree.specs.Places.{rise}
use Rattle.pur_inject.specs.Links.{is_address_sign, link_place_inside, link_place_of, takes_links}
use Rattle.pur_inject.specs.Paragraphs.{in_paragraphs, is_flow, is_in_paragraphs, is_line_feed_sign, is_paragraph, makes_paragraphs, marked_run, stands_in_paragraphs, with_blank_lines, with_paragraphs, wrapped_run}
use Rattle.pur_inject.specs.Runs.{front_run, later_runs, runs_of, behind_run, with_runs}
use Rattle.pur_inject.specs.Signs.{Sign, letter, element, blank_line, signs_of, nodes_from}
use Rattle.pur_inject.specs.declared.places.LinkPlace.{LinkPlace}
use Rattle.pur_inject.proofs.LinkLemmas.{no_link, no_links}
use Rattle.pur_inject.proofs.LinksLeftLemmas.{KidsLeft, Narrower, kids-left, left-narrower, left-signs, links_left, signs-left}
use Rattle.pur_inject.proofs.RunLemmas.{Each, Stops, each-append, each-front, each-with, front-all, runs-join}

-- ---- what inline elements hold, whatever holds them

skipped : (row : Holding) (rows more : List Holding) (e : Element) → is_among row.holders e ≡ false → content_in (rows ++ row ∷ more) e ≡ content_in (rows ++ more) e
skipped row [] more e isnt = cond-false _ _ _ isnt
skipped row (first ∷ rows) more e isnt = ap (λ (o : Option Content). if is_among first.holders e then Some first.content else o) (skipped row rows more e isnt)

pub held-same : (d : Doctype) (e : Element) (one two : Content) → is_in_paragraphs d e ≡ true → content_held d e one ≡ content_held d e two
unfolding content_held
held-same d e one two is =
    let isnt = not-true (is_among misc e) (and_parts (is_among (inline d) e) (not (is_among misc e)) is).1 in
    ap (λ (o : Option Content). unwrap_or o Nothing)
    (skipped (holds (edit_content one) misc) holdings (doctype_holdings d) e isnt ∙ sym (skipped (holds (edit_content two) misc) holdings (doctype_holdings d) e isnt))

feed-other : (x : Sign) → is_line_feed_sign x ≡ true → is_address_sign x ≡ false
feed-other (letter c) is = grind (arith, nat_tests)
feed-other (element e kids) is = refl
feed-other blank_line is = refl

module _ (admits : List ℕ → Bool) where
  abbrev later_links : List Sign → Bool
  later_links l = list_all (no_link admits) (later_runs is_address_sign l)

  -- a sign that is no address character, in front
  other-front : (x : Sign) (l : List Sign) → is_address_sign x ≡ false → later_links (x ∷ l) ≡ no_links admits l
  other-front x l other = rw other refl

  front-other : (x : Sign) (l : List Sign) → is_address_sign x ≡ false → front_run is_address_sign (x ∷ l) ≡ []
  front-other x l other = rw other refl

  no-links-other : (x : Sign) (l : List Sign) → is_address_sign x ≡ false → no_links admits (x ∷ l) ≡ no_links admits l
  no-links-other x l other = ap (λ r. no_link admits r && later_links (x ∷ l)) (front-other x l other) ∙ other-front x l other

  -- ---- blank lines are marked

  abbrev behind_feeds : List Sign → List Sign
  behind_feeds = behind_run is_line_feed_sign marked_run

  -- the run at the front stays, and no link comes into those behind it
  record Marked (l m : List Sign) : Type 0 where
    front : front_run is_address_sign m ≡ front_run is_address_sign l
    later : later_links l ≡ true → later_links m ≡ true

  marked-none : (l m : List Sign) → Marked l m → no_links admits l ≡ true → no_links admits m ≡ true
  marked-none l m is h =
      let both = and_parts _ _ h in
      and_from _ _ (ap (no_link admits) is.front ∙ both.0) (is.later both.1)

  marked-same : (x : Sign) (l m : List Sign) → Marked l m → Marked (x ∷ l) (x ∷ m)
  marked-same x l m is = record { front = ap (λ r. if is_address_sign x then x ∷ r else []) is.front; later = go (is_address_sign x) } where
    go : (b : Bool) → list_all (no_link admits) (if b then later_runs is_address_sign l else runs_of is_address_sign l) ≡ true
        → list_all (no_link admits) (if b then later_runs is_address_sign m else runs_of is_address_sign m) ≡ true
    go true h = is.later h
    go false h = marked-none l m is h

  record BothMarked (l : List Sign) : Type 0 where
    whole : Marked l (with_blank_lines l)
    behind : no_links admits l ≡ true → no_links admits (behind_feeds l) ≡ true

  -- a sign that is no address character, in front of what stands behind a run of line feeds
  marked-feed : (x z : Sign) (l : List Sign) → is_address_sign x ≡ false → is_address_sign z ≡ false → (no_links admits l ≡ true → no_links admits (behind_feeds l) ≡ true)
      → Marked (x ∷ l) (z ∷ behind_feeds l)
  marked-feed x z l one two behind = record {
    front = front-other z (behind_feeds l) two ∙ sym (front-other x l one);
    later = λ h. other-front z (behind_feeds l) two ∙ behind (sym (other-front x l one) ∙ h);
  }

  both-marked : (l : List Sign) → BothMarked l
  both-marked [] = record { whole = record { front = refl; later = λ h. h }; behind = λ h. h }
  both-marked (x ∷ l) = record { whole = whole (is_line_feed_sign x) refl (both-marked l); behind = behind (is_line_feed_sign x) refl (both-marked l) } where
    whole : (b : Bool) → is_line_feed_sign x ≡ b → BothMarked l
        → Marked (x ∷ l) (marked_run (if b then x ∷ front_run is_line_feed_sign l else []) ++ (if b then behind_feeds l else x ∷ with_blank_lines l))
    whole true is both = first (front_run is_line_feed_sign l) where
      first : (run : List Sign) → Marked (x ∷ l) (marked_run (x ∷ run) ++ behind_feeds l)
      first [] = marked-feed x x l (feed-other x is) (feed-other x is) both.behind
      first (y ∷ run) = marked-feed x blank_line l (feed-other x is) refl both.behind
    whole false is both = marked-same x l (with_blank_lines l) both.whole

    behind : (b : Bool) → is_line_feed_sign x ≡ b → BothMarked l → no_links admits (x ∷ l) ≡ true
        → no_links admits (if b then behind_feeds l else x ∷ with_blank_lines l) ≡ true
    behind true is both h = both.behind (sym (no-links-other x l (feed-other x is)) ∙ h)
    behind false is both h = marked-none (x ∷ l) (x ∷ with_blank_lines l) (marked-same x l (with_blank_lines l) both.whole) h

  -- ---- pieces are wrapped

  module _ (d : Doctype) (at : LinkPlace) where
    outside-other : (x : Sign) → stands_in_paragraphs d x ≡ false → is_address_sign x ≡ false
    outside-other (letter c) isnt = absurd (cc)
    outside-other (element e kids) isnt = refl
    outside-other blank_line isnt = refl

    marked-front : (l : List Sign) → Marked l (front_run (stands_in_paragraphs d) l)
    marked-front [] = record { front = refl; later = λ h. h }
    marked-front (x ∷ l) = go (stands_in_paragraphs d x) refl (marked-front l) where
      go : (b : Bool) → stands_in_paragraphs d x ≡ b → Marked l (front_run (stands_in_paragraphs d) l) → Marked (x ∷ l) (if b then x ∷ front_run (stands_in_paragraphs d) l else [])
      go true is rest = marked-same x l (front_run (stands_in_paragraphs d) l) rest
      go false isnt rest = record { front = sym (front-other x l (outside-other x isnt)); later = λ h. refl }

    inside-narrower : (e : Element) → is_in_paragraphs d e ≡ true → at.in_table ≡ false
        → Narrower d admits (link_place_inside d (link_place_inside d at P) e) (link_place_inside d at e)
    inside-narrower e is out = record {
      content = held-same d e (link_place_inside d at P).content at.content is;
      room = let same : rise false e ≡ rise at.in_table e = ap (λ (b : Bool). rise b e) (sym out) in omega (arith, same);
      in_table = refl;
      barred = refl;
    }

    module _ (out : at.in_table ≡ false) where
      abbrev Kids : Sign → Type 0
      Kids = KidsLeft d admits at

      kids-inside : (run : List Sign) → list_all (stands_in_paragraphs d) run ≡ true → Each Kids run → Each (KidsLeft d admits (link_place_inside d at P)) run
      kids-inside [] all h = tt
      kids-inside (letter c ∷ run) all h = (tt, kids-inside run all h.1)
      kids-inside (element e kids ∷ run) all h =
          let both = and_parts (is_in_paragraphs d e.name) (list_all (stands_in_paragraphs d) run) all in (
            left-narrower d admits (link_place_inside d (link_place_inside d at P) e.name) (link_place_inside d at e.name) kids (inside-narrower e.name both.0 out) h.0,
            kids-inside run both.1 h.1,
          )
      kids-inside (blank_line ∷ run) all h = absurd (cc)

      -- no link is left in signs, and none inside of their elements
      abbrev Left : List Sign → Type 0
      Left l = (no_links admits l ≡ true) × Each Kids l

      wrapped-left : (run : List Sign) → list_all (stands_in_paragraphs d) run ≡ true → Left run → Left (wrapped_run run)
      wrapped-left run all h = go (is_paragraph (nodes_from run)) where
        go : (b : Bool) → Left (if b then element (bare P) (nodes_from run) ∷ [] else run)
        go true = (refl, (signs-left d admits (link_place_inside d at P) run h.0 (kids-inside run all h.1), tt))
        go false = h

      behind-stops : (l : List Sign) → Stops is_address_sign (behind_run (stands_in_paragraphs d) wrapped_run l)
      behind-stops [] = tt
      behind-stops (x ∷ l) = go (stands_in_paragraphs d x) refl (behind-stops l) where
        go : (b : Bool) → stands_in_paragraphs d x ≡ b → Stops is_address_sign (behind_run (stands_in_paragraphs d) wrapped_run l) → Stops is_address_sign (if b then behind_run (stands_in_paragraphs d) wrapped_run l else x ∷ with_runs (stands_in_paragraphs d) wrapped_run l)
        go true is rest = rest
        go false isnt rest = outside-other x isnt

      abbrev LeftBehind : List Sign → Type 0
      LeftBehind l = (later_links l ≡ true) × Each Kids l

      from-behind : (l : List Sign) → Left l → LeftBehind (behind_run (stands_in_paragraphs d) wrapped_run l) → Left (with_runs (stands_in_paragraphs d) wrapped_run l)
      from-behind l h behind =
          let front = front_run (stands_in_paragraphs d) l in
          let rest = behind_run (stands_in_paragraphs d) wrapped_run l in
          let made = wrapped-left front (front-all (stands_in_paragraphs d) l) (marked-none l front (marked-front l) h.0, each-front (stands_in_paragraphs d) Kids l h.1) in (
            ap (list_all (no_link admits)) (runs-join is_address_sign (wrapped_run front) rest (behind-stops l))
                ∙ all-append (no_link admits) (runs_of is_address_sign (wrapped_run front)) (later_runs is_address_sign rest) made.0 behind.0,
            each-append Kids (wrapped_run front) rest made.1 behind.1,
          )

      behind-left : (l : List Sign) → LeftBehind l → LeftBehind (behind_run (stands_in_paragraphs d) wrapped_run l)
      behind-left [] h = h
      behind-left (x ∷ l) h = go (stands_in_paragraphs d x) refl (behind-left l (later (is_address_sign x) h.0, h.1.1)) where
        later : (b : Bool) → list_all (no_link admits) (if b then later_runs is_address_sign l else runs_of is_address_sign l) ≡ true → later_links l ≡ true
        later true h = h
        later false h = (and_parts _ _ h).1

        go : (b : Bool) → stands_in_paragraphs d x ≡ b → LeftBehind (behind_run (stands_in_paragraphs d) wrapped_run l) → LeftBehind (if b then behind_run (stands_in_paragraphs d) wrapped_run l else x ∷ with_runs (stands_in_paragraphs d) wrapped_run l)
        go true is rest = rest
        go false isnt rest =
            let other = outside-other x isnt in
            let all = from-behind l (sym (other-front x l other) ∙ h.0, h.1.1) rest in
            (other-front x (with_runs (stands_in_paragraphs d) wrapped_run l) other ∙ all.0, (h.1.0, all.1))

      marked-kids : (run : List Sign) → list_all is_line_feed_sign run ≡ true → Each Kids run → Each Kids (marked_run run)
      marked-kids [] all h = h
      marked-kids (x ∷ []) all h = h
      marked-kids (x ∷ y ∷ run) all h = (tt, tt)

      pub in-left : (n : Nodes) → takes_links d at ≡ true → is_joined n ≡ true → links_left d admits at n ≡ true → links_left d admits at (in_paragraphs d n) ≡ true
      in-left n takes joined h =
          let signs = signs_of n in
          let marked = with_blank_lines signs in
          let none = marked-none signs marked (both-marked signs).whole (left-signs d admits at n takes joined h) in
          let kids = each-with is_line_feed_sign marked_run refl Kids marked-kids signs (kids-left d admits at n h) in
          let all = from-behind marked (none, kids) (behind-left marked ((and_parts _ _ none).1, kids)) in
          signs-left d admits at (with_runs (stands_in_paragraphs d) wrapped_run marked) all.0 all.1

-- a `div` takes links
pub flow-takes : (d : Doctype) → is_letter d Flow (Elem A) ≡ true
unfolding child_letters
flow-takes Strict = refl
flow-takes Transitional = refl

pub flow-is : (k : Content) → is_flow k ≡ true → k ≡ Flow
flow-is Flow h = refl
flow-is k h = absurd (cc)

pub flow-on : (rules : Rules) → makes_paragraphs rules ≡ true → rules.parent ≡ Flow
flow-on rules on = flow-is rules.parent (and_parts rules.auto_paragraph (is_flow rules.parent) (and_parts (rules.auto_paragraph && is_flow rules.parent) (permits_element rules P) on).0).1

pub paragraphs-left : (rules : Rules) (admits : List ℕ → Bool) (n : Nodes) → is_joined n ≡ true → links_left rules.doctype admits (link_place_of rules) n ≡ true
    → links_left rules.doctype admits (link_place_of rules) (with_paragraphs rules n) ≡ true
paragraphs-left rules admits n joined h = go (makes_paragraphs rules) refl where
  go : (b : Bool) → makes_paragraphs rules ≡ b → links_left rules.doctype admits (link_place_of rules) (if b then in_paragraphs rules.doctype n else n) ≡ true
  go false is = h
  go true is =
      let letter : is_letter rules.doctype rules.parent (Elem A) ≡ true = ap (λ k. is_letter rules.doctype k (Elem A)) (flow-on rules is) ∙ flow-takes rules.doctype in
      in-left admits rules.doctype (link_place_of rules) refl n (and_from _ _ (and_from _ _ letter refl) refl) joined h
