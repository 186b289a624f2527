-- Links in runs of address characters, and the texts round them.
use Rattle.std.proofs.Common.{◌≡◌, ℕ, zero, suc, ◌+◌, ◌-◌, ◌≤◌, Bool, true, false, not, ◌&&◌, List, [], ◌∷◌, ◌++◌, length, take, drop, refl, sym, ap, subst, ◌∙◌, arith, take-append-drop}
use Rattle.std.specs.Prelude.{if◌then◌else◌, sum_by}
use Rattle.std.specs.List.{list_all, suffix_len}
use Rattle.std.proofs.Math.ListN.{drop_of_length-le}
use Rattle.std.proofs.lemmas.Bool.{and_parts, not-true, cond-false}
use Rattle.std.proofs.lemmas.List.Sums.{sum_by-cons}
use Rattle.pur_laws.proofs.Lists.{all-take, all-drop}
use Rattle.pur_attrlist.specs.Texts.{times}
use Rattle.pur_attrlist.proofs.TextLaws.{times-append}
use Rattle.pur_tree.specs.Nodes.{no_nodes, text_first}
use Rattle.pur_tree.specs.Walks.{count_in_text}
use Rattle.pur_inject.specs.Addresses.{is_address_character, is_address, is_end_mark, address_place, before_address, from_address, without_end_marks, end_marks_of}
use Rattle.pur_inject.specs.Links.{has_link, is_address_sign, link_sign, linked_run, linked_text, text_of}
use Rattle.pur_inject.specs.Runs.{runs_of, with_runs}
use Rattle.pur_inject.specs.Signs.{Sign, letter, element, blank_line, letters, nodes_from}
use Rattle.pur_inject.proofs.AddressLemmas.{all-marks, place-before, place-marks}
use Rattle.pur_inject.proofs.RunLemmas.{Each, each-append, pass-split, pass-run, with-left, with-size, with-stays, each-with}
use Rattle.pur_inject.proofs.SignLemmas.{count-adds, count-letters, letters-none}

pub text-letters : (s : List ℕ) → text_of (letters s) ≡ s
text-letters [] = refl
text-letters (c ∷ s) = ap (λ t. c ∷ t) (text-letters s)

pub all-letters : (s : List ℕ) → list_all is_address_sign (letters s) ≡ list_all is_address_character s
all-letters [] = refl
all-letters (c ∷ s) = ap (λ b. is_address_character c && b) (all-letters s)

-- a run of address characters is its text
pub letters-text : (run : List Sign) → list_all is_address_sign run ≡ true → letters (text_of run) ≡ run
letters-text [] all = refl
letters-text (letter c ∷ run) all = ap (λ r. letter c ∷ r) (letters-text run (and_parts (is_address_character c) (list_all is_address_sign run) all).1)
letters-text (element e kids ∷ run) all = absurd (cc)
letters-text (blank_line ∷ run) all = absurd (cc)

module _ (admits : List ℕ → Bool) where
  -- without a place there is no address, and so no link
  pub link-none : (run : List ℕ) → length run ≤ address_place false run → has_link admits run ≡ false
  link-none run most =
      let none : from_address run ≡ [] = drop_of_length-le run most in
      ap (λ (text : List ℕ). is_address (without_end_marks text) && admits (without_end_marks text)) none

  -- a run has no link, nor has any run of signs
  abbrev pub no_link : List Sign → Bool
  no_link run = not (has_link admits (text_of run))

  abbrev pub no_links : List Sign → Bool
  no_links l = list_all no_link (runs_of is_address_sign l)

  pub linked-stays : (run : List Sign) → no_link run ≡ true → linked_run admits run ≡ run
  linked-stays run none = cond-false _ _ _ (not-true (has_link admits (text_of run)) none)

  letters-left : (s : List ℕ) → list_all is_address_character s ≡ true → has_link admits s ≡ false → no_links (letters s) ≡ true
  letters-left s all none =
      pass-run is_address_sign no_link refl (letters s) (all-letters s ∙ all) (ap (λ t. not (has_link admits t)) (text-letters s) ∙ ap not none)

  -- what is made of a run has no link left
  pub linked-left : (run : List Sign) → list_all is_address_sign run ≡ true → no_links (linked_run admits run) ≡ true
  linked-left run all = go (has_link admits (text_of run)) refl where
    text : List ℕ
    text = text_of run

    all_text : list_all is_address_character text ≡ true
    all_text = sym (all-letters text) ∙ ap (list_all is_address_sign) (letters-text run all) ∙ all

    go : (b : Bool) → has_link admits text ≡ b → no_links (if b
        then letters (before_address text) ++ (link_sign (without_end_marks (from_address text)) ∷ letters (end_marks_of (from_address text)))
        else run) ≡ true
    go true is =
        let before = before_address text in
        let marks = end_marks_of (from_address text) in
        pass-split is_address_sign no_link refl (letters before) (letters marks) (link_sign (without_end_marks (from_address text))) refl
        (letters-left before (all-take is_address_character (address_place false text) text all_text) (link-none before (omega (arith, place-before false text))))
        (letters-left marks
        (all-drop is_address_character (length (from_address text) - suffix_len is_end_mark (from_address text)) (from_address text) (all-drop is_address_character (address_place false text) text all_text))
        (link-none marks (omega (arith, place-marks false marks (all-marks (from_address text))))))
    go false is = pass-run is_address_sign no_link refl run all (ap not is)

  pub text-left : (s : List ℕ) → no_links (with_runs is_address_sign (linked_run admits) (letters s)) ≡ true
  text-left s = with-left is_address_sign (linked_run admits) refl no_link refl linked-left (letters s)

  pub text-stays : (s : List ℕ) → no_links (letters s) ≡ true → linked_text admits s ≡ text_first s no_nodes
  text-stays [] none = refl
  text-stays (c ∷ s) none =
      ap nodes_from (with-stays is_address_sign (linked_run admits) refl no_link linked-stays (letters (c ∷ s)) none) ∙ letters-none (c ∷ s) (omega arith)

  -- each character stands as often as before
  times-cut : (c n : ℕ) (s : List ℕ) → times c (take n s) + times c (drop n s) ≡ times c s
  times-cut c n s = omega (arith, times-append c (take n s) (drop n s), ap (times c) (take-append-drop n s))

  linked-count : (c : ℕ) (run : List Sign) → list_all is_address_sign run ≡ true → count_in_text c (nodes_from (linked_run admits run)) + 0 ≡ count_in_text c (nodes_from run)
  linked-count c run all = go (has_link admits (text_of run)) where
    text : List ℕ
    text = text_of run

    address : List ℕ
    address = from_address text

    link : List Sign
    link = link_sign (without_end_marks address) ∷ letters (end_marks_of address)

    go : (b : Bool) → count_in_text c (nodes_from (if b then letters (before_address text) ++ link else run)) + 0 ≡ count_in_text c (nodes_from run)
    go true = omega (
      arith,
      count-adds c (letters (before_address text)) link,
      count-letters c (before_address text),
      count-letters c (end_marks_of address),
      times-cut c (address_place false text) text,
      times-cut c (length address - suffix_len is_end_mark address) address,
      count-letters c text,
      ap (λ r. count_in_text c (nodes_from r)) (letters-text run all),
    )
    go false = omega arith

  nothing : (runs : List (List Sign)) → sum_by (λ (run : List Sign). 0) runs ≡ 0
  nothing [] = refl
  nothing (run ∷ runs) = sum_by-cons (λ (run : List Sign). 0) run runs ∙ ap (λ n. 0 + n) (nothing runs)

  pub text-count : (c : ℕ) (s : List ℕ) → count_in_text c (linked_text admits s) ≡ times c s
  text-count c [] = refl
  text-count c (d ∷ s) =
      let l = letters (d ∷ s) in
      omega (
        arith,
        with-size is_address_sign (linked_run admits) refl (λ l. count_in_text c (nodes_from l)) (count-adds c) refl (λ run. 0) (linked-count c) l,
        nothing (runs_of is_address_sign l),
        count-letters c (d ∷ s),
      )

  -- what holds of the signs of a text holds of the signs of its texts and links
  pub text-each : (Q : Sign → Type 0) → ((address : List ℕ) → (is_address address && admits address) ≡ true → Each Q (letters address) → Q (link_sign address))
      → (s : List ℕ) → Each Q (letters s) → Each Q (with_runs is_address_sign (linked_run admits) (letters s))
  text-each Q links s h = each-with is_address_sign (linked_run admits) refl Q each (letters s) h where
    front : (n : ℕ) (s : List ℕ) → Each Q (letters s) → Each Q (letters (take n s))
    front zero s h = tt
    front (suc n) [] h = tt
    front (suc n) (c ∷ s) h = (h.0, front n s h.1)

    back : (n : ℕ) (s : List ℕ) → Each Q (letters s) → Each Q (letters (drop n s))
    back zero s h = h
    back (suc n) [] h = tt
    back (suc n) (c ∷ s) h = back n s h.1

    each : (run : List Sign) → list_all is_address_sign run ≡ true → Each Q run → Each Q (linked_run admits run)
    each run all h = go (has_link admits (text_of run)) refl where
      text : List ℕ
      text = text_of run

      address : List ℕ
      address = from_address text

      kept : ℕ
      kept = length address - suffix_len is_end_mark address

      of_text : Each Q (letters text)
      of_text = subst (Each Q) (sym (letters-text run all)) h

      of_address : Each Q (letters address)
      of_address = back (address_place false text) text of_text

      go : (b : Bool) → has_link admits text ≡ b → Each Q (if b then letters (before_address text) ++ (link_sign (without_end_marks address) ∷ letters (end_marks_of address)) else run)
      go true is =
          each-append Q (letters (before_address text)) (link_sign (without_end_marks address) ∷ letters (end_marks_of address))
          (front (address_place false text) text of_text)
          (links (without_end_marks address) is (front kept address of_address), back kept address of_address)
      go false is = h
