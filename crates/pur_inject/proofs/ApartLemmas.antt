-- Elements that stand in no paragraph stay as they are.
use Rattle.std.proofs.Common.{◌≡◌, true, not, refl, ap, ◌∙◌}
use Rattle.std.specs.List.{list_all}
use Rattle.std.proofs.lemmas.Bool.{and_parts, and_from}
use Rattle.pur_modules.specs.declared.kinds.Doctype.{Doctype}
use Rattle.pur_tree.specs.Nodes.{Nodes, no_nodes, text_first, elem_first}
use Rattle.pur_inject.specs.Paragraphs.{in_paragraphs, is_line_feed_sign, marked_run, stands_in_paragraphs, wrapped_run}
use Rattle.pur_inject.specs.Private.Standing.{are_apart}
use Rattle.pur_inject.specs.Runs.{with_runs}
use Rattle.pur_inject.specs.Signs.{signs_of, nodes_from}
use Rattle.pur_inject.proofs.RunLemmas.{with-none}

module _ (d : Doctype) where
  no-letters : (n : Nodes) → are_apart d n ≡ true → list_all (λ x. not (is_line_feed_sign x)) (signs_of n) ≡ true
  no-letters no_nodes apart = refl
  no-letters (text_first s rest) apart = absurd (cc)
  no-letters (elem_first e kids rest) apart = no-letters rest (and_parts _ _ apart).1

  none-stand : (n : Nodes) → are_apart d n ≡ true → list_all (λ x. not (stands_in_paragraphs d x)) (signs_of n) ≡ true
  none-stand no_nodes apart = refl
  none-stand (text_first s rest) apart = absurd (cc)
  none-stand (elem_first e kids rest) apart = let both = and_parts _ _ apart in and_from _ _ both.0 (none-stand rest both.1)

  spelled : (n : Nodes) → are_apart d n ≡ true → nodes_from (signs_of n) ≡ n
  spelled no_nodes apart = refl
  spelled (text_first s rest) apart = absurd (cc)
  spelled (elem_first e kids rest) apart = ap (elem_first e kids) (spelled rest (and_parts _ _ apart).1)

  pub apart-stay : (n : Nodes) → are_apart d n ≡ true → in_paragraphs d n ≡ n
  apart-stay n apart =
      ap (λ l. nodes_from (with_runs (stands_in_paragraphs d) wrapped_run l)) (with-none is_line_feed_sign marked_run refl (signs_of n) (no-letters n apart))
      ∙ ap nodes_from (with-none (stands_in_paragraphs d) wrapped_run refl (signs_of n) (none-stand n apart))
      ∙ spelled n apart
