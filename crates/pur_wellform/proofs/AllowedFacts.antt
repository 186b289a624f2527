-- What closing leaves has allowed characters alone in its texts and values, where the tokens have.
use Rattle.std.proofs.Common.{◌≡◌, ℕ, List, Bool, true, refl}
use Rattle.std.specs.Prelude.{◌&&◌}
use Rattle.std.specs.List.{list_all}
use Rattle.std.proofs.lemmas.Bool.{and_parts, and_from}
use Rattle.pur_laws.proofs.Lists.{all-append, all-weaker}
use Rattle.pur_text.specs.Characters.{is_allowed}
use Rattle.pur_attrlist.specs.Attributes.{Attribute}
use Rattle.pur_tokens.specs.Characters.{attribute_has_only, token_has_only}
use Rattle.pur_tree.specs.Nodes.{PlainElem, Nodes}
use Rattle.pur_tree.specs.Spelling.{has_allowed_values, has_allowed_characters}
use Rattle.pur_wellform.specs.Laws.{ClosedIsAllowed}
use Rattle.pur_wellform.proofs.PassingFacts.{Test, Reads, Tells, closed-passes}

abbrev says : List ℕ → Bool
says text = list_all is_allowed text

abbrev shows : PlainElem → Bool
shows tag = has_allowed_values tag.attrs

allowed-test : Test says shows
allowed-test = record { joins = all-append is_allowed; wraps = λ wrapper is. refl }

values : (name : List ℕ) (attrs : List Attribute) → (list_all is_allowed name && list_all (attribute_has_only is_allowed) attrs) ≡ true → has_allowed_values attrs ≡ true
values name attrs all =
    all-weaker (attribute_has_only is_allowed) (λ (pair : Attribute). list_all is_allowed pair.1)
    (λ pair both. (and_parts (list_all is_allowed pair.0) (list_all is_allowed pair.1) both).1)
    attrs (and_parts (list_all is_allowed name) (list_all (attribute_has_only is_allowed) attrs) all).1

allowed-reads : Reads says shows (token_has_only is_allowed)
allowed-reads = record {
  text = λ text is. is;
  start = λ name attrs element named is. values name attrs is;
  empty = λ name attrs element named is. values name attrs is;
}

allowed-tells : Tells says shows (λ (nodes : Nodes). has_allowed_characters nodes ≡ true)
allowed-tells = record {
  none = refl;
  text = λ text rest is more. and_from (list_all is_allowed text) (has_allowed_characters rest) is more;
  elem = λ e kids rest is k r.
      and_from (has_allowed_values e.attrs) (has_allowed_characters kids && has_allowed_characters rest) is
      (and_from (has_allowed_characters kids) (has_allowed_characters rest) k r);
}

pub closed-allowed : ClosedIsAllowed
closed-allowed rules tokens nodes all tree =
    closed-passes says shows allowed-test (λ (nodes : Nodes). has_allowed_characters nodes ≡ true) allowed-tells (token_has_only is_allowed) allowed-reads
    rules tokens nodes all tree
