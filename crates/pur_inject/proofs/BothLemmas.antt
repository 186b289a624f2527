-- Links and paragraphs, one after the other.
use Rattle.std.proofs.Common.{◌≡◌, Bool, true, false, refl, sym, ap, ◌∙◌}
use Rattle.std.specs.Prelude.{if◌then◌else◌, ◌||◌}
use Rattle.std.proofs.lemmas.Bool.{not-true, or_parts}
use Rattle.pur_settings.specs.Rules.{Rules}
use Rattle.pur_uripolicy.specs.HostRules.{PlainHostRule}
use Rattle.pur_tree.specs.Nodes.{Nodes, is_joined, is_sound}
use Rattle.pur_inject.specs.Injected.{injected}
use Rattle.pur_inject.specs.Laws.{names_alone, InjectsNothing}
use Rattle.pur_inject.specs.Links.{linked, link_place_of, makes_links, may_be_linked, with_links}
use Rattle.pur_inject.specs.Paragraphs.{in_paragraphs, makes_paragraphs, with_paragraphs}
use Rattle.pur_inject.proofs.LinkKeepLemmas.{joined-with_links}
use Rattle.pur_inject.proofs.LinksLeftLemmas.{left-names, linked-left, linked-stays, links_left}
use Rattle.pur_inject.proofs.OnceLemmas.{in-once, in-stays, joined-names}
use Rattle.pur_inject.proofs.ParagraphKeepLemmas.{joined-with_paragraphs}
use Rattle.pur_inject.proofs.ParagraphLinkLemmas.{paragraphs-left}

module _ (rules : Rules) (rule : PlainHostRule) where
  -- no link is left to be made in a fragment's nodes
  abbrev left : Nodes → Bool
  left n = links_left rules.doctype (may_be_linked rules rule) (link_place_of rules) n

  stay : (n : Nodes) → (makes_links rules ≡ true → left n ≡ true) → with_links rules rule n ≡ n
  stay n none = go (makes_links rules) none where
    go : (b : Bool) → (b ≡ true → left n ≡ true) → (if b then linked rules.doctype (may_be_linked rules rule) (link_place_of rules) n else n) ≡ n
    go true none = linked-stays rules.doctype (may_be_linked rules rule) (link_place_of rules) n (none refl)
    go false none = refl

  left-on : (n : Nodes) → makes_links rules ≡ true → left (with_links rules rule n) ≡ true
  left-on n on =
      ap (λ (b : Bool). left (if b then linked rules.doctype (may_be_linked rules rule) (link_place_of rules) n else n)) on
      ∙ linked-left rules.doctype (may_be_linked rules rule) (link_place_of rules) n

  pub links-once : (n : Nodes) → with_links rules rule (with_links rules rule n) ≡ with_links rules rule n
  links-once n = stay (with_links rules rule n) (left-on n)

  left-injected : (n : Nodes) → is_joined n ≡ true → makes_links rules ≡ true → left (injected rules rule n) ≡ true
  left-injected n joined on =
      paragraphs-left rules (may_be_linked rules rule) (with_links rules rule n) (joined-with_links rules rule n joined) (left-on n on)

  pub bring-no-links : (n : Nodes) → is_joined n ≡ true → with_links rules rule (injected rules rule n) ≡ injected rules rule n
  bring-no-links n joined = stay (injected rules rule n) (left-injected n joined)

  pub injects-once : (n m : Nodes) → is_joined n ≡ true → names_alone m ≡ names_alone (injected rules rule n) → is_sound m ≡ true → injected rules rule m ≡ m
  injects-once n m joined same sound =
      let made = with_links rules rule n in
      let no_link : makes_links rules ≡ true → left m ≡ true = λ on.
      sym (left-names rules.doctype (may_be_linked rules rule) (link_place_of rules) m) ∙ ap left same
      ∙ left-names rules.doctype (may_be_linked rules rule) (link_place_of rules) (injected rules rule n) ∙ left-injected n joined on in
      let joined_too : is_joined m ≡ true =
      sym (joined-names m) ∙ ap is_joined same ∙ joined-names (injected rules rule n) ∙ joined-with_paragraphs rules made (joined-with_links rules rule n joined) in
      ap (with_paragraphs rules) (stay m no_link) ∙ go (makes_paragraphs rules) same joined_too
    where
      go : (b : Bool) → names_alone m ≡ names_alone (if b then in_paragraphs rules.doctype (with_links rules rule n) else with_links rules rule n) → is_joined m ≡ true
          → (if b then in_paragraphs rules.doctype m else m) ≡ m
      go true same joined = in-stays rules.doctype (with_links rules rule n) m same sound joined
      go false same joined = refl

pub paragraphs-once : (rules : Rules) (n : Nodes) → with_paragraphs rules (with_paragraphs rules n) ≡ with_paragraphs rules n
paragraphs-once rules n = go (makes_paragraphs rules) where
  go : (b : Bool) → (if b then in_paragraphs rules.doctype (if b then in_paragraphs rules.doctype n else n) else (if b then in_paragraphs rules.doctype n else n))
      ≡ (if b then in_paragraphs rules.doctype n else n)
  go true = in-once rules.doctype n
  go false = refl

-- where the settings want neither
pub nothing-injected : InjectsNothing
nothing-injected rules rule n off =
    let neither = or_parts rules.linkify rules.auto_paragraph (not-true (rules.linkify || rules.auto_paragraph) off) in
    rw (neither.0, neither.1) refl
