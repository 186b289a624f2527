-- What both injectors make of nodes, and what is lost in that.
use Rattle.std.specs.Prelude.{ℕ, Bool, ◌||◌, not}
use Rattle.pur_settings.specs.Rules.{Rules}
use Rattle.pur_tree.specs.Nodes.{Nodes}
use Rattle.pur_uripolicy.specs.HostRules.{PlainHostRule}
use Rattle.pur_inject.specs.Links.{with_links}
use Rattle.pur_inject.specs.Paragraphs.{lost_in_paragraphs, with_paragraphs}

-- nodes with links, and then with paragraphs, as far as the settings want them
abbrev pub injected : Rules → PlainHostRule → Nodes → Nodes
injected rules rule nodes = with_paragraphs rules (with_links rules rule nodes)

-- how often a character, given as its number, stands in what is lost then: line feeds that are taken of blank lines
abbrev pub lost_in_injecting : ℕ → Rules → PlainHostRule → Nodes → ℕ
lost_in_injecting c rules rule nodes = lost_in_paragraphs c rules (with_links rules rule nodes)

-- whether the settings want neither
abbrev pub injects_nothing : Rules → Bool
injects_nothing rules = not (rules.linkify || rules.auto_paragraph)
