use Rattle.std.proofs.Common.{rules, ◌∙◌, string_bytes}
use Rattle.std.specs.Cmp.Lexicographic.{slice_cmp}
use Rattle.std.specs.Ordering.{nat_cmp}
use Rattle.std.specs.declared.string.String.{String}
use Rattle.std.specs.declared.alloc.Global.{Global}
use Rattle.std.proofs.lemmas.Fn.{always_returns_same}
use Rattle.pur_uripolicy.proofs.SetLemmas.{found}
use Rattle.pur_uripolicy.proofs.hosts.is_among.Goals as goal

pub returns : goal.returns
returns c =
    let facts = c.binary_search_by.ensures in
    let by_bytes = facts.position (λ (h : String Global). slice_cmp nat_cmp (string_bytes h) c.args.name.now) (always_returns_same _ _ _ (λ a r f' called. search rules)) in
    c.is_ok.ensures.value ∙ found c.args.names.now c.args.name.now c.binary_search_by.result c.requires facts.bound by_bytes
