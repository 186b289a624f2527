-- What stands behind the first run is cut off as bytes; the characters of both are those of the text.
use Rattle.std.proofs.Common.{◌≡◌, ◌<◌, ℕ, zero, suc, true, List, [], ◌∷◌, length, get_or, take, drop, refl, sym, ap, subst, ◌∙◌, arith, rules, IsUtf8}
use Rattle.std.specs.List.{prefix_len}
use Rattle.std.specs.Str.{IsCharBoundary}
use Rattle.std.proofs.lemmas.Bool.Decides.{nat_tests}
use Rattle.pur_laws.proofs.Texts.{is_ascii, no_chars}
use Rattle.pur_inject.specs.Private.Cutting.{is_of, says}
use Rattle.pur_inject.specs.declared.runs.Sort.TheVariants.{Address, LineFeed}
use Rattle.pur_inject.specs.declared.runs.Sort.{Sort}
use Rattle.pur_inject.proofs.CutLemmas.{IsCut, cut-is, run-boundary, first-counts}
use Rattle.pur_inject.proofs.runs.cut_run.Goals as goal

get_or-any : (text : List ℕ) (k d e : ℕ) → k < length text → get_or text k d ≡ get_or text k e
get_or-any [] k d e within = absurd (omega arith)
get_or-any (b ∷ text) zero d e within = refl
get_or-any (b ∷ text) (suc k) d e within = get_or-any text k d e (omega arith)

sort_low : (sort : Sort) (b : ℕ) → is_of sort b ≡ true → is_ascii b ≡ true
sort_low Address b is = grind (arith, nat_tests)
sort_low LineFeed b is = grind (arith, nat_tests)

pub returns-then-is_empty-clause-none : goal.returns-then-is_empty-clause-none
returns-then-is_empty-clause-none c =
    let none : length c.args.text.now ≡ 0 = search rules in
    no_chars c.args.text.now none

pub split_at-requires : goal.split_at-requires
split_at-requires c =
    let len = c.run_len.ensures.len ∙ ap (prefix_len (says (is_of c.args.sort) c.has-is.result)) c.as_bytes-bytes.ensures.value in
    subst (IsCharBoundary c.args.text.now) (sym len) (run-boundary (is_of c.args.sort) (sort_low c.args.sort) c.has-is.result c.args.text.now c.utf8.text)

cut : (c : goal.After-behind-2-1) → IsCut (is_of c.args.sort) (sort_low c.args.sort) c.has-is.result c.args.text.now c.split_at.result.0.now c.split_at.result.1.now
cut c =
    let text = c.args.text.now in
    let len : c.run_len.result ≡ prefix_len (says (is_of c.args.sort) c.has-is.result) text = c.run_len.ensures.len ∙ ap (prefix_len (says (is_of c.args.sort) c.has-is.result)) c.as_bytes-bytes.ensures.value in
    let utf8_run : IsUtf8 c.split_at.result.0.now = search rules in
    let utf8_behind : IsUtf8 c.split_at.result.1.now = search rules in
    cut-is (is_of c.args.sort) (sort_low c.args.sort) text c.split_at.result.0.now c.split_at.result.1.now c.has-is.result utf8_run utf8_behind
    (c.split_at.ensures.front ∙ ap (λ n. take n text) len) (c.split_at.ensures.back ∙ ap (λ n. drop n text) len)

pub returns-clause-whole : goal.returns-clause-whole
returns-clause-whole c = (cut c).whole

pub returns-clause-said : goal.returns-clause-said
returns-clause-said c = let said = (cut c).said in search (rules, said)

pub returns-clause-over : goal.returns-clause-over
returns-clause-over c = let over = (cut c).over in search (rules, over)

pub returns-clause-ascii : goal.returns-clause-ascii
returns-clause-ascii c = (cut c).ascii

pub returns-clause-shorter : goal.returns-clause-shorter
returns-clause-shorter c =
    let test = is_of c.args.sort in
    let text = c.args.text.now in
    let some : 0 < length text = search rules in
    let is : c.has-is.result ≡ test (get_or text 0 0) = c.has-is.ensures ∙ ap (λ t. test (get_or t 0 0)) c.as_bytes-bytes.ensures.value in
    let counts = first-counts test (sort_low c.args.sort) text (get_or text 0 0) c.has-is.result some (get_or-any text 0 (get_or text 0 0) 0 some) is in
    let len = c.run_len.ensures.len ∙ ap (prefix_len (says test c.has-is.result)) c.as_bytes-bytes.ensures.value in
    omega (arith, counts, len, some, c.split_at.ensures.back_len)
