use Rattle.std.proofs.Common.{◌≡◌, ◌∙◌, ◌++◌, ◌∷◌, ◌+◌, [], Some, ap, sym, drop, append-nil, append_assoc, string_bytes, arith}
use Rattle.std.specs.List.{cons_option, filter_map}
use Rattle.std.specs.Str.{chars}
use Rattle.std.proofs.lemmas.Bool.{eqb-false, eqb-true}
use Rattle.std.proofs.lemmas.List.{drop_all, drop_more}
use Rattle.std.proofs.lemmas.Str.{chars-nil, IsUtf8-string_bytes}
use Rattle.pur_laws.proofs.Texts.{no_chars, some_chars}
use Rattle.pur_attrlist.specs.Texts.{text_of}
use Rattle.pur_csstok.specs.Declarations.{declarations_of, style_text}
use Rattle.pur_csstok.specs.Written.{pair_of, pairs_of}
use Rattle.pur_absolute.specs.Absolute.{absolute_declaration, absolute_style}
use Rattle.pur_absolute.proofs.StyleLemmas.{style-more, style-none, style-some}
use Rattle.pur_absolute.proofs.styles.absolute_style.Goals as goal

pub loop-declaration-init : goal.loop-declaration-init
loop-declaration-init g c = λ allows answers.
    ap (λ t. t ++ style_text (filter_map (absolute_declaration allows c.args.base.now) (pairs_of c.deref-declaration-items.result.now)))
    (ap chars c.new-out.ensures.bytes ∙ chars-nil)

pub loop-declaration-preserved : goal.loop-declaration-preserved
loop-declaration-preserved g c =
    let items = c.deref-declaration-items.result.now in
    let i = c.loop-declaration.declaration-index in
    let out = text_of c.loop-declaration.out in
    let next : c.declaration-item.result ∷ drop (i + 1) items ≡ drop i items =
    ap (λ d. d ∷ drop (i + 1) items) c.declaration-item.is ∙ sym (drop_more items i _ (omega (arith, c.loop-declaration-test.true))) in
    λ allows answers.
    let made = absolute_declaration allows c.args.base.now in
    let rest = filter_map made (pairs_of (drop (i + 1) items)) in
    ap (λ t. t ++ style_text rest) (c.in_ok-push_absolute.ensures allows answers)
    ∙ append_assoc out (style_text (cons_option (made (pair_of c.declaration-item.result)) [])) (style_text rest)
    ∙ ap (λ t. out ++ t) (style-more (made (pair_of c.declaration-item.result)) rest)
    ∙ ap (λ left. out ++ style_text (filter_map made (pairs_of left))) next
    ∙ c.loop-declaration.invariant allows answers

pub returns-then-is_empty : goal.returns-then-is_empty
unfolding absolute_style
returns-then-is_empty g c =
    let items = c.deref-declaration-items.result.now in
    let i = c.loop-declaration.declaration-index in
    let out = c.loop-declaration.out in
    let all : pairs_of items ≡ declarations_of (chars c.args.style.now) = ap pairs_of c.deref-declaration-items.ensures.value ∙ c.in_ok-declarations.ensures in
    let none : text_of out ≡ [] = no_chars (string_bytes out) (sym out.bytes.ok.0 ∙ eqb-true _ _ (sym c.if-is_empty.ensures)) in
    λ allows answers.
    let made = absolute_declaration allows c.args.base.now in
    let whole : text_of out ≡ style_text (filter_map made (declarations_of (chars c.args.style.now))) =
    sym (append-nil (text_of out))
    ∙ ap (λ left. text_of out ++ style_text (filter_map made (pairs_of left))) (sym (drop_all i items (omega (arith, c.loop-declaration-test.false))))
    ∙ c.loop-declaration.invariant allows answers ∙ ap (λ pairs. style_text (filter_map made pairs)) all in
    style-none (filter_map made (declarations_of (chars c.args.style.now))) (sym whole ∙ none)

pub returns : goal.returns
unfolding absolute_style
returns g c =
    let items = c.deref-declaration-items.result.now in
    let i = c.loop-declaration.declaration-index in
    let out = c.loop-declaration.out in
    let all : pairs_of items ≡ declarations_of (chars c.args.style.now) = ap pairs_of c.deref-declaration-items.ensures.value ∙ c.in_ok-declarations.ensures in
    let other = eqb-false _ _ (sym c.if-is_empty.ensures) in
    let some = some_chars (string_bytes out) (IsUtf8-string_bytes out) (omega (arith, other, out.bytes.ok.0)) in
    λ allows answers.
    let made = absolute_declaration allows c.args.base.now in
    let whole : text_of out ≡ style_text (filter_map made (declarations_of (chars c.args.style.now))) =
    sym (append-nil (text_of out))
    ∙ ap (λ left. text_of out ++ style_text (filter_map made (pairs_of left))) (sym (drop_all i items (omega (arith, c.loop-declaration-test.false))))
    ∙ c.loop-declaration.invariant allows answers ∙ ap (λ pairs. style_text (filter_map made pairs)) all in
    ap Some whole ∙ style-some (filter_map made (declarations_of (chars c.args.style.now))) (text_of out) whole some
