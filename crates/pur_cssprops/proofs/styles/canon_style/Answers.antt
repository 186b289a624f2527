use Rattle.std.proofs.Common.{◌≡◌, ◌∙◌, ◌∷◌, ◌+◌, [], ap, sym, map, drop, arith}
use Rattle.std.specs.List.{filter_map}
use Rattle.std.specs.Option.{option_map}
use Rattle.std.specs.Str.{chars}
use Rattle.std.proofs.lemmas.List.{drop_all, drop_more}
use Rattle.pur_text.specs.Texts.{text_of}
use Rattle.pur_csstok.specs.Declarations.{declarations_of}
use Rattle.pur_csstok.specs.Written.{pair_of, pairs_of}
use Rattle.pur_cssprops.specs.Private.Held.{entry_held, held, with_all, written}
use Rattle.pur_cssprops.specs.Styles.{declaration_kept, each_once, style_read}
use Rattle.pur_cssprops.proofs.KeptLemmas.{with-next, held-once, written-once}
use Rattle.pur_cssprops.proofs.StyleLaws.{itself-again}
use Rattle.pur_cssprops.proofs.styles.canon_style.Goals as goal

pub loop-declaration-init : goal.loop-declaration-init
loop-declaration-init g c =
    let kept = filter_map (declaration_kept c.args.settings.now c.args.gate.now) in
    ap (λ entries. with_all (map entry_held entries) (kept (pairs_of c.deref-declaration-items.result.now))) c.new-values.ensures.empty

pub loop-declaration-preserved : goal.loop-declaration-preserved
loop-declaration-preserved g c =
    let kept_of = declaration_kept c.args.settings.now c.args.gate.now in
    let items = c.deref-declaration-items.result.now in
    let i = c.loop-declaration.declaration-index in
    let before = held c.loop-declaration.values in
    let next : c.declaration-item.result ∷ drop (i + 1) items ≡ drop i items =
    ap (λ d. d ∷ drop (i + 1) items) c.declaration-item.is ∙ sym (drop_more items i _ (omega (arith, c.loop-declaration-test.true))) in
    ap (λ pairs. with_all pairs (filter_map kept_of (pairs_of (drop (i + 1) items)))) c.in_ok-keep.ensures
    ∙ with-next before (kept_of (pair_of c.declaration-item.result)) (filter_map kept_of (pairs_of (drop (i + 1) items)))
    ∙ ap (λ left. with_all before (filter_map kept_of (pairs_of left))) next
    ∙ c.loop-declaration.invariant

pub returns : goal.returns
unfolding style_read
returns g c =
    let kept = filter_map (declaration_kept c.args.settings.now c.args.gate.now) in
    let items = c.deref-declaration-items.result.now in
    let i = c.loop-declaration.declaration-index in
    let values = held c.loop-declaration.values in
    let all : pairs_of items ≡ declarations_of (chars c.args.raw.now) = ap pairs_of c.deref-declaration-items.ensures.value ∙ c.in_ok-declarations.ensures in
    let whole : values ≡ with_all [] (kept (pairs_of items)) =
    ap (λ left. with_all values (kept (pairs_of left))) (sym (drop_all i items (omega (arith, c.loop-declaration-test.false)))) ∙ c.loop-declaration.invariant in
    let read =
    written-once (each_once (kept (declarations_of (chars c.args.raw.now)))) c.in_ok-style.style
    (c.in_ok-style.ensures ∙ ap written (whole ∙ ap (λ pairs. with_all [] (kept pairs)) all ∙ held-once (kept (declarations_of (chars c.args.raw.now))))) in
    record {
      read = read;
      itself =
          itself-again c.styles_are_read_as_themselves.ensures c.args.settings.now c.args.gate.now c.args.raw.now c.utf8.raw
          (option_map text_of c.in_ok-style.style) read;
    }
