use Rattle.std.proofs.Common.{◌≡◌, ◌∙◌, ◌++◌, ◌∷◌, [], ap, sym, append-nil, append_assoc, map, Some, true, false, string_bytes}
use Rattle.pur_csstok.specs.Declarations.{declaration_body, style_text}
use Rattle.pur_cssprops.specs.Private.Held.{entry_held}
use Rattle.pur_cssprops.proofs.KeptLemmas.{written-none, written-some}
use Rattle.pur_cssprops.proofs.styles.write.Goals as goal

pub returns-then-is_empty : goal.returns-then-is_empty
returns-then-is_empty c = written-none c.args.values.now.entries (c.is_empty.ensures.0 c.if-is_empty.true)

pub loop-property-init : goal.loop-property-init
loop-property-init c =
    ap (λ t. t ++ style_text (map entry_held c.into_iter-property-iterator.result)) c.new-style.ensures.bytes
    ∙ ap (λ entries. style_text (map entry_held entries)) c.into_iter-property-iterator.ensures.into_iter_gives.0

pub loop-property-preserved : goal.loop-property-preserved
loop-property-preserved c =
    let style = string_bytes c.loop-property.style in
    let name = c.in-Some.property.now.now in
    let rest = style_text (map entry_held c.next.new.self) in
    ap (λ t. t ++ rest) c.in_ok-push_declaration.ensures
    ∙ append_assoc style (declaration_body (name, c.as_str.result.now) ++ 0x3B ∷ []) rest
    ∙ ap (λ v. style ++ ((declaration_body (name, v) ++ 0x3B ∷ []) ++ rest)) c.as_str.ensures.value
    ∙ ap (λ entries. style ++ style_text (map entry_held entries)) (sym c.in-Some.ensures.steps)
    ∙ c.loop-property.invariant

pub returns : goal.returns
returns c =
    let style = string_bytes c.loop-property.style in
    let all : style ≡ style_text (map entry_held c.args.values.now.entries) =
    sym (append-nil style) ∙ ap (λ entries. style ++ style_text (map entry_held entries)) (sym c.in-None.ensures.steps.0) ∙ c.loop-property.invariant in
    ap Some all ∙ written-some c.args.values.now.entries (λ none. let bad : false ≡ true = sym c.if-is_empty.false ∙ c.is_empty.ensures.1 none in absurd cc)
