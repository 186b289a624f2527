use Rattle.std.proofs.Common.{◌≡◌, ◌+◌, ◌<◌, ◌∙◌, ◌∷◌, Bool, false, ap, sym, drop, length, arith}
use Rattle.std.specs.Prelude.{nat_le, if◌then◌else◌}
use Rattle.std.proofs.lemmas.List.{drop_more}
use Rattle.pur_tree.specs.Image.{nodes_of, node_before}
use Rattle.pur_tree.specs.Nodes.{level_in}
use Rattle.pur_tree.specs.Places.{inside, level_limit}
use Rattle.pur_tree.proofs.NodeLemmas.{before_text, before_elem}
use Rattle.pur_inject.proofs.LevelLemmas.{elem-fits, elem-too-deep, place_at}
use Rattle.pur_inject.proofs.paragraphs.+levels_fit.Goals as goal

pub level_fits-returns-in-Text : goal.level_fits-returns-in-Text
level_fits-returns-in-Text t c = λ more.
    ap (λ n. nat_le (level_in (place_at c.args.level c.args.in_table) n) level_limit) (ap (λ n. node_before n more) c.in-Text.is ∙ before_text c.in-Text.field-0 more)

pub level_fits-returns-then-inside-le-LEVEL_LIMIT : goal.level_fits-returns-then-inside-le-LEVEL_LIMIT
level_fits-returns-then-inside-le-LEVEL_LIMIT t c = λ more.
    let elem = c.in-Elem.elem in
    let at = place_at c.args.level c.args.in_table in
    let within = inside at elem.name in
    let kids = nodes_of elem.children.items in
    let level = c.args.level + c.level_rise.result in
    let up : level ≡ within.level = ap (λ n. c.args.level + n) c.level_rise.ensures in
    ap (λ n. nat_le (level_in at n) level_limit) (ap (λ n. node_before n more) c.in-Elem.is ∙ before_elem elem.name elem.attrs elem.children more)
    ∙ elem-fits within.level (level_in within kids) (level_in at more) level_limit c.levels_fit.result (omega (arith, up, c.if-inside-le-LEVEL_LIMIT.true))
    (c.levels_fit.ensures
    ∙ ap (λ items. nat_le (level_in (place_at level c.is_table.result) (nodes_of items)) level_limit) c.deref.ensures.value
    ∙ ap (λ n. nat_le (level_in (place_at n c.is_table.result) kids) level_limit) up
    ∙ ap (λ b. nat_le (level_in (place_at within.level b) kids) level_limit) c.is_table.ensures)

pub level_fits-returns-else-inside-le-LEVEL_LIMIT : goal.level_fits-returns-else-inside-le-LEVEL_LIMIT
level_fits-returns-else-inside-le-LEVEL_LIMIT t c = λ more.
    let elem = c.in-Elem.elem in
    let at = place_at c.args.level c.args.in_table in
    let within = inside at elem.name in
    let up : c.args.level + c.level_rise.result ≡ within.level = ap (λ n. c.args.level + n) c.level_rise.ensures in
    ap (λ n. nat_le (level_in at n) level_limit) (ap (λ n. node_before n more) c.in-Elem.is ∙ before_elem elem.name elem.attrs elem.children more)
    ∙ elem-too-deep within.level (level_in within (nodes_of elem.children.items)) (level_in at more) level_limit (omega (arith, up, c.if-inside-le-LEVEL_LIMIT.false))
    ∙ ap (λ n. if nat_le n level_limit then nat_le (level_in at more) level_limit else false) (sym up)

pub levels_fit-returns-then-not-level_fits : goal.levels_fit-returns-then-not-level_fits
levels_fit-returns-then-not-level_fits t c =
    let at = place_at c.args.level c.args.in_table in
    let xs = c.args.nodes.now in
    let i = c.loop-node.node-index in
    let node = c.node-item.result in
    let within : i < length xs = c.loop-node-test.true in
    let rest = nodes_of (drop (i + 1) xs) in
    let front : node ∷ drop (i + 1) xs ≡ drop i xs = ap (λ n. n ∷ drop (i + 1) xs) c.node-item.is ∙ sym (drop_more xs i node within) in
    ap (λ (b : Bool). if b then nat_le (level_in at rest) level_limit else false) (sym c.if-not-level_fits.true)
    ∙ sym (c.level_fits.ensures rest)
    ∙ ap (λ l. nat_le (level_in at (nodes_of l)) level_limit) front
    ∙ c.loop-node.invariant
