use Rattle.std.proofs.Common.{◌∙◌, sym, string_bytes}
use Rattle.std.specs.Str.{chars}
use Rattle.std.proofs.lemmas.Bool.{eqb-true}
use Rattle.std.proofs.lemmas.Str.{chars-append, IsUtf8-string_bytes}
use Rattle.pur_laws.proofs.Texts.{no_chars, some_chars}
use Rattle.pur_tree.specs.Image.{nodes_of}
use Rattle.pur_tree.specs.Places.{fragment}
use Rattle.pur_tree.proofs.BuildingLemmas.{IsBuilding-text, IsBuilding-first, written-text, written-first, Fits_innermost}
use Rattle.pur_tree.proofs.builder.Builder.move_text.Goals as goal

pub invariant_of-self : goal.invariant_of-self
invariant_of-self c =
    let run = c.self.inside.text in
    IsBuilding-first c.self.inside.outer.items c.self.inside.children.items (chars (string_bytes run)) (chars (string_bytes c.args.text))
    (no_chars (string_bytes run) (sym run.bytes.ok.0 ∙ eqb-true _ _ (sym c.if-is_empty.ensures)))
    c.self.invariant (some_chars (string_bytes c.args.text) (IsUtf8-string_bytes c.args.text) c.requires.some) (rw (← c.self.view_is) at c.requires.holds)

pub returns-then-is_empty-clause-written : goal.returns-then-is_empty-clause-written
returns-then-is_empty-clause-written c =
    let run = c.self.inside.text in
    rw (← c.self.view_is)
    (written-first c.self.inside.outer.items (nodes_of c.self.inside.children.items) (chars (string_bytes run)) (chars (string_bytes c.args.text))
    (no_chars (string_bytes run) (sym run.bytes.ok.0 ∙ eqb-true _ _ (sym c.if-is_empty.ensures)))
    c.self.invariant.ended (some_chars (string_bytes c.args.text) (IsUtf8-string_bytes c.args.text) c.requires.some) c.self.invariant.fits
    (Fits_innermost fragment c.self.inside.outer.items _ c.self.invariant.fits))

pub invariant_of-self-2 : goal.invariant_of-self-2
invariant_of-self-2 c =
    rw (c.in_ok-push_str.ensures.bytes, c.as_str.ensures.value, chars-append (string_bytes c.self.inside.text) (string_bytes c.args.text) (IsUtf8-string_bytes c.self.inside.text))
    (IsBuilding-text c.self.inside.outer.items c.self.inside.children.items (chars (string_bytes c.self.inside.text)) (chars (string_bytes c.args.text))
    c.self.invariant (some_chars (string_bytes c.args.text) (IsUtf8-string_bytes c.args.text) c.requires.some) (rw (← c.self.view_is) at c.requires.holds))

pub returns-clause-written : goal.returns-clause-written
returns-clause-written c =
    rw (← c.self.view_is, c.in_ok-push_str.ensures.bytes, c.as_str.ensures.value, chars-append (string_bytes c.self.inside.text) (string_bytes c.args.text) (IsUtf8-string_bytes c.self.inside.text))
    (written-text c.self.inside.outer.items (nodes_of c.self.inside.children.items) (chars (string_bytes c.self.inside.text)) (chars (string_bytes c.args.text))
    c.self.invariant.ended (some_chars (string_bytes c.args.text) (IsUtf8-string_bytes c.args.text) c.requires.some) c.self.invariant.fits
    (Fits_innermost fragment c.self.inside.outer.items _ c.self.invariant.fits))
