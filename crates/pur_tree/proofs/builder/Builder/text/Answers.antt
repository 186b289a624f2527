use Rattle.std.proofs.Common.{string_bytes}
use Rattle.std.specs.Str.{chars}
use Rattle.std.proofs.lemmas.Str.{chars-append, IsUtf8-string_bytes}
use Rattle.pur_laws.proofs.Texts.{some_chars}
use Rattle.pur_tree.specs.Image.{nodes_of}
use Rattle.pur_tree.specs.Places.{fragment}
use Rattle.pur_tree.proofs.BuildingLemmas.{IsBuilding-text, written-text, Fits_innermost}
use Rattle.pur_tree.proofs.builder.Builder.text.Goals as goal

pub invariant_of-self-2 : goal.invariant_of-self-2
invariant_of-self-2 c =
    rw (c.in_ok-push_str.ensures.bytes, chars-append (string_bytes c.self.inside.text) c.args.text.now (IsUtf8-string_bytes c.self.inside.text))
    (IsBuilding-text c.self.inside.outer.items c.self.inside.children.items (chars (string_bytes c.self.inside.text)) (chars c.args.text.now)
    c.self.invariant (some_chars c.args.text.now c.utf8.text c.requires.some) (rw (← c.self.view_is) at c.requires.holds))

pub returns-clause-written : goal.returns-clause-written
returns-clause-written c =
    rw (← c.self.view_is, c.in_ok-push_str.ensures.bytes, chars-append (string_bytes c.self.inside.text) c.args.text.now (IsUtf8-string_bytes c.self.inside.text))
    (written-text c.self.inside.outer.items (nodes_of c.self.inside.children.items) (chars (string_bytes c.self.inside.text)) (chars c.args.text.now)
    c.self.invariant.ended (some_chars c.args.text.now c.utf8.text c.requires.some) c.self.invariant.fits
    (Fits_innermost fragment c.self.inside.outer.items _ c.self.invariant.fits))
