-- The first row that applies.
use Rattle.std.proofs.Common.{◌∙◌, sym, ap, Some, None, lit<, codes, refl}
use Rattle.std.specs.Str.{chars}
use Rattle.std.proofs.lemmas.Str.Pattern.{strip_prefix_char}
use Rattle.pur_lexer.specs.Constructs.{markup_of}
use Rattle.pur_laws.proofs.Texts.{chars_past}
use Rattle.pur_lexer.proofs.CutLemmas.{prefix_parts, begins_not}
use Rattle.pur_lexer.proofs.TagLemmas.{chars_behind, not_behind}
use Rattle.pur_lexer.proofs.ConstructLemmas.{markup-comment, markup-data, markup-declaration, markup-instruction, markup-tag}
use Rattle.pur_lexer.proofs.constructs.cut_markup.Goals as goal

pub returns-in-Some-clause-construct : goal.returns-in-Some-clause-construct
returns-in-Some-clause-construct c =
    let behind = c.in-Some.behind in
    let parts = prefix_parts (codes "!--") c.args.text.now (Some behind) c.in-Some.ensures.cases in
    c.in_ok-cut.ensures.construct ∙ sym (ap markup_of (ap chars parts ∙ chars_past (codes "!--") behind.now refl) ∙ markup-comment (chars behind.now))

pub returns-in-Some-strip_prefix-clause-construct : goal.returns-in-Some-strip_prefix-clause-construct
returns-in-Some-strip_prefix-clause-construct c =
    let behind = c.in-Some-strip_prefix.behind in
    let parts = prefix_parts (codes "![CDATA[") c.args.text.now (Some behind) c.in-Some-strip_prefix.ensures.cases in
    c.in_ok-cut-2.ensures.construct ∙ sym (ap markup_of (ap chars parts ∙ chars_past (codes "![CDATA[") behind.now refl) ∙ markup-data (chars behind.now))

pub returns-in-Some-strip_prefix-2-clause-construct : goal.returns-in-Some-strip_prefix-2-clause-construct
returns-in-Some-strip_prefix-2-clause-construct c =
    let text = c.args.text.now in
    let behind = c.in-Some-strip_prefix-2.behind in
    let front = strip_prefix_char 33 text (Some behind) c.in-Some-strip_prefix-2.ensures.cases (lit< tt) in
    c.in_ok-cut-3.ensures.construct ∙ sym (markup-declaration (chars text) (chars behind.now) (chars_behind text behind.now 33 (lit< tt) front)
    (begins_not (codes "!--") text c.utf8.text refl (prefix_parts (codes "!--") text None c.in_default.ensures.cases))
    (begins_not (codes "![CDATA[") text c.utf8.text refl (prefix_parts (codes "![CDATA[") text None c.in_default-strip_prefix.ensures.cases)))

pub returns-in-Some-strip_prefix-3-clause-construct : goal.returns-in-Some-strip_prefix-3-clause-construct
returns-in-Some-strip_prefix-3-clause-construct c =
    let text = c.args.text.now in
    let behind = c.in-Some-strip_prefix-3.behind in
    let front = strip_prefix_char 63 text (Some behind) c.in-Some-strip_prefix-3.ensures.cases (lit< tt) in
    c.in_ok-cut-4.ensures.construct ∙ sym (ap markup_of (chars_behind text behind.now 63 (lit< tt) front) ∙ markup-instruction (chars behind.now))

pub returns-clause-construct : goal.returns-clause-construct
returns-clause-construct c =
    let text = c.args.text.now in
    c.in_ok-cut-5.ensures.construct ∙ sym (markup-tag (chars text)
    (begins_not (codes "!--") text c.utf8.text refl (prefix_parts (codes "!--") text None c.in_default.ensures.cases))
    (begins_not (codes "![CDATA[") text c.utf8.text refl (prefix_parts (codes "![CDATA[") text None c.in_default-strip_prefix.ensures.cases))
    (not_behind text 33 c.utf8.text (lit< tt) (strip_prefix_char 33 text None c.in_default-strip_prefix-2.ensures.cases (lit< tt)))
    (not_behind text 63 c.utf8.text (lit< tt) (strip_prefix_char 63 text None c.in_default-strip_prefix-3.ensures.cases (lit< tt))))
