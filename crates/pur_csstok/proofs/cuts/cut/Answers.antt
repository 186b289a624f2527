use Rattle.std.proofs.Common.{◌∙◌, ap, sym, arith}
use Rattle.std.specs.Char.{encode_utf8}
use Rattle.std.specs.Str.{chars}
use Rattle.pur_csstok.specs.Cuts.{open_after}
use Rattle.pur_csstok.proofs.CutLemmas.{scan_cuts, scan_passes, scan_ends}
use Rattle.pur_laws.proofs.Ends.{end_passes}
use Rattle.pur_csstok.proofs.cuts.cut.Goals as goal

pub returns-then-is_cut-clause-cut : goal.returns-then-is_cut-clause-cut
returns-then-is_cut-clause-cut c =
    scan_cuts c.args.separator (chars c.args.text.now) c.scanning.nesting c.in-Some.c (chars c.scanning.rest.now) (chars c.in-Some.behind.now) (chars c.front_of.result.now)
    c.scanning.invariant.scanned c.in-Some.ensures.cut (sym c.is_cut.ensures ∙ c.if-is_cut.true) c.front_of.ensures

pub scanning-preserved : goal.scanning-preserved
scanning-preserved c =
    let within = c.scanning.invariant.depth in
    let deeper = c.after-nesting.ensures.depth in
    let shorter = c.in-Some.ensures.shorter in
    record {
      utf8 = c.in-Some.ensures.text;
      end = end_passes c.args.text.now c.scanning.rest.now (encode_utf8 c.in-Some.c) c.in-Some.behind.now (omega arith) c.scanning.invariant.end c.in-Some.ensures.bytes;
      depth = omega arith;
      scanned = scan_passes c.args.separator (chars c.args.text.now) c.scanning.nesting c.after-nesting.result c.in-Some.c (chars c.scanning.rest.now) (chars c.in-Some.behind.now)
          c.scanning.invariant.scanned c.in-Some.ensures.cut (sym c.is_cut.ensures ∙ c.if-is_cut.false)
          (c.after-nesting.ensures.nesting ∙ ap (λ h. open_after h c.scanning.nesting c.in-Some.c) c.heeds_parentheses-heeds_parentheses.ensures);
    }

pub returns-clause-whole : goal.returns-clause-whole
returns-clause-whole c =
    scan_ends c.args.separator (chars c.args.text.now) c.scanning.nesting (chars c.scanning.rest.now) c.scanning.invariant.scanned c.in_default.ensures.empty
