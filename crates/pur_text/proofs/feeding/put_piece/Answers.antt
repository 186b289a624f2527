use Rattle.std.proofs.Common.{◌≢◌, ◌⊎◌, ◌≤◌, length, [], refl, sym, ap, subst, ◌++◌, ◌∙◌, append-nil, drop}
use Rattle.pur_text.specs.Cleaning.{chars_of}
use Rattle.pur_text.specs.Private.Feeding.{IsTail, MayGoOn, written_with}
use Rattle.pur_text.proofs.CutLemmas.{last_is_tail, piece_apart, tail_whole}
use Rattle.pur_text.proofs.FeedingLemmas.{none_held}
use Rattle.pur_text.proofs.feeding.put_piece.Goals as goal

pub may_go_on-requires : goal.may_go_on-requires
may_go_on-requires c = subst IsTail (sym c.split_at.ensures.back) (last_is_tail c.args.piece.now c.last_start.result c.last_start.ensures.tail)

pub returns-then-may_go_on-clause-text : goal.returns-then-may_go_on-clause-text
returns-then-may_go_on-clause-text c bytes =
    let piece = c.args.piece.now in
    let n = c.last_start.result in
    let last = c.split_at.result.1.now in
    let held = c.joined.ensures ∙ append-nil last ∙ c.split_at.ensures.back in
    ap (λ t. written_with c.put_bytes.new.written (chars_of (t ++ bytes))) held
    ∙ c.in_ok-put_bytes.ensures.text (chars_of (drop n piece ++ bytes))
    ∙ ap (λ t. written_with c.args.written.now (chars_of t ++ chars_of (drop n piece ++ bytes))) c.split_at.ensures.front
    ∙ ap (written_with c.args.written.now) (sym (piece_apart piece bytes n c.last_start.ensures.within c.last_start.ensures.clean))

pub returns-clause-held : goal.returns-clause-held
returns-clause-held c = subst MayGoOn (sym c.joined-2.ensures) none_held

pub returns-clause-text : goal.returns-clause-text
returns-clause-text c bytes =
    let piece = c.args.piece.now in
    let n = c.last_start.result in
    let last = drop n piece in
    let back = c.split_at.ensures.back in
    let tail = last_is_tail piece n c.last_start.ensures.tail in
    let whole = tail_whole last bytes tail (subst (λ t. (4 ≤ length t) ⊎ (chars_of t ≢ [])) back (c.if-may_go_on.ensures.no refl)) in
    ap (λ t. written_with c.put_bytes-2.new.written (chars_of (t ++ bytes))) c.joined-2.ensures
    ∙ c.in_ok-put_bytes-2.ensures.text (chars_of bytes)
    ∙ ap (λ t. written_with c.put_bytes.new.written (chars_of t ++ chars_of bytes)) back
    ∙ ap (written_with c.put_bytes.new.written) (sym whole)
    ∙ c.in_ok-put_bytes.ensures.text (chars_of (last ++ bytes))
    ∙ ap (λ t. written_with c.args.written.now (chars_of t ++ chars_of (last ++ bytes))) c.split_at.ensures.front
    ∙ ap (written_with c.args.written.now) (sym (piece_apart piece bytes n c.last_start.ensures.within c.last_start.ensures.clean))
