use Rattle.std.proofs.Common.{length, string_bytes, sym, ap, subst}
use Rattle.std.specs.String.Boundary.{IsSplitPoint}
use Rattle.std.proofs.lemmas.Str.{IsUtf8-string_bytes}
use Rattle.pur_text.proofs.FeedingLemmas.{cut_point}
use Rattle.pur_text.proofs.feeding.Cleaner.feed.Goals as goal

pub truncate-requires : goal.truncate-requires
truncate-requires c within =
    let old = c.self.inside.written.text in
    let new = c.put_next.new.written.text in
    subst (IsSplitPoint (string_bytes new)) (sym (ap length c.as_str-len.ensures.value))
    (cut_point (string_bytes old) (string_bytes new) (IsUtf8-string_bytes old) (IsUtf8-string_bytes new) c.in-Err.ensures.begins)
