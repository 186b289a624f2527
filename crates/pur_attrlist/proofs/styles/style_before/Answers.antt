-- The other style stands behind.
use Rattle.pur_attrlist.proofs.TextLaws.{pushed}
use Rattle.pur_attrlist.proofs.styles.style_before.Goals as goal

pub returns-in_ok-push_str-in-Some : goal.returns-in_ok-push_str-in-Some
returns-in_ok-push_str-in-Some c = rw c.in-Some.is (pushed c.args.style c.push_str.new.self c.in-Some.other.now c.in_ok-push_str-in-Some.ensures.bytes)
