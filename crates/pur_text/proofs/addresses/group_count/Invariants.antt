use Rattle.std.proofs.Common.{◌≡◌, ◌+◌, ◌≤◌, length, option_map}
use Rattle.pur_text.specs.Hosts.{group_count, between_colons}
use Rattle.pur_text.proofs.addresses.group_count.Given as goal

abbrev pub invariant-counting : goal.invariant-counting
invariant-counting l = record {
  within : l.count + length l.rest ≤ length l.text;
  same : option_map (λ groups. l.count + groups) (group_count (between_colons l.rest)) ≡ group_count (between_colons l.text);
}

abbrev pub decreases-counting : goal.decreases-counting
decreases-counting l = length l.rest
