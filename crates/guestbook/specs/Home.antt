-- The guest book's rule of hosts.
use Rattle.std.specs.Prelude.{false, [], Some, codes}
use Rattle.pur_uripolicy.specs.HostRules.{PlainHostRule, in_order}

-- no host is denied, and URIs may lead to the guest book's own host and those below it alone
abbrev pub home : PlainHostRule
home = record { denied = in_order []; host = Some (codes "guests.example"); external = false }
