-- The bytes that are left have the answer.
use Rattle.std.proofs.Common.{◌≡◌, drop}
use Rattle.http_ranges.specs.AddressBytes.{has_port, port_after}
use Rattle.http_ranges.proofs.address.Address.has_port.Given as goal

abbrev pub invariant-loop-byte : goal.invariant-loop-byte
invariant-loop-byte l = has_port l.byte-items ≡ port_after l.found (drop l.byte-index l.byte-items)
