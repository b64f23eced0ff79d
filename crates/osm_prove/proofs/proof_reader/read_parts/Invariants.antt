use Rattle.std.proofs.Common.{◌≡◌, length}
use Rattle.osm_prove.specs.Proofs.{nodes_of}
use Rattle.osm_prove.proofs.shared.ListingLaws.{HasRead}
use Rattle.osm_prove.proofs.proof_reader.read_parts.Given as goal

abbrev pub invariant-loop : goal.invariant-loop
invariant-loop l = record {
  number : length l.parts.items ≡ l.counter;
  read : HasRead l.bytes l.rest l.count (nodes_of l.parts.items);
}
