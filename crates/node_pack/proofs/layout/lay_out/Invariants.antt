use Rattle.std.proofs.Common.{◌≡◌, ◌≤◌, ◌+◌, ◌*◌, ◌^◌, take}
use Rattle.node_pack.specs.Packs.{AreApart}
use Rattle.node_pack.specs.internal.Gathering.{kepts}
use Rattle.node_pack.proofs.LayoutLemmas.{AreLaid}
use Rattle.node_pack.proofs.shared.RecordPlaces.{lens}
use Rattle.node_pack.proofs.layout.lay_out.Given as goal

-- the places of the nodes so far, which are apart, and where the next record stands
abbrev pub invariant-loop-node : goal.invariant-loop-node
invariant-loop-node l = record {
  place : l.at ≡ 60 + lens (kepts (take l.node-index l.nodes));
  short : l.at ≤ 2 ^ 48;
  apart : AreApart (kepts (take l.node-index l.nodes));
  laid : AreLaid (l.number * 2 ^ 48 + 60) l.places (kepts (take l.node-index l.nodes));
}
