use Rattle.std.proofs.Common.{refl}
use Rattle.node_pack.proofs.WriteLemmas.{six_appended, six_are}
use Rattle.node_pack.proofs.records.append_header.Goals as goal

pub returns : goal.returns
returns c =
    six_are c.extend_from_slice-6.result c.args.out.now.items c.extend_from_slice-6.new.self.items _ _ _ _ _ _ _ _ _ _ _ _
    (six_appended c.extend_from_slice-6.result c.args.out.now.items c.extend_from_slice.new.self.items c.extend_from_slice-2.new.self.items c.extend_from_slice-3.new.self.items c.extend_from_slice-4.new.self.items
    c.extend_from_slice-5.new.self.items c.extend_from_slice-6.new.self.items c.to_be_bytes.result c.to_be_bytes-2.result c.args.header.now.root.0 c.to_be_bytes-3.result c.to_be_bytes-4.result c.to_be_bytes-5.result
    c.in_ok-extend_from_slice.ensures.items c.in_ok-extend_from_slice-2.ensures.items c.in_ok-extend_from_slice-3.ensures.items c.in_ok-extend_from_slice-4.ensures.items c.in_ok-extend_from_slice-5.ensures.items
    c.extend_from_slice-6.ensures.items)
    c.to_be_bytes.ensures c.to_be_bytes-2.ensures refl c.to_be_bytes-3.ensures c.to_be_bytes-4.ensures c.to_be_bytes-5.ensures
