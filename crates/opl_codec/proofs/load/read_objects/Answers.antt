use Rattle.opl_codec.proofs.ReadFiles.{set_starts}
use Rattle.opl_codec.proofs.load.read_objects.Goals as goal

pub put_all-requires : goal.put_all-requires
put_all-requires g c =
    let none = c.new-objects.ensures.items in
    record {
      goes_on = c.new-buffer.ensures.sound _;
      come = rw none (set_starts _ c.new-buffer.result c.new-buffer.ensures.nothing c.new-buffer.ensures.unread c.new-references.ensures.apart);
      known = rw none c.new-references.ensures;
    }
