use Rattle.std.proofs.Common.{List, ℕ, ◌+◌, take, ap, sym, ◌∙◌}
use Rattle.node_pack.specs.Packs.{node_in}
use Rattle.node_pack.proofs.PackLemmas.{on_ok_where, read_kept, trues_after}
use Rattle.node_pack.proofs.source.PackSource.bring.Goals as goal

pub returns-clause-over : goal.returns-clause-over
returns-clause-over g c = λ place_of root key nodes over is.
    let read = read_kept over.bytes c.args.self.now.limit place_of nodes key c.args.place c.args.at_most c.as_slice.result.now (over.are key c.args.place is)
    (c.as_slice.ensures.value ∙ c.in_ok-read_record.ensures.read over.bytes over.is_read) in
    record {
      bytes = over.bytes;
      is_read = c.read_record.ensures.stays over.bytes over.is_read;
      are = over.are;
      rooted = over.rooted;
      manifest = over.manifest;
      near = over.near;
      size = over.size;
      trues = trues_after place_of c.args.self.now.limit nodes key c.args.at_most c.as_slice.result.now c.args.self.now.places c.learn.new.places read over.trues c.learn.ensures.long c.learn.ensures.trues;
    }

pub returns-clause-brought : goal.returns-clause-brought
returns-clause-brought g c = λ place_of root key nodes over is.
    let first = read_kept over.bytes c.args.self.now.limit place_of nodes key c.args.place c.args.at_most c.as_slice.result.now (over.are key c.args.place is)
    (c.as_slice.ensures.value ∙ c.in_ok-read_record.ensures.read over.bytes over.is_read) in
    on_ok_where c.learn.result (λ within. c.learn.ensures.learned place_of first.kept over.trues (first.whole within) first.children first.placed first.short within)
    (λ learned. record {
      kept = first.kept;
      is_in = first.is_in;
      has_digest = first.has_digest;
      front = ap (λ (l : List ℕ). take (c.args.at_most + 1) (node_in l)) (sym c.as_slice.ensures.value) ∙ first.front;
      learned = learned;
    })
