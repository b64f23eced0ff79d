use Rattle.std.proofs.Common.{List, ℕ, ◌+◌, ◌++◌, take, ap, ◌∙◌}
use Rattle.node_pack.specs.Packs.{node_in}
use Rattle.node_pack.proofs.PackLemmas.{on_ok}
use Rattle.node_pack.proofs.source.PackSource.give.Goals as goal

pub returns-clause-given : goal.returns-clause-given
returns-clause-given g c = λ place_of root key nodes over is.
    let brought = c.in_ok-bring.ensures.brought place_of root key nodes over is in
    on_ok c.append_node.result c.append_node.ensures.appended
    (λ appended. record {
      kept = brought.kept;
      is_in = brought.is_in;
      has_digest = brought.has_digest;
      appended = appended ∙ ap (λ (l : List ℕ). c.args.into.now.items ++ take (c.args.at_most + 1) (node_in l)) c.as_slice.ensures.value ∙ ap (λ (l : List ℕ). c.args.into.now.items ++ l) brought.front;
      learned = brought.learned;
    })
