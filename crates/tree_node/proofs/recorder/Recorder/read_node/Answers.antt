use Rattle.std.proofs.Common.{◌≡◌, ℕ, List, Option, Some, None, IfSome, sym, ap, subst}
use Rattle.std.specs.Borrow.{Bor}
use Rattle.std.specs.Option.{option_map}
use Rattle.tree_node.specs.Digests.{digest}
use Rattle.tree_node.specs.Keys.{StandsIn, lent_at, owned_at}
use Rattle.tree_node.specs.declared.recorded_node.RecordedNode.{RecordedNode}
use Rattle.tree_node.proofs.shared.MapLemmas.{given_used}
use Rattle.tree_node.proofs.recorder.Recorder.read_node.Goals as goal

-- what holds of a value, where there is one, and says more
some_more : {X : Type 0} (P Q : X → Type 0) (o : Option X) → ((x : X) → P x → Q x) → IfSome o P → IfSome o Q
some_more P Q None more is = tt
some_more P Q (Some x) more is = more x is

pub returns-in-Some : goal.returns-in-Some
returns-in-Some c =
    let nodes = owned_at c.args.self.now.stock.now.nodes in
    let given = lent_at c.args.self.now.given in
    let used = given_used nodes given c.args.key.now c.in-Some.given.now.bytes.now
    (ap (option_map (λ (g : RecordedNode). g.bytes.now)) (sym c.in-Some.ensures.value))
    (c.args.self.now.own c.args.key.now) (c.args.self.now.stock.now.own c.args.key.now) in
    some_more _ _ c.fetched.result (λ node is.
    let (one, two, three) = subst (λ (b : Bor (List ℕ)). StandsIn given b.now × StandsIn nodes b.now × (digest b.now ≡ c.args.key.now.0)) (sym is.0) used in (one, two, three, is.1)) c.fetched.ensures
