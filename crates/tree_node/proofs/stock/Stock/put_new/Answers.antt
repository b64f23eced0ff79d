use Rattle.std.proofs.Common.{◌≡◌, ℕ, List, Some, None, sym, ap, ◌∙◌, inl}
use Rattle.std.specs.Global.{Vec}
use Rattle.std.specs.Option.{option_map}
use Rattle.std.proofs.lemmas.Slice.Eq.{bytes_eq-Decides}
use Rattle.tree_node.specs.Digests.{digest}
use Rattle.tree_node.specs.Keys.{owned_at}
use Rattle.tree_node.specs.declared.digest.Digest.{Digest}
use Rattle.tree_node.proofs.shared.MapLemmas.{update_sets, put_grows, each_inserted, stands, differ, copied_none, none_held}
use Rattle.tree_node.specs.internal.RecorderLaws.{stands_once}
use Rattle.tree_node.proofs.stock.Stock.put_new.Goals as goal

pub returns-in-Some-clause-clash : goal.returns-in-Some-clause-clash
returns-in-Some-clause-clash c =
    let nodes = owned_at c.args.self.now.nodes in
    let x = c.in-Some.held.now.items in
    let at : nodes c.args.node.digest ≡ Some x = ap (option_map (λ (v : Vec ℕ). v.items)) (sym c.in-Some.ensures.value) in
    let own = c.args.self.now.own c.args.node.digest x at in
    let same : digest x ≡ digest c.args.node.bytes.items = own ∙ c.args.node.own in
    let decides = bytes_eq-Decides c.as_slice.result.now c.as_slice-in-Some.result.now in
    λ _. (
      x,
      stands nodes c.args.node.digest x at own,
      (λ e. let t = decides.1 (c.as_slice.ensures.value ∙ e ∙ sym c.as_slice-in-Some.ensures.value) in let f = sym c.eq.ensures ∙ c.if-eq.false in differ _ t f),
      same,
    )

pub invariant_of-self : goal.invariant_of-self
invariant_of-self c = record {
  own = each_inserted (λ (q : Digest) (x : List ℕ). digest x ≡ q.0) (λ (v : Vec ℕ). v.items) c.args.self.now.nodes c.insert.new.self c.args.node.digest c.args.node.bytes c.insert.result
      c.insert.ensures.updates c.insert.ensures.err (sym c.args.node.own) c.args.self.now.own;
}

pub returns-in-Ok-clause-added : goal.returns-in-Ok-clause-added
returns-in-Ok-clause-added c =
    let none : owned_at c.args.self.now.nodes c.args.node.digest ≡ None = ap (option_map (λ (v : Vec ℕ). v.items)) (sym c.get.ensures.value ∙ copied_none c.get.result c.in_default.not-Some) in
    put_grows (owned_at c.args.self.now.nodes) (owned_at c.insert.new.self) c.args.node.digest c.args.node.bytes.items
    (update_sets (λ (v : Vec ℕ). v.items) c.args.self.now.nodes c.insert.new.self c.args.node.digest (Some c.args.node.bytes) c.in-Ok.ensures.updates)
    c.args.node.own (inl none)

pub returns-then-eq-clause-clashes : goal.returns-then-eq-clause-clashes
returns-then-eq-clause-clashes c =
    let nodes = owned_at c.args.self.now.nodes in
    let y = c.in-Some.held.now.items in
    let at : nodes c.args.node.digest ≡ Some y = ap (option_map (λ (v : Vec ℕ). v.items)) (sym c.in-Some.ensures.value) in
    let own = c.args.self.now.own c.args.node.digest y at in
    let decides = bytes_eq-Decides c.as_slice.result.now c.as_slice-in-Some.result.now in
    let same : y ≡ c.args.node.bytes.items = sym c.as_slice.ensures.value ∙ decides.0 (sym c.eq.ensures ∙ c.if-eq.true) ∙ c.as_slice-in-Some.ensures.value in
    λ x is differs clash. absurd (differs (stands_once nodes x y is (stands nodes c.args.node.digest y at own) (clash ∙ ap digest (sym same)) ∙ same))

pub returns-in-Some-clause-there : goal.returns-in-Some-clause-there
returns-in-Some-clause-there c =
    let nodes = owned_at c.args.self.now.nodes in
    let y = c.in-Some.held.now.items in
    let at : nodes c.args.node.digest ≡ Some y = ap (option_map (λ (v : Vec ℕ). v.items)) (sym c.in-Some.ensures.value) in
    let own = c.args.self.now.own c.args.node.digest y at in
    let key = c.args.node.own in
    let decides = bytes_eq-Decides c.as_slice.result.now c.as_slice-in-Some.result.now in
    λ is. absurd (
    let same = stands_once nodes y c.args.node.bytes.items (stands nodes c.args.node.digest y at own) is (own ∙ key) in
    differ _ (decides.1 (c.as_slice.ensures.value ∙ same ∙ sym c.as_slice-in-Some.ensures.value)) (sym c.eq.ensures ∙ c.if-eq.false))

pub returns-in-Ok-clause-clashes : goal.returns-in-Ok-clause-clashes
returns-in-Ok-clause-clashes c =
    let none : owned_at c.args.self.now.nodes c.args.node.digest ≡ None = ap (option_map (λ (v : Vec ℕ). v.items)) (sym c.get.ensures.value ∙ copied_none c.get.result c.in_default.not-Some) in
    let key = c.args.node.own in
    λ x is differs same. absurd (none_held (owned_at c.args.self.now.nodes) c.args.node.digest x none (key ∙ sym same) is)

pub returns-clause-there : goal.returns-clause-there
returns-clause-there c =
    let none : owned_at c.args.self.now.nodes c.args.node.digest ≡ None = ap (option_map (λ (v : Vec ℕ). v.items)) (sym c.get.ensures.value ∙ copied_none c.get.result c.in_default.not-Some) in
    let key = c.args.node.own in
    λ is. absurd (none_held (owned_at c.args.self.now.nodes) c.args.node.digest c.args.node.bytes.items none key is)

pub returns-clause-clashes : goal.returns-clause-clashes
returns-clause-clashes c =
    let none : owned_at c.args.self.now.nodes c.args.node.digest ≡ None = ap (option_map (λ (v : Vec ℕ). v.items)) (sym c.get.ensures.value ∙ copied_none c.get.result c.in_default.not-Some) in
    let key = c.args.node.own in
    λ x is differs same. absurd (none_held (owned_at c.args.self.now.nodes) c.args.node.digest x none (key ∙ sym same) is)
