use Rattle.std.proofs.Common.{◌≡◌, ◌↔◌, inl, inr, ℕ, List, Result, Err, sym, ap, subst, ◌∙◌}
use Rattle.std.proofs.Math.Logic.{∥∥₁_elim, ∥∥₁_map}
use Rattle.std.specs.Result.{IsErrAnd}
use mathlib.Core.HLevel.{⊥_prop}
use Rattle.tree_build.specs.Rebuilding.{IsAmong, digests_of}
use Rattle.tree_node.specs.Digests.{digest}
use Rattle.tree_node.specs.Stocks.{HasNode}
use Rattle.tree_node.specs.declared.digest.Digest.{Digest}
use Rattle.osm_keys.specs.Publications.{IsNodeIn}
use Rattle.osm_index.specs.declared.apply_fault.ApplyFault.{ApplyFault}
use Rattle.osm_index.specs.declared.apply_fault.ApplyFault.TheVariants as faults
use Rattle.osm_index.proofs.ApplyLemmas.{both_free, digests_as, digests_come, held_after, held_still, nodes_after}
use Rattle.osm_index.proofs.snapshot.Snapshot.take_over.Goals as goal

pub put_nodes-requires : goal.put_nodes-requires
put_nodes-requires c = record {
  same = c.deref.ensures.value ∙ c.requires.listed;
  new = λ bytes is has. ∥∥₁_elim c.args.self.now.own ⊥_prop (λ (p, held).
      let (q, is_update) = c.requires.made p held in
      ((is_update.nodes bytes).0 is).1 ((held.nodes bytes).0 has));
}

pub invariant_of-self : goal.invariant_of-self
invariant_of-self c =
    let s = c.args.self.now in
    record { own = ∥∥₁_map s.own (λ (p, held). (p, held_still s.edition s.stock c.put_nodes.new.stock s.manifest s.root p c.in_err-put_nodes.ensures.unchanged held)) }

pub returns-in_err-put_nodes-clause-clash : goal.returns-in_err-put_nodes-clause-clash
returns-in_err-put_nodes-clause-clash c = λ p q held is_update told.
    let fault = c.in_err-put_nodes.field-0.0 in
    let same : faults.Clash ≡ fault = subst (λ (r : Result _ ApplyFault). IsErrAnd r (λ f. f ≡ fault)) told c.from_residual.ensures.1 in
    let (x, y, is, is_too, differ, one) = c.in_err-put_nodes.ensures.clash (ap (λ (f : ApplyFault). Err f) (sym same)) in
    (x, y, elim is [ inl was ↦ inl ((held.nodes x).0 was) | inr came ↦ inr ((is_update.nodes x).0 came).0 ], inr ((is_update.nodes y).0 is_too).0, differ, one)

pub invariant_of-self-2 : goal.invariant_of-self-2
invariant_of-self-2 c =
    let s = c.args.self.now in
    let update = c.args.update in
    let mid = c.put_nodes.new.stock in
    let new = c.remove_nodes.new.stock in
    let taken : (x : List ℕ) → HasNode new x ↔ (HasNode mid x × ¬ IsAmong (digests_of update.gone.items) (digest x)) =
    subst (λ (ds : List Digest). (x : List ℕ) → HasNode new x ↔ (HasNode mid x × ¬ IsAmong (digests_of ds) (digest x))) c.deref-2.ensures.value c.remove_nodes.ensures in
    record {
      own = ∥∥₁_map s.own (λ (p, held).
          let (q, is_update) = c.requires.made p held in
          (q, held_after p q update is_update s.stock mid held.nodes c.in_ok-put_nodes.ensures.put new taken));
    }

pub returns-clause-held : goal.returns-clause-held
returns-clause-held c = λ p q held is_update.
    let s = c.args.self.now in
    let update = c.args.update in
    let mid = c.put_nodes.new.stock in
    let new = c.remove_nodes.new.stock in
    let taken : (x : List ℕ) → HasNode new x ↔ (HasNode mid x × ¬ IsAmong (digests_of update.gone.items) (digest x)) =
    subst (λ (ds : List Digest). (x : List ℕ) → HasNode new x ↔ (HasNode mid x × ¬ IsAmong (digests_of ds) (digest x))) c.deref-2.ensures.value c.remove_nodes.ensures in
    held_after p q update is_update s.stock mid held.nodes c.in_ok-put_nodes.ensures.put new taken

pub returns-clause-delta : goal.returns-clause-delta
returns-clause-delta c = λ p q held held_new.
    let s = c.args.self.now in
    let update = c.args.update in
    let mid = c.put_nodes.new.stock in
    let new = c.remove_nodes.new.stock in
    let put = c.in_ok-put_nodes.ensures.put in
    let taken : (x : List ℕ) → HasNode new x ↔ (HasNode mid x × ¬ IsAmong (digests_of update.gone.items) (digest x)) =
    subst (λ (ds : List Digest). (x : List ℕ) → HasNode new x ↔ (HasNode mid x × ¬ IsAmong (digests_of ds) (digest x))) c.deref-2.ensures.value c.remove_nodes.ensures in
    let (made, is_update) = c.requires.made p held in
    let after = nodes_after p made update is_update s.stock mid held.nodes put new taken in
    let same_new : (x : List ℕ) → IsNodeIn made x ↔ IsNodeIn q x = λ x. ((λ is. (held_new.nodes x).0 ((after x).1 is)), (λ is. (after x).0 ((held_new.nodes x).1 is))) in
    let same_old : (x : List ℕ) → IsNodeIn p x ↔ IsNodeIn p x = λ x. ((λ is. is), (λ is. is)) in
    record {
      added = digests_as made p q p (digests_of update.added.items) same_new same_old (digests_come p made update is_update mid (λ x is. (put x).1 (inr is)));
      gone = digests_as p made p q (digests_of update.gone.items) same_old same_new is_update.gone;
    }

pub returns-clause-no_clash : goal.returns-clause-no_clash
returns-clause-no_clash c = λ p q held held_new.
    let mid = c.put_nodes.new.stock in
    let new = c.remove_nodes.new.stock in
    both_free p q c.args.self.now.stock mid new held.nodes held_new.nodes (λ x h. (c.in_ok-put_nodes.ensures.put x).1 (inl h)) (λ x h. ((c.remove_nodes.ensures x).0 h).0)
