use Rattle.std.proofs.Common.{◌≡◌, ◌≢◌, ◌∙◌, inl, inr, ◌++◌, ◌∷◌, List, None, length, arith, refl, sym, ap, subst}
use Rattle.std.proofs.lemmas.Bool.{eq-eqb}
use Rattle.osm_keys.specs.Publications.{IsNodeIn}
use Rattle.tree_node.specs.Digests.{digest}
use Rattle.tree_node.specs.NodeRefs.{link_of, node_read, number_of}
use Rattle.tree_node.specs.Nodes.{AreBytes, Binding, Inner, IsNode, Leaf, Link, spelling}
use Rattle.tree_node.specs.Trees.{links_in}
use Rattle.tree_node.specs.declared.node.NodeRef.{NodeRef}
use Rattle.outside_shelf.specs.declared.refused.Refused.TheVariants.{Absent}
use Rattle.pack_compact.proofs.OutcomeLemmas.{err_ends, err_if}
use Rattle.pack_compact.proofs.ReadLemmas.{IsMidway, all_copied, all_placed, can_next, held_still, inner_children, leaf_entries, next_child, no_failure, no_place_found, none_copied, nothing, over_node, over_owned, placed_from, same_or_twin}
use Rattle.pack_compact.specs.declared.fault.CompactFault.TheVariants.{NoManifest}
use Rattle.pack_compact.specs.internal.Copying.{IsFailure, IsTakenTo}
use Rattle.pack_compact.proofs.copy.+copy_below.Goals as goal

pub returns-in_err-record-clause-told : goal.returns-in_err-record-clause-told
returns-in_err-record-clause-told g t c =
    err_if c.from_residual.result _ (λ fault. fault ≢ NoManifest) c.from_residual.ensures.1 (no_failure None c.in_err-record.field-0.0 (c.in_err-record.ensures.ends None tt tt))

pub returns-in-Ok-Leaf-clause-copied : goal.returns-in-Ok-Leaf-clause-copied
returns-in-Ok-Leaf-clause-copied g t c = λ p known others level node entries left has can held taken.
    elim (same_or_twin p c.node.result.now (spelling node) c.args.key.now.0 (over_owned (IsNodeIn p) level node entries can.over) (ap digest c.node.ensures.value ∙ c.in_ok-record.ensures.has_digest) (subst AreBytes (sym c.node.ensures.value) c.in_ok-record.ensures.bytes) can.key_is) [
      | inl same ↦
          let is : Leaf (number_of c.in-Ok-Leaf.field-0-0) c.in-Ok-Leaf.entries ≡ node =
          ap node_read (sym c.in-Ok-Leaf.field-0-is) ∙ c.in-Ok-Leaf.ensures.only node (over_node (IsNodeIn p) level node entries can.over, same) in
          let all : c.in-Ok-Leaf.entries ≡ entries = leaf_entries (IsNodeIn p) level node entries (number_of c.in-Ok-Leaf.field-0-0) c.in-Ok-Leaf.entries can.over is in
          inl (
          c.take_leaf.ensures.taken p known others left has
          (elim can.some [ inl some ↦ inl (λ none. some (sym all ∙ none)) | inr deep ↦ inr (eq-eqb c.args.depth 63 deep) ])
          (subst (λ (es : List Binding). IsTakenTo p others c.args.tree c.args.builder.now (es ++ left)) (sym all) taken)
          )
      | inr twin ↦ inr twin
    ]

pub returns-then-depth-eq0-clause-copied : goal.returns-then-depth-eq0-clause-copied
returns-then-depth-eq0-clause-copied g t c = λ p known others level node entries left has can held taken.
    elim (same_or_twin p c.node.result.now (spelling node) c.args.key.now.0 (over_owned (IsNodeIn p) level node entries can.over) (ap digest c.node.ensures.value ∙ c.in_ok-record.ensures.has_digest) (subst AreBytes (sym c.node.ensures.value) c.in_ok-record.ensures.bytes) can.key_is) [
      | inl same ↦
          let is : Inner (number_of c.in-Ok-Inner.field-0-0) c.in-Ok-Inner.field-0-1 c.in-Ok-Inner.children ≡ node =
          ap node_read (sym c.in-Ok-Inner.field-0-is) ∙ c.in-Ok-Inner.ensures.only node (over_node (IsNodeIn p) level node entries can.over, same) in
          let inner = inner_children (IsNodeIn p) level node entries (number_of c.in-Ok-Inner.field-0-0) c.in-Ok-Inner.field-0-1 c.in-Ok-Inner.children can.over is in
          inl (omega (arith, inner.level_is, can.deep, c.if-depth-eq0.true))
      | inr twin ↦ inr twin
    ]

pub loop-child-init : goal.loop-child-init
loop-child-init g t c = record {
  copied = λ p known others level node entries left has can held taken.
      elim (same_or_twin p c.node.result.now (spelling node) c.args.key.now.0 (over_owned (IsNodeIn p) level node entries can.over) (ap digest c.node.ensures.value ∙ c.in_ok-record.ensures.has_digest) (subst AreBytes (sym c.node.ensures.value) c.in_ok-record.ensures.bytes) can.key_is) [
        | inl same ↦
            let node_is = over_node (IsNodeIn p) level node entries can.over in
            let links = c.in-Ok-Inner.children in
            let is : Inner (number_of c.in-Ok-Inner.field-0-0) c.in-Ok-Inner.field-0-1 c.in-Ok-Inner.children ≡ node =
            ap node_read (sym c.in-Ok-Inner.field-0-is) ∙ c.in-Ok-Inner.ensures.only node (node_is, same) in
            let inner = inner_children (IsNodeIn p) level node entries (number_of c.in-Ok-Inner.field-0-0) c.in-Ok-Inner.field-0-1 c.in-Ok-Inner.children can.over is in
            inl (
            subst (λ (ls : List Link). IsMidway p others c.args.tree level node left c.args.builder.now 0 ls) (sym c.into_iter-child-iterator.ensures.into_iter_gives)
            (none_copied p others c.args.tree level node left c.args.builder.now entries links inner taken (ap links_in (sym is)))
            )
        | inr twin ↦ inr twin
      ];
  stays = c.in_ok-record.ensures.stays;
  few =
      let node_is : IsNode (Inner (number_of c.in-Ok-Inner.field-0-0) c.in-Ok-Inner.field-0-1 c.in-Ok-Inner.children) = subst (λ (r : NodeRef). IsNode (node_read r)) c.in-Ok-Inner.field-0-is c.in-Ok-Inner.ensures.found.0 in
      omega (arith, node_is.4, ap (length {A = Link}) c.into_iter-child-iterator.ensures.into_iter_gives);
}

pub returns-in_default-clause-copied : goal.returns-in_default-clause-copied
returns-in_default-clause-copied g t c = λ p known others level node entries left has can held taken.
    elim (same_or_twin p c.node.result.now (spelling node) c.args.key.now.0 (over_owned (IsNodeIn p) level node entries can.over) (ap digest c.node.ensures.value ∙ c.in_ok-record.ensures.has_digest) (subst AreBytes (sym c.node.ensures.value) c.in_ok-record.ensures.bytes) can.key_is) [
      | inl same ↦
          let placed = (all_placed known c.args.key.now.0 c.in_ok-record.record c.node.result.now node (links_in node) c.node.ensures.given (over_node (IsNodeIn p) level node entries can.over) same refl (c.in_ok-record.ensures.ends known held can.at)) in
          elim (c.loop-child.invariant.copied p known others level node entries left has can held taken) [
            | inl mid ↦
                let next = next_child p others c.args.tree level node left c.loop-child.builder c.loop-child.number c.loop-child.child-iterator (link_of c.in-Some.child) c.next.new.self c.in-Some.ensures.steps mid in
                inl (
                no_place_found Absent known c.in_ok-record.record c.loop-child.number (link_of c.in-Some.child) c.next.new.self c.child_place.result (nothing c.child_place.result c.in_default.not-Some) c.child_place.ensures.given
                (placed_from known c.in_ok-record.record c.loop-child.number (links_in node) (link_of c.in-Some.child ∷ c.next.new.self) next.rest placed)
                )
            | inr twin ↦ inr twin
          ]
      | inr twin ↦ inr twin
    ]

pub returns-in_default-clause-stays : goal.returns-in_default-clause-stays
returns-in_default-clause-stays g t c = c.loop-child.invariant.stays

pub returns-in_err-copy_below-in-Ok-Inner-clause-copied : goal.returns-in_err-copy_below-in-Ok-Inner-clause-copied
returns-in_err-copy_below-in-Ok-Inner-clause-copied g t c = λ p known others level node entries left has can held taken.
    elim (same_or_twin p c.node.result.now (spelling node) c.args.key.now.0 (over_owned (IsNodeIn p) level node entries can.over) (ap digest c.node.ensures.value ∙ c.in_ok-record.ensures.has_digest) (subst AreBytes (sym c.node.ensures.value) c.in_ok-record.ensures.bytes) can.key_is) [
      | inl same ↦
          let placed = (all_placed known c.args.key.now.0 c.in_ok-record.record c.node.result.now node (links_in node) c.node.ensures.given (over_node (IsNodeIn p) level node entries can.over) same refl (c.in_ok-record.ensures.ends known held can.at)) in
          elim (c.loop-child.invariant.copied p known others level node entries left has can held taken) [
            | inl mid ↦
                let next = next_child p others c.args.tree level node left c.loop-child.builder c.loop-child.number c.loop-child.child-iterator (link_of c.in-Some.child) c.next.new.self c.in-Some.ensures.steps mid in
                let below = can_next p others c.args.tree level node left known c.in_ok-record.record c.loop-child.builder c.loop-child.number (link_of c.in-Some.child) c.next.new.self c.args.depth _ c.child_place.result next can.deep c.in-Some-child_place.is c.child_place.ensures.given placed in
                elim (c.in_err-copy_below-in-Ok-Inner.ensures.copied p known others next.lower next.child next.first (next.more ++ left) has below (held_still (g.F.ReadAt.reads c.args.files.now) (g.F.ReadAt.reads c.loop-child.files) known c.loop-child.invariant.stays held) next.taken) [
                  | inl why ↦ inl (err_ends c.from_residual-in_err-copy_below-in-Ok-Inner.result _ _ (IsFailure known) c.from_residual-in_err-copy_below-in-Ok-Inner.ensures.1 why)
                  | inr twin ↦ inr twin
                ]
            | inr twin ↦ inr twin
          ]
      | inr twin ↦ inr twin
    ]

pub returns-in_err-copy_below-in-Ok-Inner-clause-stays : goal.returns-in_err-copy_below-in-Ok-Inner-clause-stays
returns-in_err-copy_below-in-Ok-Inner-clause-stays g t c = λ bytes reads. c.copy_below.ensures.stays bytes (c.loop-child.invariant.stays bytes reads)

pub overflow_add-number : goal.overflow_add-number
overflow_add-number g t c = omega (arith, c.loop-child.invariant.few, ap (length {A = Link}) c.in-Some.ensures.steps)

pub loop-child-preserved : goal.loop-child-preserved
loop-child-preserved g t c = record {
  copied = λ p known others level node entries left has can held taken.
      elim (same_or_twin p c.node.result.now (spelling node) c.args.key.now.0 (over_owned (IsNodeIn p) level node entries can.over) (ap digest c.node.ensures.value ∙ c.in_ok-record.ensures.has_digest) (subst AreBytes (sym c.node.ensures.value) c.in_ok-record.ensures.bytes) can.key_is) [
        | inl same ↦
            let placed = (all_placed known c.args.key.now.0 c.in_ok-record.record c.node.result.now node (links_in node) c.node.ensures.given (over_node (IsNodeIn p) level node entries can.over) same refl (c.in_ok-record.ensures.ends known held can.at)) in
            elim (c.loop-child.invariant.copied p known others level node entries left has can held taken) [
              | inl mid ↦
                  let next = next_child p others c.args.tree level node left c.loop-child.builder c.loop-child.number c.loop-child.child-iterator (link_of c.in-Some.child) c.next.new.self c.in-Some.ensures.steps mid in
                  let below = can_next p others c.args.tree level node left known c.in_ok-record.record c.loop-child.builder c.loop-child.number (link_of c.in-Some.child) c.next.new.self c.args.depth _ c.child_place.result next can.deep c.in-Some-child_place.is c.child_place.ensures.given placed in
                  elim (c.in_ok-copy_below-in-Ok-Inner.ensures.copied p known others next.lower next.child next.first (next.more ++ left) has below (held_still (g.F.ReadAt.reads c.args.files.now) (g.F.ReadAt.reads c.loop-child.files) known c.loop-child.invariant.stays held) next.taken) [
                    | inl done ↦ inl (next.then c.copy_below.new.builder done)
                    | inr twin ↦ inr twin
                  ]
              | inr twin ↦ inr twin
            ]
        | inr twin ↦ inr twin
      ];
  stays = λ bytes reads. c.copy_below.ensures.stays bytes (c.loop-child.invariant.stays bytes reads);
  few = omega (arith, c.loop-child.invariant.few, ap (length {A = Link}) c.in-Some.ensures.steps);
}

pub returns-in-Ok-Inner-clause-copied : goal.returns-in-Ok-Inner-clause-copied
returns-in-Ok-Inner-clause-copied g t c = λ p known others level node entries left has can held taken.
    elim (c.loop-child.invariant.copied p known others level node entries left has can held taken) [
      | inl mid ↦ inl (all_copied p others c.args.tree level node left c.loop-child.builder c.loop-child.number c.loop-child.child-iterator c.in-None.ensures.steps.0 mid)
      | inr twin ↦ inr twin
    ]

pub returns-in-Ok-Inner-clause-stays : goal.returns-in-Ok-Inner-clause-stays
returns-in-Ok-Inner-clause-stays g t c = c.loop-child.invariant.stays

pub returns-clause-copied : goal.returns-clause-copied
returns-clause-copied g t c = λ p known others level node entries left has can held taken.
    elim (same_or_twin p c.node.result.now (spelling node) c.args.key.now.0 (over_owned (IsNodeIn p) level node entries can.over) (ap digest c.node.ensures.value ∙ c.in_ok-record.ensures.has_digest) (subst AreBytes (sym c.node.ensures.value) c.in_ok-record.ensures.bytes) can.key_is) [
      | inl same ↦ inl (c.in-Err.ensures.only node (over_node (IsNodeIn p) level node entries can.over, same))
      | inr twin ↦ inr twin
    ]
