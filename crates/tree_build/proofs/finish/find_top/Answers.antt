use Rattle.std.proofs.Common.{◌⊎◌, inl, inr, ◌≡◌, ◌≤◌, ◌<◌, ◌+◌, ◌-◌, [], ◌∷◌, ℕ, List, length, get_or, sym, ap, subst, ◌∙◌, arith}
use Rattle.tree_node.specs.Nodes.{Node}
use Rattle.tree_node.specs.NodeRefs.{number_of}
use Rattle.tree_node.specs.Trees.{IsNodeOf, Two, level_at, levels, no_node}
use Rattle.std.specs.Prelude.{IfSome}
use Rattle.tree_build.specs.Rebuilding.{changed_entries, digests_of, nodes_of}
use Rattle.tree_build.specs.StrangeShelves.{IsRefusedFor}
use Rattle.tree_build.specs.declared.shrink_top.Top.{Top}
use Rattle.tree_build.specs.internal.FoundTops.{IsFound, IsTopRead}
use Rattle.tree_build.specs.internal.Shrinking.{HasShrunk, IsReadBy}
use Rattle.tree_build.proofs.FoundLemmas.{found_emptied, found_grown, found_settled, found_stays, if_ok, none_stand}
use Rattle.tree_build.proofs.StepStates.{each_length}
use Rattle.tree_build.specs.internal.Edits.{Each, IsNewNode}
use Rattle.tree_build.specs.internal.Telling.{node_digest}
use Rattle.tree_build.specs.internal.Towers.{tower}
use Rattle.tree_build.specs.declared.step.LevelEdit.{LevelEdit}
use Rattle.tree_build.specs.declared.piece.NewPiece.{NewPiece}
use Rattle.tree_build.proofs.LastLemmas.{last_alone, last_digest, last_new}
use Rattle.tree_build.proofs.ErrLemmas.{fault_as, memory_told}
use Rattle.tree_build.proofs.ShrinkLemmas.{shrinks}
use Rattle.tree_build.proofs.DescentLemmas.{lone}
use Rattle.tree_build.proofs.TopReads.{if_ok_both, settled_read}
use Rattle.tree_build.proofs.finish.find_top.Goals as goal

pub returns-in-Some-clause-found : goal.returns-in-Some-clause-found
returns-in-Some-clause-found g c = λ top changes entries can stays.
    let tree = number_of c.args.tree in
    let after = changed_entries entries changes in
    let edits = c.args.edits.now.items in
    let at : length edits - 1 ≡ c.len-last.result - 1 = ap (λ n. n - 1) (sym (c.len-last.ensures ∙ c.args.edits.now.ok.0)) in
    let same = subst (λ o. IfSome o (λ d. (d.0 ≡ top) × (level_at (levels Two tree entries) (length edits - 1) ≡ tower Two tree after (length edits - 1)))) c.in-Some.is stays in
    subst (λ n. IsFound (levels Two tree entries) (levels Two tree after) edits (nodes_of c.args.added.now.items) (nodes_of c.args.added.now.items) (digests_of c.args.gone.now.items) (digests_of c.args.gone.now.items) c.in-Some.digest.0 n) at
    (found_stays tree entries after can.is.has can.is.changed_has can.is.is_tree edits can.are can.some can.high same.1 (nodes_of c.args.added.now.items) (digests_of c.args.gone.now.items) c.in-Some.digest.0 (same.0 ∙ can.is.is_top))

pub returns-in_ok-digest-in-empty-clause-found : goal.returns-in_ok-digest-in-empty-clause-found
returns-in_ok-digest-in-empty-clause-found g c = λ top changes entries can stays.
    let tree = number_of c.args.tree in
    let after = changed_entries entries changes in
    let edits = c.args.edits.now.items in
    let last = c.len-last.result - 1 in
    let all = can.whole c.in_default.is in
    let counted : c.len-last.result ≡ length edits = c.len-last.ensures ∙ c.args.edits.now.ok.0 in
    let at : last + 1 ≡ length edits = omega (arith, counted, can.some) in
    let same : last ≡ length edits - 1 = ap (λ n. n - 1) counted in
    let news = last_new tree entries (tower Two tree after) edits c.index.result.now last can.are can.opened at all c.index.ensures in
    let few : length c.index.result.now.news.items < 1 = subst (λ (ps : List NewPiece). length ps < 1) c.as_slice.ensures.value c.in-empty.len_below in
    let empty = subst (λ n. tower Two tree after n ≡ []) same (none_stand c.index.result.now.news.items (tower Two tree after last) news few) in
    let (digest_is, has_leaf) = c.in_ok-digest-in-empty.ensures in
    let (leaf, stands, gains) = has_leaf in
    found_emptied tree entries after can.is.has can.is.changed_has can.is.is_tree edits can.are can.some all empty c.put_empty_leaf.new.edits.items leaf stands gains (nodes_of c.args.added.now.items) (digests_of c.args.gone.now.items) c.in_ok-digest-in-empty.digest.0 digest_is

pub returns-in-len1-clause-found : goal.returns-in-len1-clause-found
returns-in-len1-clause-found g c = λ top changes entries can stays.
    let tree = number_of c.args.tree in
    let after = changed_entries entries changes in
    let edits = c.args.edits.now.items in
    let last = c.len-last.result - 1 in
    let new : ℕ → List Node = tower Two tree after in
    let counted : c.len-last.result ≡ length edits = c.len-last.ensures ∙ c.args.edits.now.ok.0 in
    let at : last + 1 ≡ length edits = omega (arith, counted, can.some) in
    let all = can.whole c.in_default.is in
    let one : c.index.result.now.news.items ≡ c.one-item.result ∷ [] =
    sym c.as_slice.ensures.value ∙ lone c.as_slice.result.now c.one-item.result (omega (arith, c.in-len1.len_at_least, c.in-len1.len_below)) ∙ ap (λ (p : NewPiece). p ∷ []) (sym c.one-item.is) in
    let same_last : last ≡ length edits - 1 = ap (λ n. n - 1) counted in
    let alone = subst (λ n. length (new n) ≡ 1) same_last (last_alone tree entries new edits c.index.result.now last can.are can.opened at all c.index.ensures c.one-item.result one) in
    let digest_is = subst (λ n. c.one-item.result.node.digest.0 ≡ node_digest (get_or (new n) 0 no_node)) same_last (last_digest tree entries new edits c.index.result.now last can.are can.opened at all c.index.ensures c.one-item.result one c.one-item.result.node.own) in
    let back = sym c.as_slice-in-len1.ensures.value in
    let settled = c.shrink_top.ensures.settled tree top changes entries (shrinks _ tree top changes entries edits _ _ can.is can.are can.high alone digest_is back) in
    if_ok
    (λ (found : Top). HasShrunk new c.as_slice-in-len1.result.now (digests_of c.args.gone.now.items) (digests_of c.shrink_top.new.gone.items) found.digest.0 found.level)
    (λ (found : Top). IsFound (levels Two tree entries) (levels Two tree after) edits (nodes_of c.args.added.now.items) (nodes_of c.args.added.now.items) (digests_of c.args.gone.now.items) (digests_of c.shrink_top.new.gone.items) found.digest.0 found.level)
    c.shrink_top.result
    (λ found so. found_settled tree entries after can.is.has can.is.changed_has can.is.is_tree edits can.are can.some all (nodes_of c.args.added.now.items) (digests_of c.args.gone.now.items) (digests_of c.shrink_top.new.gone.items) found.digest.0 found.level
    (subst (λ (es : List LevelEdit). HasShrunk new es (digests_of c.args.gone.now.items) (digests_of c.shrink_top.new.gone.items) found.digest.0 found.level) c.as_slice-in-len1.ensures.value so))
    settled

pub returns-in-len1-clause-used : goal.returns-in-len1-clause-used
returns-in-len1-clause-used g c = λ top changes entries can.
    let tree = number_of c.args.tree in
    let after = changed_entries entries changes in
    let edits = c.args.edits.now.items in
    let last = c.len-last.result - 1 in
    let new : ℕ → List Node = tower Two tree after in
    let counted : c.len-last.result ≡ length edits = c.len-last.ensures ∙ c.args.edits.now.ok.0 in
    let at : last + 1 ≡ length edits = omega (arith, counted, can.some) in
    let all = can.whole c.in_default.is in
    let one : c.index.result.now.news.items ≡ c.one-item.result ∷ [] =
    sym c.as_slice.ensures.value ∙ lone c.as_slice.result.now c.one-item.result (omega (arith, c.in-len1.len_at_least, c.in-len1.len_below)) ∙ ap (λ (p : NewPiece). p ∷ []) (sym c.one-item.is) in
    let same_last : last ≡ length edits - 1 = ap (λ n. n - 1) counted in
    let alone = subst (λ n. length (new n) ≡ 1) same_last (last_alone tree entries new edits c.index.result.now last can.are can.opened at all c.index.ensures c.one-item.result one) in
    let digest_is = subst (λ n. c.one-item.result.node.digest.0 ≡ node_digest (get_or (new n) 0 no_node)) same_last (last_digest tree entries new edits c.index.result.now last can.are can.opened at all c.index.ensures c.one-item.result one c.one-item.result.node.own) in
    let back = sym c.as_slice-in-len1.ensures.value in
    let settled = c.shrink_top.ensures.settled tree top changes entries (shrinks _ tree top changes entries edits _ _ can.is can.are can.high alone digest_is back) in
    let reads = c.shrink_top.ensures.used tree top changes entries (shrinks _ tree top changes entries edits _ _ can.is can.are can.high alone digest_is back) in
    if_ok_both
    (λ (found : Top). HasShrunk new c.as_slice-in-len1.result.now (digests_of c.args.gone.now.items) (digests_of c.shrink_top.new.gone.items) found.digest.0 found.level)
    (λ (found : Top). (bytes : List ℕ) → g.S.Shelf.used c.shrink_top.new.shelf bytes → g.S.Shelf.used c.args.shelf.now bytes ⊎ IsReadBy new c.as_slice-in-len1.result.now found.level bytes)
    (λ (found : Top). (bytes : List ℕ) → g.S.Shelf.used c.shrink_top.new.shelf bytes → g.S.Shelf.used c.args.shelf.now bytes ⊎ IsTopRead (levels Two tree entries) (levels Two tree after) bytes)
    c.shrink_top.result
    (λ found so by bytes h. elim (by bytes h) [
      | inl used ↦ inl used
      | inr read ↦ inr (settled_read tree entries after edits can.are all (digests_of c.args.gone.now.items) (digests_of c.shrink_top.new.gone.items) found.digest.0 found.level
          (subst (λ (es : List LevelEdit). HasShrunk new es (digests_of c.args.gone.now.items) (digests_of c.shrink_top.new.gone.items) found.digest.0 found.level) c.as_slice-in-len1.ensures.value so)
          c.index.result.now last at c.index.ensures c.one-item.result one bytes
          (subst (λ (es : List LevelEdit). IsReadBy new es found.level bytes) c.as_slice-in-len1.ensures.value read))
    ])
    settled reads

pub returns-in_ok-digest-in_default-as_slice-clause-found :
    goal.returns-in_ok-digest-in_default-as_slice-clause-found
returns-in_ok-digest-in_default-as_slice-clause-found g c = λ top changes entries can stays.
    let tree = number_of c.args.tree in
    let after = changed_entries entries changes in
    let edits = c.args.edits.now.items in
    let last = c.len-last.result - 1 in
    let new : ℕ → List Node = tower Two tree after in
    let counted : c.len-last.result ≡ length edits = c.len-last.ensures ∙ c.args.edits.now.ok.0 in
    let at : last + 1 ≡ length edits = omega (arith, counted, can.some) in
    let all = can.whole c.in_default.is in
    let news = last_new tree entries new edits c.index.result.now last can.are can.opened at all c.index.ensures in
    let stand = subst (λ (ps : List NewPiece). Each IsNewNode ps (new last)) (sym c.as_slice.ensures.value) news in
    let many : 2 ≤ length (new last) = omega (arith, c.in_default-as_slice.len_at_least, each_length IsNewNode c.as_slice.result.now (new last) stand) in
    found_grown tree entries after can.is.has can.is.changed_has can.is.is_tree edits can.are can.some all last at many (nodes_of c.args.added.now.items) (nodes_of c.grow_top.new.added.items) (digests_of c.args.gone.now.items) c.in_ok-digest-in_default-as_slice.digest.0
    (c.in_ok-digest-in_default-as_slice.ensures.grown after can.is.changed_has (omega (arith, c.in_default-as_slice.len_at_least)) stand)

pub returns-in-len1-clause-told : goal.returns-in-len1-clause-told
returns-in-len1-clause-told g c = λ top changes entries can.
    let tree = number_of c.args.tree in
    let after = changed_entries entries changes in
    let edits = c.args.edits.now.items in
    let last = c.len-last.result - 1 in
    let new : ℕ → List Node = tower Two tree after in
    let counted : c.len-last.result ≡ length edits = c.len-last.ensures ∙ c.args.edits.now.ok.0 in
    let at : last + 1 ≡ length edits = omega (arith, counted, can.some) in
    let all = can.whole c.in_default.is in
    let one : c.index.result.now.news.items ≡ c.one-item.result ∷ [] =
    sym c.as_slice.ensures.value ∙ lone c.as_slice.result.now c.one-item.result (omega (arith, c.in-len1.len_at_least, c.in-len1.len_below)) ∙ ap (λ (p : NewPiece). p ∷ []) (sym c.one-item.is) in
    let same_last : last ≡ length edits - 1 = ap (λ n. n - 1) counted in
    let alone = subst (λ n. length (new n) ≡ 1) same_last (last_alone tree entries new edits c.index.result.now last can.are can.opened at all c.index.ensures c.one-item.result one) in
    let digest_is = subst (λ n. c.one-item.result.node.digest.0 ≡ node_digest (get_or (new n) 0 no_node)) same_last (last_digest tree entries new edits c.index.result.now last can.are can.opened at all c.index.ensures c.one-item.result one c.one-item.result.node.own) in
    let back = sym c.as_slice-in-len1.ensures.value in
    c.shrink_top.ensures.told tree top changes entries (shrinks _ tree top changes entries edits _ _ can.is can.are can.high alone digest_is back)

pub returns-in_err-digest-in_default-as_slice-clause-told : goal.returns-in_err-digest-in_default-as_slice-clause-told
returns-in_err-digest-in_default-as_slice-clause-told g c = λ top changes entries can.
    let tree = number_of c.args.tree in
    let edits = c.args.edits.now.items in
    let last = c.len-last.result - 1 in
    let counted : c.len-last.result ≡ length edits = c.len-last.ensures ∙ c.args.edits.now.ok.0 in
    let at : last + 1 ≡ length edits = omega (arith, counted, can.some) in
    let stand = subst (λ (ps : List NewPiece). Each IsNewNode ps (tower Two tree (changed_entries entries changes) last)) (sym c.as_slice.ensures.value)
    (last_new tree entries (tower Two tree (changed_entries entries changes)) edits c.index.result.now last can.are can.opened at (can.whole c.in_default.is) c.index.ensures) in
    fault_as (IsRefusedFor (levels Two tree entries) (g.S.Shelf.holds c.args.shelf.now)) c.from_residual-in_err-digest-in_default-as_slice.result c.in_err-digest-in_default-as_slice.field-0.0 c.from_residual-in_err-digest-in_default-as_slice.ensures.1
    (memory_told (IsNodeOf (levels Two tree entries)) (g.S.Shelf.holds c.args.shelf.now) c.in_err-digest-in_default-as_slice.field-0.0 (c.in_err-digest-in_default-as_slice.ensures.served (changed_entries entries changes) can.is.changed_has (omega (arith, c.in_default-as_slice.len_at_least)) stand))
