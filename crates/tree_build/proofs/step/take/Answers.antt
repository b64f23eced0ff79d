use Rattle.std.proofs.Common.{◌≡◌, ◌++◌, List, map, refl, sym, ap, subst, ◌∙◌}
use Rattle.std.specs.List.{AllByRecursion}
use Rattle.std.proofs.lemmas.List.{map-append}
use Rattle.tree_node.specs.NodeRefs.{node_read, number_of}
use Rattle.tree_node.specs.Trees.{Two, ends_by}
use Rattle.tree_build.specs.Changing.{changed}
use Rattle.tree_build.specs.internal.ItemChanges.{changes_meant}
use Rattle.tree_build.proofs.MarkLemmas.{changed_known, come_meant, done_meant, pending_meant}
use Rattle.tree_build.proofs.PendingLemmas.{fit_meant, gone_on, last_fits}
use Rattle.tree_build.proofs.MeaningLemmas.{changed_meant, rising_meant}
use Rattle.tree_build.proofs.step.take.Goals as goal

pub merge-requires : goal.merge-requires
merge-requires g c κs = ((refl, tt), rising_meant g.T.NodeItem.meaning g.T.NodeItem.key_of g.T.NodeItem.key_in g.met.T.NodeItem.keys c.args.here.now (c.are_own_and_rising.ensures.0 c.if-not-are_own_and_rising.false))

pub cut-requires : goal.cut-requires
cut-requires g c κs =
    let meaning = g.T.NodeItem.meaning in
    let fit = subst (λ xs. g.T.NodeItem.Fit (map meaning xs ++ map meaning c.as_slice-4.result.now)) c.as_slice-2.ensures.value
    (subst (λ xs. g.T.NodeItem.Fit (map meaning c.as_slice-2.result.now ++ map meaning xs)) (c.as_slice-3.ensures.value ∙ sym c.as_slice-4.ensures.value) (c.fit.ensures.0 c.if-not-fit.false)) in
    let all = subst g.T.NodeItem.Fit (sym (map-append meaning c.args.work.now.pending.items c.as_slice-4.result.now)) fit in
    ((refl, tt), (c.requires.few, all))

pub end_level-requires : goal.end_level-requires
end_level-requires g c κs =
    let meaning = g.T.NodeItem.meaning in
    let fit = subst (λ xs. g.T.NodeItem.Fit (map meaning xs ++ map meaning c.as_slice-4.result.now)) c.as_slice-2.ensures.value
    (subst (λ xs. g.T.NodeItem.Fit (map meaning c.as_slice-2.result.now ++ map meaning xs)) (c.as_slice-3.ensures.value ∙ sym c.as_slice-4.ensures.value) (c.fit.ensures.0 c.if-not-fit.false)) in
    let all = subst g.T.NodeItem.Fit (sym (map-append meaning c.args.work.now.pending.items c.as_slice-4.result.now)) fit in
    let pending = last_fits (ends_by Two g.T.Cut.marked) (λ xs. g.T.NodeItem.Fit (map meaning xs)) (fit_meant meaning g.T.NodeItem.Fit g.met.T.NodeItem.parts) c.args.work.now.pending.items c.as_slice-4.result.now all in
    ((refl, tt), (c.in_ok-cut.ensures.few, subst (λ xs. g.T.NodeItem.Fit (map meaning xs)) (sym c.in_ok-cut.ensures.pending) pending))

pub returns-then-not-fit-clause-served : goal.returns-then-not-fit-clause-served
returns-then-not-fit-clause-served g c = λ own fits.
    let M = g.T.NodeItem.Meaning in
    let meaning = g.T.NodeItem.meaning in
    let cs = changes_meant meaning c.args.here.now in
    let merged : map meaning c.as_slice-3.result.now ≡ changed g.T.NodeItem.key_in (g.T.NodeItem.items_in (node_read c.args.found.node)) cs =
    ap (map meaning) (c.as_slice-3.ensures.value ∙ c.in_ok-merged.ensures)
    ∙ changed_meant meaning g.T.NodeItem.key_of g.T.NodeItem.key_in g.met.T.NodeItem.keys c.as_slice.result.now c.args.here.now
    ∙ ap (λ (xs : List M). changed g.T.NodeItem.key_in xs cs) (ap (map meaning) c.as_slice.ensures.value ∙ c.in_ok-items.ensures.items) in
    let fit = subst (λ (xs : List M). g.T.NodeItem.Fit (map meaning c.as_slice-2.result.now ++ xs)) (sym merged)
    (subst (λ xs. g.T.NodeItem.Fit (map meaning xs ++ changed g.T.NodeItem.key_in (g.T.NodeItem.items_in (node_read c.args.found.node)) cs)) (sym c.as_slice-2.ensures.value) fits) in
    absurd (let yes = c.fit.ensures.1 fit in cc)

pub returns-clause-went_on : goal.returns-clause-went_on
returns-clause-went_on g c = λ inside.
    let M = g.T.NodeItem.Meaning in
    let meaning = g.T.NodeItem.meaning in
    let cs = changes_meant meaning c.args.here.now in
    let merged : map meaning c.as_slice-4.result.now ≡ changed g.T.NodeItem.key_in (g.T.NodeItem.items_in (node_read c.args.found.node)) cs =
    ap (map meaning) (c.as_slice-4.ensures.value ∙ c.in_ok-merged.ensures)
    ∙ changed_meant meaning g.T.NodeItem.key_of g.T.NodeItem.key_in g.met.T.NodeItem.keys c.as_slice.result.now c.args.here.now
    ∙ ap (λ (xs : List M). changed g.T.NodeItem.key_in xs cs) (ap (map meaning) c.as_slice.ensures.value ∙ c.in_ok-items.ensures.items) in
    let Knows = g.T.NodeItem.knows_mark in
    let over = g.T.NodeItem.node_over (number_of c.args.place.tree) c.args.place.level in
    let olds = subst (λ xs. AllByRecursion Knows xs) (sym c.as_slice.ensures.value) (c.in_ok-items.ensures.known inside) in
    let all = subst (λ xs. AllByRecursion Knows xs) (sym (c.as_slice-4.ensures.value ∙ c.in_ok-merged.ensures)) (changed_known g.T.NodeItem.key_of Knows c.as_slice.result.now c.args.here.now c.requires.known olds) in
    let done = done_meant meaning g.T.Cut.marked g.T.NodeItem.marked_in Knows g.met.T.NodeItem.marks c.args.work.now.pending.items c.as_slice-4.result.now all in
    let pending = pending_meant meaning g.T.Cut.marked g.T.NodeItem.marked_in Knows g.met.T.NodeItem.marks c.args.work.now.pending.items c.as_slice-4.result.now all in
    gone_on (ends_by Two g.T.NodeItem.marked_in) over c.args.is_last _ _ _ _ _ _ _ _
    (come_meant over meaning _ _ _ _ done c.in_ok-cut.ensures.news) (ap (map meaning) c.in_ok-cut.ensures.pending ∙ pending) merged c.in_ok-end_level.ensures.news c.in_ok-end_level.ensures.pending
