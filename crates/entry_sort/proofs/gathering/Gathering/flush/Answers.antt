use Rattle.std.proofs.Common.{◌≡◌, ◌∙◌, sym, ap, List, [], ◌++◌, append-nil, subst}
use Rattle.osm_model.specs.Elements.{Element}
use Rattle.entry_sort.specs.internal.Puts.{objects_of}
use Rattle.entry_sort.specs.Holding.{HoldsEntries}
use Rattle.osm_model.specs.Sets.{HasDistinctReferences}
use Rattle.entry_sort.proofs.GatherLemmas.{chunk_held, chunk_repeats}
use Rattle.entry_sort.proofs.gathering.Gathering.flush.Goals as goal

pub returns-in_ok-add-in-Ok-clause-flushed : goal.returns-in_ok-add-in-Ok-clause-flushed
returns-in_ok-add-in-Ok-clause-flushed g c puts h =
    let chunk : List Element = c.args.self.now.chunk.items in
    let was : c.replace-chunk.result.items ≡ chunk = ap (λ v. v.items) c.replace-chunk.ensures.value in
    let empty : c.replace-chunk.new.dest.items ≡ [] = ap (λ v. v.items) c.replace-chunk.ensures.after ∙ c.new.ensures.items in
    let order = c.in-Ok.ensures.made.0 in
    let all = h.done ++ chunk in (
      record {
        names = h.names;
        done = all;
        held = subst (λ (os : List Element). HoldsEntries g.S.RunStore.runs g.S.RunStore.in_hand c.add.new.self (h.done ++ os)) was
            (chunk_held g.S.RunStore.runs g.S.RunStore.in_hand c.add.new.self h.done c.replace-chunk.result.items c.in-Ok.set order (c.in_ok-add-in-Ok.ensures.held h.done h.held));
        all = h.all ∙ sym (append-nil all) ∙ ap (λ (os : List Element). all ++ os) (sym empty);
      },
      empty,
    )

pub returns-in-Err-clause-flushed : goal.returns-in-Err-clause-flushed
returns-in-Err-clause-flushed g c puts h =
    let was : c.replace-chunk.result.items ≡ c.args.self.now.chunk.items = ap (λ v. v.items) c.replace-chunk.ensures.value in (
      h.names,
      chunk_repeats puts h.done c.args.self.now.chunk.items h.all (λ apart. c.in-Err.ensures.twice.1 (subst HasDistinctReferences (sym was) apart)),
    )
