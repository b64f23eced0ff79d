use Rattle.std.proofs.Common.{◌≡◌, ◌+◌, ◌++◌, ◌∷◌, [], List, take, drop, arith, sym, ap, subst, ◌∙◌}
use Rattle.std.proofs.lemmas.List.{take_more, take_all}
use Rattle.opl_codec.specs.declared.change.Change.{Change}
use Rattle.osm_index.specs.Applying.{DeleteThere}
use Rattle.osm_index.proofs.NameLemmas.{cut_here}
use Rattle.osm_index.proofs.PutNames.{there_more}
use Rattle.osm_index.proofs.change_refusals.refuse_missing_deletes.Goals as goal

pub loop-change-preserved : goal.loop-change-preserved
loop-change-preserved c =
    let changes = c.args.changes.now in
    let before = take c.loop-change.change-index changes in
    let item = c.change-item.result in
    let more : take (c.loop-change.change-index + 1) changes ≡ before ++ item ∷ [] =
    take_more changes c.loop-change.change-index item (omega arith) ∙ ap (λ (x : Change). before ++ x ∷ []) (sym c.change-item.is) in
    subst (λ (all : List Change). DeleteThere c.args.set.now all) (sym more) (there_more c.args.set.now before item c.loop-change.invariant c.in_default.ensures)

pub returns-in-Some-clause-refused : goal.returns-in-Some-clause-refused
returns-in-Some-clause-refused c =
    let changes = c.args.changes.now in
    let i = c.loop-change.change-index in
    record {
      before = take i changes;
      after = drop (i + 1) changes;
      cut = cut_here changes i c.change-item.result (omega arith) c.change-item.is ∙ ap (λ (x : Change). take i changes ++ x ∷ drop (i + 1) changes) c.in-Some.ensures.0;
      there = c.loop-change.invariant;
      missing = c.in-Some.ensures.1;
    }

pub returns-clause-there : goal.returns-clause-there
returns-clause-there c = λ _. rw (take_all c.loop-change.change-index c.args.changes.now c.loop-change-test.false) at c.loop-change.invariant
