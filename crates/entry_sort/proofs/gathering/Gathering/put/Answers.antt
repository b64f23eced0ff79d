use Rattle.std.proofs.Common.{◌≡◌, ◌∙◌, sym, ap, subst, List, [], ◌∷◌, ◌++◌, append_assoc, Bool, map}
use Rattle.external_sort.specs.Records.{Entry}
use Rattle.external_sort.specs.Sorting.{Holds}
use Rattle.osm_model.specs.Elements.{Element, reference}
use Rattle.osm_model.specs.declared.reference.Ref.{Ref}
use Rattle.entry_sort.specs.internal.Names.{HoldsNames, Named, name_record, named}
use Rattle.entry_sort.specs.internal.Puts.{FlushesIf, Gathered, GathersIf, Put, names_of, objects_of, put_of}
use Rattle.entry_sort.proofs.GatherLemmas.{gathers_flushed, if_ok, names-push, objects-push}
use Rattle.entry_sort.proofs.gathering.Gathering.put.Goals as goal

pub returns-then-self-clause-put : goal.returns-then-self-clause-put
returns-then-self-clause-put g c puts h =
    let o : Element = c.args.object in
    let held = subst (λ (r : Ref). HoldsNames g.S.RunStore.runs g.S.RunStore.in_hand c.add.new.self (names_of puts ++ named r c.args.line ∷ [])) c.reference.ensures.value (c.in_ok-add.ensures.held (names_of puts) h.names) in
    record {
      names = subst (λ (ns : List Named). HoldsNames g.S.RunStore.runs g.S.RunStore.in_hand c.add.new.self ns) (sym (names-push puts c.args.line o)) held;
      done = h.done;
      held = h.held;
      all = objects-push puts c.args.line o ∙ ap (λ (os : List Element). os ++ o ∷ []) h.all ∙ append_assoc h.done c.args.self.now.chunk.items (o ∷ []) ∙ ap (λ (os : List Element). h.done ++ os) (sym c.in_ok-push.ensures.items);
    }

pub returns-clause-put : goal.returns-clause-put
returns-clause-put g c =
    let o : Element = c.args.object in
    if_ok (λ done. (puts : List Put) → Gathered g.S.RunStore.runs g.S.RunStore.in_hand (record c.args.self.now { names = c.add.new.self; len = c.saturating_add-self.result; chunk = c.push.new.self }) puts → FlushesIf g.S.RunStore.runs g.S.RunStore.in_hand done c.flush.new.self puts)
    (λ goes_on. (puts : List Put) → Gathered g.S.RunStore.runs g.S.RunStore.in_hand c.args.self.now puts → GathersIf g.S.RunStore.runs g.S.RunStore.in_hand goes_on c.flush.new.self (puts ++ put_of c.args.line o ∷ []))
    c.flush.result
    c.flush.ensures.flushed
    (λ done flushed puts h.
    let held = subst (λ (r : Ref). HoldsNames g.S.RunStore.runs g.S.RunStore.in_hand c.add.new.self (names_of puts ++ named r c.args.line ∷ [])) c.reference.ensures.value (c.in_ok-add.ensures.held (names_of puts) h.names) in
    gathers_flushed g.S.RunStore.runs g.S.RunStore.in_hand done c.flush.new.self (puts ++ put_of c.args.line o ∷ []) (flushed (puts ++ put_of c.args.line o ∷ []) (record {
      names = subst (λ (ns : List Named). HoldsNames g.S.RunStore.runs g.S.RunStore.in_hand c.add.new.self ns) (sym (names-push puts c.args.line o)) held;
      done = h.done;
      held = h.held;
      all = objects-push puts c.args.line o ∙ ap (λ (os : List Element). os ++ o ∷ []) h.all ∙ append_assoc h.done c.args.self.now.chunk.items (o ∷ []) ∙ ap (λ (os : List Element). h.done ++ os) (sym c.in_ok-push.ensures.items);
    })))
