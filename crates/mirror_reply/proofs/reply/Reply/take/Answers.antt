use Rattle.std.proofs.Common.{◌++◌, List, ap, false, refl, subst, ℕ}
use Rattle.mirror_reply.specs.Taken.{HasTaken, Kept, Tells}
use Rattle.mirror_reply.proofs.TakenLemmas.{says-settled, says-waits, view-kept, view-settled, view-tells}
use Rattle.mirror_reply.proofs.reply.Reply.take.Goals as goal

pub returns-in_default : goal.returns-in_default
returns-in_default c =
    let limit = c.self.inside.limit in
    let inside = c.self.inside.bytes.items in
    let settled = says-settled limit c.deref.result.now c.progress_of-progress.result c.progress_of-progress.ensures c.in_default.not-More in
    let later = λ (received : List ℕ) (taken : HasTaken c.args.self.now received).
    view-settled c.args.self.now limit inside c.deref.result.now received c.args.piece.now c.self.view_is c.deref.ensures.value taken settled in
    record {
      told = λ received taken.
          view-tells c.args.self.now limit inside c.deref.result.now (received ++ c.args.piece.now) c.self.view_is c.deref.ensures.value (later received taken) false
          c.progress_of-progress.result c.progress_of-progress.ensures;
      taken = later;
      unchanged = tt;
      needed = tt;
      limit = refl;
    }

pub returns-clause-taken : goal.returns-clause-taken
returns-clause-taken c = λ received taken.
    view-kept c.args.self.now c.self.inside.limit c.self.inside.bytes.items c.deref.result.now received c.args.piece.now c.self.view_is c.deref.ensures.value taken
    c.keep.new.bytes.items
    (says-waits c.self.inside.limit false c.deref.result.now c.progress_of-progress.result c.progress_of-progress.ensures c.in-More.is)
    c.in_ok-self-inside.ensures.kept

pub returns-clause-told : goal.returns-clause-told
returns-clause-told c = λ received taken.
    let limit = c.self.inside.limit in
    let new = c.keep.new.bytes.items in
    let later = view-kept c.args.self.now limit c.self.inside.bytes.items c.deref.result.now received c.args.piece.now c.self.view_is c.deref.ensures.value taken new
    (says-waits limit false c.deref.result.now c.progress_of-progress.result c.progress_of-progress.ensures c.in-More.is)
    c.in_ok-self-inside.ensures.kept in
    subst (λ n. Tells n false (received ++ c.args.piece.now) c.progress_of.result) (ap (λ (k : Kept). k.limit) c.self.view_is)
    (view-tells (record { limit = limit; bytes = new }) limit new c.deref-2.result.now (received ++ c.args.piece.now) refl c.deref-2.ensures.value later false
    c.progress_of.result c.progress_of.ensures)
