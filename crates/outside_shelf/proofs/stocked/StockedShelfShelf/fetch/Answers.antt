use Rattle.std.proofs.Common.{Err, true, inl, inr, ap, refl, subst, sym}
use Rattle.std.proofs.lemmas.Result.{IfOk-weaker}
use Rattle.tree_node.specs.Recorders.{RecorderHolds, RecorderUsed}
use Rattle.tree_node.specs.Shelves.{HasNone, SameNodes, Stays}
use Rattle.tree_node.specs.declared.recorder.Recorder.{Recorder}
use Rattle.outside_shelf.specs.Shelves.{HasBrought}
use Rattle.outside_shelf.specs.declared.refused.Refused.TheVariants as reasons
use Rattle.outside_shelf.proofs.StockedLemmas.{both_kept, grown_first, grown_second, if_ok_both, kept_by, on_err_more, same_both}
use Rattle.outside_shelf.proofs.stocked.StockedShelfShelf.fetch.Goals as goal

-- the stock has it

pub invariant_of-self : goal.invariant_of-self
invariant_of-self g c = record { apart = λ node brought x held. c.args.self.now.apart node brought x ((c.fetch.ensures.stays x).0 refl held); stocked = λ node held. c.args.self.now.stocked node ((c.fetch.ensures.stays node).0 refl held) }

pub returns-in-Ok-clause-grown : goal.returns-in-Ok-clause-grown
returns-in-Ok-clause-grown g c = grown_first (RecorderUsed c.args.self.now.recorder) (RecorderUsed c.fetch.new.self) (HasBrought c.args.self.now.outside) c.in-Ok.node.now c.in-Ok.ensures.grown

pub returns-in-Ok-clause-grows : goal.returns-in-Ok-clause-grows
returns-in-Ok-clause-grows g c = λ x. both_kept (c.fetch.ensures.grows x) (λ h. h)

pub returns-in-Ok-clause-stays : goal.returns-in-Ok-clause-stays
returns-in-Ok-clause-stays g c = λ x. ((λ no. absurd (Prim.cc)), both_kept (c.fetch.ensures.stays x).1 (λ h. h))

pub returns-in-Ok-clause-stocked : goal.returns-in-Ok-clause-stocked
returns-in-Ok-clause-stocked g c = λ x. ((c.fetch.ensures.stays x).0 refl, (c.fetch.ensures.stays x).1)

pub returns-in-Ok-clause-costs : goal.returns-in-Ok-clause-costs
returns-in-Ok-clause-costs g c = inl ((c.fetch.ensures.stays c.in-Ok.node.now).0 refl c.in-Ok.ensures.given.0, refl)

-- memory ran out

pub invariant_of-self-in-Err-Memory : goal.invariant_of-self-in-Err-Memory
invariant_of-self-in-Err-Memory g c = record { apart = λ node brought x held. c.args.self.now.apart node brought x ((c.fetch.ensures.stays x).0 refl held); stocked = λ node held. c.args.self.now.stocked node ((c.fetch.ensures.stays node).0 refl held) }

pub returns-in-Err-Memory-clause-grows : goal.returns-in-Err-Memory-clause-grows
returns-in-Err-Memory-clause-grows g c = λ x. both_kept (c.fetch.ensures.grows x) (λ h. h)

pub returns-in-Err-Memory-clause-unchanged : goal.returns-in-Err-Memory-clause-unchanged
returns-in-Err-Memory-clause-unchanged g c = λ x. (both_kept (c.in-Err-Memory.ensures.unchanged x).0 (λ h. h), both_kept (c.in-Err-Memory.ensures.unchanged x).1 (λ h. h))

pub returns-in-Err-Memory-clause-stays : goal.returns-in-Err-Memory-clause-stays
returns-in-Err-Memory-clause-stays g c = λ x. ((λ no. absurd (Prim.cc)), both_kept (c.fetch.ensures.stays x).1 (λ h. h))

pub returns-in-Err-Memory-clause-stocked : goal.returns-in-Err-Memory-clause-stocked
returns-in-Err-Memory-clause-stocked g c = λ x. ((c.fetch.ensures.stays x).0 refl, (c.fetch.ensures.stays x).1)

pub returns-in-Err-Memory-clause-told : goal.returns-in-Err-Memory-clause-told
returns-in-Err-Memory-clause-told g c = (reasons.Memory, refl, refl, tt)

pub returns-in-Err-Memory-clause-spent : goal.returns-in-Err-Memory-clause-spent
returns-in-Err-Memory-clause-spent g c = λ none.
    let missing = c.in-Err-Memory.ensures.none refl (λ x held. none x ((c.fetch.ensures.stays x).0 refl held)) in
    Prim.cc

-- the source is asked

pub invariant_of-self-in-Err-Missing : goal.invariant_of-self-in-Err-Missing
invariant_of-self-in-Err-Missing g c = record { apart = λ node brought x held. c.args.self.now.apart node brought x ((c.fetch.ensures.stays x).0 refl held); stocked = λ node held. c.args.self.now.stocked node ((c.fetch.ensures.stays node).0 refl held) }

pub bring-requires : goal.bring-requires
bring-requires g c = c.in-Err-Missing.ensures.missing (ap Err c.in-Err-Missing.field-0-is)

pub returns-in-Err-Missing-clause-given : goal.returns-in-Err-Missing-clause-given
returns-in-Err-Missing-clause-given g c = IfOk-weaker c.bring.result _ _ (λ node given. (inr given.0, given.1)) c.bring.ensures.given

pub returns-in-Err-Missing-clause-grown : goal.returns-in-Err-Missing-clause-grown
returns-in-Err-Missing-clause-grown g c =
    let old = c.args.self.now in
    let new = c.bring.new.self in
    let same = subst (λ (r : Recorder). SameNodes (RecorderUsed old.recorder) (RecorderUsed r)) (sym c.bring.ensures.recorder) c.in-Err-Missing.ensures.unchanged in
    IfOk-weaker c.bring.result _ _ (λ node grown. grown_second (RecorderUsed old.recorder) (RecorderUsed new.recorder) (HasBrought old.outside) (HasBrought new.outside) same node.now grown) c.bring.ensures.grown

pub returns-in-Err-Missing-clause-grows : goal.returns-in-Err-Missing-clause-grows
returns-in-Err-Missing-clause-grows g c = λ x.
    let old = c.args.self.now in
    let same = subst (λ (r : Recorder). SameNodes (RecorderUsed old.recorder) (RecorderUsed r)) (sym c.bring.ensures.recorder) c.in-Err-Missing.ensures.unchanged in
    both_kept (same x).1 (kept_by (λ node. node.now) (HasBrought old.outside) (HasBrought c.bring.new.self.outside) c.bring.result c.bring.ensures.grown c.bring.ensures.unchanged x)

pub returns-in-Err-Missing-clause-unchanged : goal.returns-in-Err-Missing-clause-unchanged
returns-in-Err-Missing-clause-unchanged g c =
    let old = c.args.self.now in
    let new = c.bring.new.self in
    let same = subst (λ (r : Recorder). SameNodes (RecorderUsed old.recorder) (RecorderUsed r)) (sym c.bring.ensures.recorder) c.in-Err-Missing.ensures.unchanged in
    on_err_more c.bring.result c.bring.ensures.unchanged (same_both (RecorderUsed old.recorder) (RecorderUsed new.recorder) (HasBrought old.outside) (HasBrought new.outside) same)

pub returns-in-Err-Missing-clause-stays : goal.returns-in-Err-Missing-clause-stays
returns-in-Err-Missing-clause-stays g c = λ x.
    let old = c.args.self.now in
    let stays = subst (λ (r : Recorder). Stays true (RecorderHolds old.recorder) (RecorderHolds r)) (sym c.bring.ensures.recorder) c.fetch.ensures.stays in (
      (λ no. absurd (Prim.cc)),
      both_kept (stays x).1 (kept_by (λ node. node.now) (HasBrought old.outside) (HasBrought c.bring.new.self.outside) c.bring.result c.bring.ensures.grown c.bring.ensures.unchanged x),
    )

pub returns-in-Err-Missing-clause-missing : goal.returns-in-Err-Missing-clause-missing
returns-in-Err-Missing-clause-missing g c = λ is x held.
    let none = subst (λ (r : Recorder). HasNone (RecorderHolds r) c.args.key.now.0) (sym c.bring.ensures.recorder) (c.in-Err-Missing.ensures.missing (ap Err c.in-Err-Missing.field-0-is)) in
    elim held [ inl has ↦ none x has | inr has ↦ c.bring.ensures.missing is x has ]

pub returns-in-Err-Missing-clause-stocked : goal.returns-in-Err-Missing-clause-stocked
returns-in-Err-Missing-clause-stocked g c = λ x.
    let stays = subst (λ (r : Recorder). Stays true (RecorderHolds c.args.self.now.recorder) (RecorderHolds r)) (sym c.bring.ensures.recorder) c.fetch.ensures.stays in
    ((stays x).0 refl, (stays x).1)

pub returns-in-Err-Missing-clause-unasked : goal.returns-in-Err-Missing-clause-unasked
returns-in-Err-Missing-clause-unasked g c = λ node has is. absurd (c.in-Err-Missing.ensures.missing (ap Err c.in-Err-Missing.field-0-is) node ((c.fetch.ensures.stays node).1 has) is)

pub returns-in-Err-Missing-clause-told : goal.returns-in-Err-Missing-clause-told
returns-in-Err-Missing-clause-told g c = c.bring.ensures.told

pub returns-in-Err-Missing-clause-costs : goal.returns-in-Err-Missing-clause-costs
returns-in-Err-Missing-clause-costs g c =
    let old = c.args.self.now in
    let none : HasNone (RecorderHolds old.recorder) c.args.key.now.0 = λ x has. c.in-Err-Missing.ensures.missing (ap Err c.in-Err-Missing.field-0-is) x ((c.fetch.ensures.stays x).1 has) in
    if_ok_both c.bring.result c.bring.ensures.given c.bring.ensures.costs (λ node given costs. inr (subst (HasNone (RecorderHolds old.recorder)) (sym given.1) none, costs))

pub returns-in-Err-Missing-clause-spent : goal.returns-in-Err-Missing-clause-spent
returns-in-Err-Missing-clause-spent g c = on_err_more c.bring.result c.bring.ensures.spent (λ spent none. spent)
