use Rattle.std.proofs.Common.{◌≡◌, Err, true, inl, inr, ap, refl, subst, sym}
use Rattle.tree_node.specs.Recorders.{RecorderHolds, RecorderUsed}
use Rattle.tree_node.specs.Shelves.{HasNone, SameNodes, Stays}
use Rattle.tree_node.specs.declared.recorder.Recorder.{Recorder}
use Rattle.tree_node.specs.declared.shelf.ShelfFault.TheVariants.{Missing}
use Rattle.outside_shelf.specs.Shelves.{HasBrought}
use Rattle.outside_shelf.specs.declared.refused.Refused.TheVariants as reasons
use Rattle.outside_shelf.proofs.StockedLemmas.{both_kept, grown_first, grown_second, same_both}
use Rattle.outside_shelf.proofs.stocked.StockedShelfShelf.fetch_node.Goals as goal

-- the stock has it

pub invariant_of-self : goal.invariant_of-self
invariant_of-self g c = record { apart = λ node brought x held. c.args.self.now.apart node brought x ((c.fetch_node.ensures.stays x).0 refl held); stocked = λ node held. c.args.self.now.stocked node ((c.fetch_node.ensures.stays node).0 refl held) }

pub returns-in-Ok-clause-given : goal.returns-in-Ok-clause-given
returns-in-Ok-clause-given g c =
    let given = c.in-Ok.ensures.given in
    record {
      is_held = inl given.is_held;
      has_digest = given.has_digest;
      grown = grown_first (RecorderUsed c.args.self.now.recorder) (RecorderUsed c.fetch_node.new.self) (HasBrought c.args.self.now.outside) c.in-Ok.node.bytes.now given.grown;
      reads = given.reads;
    }

pub returns-in-Ok-clause-grows : goal.returns-in-Ok-clause-grows
returns-in-Ok-clause-grows g c = λ x. both_kept (c.fetch_node.ensures.grows x) (λ h. h)

pub returns-in-Ok-clause-stays : goal.returns-in-Ok-clause-stays
returns-in-Ok-clause-stays g c = λ x. ((λ no. absurd (Prim.cc)), both_kept (c.fetch_node.ensures.stays x).1 (λ h. h))

pub returns-in-Ok-clause-stocked : goal.returns-in-Ok-clause-stocked
returns-in-Ok-clause-stocked g c = λ x. ((c.fetch_node.ensures.stays x).0 refl, (c.fetch_node.ensures.stays x).1)

pub returns-in-Ok-clause-costs : goal.returns-in-Ok-clause-costs
returns-in-Ok-clause-costs g c = inl ((c.fetch_node.ensures.stays c.in-Ok.node.bytes.now).0 refl c.in-Ok.ensures.given.is_held, refl)

-- memory ran out

pub invariant_of-self-in-Err-Memory : goal.invariant_of-self-in-Err-Memory
invariant_of-self-in-Err-Memory g c = record { apart = λ node brought x held. c.args.self.now.apart node brought x ((c.fetch_node.ensures.stays x).0 refl held); stocked = λ node held. c.args.self.now.stocked node ((c.fetch_node.ensures.stays node).0 refl held) }

pub returns-in-Err-Memory-clause-grows : goal.returns-in-Err-Memory-clause-grows
returns-in-Err-Memory-clause-grows g c = λ x. both_kept (c.fetch_node.ensures.grows x) (λ h. h)

pub returns-in-Err-Memory-clause-unchanged : goal.returns-in-Err-Memory-clause-unchanged
returns-in-Err-Memory-clause-unchanged g c = λ x. (both_kept (c.in-Err-Memory.ensures.unchanged x).0 (λ h. h), both_kept (c.in-Err-Memory.ensures.unchanged x).1 (λ h. h))

pub returns-in-Err-Memory-clause-stays : goal.returns-in-Err-Memory-clause-stays
returns-in-Err-Memory-clause-stays g c = λ x. ((λ no. absurd (Prim.cc)), both_kept (c.fetch_node.ensures.stays x).1 (λ h. h))

pub returns-in-Err-Memory-clause-stocked : goal.returns-in-Err-Memory-clause-stocked
returns-in-Err-Memory-clause-stocked g c = λ x. ((c.fetch_node.ensures.stays x).0 refl, (c.fetch_node.ensures.stays x).1)

pub returns-in-Err-Memory-clause-told : goal.returns-in-Err-Memory-clause-told
returns-in-Err-Memory-clause-told g c = (reasons.Memory, refl, refl, tt)

pub returns-in-Err-Memory-clause-spent : goal.returns-in-Err-Memory-clause-spent
returns-in-Err-Memory-clause-spent g c = λ none.
    let missing = c.in-Err-Memory.ensures.none refl (λ x held. none x ((c.fetch_node.ensures.stays x).0 refl held)) in
    Prim.cc

-- the source is asked

pub invariant_of-self-in-Err-Missing : goal.invariant_of-self-in-Err-Missing
invariant_of-self-in-Err-Missing g c = record { apart = λ node brought x held. c.args.self.now.apart node brought x ((c.fetch_node.ensures.stays x).0 refl held); stocked = λ node held. c.args.self.now.stocked node ((c.fetch_node.ensures.stays node).0 refl held) }

pub bring-requires : goal.bring-requires
bring-requires g c = c.in-Err-Missing.ensures.missing (ap Err c.in-Err-Missing.field-0-is)

pub returns-in-Ok-bring-clause-given : goal.returns-in-Ok-bring-clause-given
returns-in-Ok-bring-clause-given g c =
    let old = c.args.self.now in
    let new = c.bring.new.self in
    let same = subst (λ (r : Recorder). SameNodes (RecorderUsed old.recorder) (RecorderUsed r)) (sym c.bring.ensures.recorder) c.in-Err-Missing.ensures.unchanged in
    record {
      is_held = inr c.in-Ok-bring.ensures.given.0;
      has_digest = c.in-Ok-bring.ensures.given.1;
      grown = grown_second (RecorderUsed old.recorder) (RecorderUsed new.recorder) (HasBrought old.outside) (HasBrought new.outside) same c.in-Ok-bring.bytes.now c.in-Ok-bring.ensures.grown;
      reads = record { found = c.read.ensures.found; only = c.read.ensures.only; refused = c.read.ensures.refused; fault = c.read.ensures.fault };
    }

pub returns-in-Ok-bring-clause-grows : goal.returns-in-Ok-bring-clause-grows
returns-in-Ok-bring-clause-grows g c = λ x.
    let old = c.args.self.now in
    let same = subst (λ (r : Recorder). SameNodes (RecorderUsed old.recorder) (RecorderUsed r)) (sym c.bring.ensures.recorder) c.in-Err-Missing.ensures.unchanged in
    both_kept (same x).1 (λ h. (c.in-Ok-bring.ensures.grown x).1 (inl h))

pub returns-in-Ok-bring-clause-stays : goal.returns-in-Ok-bring-clause-stays
returns-in-Ok-bring-clause-stays g c = λ x.
    let stays = subst (λ (r : Recorder). Stays true (RecorderHolds c.args.self.now.recorder) (RecorderHolds r)) (sym c.bring.ensures.recorder) c.fetch_node.ensures.stays in
    ((λ no. absurd (Prim.cc)), both_kept (stays x).1 (λ h. (c.in-Ok-bring.ensures.grown x).1 (inl h)))

pub returns-in-Ok-bring-clause-stocked : goal.returns-in-Ok-bring-clause-stocked
returns-in-Ok-bring-clause-stocked g c = λ x.
    let stays = subst (λ (r : Recorder). Stays true (RecorderHolds c.args.self.now.recorder) (RecorderHolds r)) (sym c.bring.ensures.recorder) c.fetch_node.ensures.stays in
    ((stays x).0 refl, (stays x).1)

pub returns-in-Ok-bring-clause-unasked : goal.returns-in-Ok-bring-clause-unasked
returns-in-Ok-bring-clause-unasked g c = λ node has is. absurd (c.in-Err-Missing.ensures.missing (ap Err c.in-Err-Missing.field-0-is) node ((c.fetch_node.ensures.stays node).1 has) is)

pub returns-in-Err-clause-grows : goal.returns-in-Err-clause-grows
returns-in-Err-clause-grows g c = λ x.
    let old = c.args.self.now in
    let same = subst (λ (r : Recorder). SameNodes (RecorderUsed old.recorder) (RecorderUsed r)) (sym c.bring.ensures.recorder) c.in-Err-Missing.ensures.unchanged in
    both_kept (same x).1 (c.in-Err.ensures.unchanged x).1

pub returns-in-Err-clause-stays : goal.returns-in-Err-clause-stays
returns-in-Err-clause-stays g c = λ x.
    let stays = subst (λ (r : Recorder). Stays true (RecorderHolds c.args.self.now.recorder) (RecorderHolds r)) (sym c.bring.ensures.recorder) c.fetch_node.ensures.stays in
    ((λ no. absurd (Prim.cc)), both_kept (stays x).1 (c.in-Err.ensures.unchanged x).1)

pub returns-in-Err-clause-stocked : goal.returns-in-Err-clause-stocked
returns-in-Err-clause-stocked g c = λ x.
    let stays = subst (λ (r : Recorder). Stays true (RecorderHolds c.args.self.now.recorder) (RecorderHolds r)) (sym c.bring.ensures.recorder) c.fetch_node.ensures.stays in
    ((stays x).0 refl, (stays x).1)

pub returns-in-Err-clause-unasked : goal.returns-in-Err-clause-unasked
returns-in-Err-clause-unasked g c = λ node has is. absurd (c.in-Err-Missing.ensures.missing (ap Err c.in-Err-Missing.field-0-is) node ((c.fetch_node.ensures.stays node).1 has) is)

pub returns-in-Ok-bring-clause-costs : goal.returns-in-Ok-bring-clause-costs
returns-in-Ok-bring-clause-costs g c =
    let held = RecorderHolds c.args.self.now.recorder in
    let none : HasNone held c.args.key.now.0 = λ x has. c.in-Err-Missing.ensures.missing (ap Err c.in-Err-Missing.field-0-is) x ((c.fetch_node.ensures.stays x).1 has) in
    inr (subst (HasNone held) (sym c.in-Ok-bring.ensures.given.1) none, c.in-Ok-bring.ensures.costs)

pub returns-in-Err-clause-unchanged : goal.returns-in-Err-clause-unchanged
returns-in-Err-clause-unchanged g c =
    let old = c.args.self.now in
    let new = c.bring.new.self in
    let same = subst (λ (r : Recorder). SameNodes (RecorderUsed old.recorder) (RecorderUsed r)) (sym c.bring.ensures.recorder) c.in-Err-Missing.ensures.unchanged in
    same_both (RecorderUsed old.recorder) (RecorderUsed new.recorder) (HasBrought old.outside) (HasBrought new.outside) same c.in-Err.ensures.unchanged

pub returns-in-Err-clause-missing : goal.returns-in-Err-clause-missing
returns-in-Err-clause-missing g c = λ is x held.
    let none = subst (λ (r : Recorder). HasNone (RecorderHolds r) c.args.key.now.0) (sym c.bring.ensures.recorder) (c.in-Err-Missing.ensures.missing (ap Err c.in-Err-Missing.field-0-is)) in
    let fault : c.in-Err.fault ≡ Missing = Prim.cc in
    elim held [ inl has ↦ none x has | inr has ↦ c.in-Err.ensures.missing (ap Err fault) x has ]

pub returns-in-Err-clause-told : goal.returns-in-Err-clause-told
returns-in-Err-clause-told g c = c.in-Err.ensures.told

pub returns-in-Err-clause-spent : goal.returns-in-Err-clause-spent
returns-in-Err-clause-spent g c = λ none. c.in-Err.ensures.spent
