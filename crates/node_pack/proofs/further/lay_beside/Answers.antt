use Rattle.std.proofs.Common.{◌≤◌, ◌^◌, ℕ, subst, sym, ◌∙◌}
use Rattle.node_pack.specs.Additions.{earlier_place}
use Rattle.node_pack.specs.Further.{place_beside}
use Rattle.node_pack.specs.internal.Laying.{IsBesideFault}
use Rattle.node_pack.specs.internal.Gathering.{kepts}
use Rattle.node_pack.proofs.BesideLemmas.{beside_fault, header_is, is_file, laid_earlier, laid_own, left_out, put_beside, records_same}
use Rattle.node_pack.proofs.WrittenLemmas.{told_is}
use Rattle.node_pack.proofs.further.lay_beside.Goals as goal

pub returns-in_err-size-clause-refused : goal.returns-in_err-size-clause-refused
returns-in_err-size-clause-refused g c =
    let old = earlier_place c.args.number c.args.known.now in
    told_is c.from_residual.result c.in_err-size.field-0.0 (IsBesideFault c.args.number old c.args.root.now.0 c.args.nodes.now) c.from_residual.ensures.1
    (beside_fault c.args.number old c.args.root.now.0 c.args.nodes.now c.in_err-size.field-0.0 c.in_err-size.ensures.refused)

pub returns-in_err-put_all-clause-refused : goal.returns-in_err-put_all-clause-refused
returns-in_err-put_all-clause-refused g c =
    let old = earlier_place c.args.number c.args.known.now in
    let nodes = c.args.nodes.now in
    let size = c.in_ok-size.ensures in
    let short = subst (λ (n : ℕ). n ≤ 2 ^ 48) size.len size.short in
    told_is c.from_residual-in_err-put_all.result c.in_err-put_all.field-0.0 (IsBesideFault c.args.number old c.args.root.now.0 nodes) c.from_residual-in_err-put_all.ensures.1
    (put_beside c.args.number old c.args.root.now.0 nodes c.lay_out.new.places c.in_err-put_all.field-0.0
    (left_out c.args.number old nodes c.lay_out.new.places c.requires.number c.requires.fit short size.places) c.in_err-put_all.ensures.refused)

pub returns-clause-header : goal.returns-clause-header
returns-clause-header g c =
    let size = c.in_ok-size.ensures in
    header_is c.args.number (earlier_place c.args.number c.args.known.now) c.args.root.now (kepts c.args.nodes.now) c.in_ok-size.size c.in-Some.manifest.now size.len
    (sym (size.places c.args.root.now.0) ∙ sym c.in-Some.ensures.value)

pub returns-clause-records : goal.returns-clause-records
returns-clause-records g c =
    let number = c.args.number in
    let old = earlier_place number c.args.known.now in
    let nodes = c.args.nodes.now in
    let m = c.lay_out.new.places in
    let size = c.in_ok-size.ensures in
    let short = subst (λ (n : ℕ). n ≤ 2 ^ 48) size.len size.short in
    let beside = place_beside number (kepts nodes) old in
    let put = c.put_all.ensures.put beside (laid_own number old nodes m c.requires.number c.requires.fit short size.places) (laid_earlier number old nodes m c.requires.number c.requires.fit short size.places) in
    records_same beside c.put_all.new.places put nodes c.in_ok-put_all.ensures.known

pub returns-clause-is_further : goal.returns-clause-is_further
returns-clause-is_further g c =
    let number = c.args.number in
    let old = earlier_place number c.args.known.now in
    let nodes = c.args.nodes.now in
    let m = c.lay_out.new.places in
    let size = c.in_ok-size.ensures in
    let short = subst (λ (n : ℕ). n ≤ 2 ^ 48) size.len size.short in
    let beside = place_beside number (kepts nodes) old in
    let put = c.put_all.ensures.put beside (laid_own number old nodes m c.requires.number c.requires.fit short size.places) (laid_earlier number old nodes m c.requires.number c.requires.fit short size.places) in
    is_file number old c.args.root.now.0 nodes c.put_all.new.places c.requires.fit short size.apart c.requires.fresh put c.in_ok-put_all.ensures.known c.in-Some.manifest.now
    (sym (size.places c.args.root.now.0) ∙ sym c.in-Some.ensures.value)
