use Rattle.std.proofs.Common.{ap, sym, subst, ◌∙◌, arith, Err, List}
use Rattle.tree_build.specs.Shapes.{shape_of}
use Rattle.tree_node.specs.Nodes.{Binding}
use Rattle.tree_node.specs.declared.tree.Tree.{Tree}
use Rattle.tree_node.specs.declared.tree.Tree.TheVariants.{Objects, Tags, Cells, Backs}
use Rattle.level_files.specs.Built.{HasEntries, fault_told, with_entry}
use Rattle.pack_build.specs.Taken.{taken_by}
use Rattle.pack_build.proofs.SinkLemmas.{binding, is_many, one_back, one_cell, one_object, one_tag, refused, unspent, unspent_many}
use Rattle.pack_build.proofs.sink.TreesSinkEntrySink.take.Goals as goal

pub invariant_of-self : goal.invariant_of-self
invariant_of-self g c = λ none.
    let sink = c.self.inside in
    let entries : Tree → List Binding = taken_by sink.objects sink.tags sink.cells sink.backs in
    let before = unspent (fault_told sink.builder) c.push.result c.in-Ok.is c.push.ensures.spent in
    let has = c.in-Ok.ensures.taken (shape_of sink.shape) entries (c.self.invariant before) in
    one_object c.push.new.self (shape_of sink.shape) sink.objects sink.tags sink.cells sink.backs c.and-self-inside.result c.args.key.now c.args.value.now c.and-self-inside.ensures
    (subst (λ (t : Tree). HasEntries c.push.new.self (shape_of sink.shape) (with_entry entries t (binding c.args.key.now c.args.value.now))) c.in-Objects.is has)

pub invariant_of-self-in-Tags : goal.invariant_of-self-in-Tags
invariant_of-self-in-Tags g c = λ none.
    let sink = c.self.inside in
    let entries : Tree → List Binding = taken_by sink.objects sink.tags sink.cells sink.backs in
    let before = unspent (fault_told sink.builder) c.push.result c.in-Ok.is c.push.ensures.spent in
    let has = c.in-Ok.ensures.taken (shape_of sink.shape) entries (c.self.invariant before) in
    one_tag c.push.new.self (shape_of sink.shape) sink.objects sink.tags sink.cells sink.backs c.and-self-inside-in-Tags.result c.args.key.now c.args.value.now c.and-self-inside-in-Tags.ensures
    (subst (λ (t : Tree). HasEntries c.push.new.self (shape_of sink.shape) (with_entry entries t (binding c.args.key.now c.args.value.now))) c.in-Tags.is has)

pub invariant_of-self-in-Cells : goal.invariant_of-self-in-Cells
invariant_of-self-in-Cells g c = λ none.
    let sink = c.self.inside in
    let entries : Tree → List Binding = taken_by sink.objects sink.tags sink.cells sink.backs in
    let before = unspent (fault_told sink.builder) c.push.result c.in-Ok.is c.push.ensures.spent in
    let has = c.in-Ok.ensures.taken (shape_of sink.shape) entries (c.self.invariant before) in
    one_cell c.push.new.self (shape_of sink.shape) sink.objects sink.tags sink.cells sink.backs c.and-self-inside-in-Cells.result c.args.key.now c.args.value.now c.and-self-inside-in-Cells.ensures
    (subst (λ (t : Tree). HasEntries c.push.new.self (shape_of sink.shape) (with_entry entries t (binding c.args.key.now c.args.value.now))) c.in-Cells.is has)

pub invariant_of-self-in-Backs : goal.invariant_of-self-in-Backs
invariant_of-self-in-Backs g c = λ none.
    let sink = c.self.inside in
    let entries : Tree → List Binding = taken_by sink.objects sink.tags sink.cells sink.backs in
    let before = unspent (fault_told sink.builder) c.push.result c.in-Ok.is c.push.ensures.spent in
    let has = c.in-Ok.ensures.taken (shape_of sink.shape) entries (c.self.invariant before) in
    one_back c.push.new.self (shape_of sink.shape) sink.objects sink.tags sink.cells sink.backs c.and-self-inside-in-Backs.result c.args.key.now c.args.value.now c.and-self-inside-in-Backs.ensures
    (subst (λ (t : Tree). HasEntries c.push.new.self (shape_of sink.shape) (with_entry entries t (binding c.args.key.now c.args.value.now))) c.in-Backs.is has)

pub invariant_of-self-in-Err : goal.invariant_of-self-in-Err
invariant_of-self-in-Err g c =
    let sink = c.self.inside in
    refused (shape_of sink.shape) (taken_by sink.objects sink.tags sink.cells sink.backs) sink.builder c.push.new.self c.in-Err.fault c.push.result c.in-Err.is
    c.push.ensures.kept c.push.ensures.unchanged c.self.invariant

pub returns-in-Err-clause-many : goal.returns-in-Err-clause-many
returns-in-Err-clause-many g c = λ told.
    let sink = c.self.inside in
    let fault = is_many c.in-Err.fault (sym c.sink_fault.ensures ∙ (let one = told in cc)) in
    let result = c.in-Err.is ∙ ap Err fault in
    let before = unspent_many (fault_told sink.builder) c.push.result result c.push.ensures.spent in
    let full = ((c.push.ensures.many (shape_of sink.shape) (taken_by sink.objects sink.tags sink.cells sink.backs) (c.self.invariant before)).0 result).2 in
    rw (← c.self.view_is) (omega (full, arith))
