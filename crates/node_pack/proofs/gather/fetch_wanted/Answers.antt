use Rattle.tree_node.specs.declared.shelf.ShelfFault.TheVariants as shelves
use Rattle.node_pack.specs.Faults.{write_fault_of}
use Rattle.node_pack.specs.Reached.{IsReason}
use Rattle.node_pack.proofs.WrittenLemmas.{told_is}
use Rattle.node_pack.proofs.GatherLemmas.{err_is, held_on, new_found, new_gathered, new_key, new_low, new_refused, shelf_reason, under_later}
use Rattle.node_pack.proofs.gather.fetch_wanted.Goals as goal

pub returns-clause-found : goal.returns-clause-found
returns-clause-found g c =
    let given = c.in_ok-node.ensures.given in
    new_found (g.S.Shelf.holds c.fetch_node.new.self) c.args.wanted c.in_ok-node.node.bytes.now c.args.key.now given.is_held given.has_digest c.read_wanted.result c.read_wanted.ensures.as_wanted

pub returns-clause-key : goal.returns-clause-key
returns-clause-key g c =
    let given = c.in_ok-node.ensures.given in
    new_key (g.S.Shelf.holds c.fetch_node.new.self) c.args.wanted c.in_ok-node.node.bytes.now c.args.key.now given.is_held given.has_digest c.read_wanted.result c.read_wanted.ensures.bytes

pub returns-clause-low : goal.returns-clause-low
returns-clause-low g c =
    let given = c.in_ok-node.ensures.given in
    new_low (g.S.Shelf.holds c.fetch_node.new.self) c.args.wanted c.in_ok-node.node.bytes.now c.args.key.now given.is_held given.has_digest c.read_wanted.result c.read_wanted.ensures.read c.read_wanted.ensures.fits

pub returns-clause-gathered : goal.returns-clause-gathered
returns-clause-gathered g c = λ root under.
    let given = c.in_ok-node.ensures.given in
    let later = under_later (g.S.Shelf.holds c.args.shelf.now) (g.S.Shelf.holds c.fetch_node.new.self) (held_on _ _ _ c.fetch_node.ensures.stays) root c.args.wanted c.args.key.now.0 under in
    new_gathered (g.S.Shelf.holds c.fetch_node.new.self) c.args.wanted c.in_ok-node.node.bytes.now c.args.key.now given.is_held given.has_digest root c.read_wanted.result later c.read_wanted.ensures.key c.read_wanted.ensures.bytes
    c.read_wanted.ensures.read c.read_wanted.ensures.as_wanted c.read_wanted.ensures.len c.read_wanted.ensures.short

pub returns-clause-refused : goal.returns-clause-refused
returns-clause-refused g c = λ root under.
    let given = c.in_ok-node.ensures.given in
    let later = under_later (g.S.Shelf.holds c.args.shelf.now) (g.S.Shelf.holds c.fetch_node.new.self) (held_on _ _ _ c.fetch_node.ensures.stays) root c.args.wanted c.args.key.now.0 under in
    new_refused (g.S.Shelf.holds c.fetch_node.new.self) root c.args.wanted c.in_ok-node.node.bytes.now c.args.key.now.0 c.read_wanted.result given.is_held given.has_digest later c.read_wanted.ensures.refused

pub returns-in_err-node-clause-refused : goal.returns-in_err-node-clause-refused
returns-in_err-node-clause-refused g c = λ root under.
    let held = g.S.Shelf.holds c.fetch_node.new.self in
    let later = under_later (g.S.Shelf.holds c.args.shelf.now) held (held_on g.S.Shelf.is_fixed (g.S.Shelf.holds c.args.shelf.now) held c.fetch_node.ensures.stays) root c.args.wanted c.args.key.now.0 under in
    told_is c.from_residual.result (write_fault_of c.in_err-node.field-0.0) (IsReason held root) c.from_residual.ensures.1
    (shelf_reason held root c.args.wanted c.args.key.now.0 c.in_err-node.field-0.0 later (λ e. c.fetch_node.ensures.missing (err_is c.fetch_node.result c.in_err-node.field-0.0 shelves.Missing c.in_err-node.was e)))
