use Rattle.std.proofs.Common.{◌≡◌, ℕ, List, length, take, sym, subst, arith}
use Rattle.std.proofs.lemmas.List.{length_push, take_all}
use Rattle.std.proofs.lemmas.Slice.Zip.{zip_end, zip_turn}
use Rattle.std.specs.Borrow.{Bor}
use Rattle.std.specs.List.{flat_map}
use Rattle.light_index.proofs.LightLineLemmas.{as_many, line_at}
use Rattle.light_index.proofs.LightListingLemmas.{flat_more, gains_then}
use Rattle.light_index.proofs.light_listing.append_objects.Goals as goal
use Rattle.light_index.specs.internal.LightListing.{Gains, light_entries_from}
use Rattle.osm_model.specs.Elements.{Element}
use Rattle.tree_node.specs.Nodes.{Binding}
use Rattle.tree_node.specs.declared.new_node.NewNode.{NewNode}

pub append_entries-requires : goal.append_entries-requires
append_entries-requires c =
    let xs = c.args.objects.now in
    let ys = c.args.lines.now in
    let pair : Bor Element × Bor NewNode = (c.in-Some.object, c.in-Some.line) in
    let turn = zip_turn xs ys c.loop-object.yielded c.into_iter-object-iterator.result c.loop-object.object-iterator c.next.new.self _ (cc) (cc) c.loop-object.yielded_by pair c.in-Some.is c.next.ensures.steps in
    line_at xs ys (length c.loop-object.yielded) c.in-Some.object.now c.in-Some.line.now c.requires turn.0 turn.1 (turn.2 c.in-Some.object.now) (turn.3 c.in-Some.line.now)

pub loop-object-preserved : goal.loop-object-preserved
loop-object-preserved c =
    let xs = c.args.objects.now in
    let ys = c.args.lines.now in
    let pair : Bor Element × Bor NewNode = (c.in-Some.object, c.in-Some.line) in
    let turn = zip_turn xs ys c.loop-object.yielded c.into_iter-object-iterator.result c.loop-object.object-iterator c.next.new.self _ (cc) (cc) c.loop-object.yielded_by pair c.in-Some.is c.next.ensures.steps in
    let from = light_entries_from c.args.tree in
    let n = length c.loop-object.yielded in
    let more = flat_more from xs n c.in-Some.object.now turn.0 (turn.2 c.in-Some.object.now) in
    let gained = gains_then _ _ _ _ _ _ (flat_map from (take n xs)) (from c.in-Some.object.now) c.loop-object.invariant c.in_ok-append_entries.ensures in
    subst (λ (k : ℕ). Gains c.args.bytes.now.items c.append_entries.new.bytes.items c.args.spans.now.items c.append_entries.new.spans.items (flat_map from (take k xs))) (sym (length_push c.loop-object.yielded pair))
    (subst (λ (es : List Binding). Gains c.args.bytes.now.items c.append_entries.new.bytes.items c.args.spans.now.items c.append_entries.new.spans.items es) (sym more) gained)

pub returns : goal.returns
returns c =
    let xs = c.args.objects.now in
    let ys = c.args.lines.now in
    let ended = zip_end xs ys c.loop-object.yielded c.into_iter-object-iterator.result c.loop-object.object-iterator c.next.new.self _ (cc) (cc) c.loop-object.yielded_by c.in-None.is c.next.ensures.steps in
    let number : length c.loop-object.yielded ≡ length xs = omega (arith, ended, as_many xs ys c.requires) in
    subst (λ (os : List Element). Gains c.args.bytes.now.items c.loop-object.bytes.items c.args.spans.now.items c.loop-object.spans.items (flat_map (light_entries_from c.args.tree) os)) (take_all (length c.loop-object.yielded) xs (omega (arith, number))) c.loop-object.invariant
