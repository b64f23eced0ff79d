use Rattle.std.proofs.Common.{◌≡◌, subst, sym, ◌∙◌}
use Rattle.std.specs.List.{flat_map}
use Rattle.light_index.proofs.LightListingLemmas.{cut_as_packed, keyed, long_as_packed, members_are}
use Rattle.light_index.proofs.light_listing.light_entries_of.Goals as goal
use Rattle.light_index.specs.internal.LightListing.{light_entries_from}
use Rattle.osm_index.specs.EntryLists.{IsKeyed}

pub new-requires : goal.new-requires
new-requires c =
    let gains = rw (c.new-bytes.ensures.items, c.new-spans.ensures.items, c.as_slice.ensures.value) at c.in_ok-append_objects.ensures in
    rw (gains.texts, gains.lengths) (long_as_packed (flat_map (light_entries_from c.args.tree) c.args.set.now))

pub returns-clause-members : goal.returns-clause-members
returns-clause-members c =
    let gains = rw (c.new-bytes.ensures.items, c.new-spans.ensures.items, c.as_slice.ensures.value) at c.in_ok-append_objects.ensures in
    let list : c.new.result ≡ flat_map (light_entries_from c.args.tree) c.args.set.now = c.new.ensures ∙ rw (gains.texts, gains.lengths) (cut_as_packed (flat_map (light_entries_from c.args.tree) c.args.set.now)) in
    λ b. rw list (members_are c.args.set.now c.args.tree b)

pub returns-clause-keyed : goal.returns-clause-keyed
returns-clause-keyed c =
    let gains = rw (c.new-bytes.ensures.items, c.new-spans.ensures.items, c.as_slice.ensures.value) at c.in_ok-append_objects.ensures in
    let list : c.new.result ≡ flat_map (light_entries_from c.args.tree) c.args.set.now = c.new.ensures ∙ rw (gains.texts, gains.lengths) (cut_as_packed (flat_map (light_entries_from c.args.tree) c.args.set.now)) in
    subst IsKeyed (sym list) (keyed c.args.set.now c.as_slice.ensures.set c.args.tree)
