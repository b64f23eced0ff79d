use Rattle.std.proofs.Common.{rules, ◌≡◌, ◌∙◌, ap, List, length, ◌++◌, ◌∷◌, []}
use Rattle.external_sort.specs.Records.{Entry, entry}
use Rattle.external_sort.specs.internal.Places.{place_after}
use Rattle.external_sort.specs.internal.Spelling.{spelled}
use Rattle.external_sort.proofs.PlaceLemmas.{batch_pushed, entries_pushed}
use Rattle.external_sort.proofs.batch.Batch.push.Goals as goal

bytes_are : (c : goal.Else-is_err-2) → c.push_spelled.new.bytes.items ≡ c.self.inside.bytes.items ++ spelled (entry c.args.key.now c.args.value.now)
bytes_are c = search rules

start_is : (c : goal.Else-is_err-2) → c.len-start.result ≡ length c.self.inside.bytes.items
start_is c = c.len-start.ensures ∙ c.self.inside.bytes.ok.0

places_are : (c : goal.Else-is_err-2) → c.push.new.self.items ≡ c.self.inside.places.items ++ place_after (length c.self.inside.bytes.items) (length c.args.key.now) (length c.args.value.now) ∷ []
places_are c = let s = start_is c in search rules

pub invariant_of-self-else-is_err-2 : goal.invariant_of-self-else-is_err-2
invariant_of-self-else-is_err-2 c =
    rw (bytes_are c, places_are c) (batch_pushed c.self.inside.bytes.items c.self.inside.places.items (entry c.args.key.now c.args.value.now) c.self.invariant c.requires)

pub returns-clause-pushed : goal.returns-clause-pushed
returns-clause-pushed c =
    let e = entry c.args.key.now c.args.value.now in
    let same = entries_pushed c.self.inside.bytes.items c.self.inside.places.items e c.self.invariant in
    rw (bytes_are c, places_are c) (same ∙ ap (λ (es : List Entry). es ++ e ∷ []) c.self.view_is)
