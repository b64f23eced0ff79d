use Rattle.std.proofs.Common.{rules, ◌≡◌, ◌∙◌, ap, sym, ℕ, List, Option, map}
use Rattle.external_sort.specs.Records.{Entry}
use Rattle.external_sort.specs.Sorting.{Gives}
use Rattle.entry_sort.specs.internal.Names.{HoldsNames, IsLeastRepeat, Named, name_record, scan, start}
use Rattle.entry_sort.proofs.NameLemmas.{found_of}
use Rattle.entry_sort.proofs.PushLemmas.{if_ok_from}
use Rattle.entry_sort.proofs.RiseLemmas.{none_repeated}
use Rattle.entry_sort.specs.declared.rising.Rising.{Rising}
use Rattle.entry_sort.proofs.name_sorter.NameSorter.first_repeat.Goals as goal

pub returns-clause-least : goal.returns-clause-least
returns-clause-least g c is_true =
    if_ok_from (λ (given : (es : List Entry) × Gives g.S.RunStore.runs c.in_ok-sorted.sorted es) (found : Option ℕ). found ≡ (scan start given.0).found)
    (λ (found : Option ℕ). (names : List Named) → HoldsNames g.S.RunStore.runs g.S.RunStore.in_hand c.args.self names → IsLeastRepeat (map name_record names) found)
    c.scan_all.result
    (λ given. c.scan_all.ensures.found is_true given.0 given.1)
    (λ found known names h.
    let (given, order, rises, gives) = c.in_ok-sorted.ensures.given is_true (map name_record names) h.held in
    found_of (map name_record names) given found order rises (known (given, gives)))

pub returns-in_err-sorted-clause-device : goal.returns-in_err-sorted-clause-device
returns-in_err-sorted-clause-device g c refuses is_true names h e =
    c.in_err-sorted.ensures.device refuses is_true (map name_record names) h.held (search rules)

pub returns-clause-device : goal.returns-clause-device
returns-clause-device g c refuses is_true names h =
    let (given, order, rises, gives) = c.in_ok-sorted.ensures.given is_true (map name_record names) h.held in
    c.scan_all.ensures.device refuses is_true given gives

pub returns-then-self-clause-least : goal.returns-then-self-clause-least
returns-then-self-clause-least g c is_true names h =
    none_repeated names (ap (λ (r : Rising). r.all_rise) (sym h.seen) ∙ c.if-self.true)
