use Rattle.std.proofs.Common.{rules, ◌≡◌, ◌∙◌, ap, sym, subst, ℕ, List, [], ◌∷◌, ◌++◌, map}
use Rattle.std.proofs.lemmas.List.{map-append}
use Rattle.external_sort.specs.Records.{Entry, entry}
use Rattle.external_sort.specs.Sorting.{Holds}
use Rattle.entry_sort.specs.internal.Names.{key_of, keys_of, name_record, named}
use Rattle.entry_sort.specs.internal.Rises.{followed, followed_by, no_keys}
use Rattle.entry_sort.specs.declared.rising.Rising.{Rising}
use Rattle.entry_sort.proofs.PushLemmas.{on_ok}
use Rattle.entry_sort.proofs.RiseLemmas.{one_more}
use Rattle.entry_sort.proofs.name_sorter.NameSorter.add.Goals as goal

pub returns-clause-held : goal.returns-clause-held
returns-clause-held g c =
    let n = named c.args.name c.args.line in
    let key : c.reference_key-key.result ≡ key_of n = search rules in
    let record_is : entry c.reference_key-key.result c.to_be_bytes-value.result ≡ name_record n = search rules in
    on_ok c.push.result
    (λ held names h. record {
      held = subst (λ (es : List Entry). Holds g.S.RunStore.runs g.S.RunStore.in_hand c.push.new.self es)
          (ap (λ (e : Entry). map name_record names ++ e ∷ []) record_is ∙ sym (map-append name_record names (n ∷ []))) (held (map name_record names) h.held);
      seen = c.in_ok-take.ensures ∙ ap (λ (r : Rising). followed r c.reference_key-key.result) h.seen
          ∙ ap (λ (k : List ℕ). followed (followed_by no_keys (keys_of names)) k) key ∙ sym (one_more names n);
    })
    c.push.ensures.held
