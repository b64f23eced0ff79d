-- From what was read of a file to what is given.
use Rattle.std.proofs.Common.{◌≡◌, ◌≢◌, ◌⊎◌, ◌∙◌, inl, inr, ℕ, ◌+◌, ◌<◌, ◌≤◌, ◌^◌, List, [], ◌∷◌, ◌++◌, Option, None, Some, Result, Ok, Err, IfErr, IfSome, refl, sym, ap, subst, arith, append-nil, length}
use Rattle.std.specs.Prelude.{⊤}
use Rattle.std.specs.List.{AllByRecursion, Contains}
use Rattle.std.specs.List.Sorted.{IsPermutation}
use Rattle.std.proofs.lemmas.List.Sorted.{Contains-permutation, IsPermutation-sym}
use Rattle.osm_model.specs.Elements.{Element}
use Rattle.osm_model.specs.Limits.{IsElement}
use Rattle.opl_codec.specs.Files.{HoldsSet, PutSet, StopsFile}
use Rattle.opl_codec.specs.LineReads.{LinePlace}
use Rattle.opl_codec.specs.declared.cause.OplCause.TheVariants as causes
use Rattle.opl_codec.specs.declared.fault.LoadFault.{LoadFault}
use Rattle.opl_codec.specs.internal.Loading.{ReadsAll}
use Rattle.opl_codec.proofs.StoppedFiles.{holds_known, one_set, stopped_by_reader}
use Rattle.osm_keys.proofs.shared.EntriesFit.{all_from}
use Rattle.osm_keys.proofs.shared.Members.{from_map, here, first_or_in_rest}
use Rattle.osm_keys.specs.Publications.{HasTooMany}
use Rattle.entry_sort.specs.Holding.{HoldsEntries}
use Rattle.entry_sort.specs.Sorting.{Explains, IsOutside}
use Rattle.entry_sort.specs.declared.entry_fault.EntryFault.{EntryFault}
use Rattle.entry_sort.specs.declared.entry_fault.EntryFault.TheVariants.{Load, TooMany, Memory, Device}
use Rattle.entry_sort.specs.declared.gathering.Gathering.{Gathering}
use Rattle.entry_sort.specs.declared.read_lines.ReadEnd.{ReadEnd}
use Rattle.entry_sort.specs.declared.read_lines.ReadEnd.TheVariants.{All, Stopped, Repeated}
use Rattle.entry_sort.specs.internal.Names.{HoldsNames, IsLeast, IsLeastRepeat, name_record}
use Rattle.entry_sort.specs.internal.Puts.{AreApart, EndsIf, HasEnded, HasGathered, HasPut, IsReady, IsStopped, Put, SpellsPuts, Whole, Faulty, names_of, objects_of}
use Rattle.entry_sort.proofs.FileLemmas.{repeat_stops}
use Rattle.entry_sort.proofs.GatherLemmas.{same_entries}
use Rattle.entry_sort.proofs.RepeatLemmas.{IsPut, first_repeats, none_repeats, records, split_at}
use Rattle.entry_sort.proofs.SetLemmas.{set_of}

at_all : {X : Type 0} (P : X → Type 0) (xs : List X) (x : X) → AllByRecursion P xs → Contains xs x → P x
at_all P [] x a h = absurd (omega (arith, h.1))
at_all P (y ∷ xs) x a h = elim (first_or_in_rest y xs x h) [ inl same ↦ subst P same a.0 | inr more ↦ at_all P xs x a.1 more ]

element_of : (lines : List (List ℕ)) (puts : List Put) → SpellsPuts lines puts → (p : Put) → Contains puts p → IsElement p.object
element_of lines puts h p there = let split = split_at puts p there in (h.stand split.0 p split.1 split.2).says.element

puts_are : (known : Option (List ℕ)) (at : LinePlace) (puts : List Put) → HasPut known at puts → at.lines ≤ 2 ^ 48 → (p : Put) → Contains puts p → IsPut p
puts_are known at puts h few p there =
    let below = at_all (λ (q : Put). q.line ≤ length h.lines) puts p h.put.below there in
    record { in_range = (element_of h.lines puts h.put p there).in_range; small = omega (arith, below, few, h.counted) }

elements : (lines : List (List ℕ)) (puts : List Put) → SpellsPuts lines puts → AllByRecursion IsElement (objects_of puts)
elements lines puts h = all_from IsElement (objects_of puts) (λ o c. let found = from_map (λ (p : Put). p.object) puts o c in subst IsElement (sym found.2) (element_of lines puts h found.0 found.1))

stopped_if : (known : Option (List ℕ)) (load : LoadFault) (puts : List Put) → AreApart puts → IfSome known (IsStopped load puts) → IfSome known (λ file. (left : Option (List ℕ)) × StopsFile file left load)
stopped_if None load puts apart h = tt
stopped_if (Some file) load puts apart h = h apart

module _ {S : Type 0} (runs : S → List (List ℕ)) (in_hand : S → List ℕ) where
  pub names_held : (end : ReadEnd) (g : Gathering S) (puts : List Put) → EndsIf runs in_hand end g puts → HoldsNames runs in_hand g.names (names_of puts)
  names_held All g puts h = h.0.names
  names_held (Stopped load) g puts h = h
  names_held Repeated g puts h = h

  pub ready : (known : Option (List ℕ)) (end : ReadEnd) (g : Gathering S) (h : HasGathered runs in_hand known end g) → IsLeastRepeat (records h.puts) None → IsReady runs in_hand known end g.entries
  ready known end g h least = at end refl h.ended h.taken
    where
      apart : AreApart h.puts
      apart = none_repeats h.puts h.put.put.rise (puts_are known h.at h.puts h.put h.few) least

      at : (e : ReadEnd) → end ≡ e → HasEnded known h.puts e → EndsIf runs in_hand e g h.puts → IsReady runs in_hand known end g.entries
      at All is all taken =
          let (set, order, is_set) = set_of (objects_of h.puts) apart (elements h.put.lines h.puts h.put.put) in
          let reads : ReadsAll PutSet known (objects_of h.puts) = record { left = all.left; text = all.text; read = all.read; end = all.end; put = record { each = all.put.each; apart = apart } } in
          let whole : objects_of h.puts ≡ taken.0.done = taken.0.all ∙ ap (λ os. taken.0.done ++ os) taken.1 ∙ append-nil taken.0.done in
          let held = subst (λ os. HoldsEntries runs in_hand g.entries os) (sym whole) taken.0.held in
          let back = IsPermutation-sym (objects_of h.puts) set order in
          Whole is set is_set (holds_known known (objects_of h.puts) set reads order is_set)
          (same_entries runs in_hand g.entries (objects_of h.puts) set (λ o. ((λ c. Contains-permutation (objects_of h.puts) set o order c), (λ c. Contains-permutation set (objects_of h.puts) o back c))) held)
      at (Stopped load) is stopped taken = Faulty load is stopped.0 (stopped_if known load h.puts apart stopped.1)
      at Repeated is twice taken = absurd (twice apart)

  pub repeat_told : (known : Option (List ℕ)) (end : ReadEnd) (g : Gathering S) (h : HasGathered runs in_hand known end g) (line : ℕ) (load : LoadFault) → IsLeast (records h.puts) line
      → load ≡ record { line = line; fault = record { cause = causes.OutsideModel; byte = 0 } } → IfSome known (λ file. Explains file (Load load))
  repeat_told None end g h line load least is = tt
  repeat_told (Some file) end g h line load least is =
      let (before, x, after, split, line_x, apart, twice) = first_repeats h.puts h.put.put.rise (puts_are (Some file) h.at h.puts h.put h.few) line least in
      let stops = repeat_stops file h.at h.puts before x after line h.put split line_x apart twice in
      let differs : load.fault.cause ≢ causes.Memory = λ e. let same : causes.OutsideModel ≡ causes.Memory = sym (ap (λ (l : LoadFault). l.fault.cause) is) ∙ e in cc in
      (differs, (h.at.left, subst (λ (l : LoadFault). StopsFile file h.at.left l) (sym is) stops))

-- ---- why nothing was given

pub any_file : (known : Option (List ℕ)) (P : List ℕ → Type 0) → ((file : List ℕ) → P file) → IfSome known P
any_file None P h = tt
any_file (Some file) P h = h file

outside_of : (file : List ℕ) (set : List Element) (fault : EntryFault) → HoldsSet file set → Explains file fault → IsOutside set fault
outside_of file set (Load load) holds (told, (left, stops)) = by_cause (stopped_by_reader file left load set stops holds)
  where
    by_cause : (load.fault.cause ≡ causes.ReaderFailed) ⊎ ((load.fault.cause ≡ causes.Endless) ⊎ (load.fault.cause ≡ causes.Memory)) → (load.fault.cause ≡ causes.ReaderFailed) ⊎ (load.fault.cause ≡ causes.Endless)
    by_cause (inl failed) = inl failed
    by_cause (inr (inl endless)) = inr endless
    by_cause (inr (inr memory)) = absurd (told memory)
outside_of file set TooMany holds why = subst HasTooMany (one_set file why.0 set why.1 holds) why.2
outside_of file set Memory holds why = why
outside_of file set Device holds why = why

pub only_from : {T : Type 0} (known : Option (List ℕ)) (r : Result T EntryFault) → IfSome known (λ file. IfErr r (Explains file)) → IfSome known (λ file. (set : List Element) → HoldsSet file set → IfErr r (IsOutside set))
only_from None r h = tt
only_from (Some file) (Ok x) h = λ set holds. tt
only_from (Some file) (Err fault) h = λ set holds. outside_of file set fault holds h

pub only_fault : (known : Option (List ℕ)) (fault : EntryFault) → IfSome known (λ file. Explains file fault) → IfSome known (λ file. (set : List Element) → HoldsSet file set → IsOutside set fault)
only_fault None fault h = tt
only_fault (Some file) fault h = λ set holds. outside_of file set fault holds h
