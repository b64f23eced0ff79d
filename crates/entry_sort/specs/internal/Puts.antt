-- The objects that the lines of a file put, with the numbers of these lines.
-- Source: this project.
use Rattle.std.specs.Prelude.{◌≡◌, ◌^◌, ◌≢◌, ℕ, ◌+◌, ◌<◌, ◌≤◌, Bool, true, false, List, [], ◌∷◌, ◌++◌, Option, IfSome, length, map}
use Rattle.std.specs.List.{AllByRecursion}
use Rattle.osm_model.specs.Elements.{Element, reference}
use Rattle.osm_model.specs.Sets.{HasDistinctReferences, IsObjectSet}
use Rattle.opl_codec.specs.Fields.{Each}
use Rattle.opl_codec.specs.Files.{HoldsSet, StopsFile, without_skipped}
use Rattle.opl_codec.specs.LineChanges.{SpellsObject}
use Rattle.opl_codec.specs.LineReads.{LinePlace}
use Rattle.opl_codec.specs.declared.cause.OplCause.TheVariants as causes
use Rattle.opl_codec.specs.declared.fault.LoadFault.{LoadFault}
use Rattle.opl_codec.specs.internal.Loading.{ReadsAll, ReadsTo, start}
use Rattle.entry_sort.specs.Holding.{HoldsEntries}
use Rattle.entry_sort.specs.internal.Names.{HoldsNames, Named, named}
use Rattle.entry_sort.specs.declared.entry_sorter.EntrySorter.{EntrySorter}
use Rattle.entry_sort.specs.declared.gathering.Gathering.{Gathering}
use Rattle.entry_sort.specs.declared.read_lines.ReadEnd.{ReadEnd}
use Rattle.entry_sort.specs.declared.read_lines.ReadEnd.TheVariants.{All, Stopped, Repeated}

-- an object, and the number of the line that puts it
pub record Put : Type 0 where
  pub line : ℕ
  pub object : Element

abbrev pub put_of : ℕ → Element → Put
put_of line object = record { line = line; object = object }

abbrev pub objects_of : List Put → List Element
objects_of puts = map (λ (p : Put). p.object) puts

abbrev pub named_of : Put → Named
named_of p = named (reference p.object) p.line

abbrev pub names_of : List Put → List Named
names_of puts = map named_of puts

-- no object has the reference of another
abbrev pub AreApart : List Put → Type 0
AreApart puts = HasDistinctReferences (objects_of puts)

-- each line is after those before it
abbrev pub LinesRise : List Put → Type 0
LinesRise [] = Unit {0}
LinesRise (p ∷ puts) = AllByRecursion (λ q. p.line < q.line) puts × LinesRise puts

-- the object stands in its line, and those before it in the lines before
pub record StandsAfter (lines : List (List ℕ)) (before : List Put) (x : Put) : Type 0 where
  pub front : List (List ℕ)
  pub line : List ℕ
  pub back : List (List ℕ)
  pub lines_are : lines ≡ front ++ line ∷ back
  pub number_is : x.line ≡ length front + 1
  pub each : Each SpellsObject (without_skipped front) (objects_of before)
  pub says : SpellsObject line x.object

-- these lines put these objects
pub record SpellsPuts (lines : List (List ℕ)) (puts : List Put) : Type 0 where
  pub each : Each SpellsObject (without_skipped lines) (objects_of puts)
  pub stand : (before : List Put) (x : Put) (after : List Put) → puts ≡ before ++ x ∷ after → StandsAfter lines before x
  pub rise : LinesRise puts
  pub below : AllByRecursion (λ p. p.line ≤ length lines) puts

-- these objects were put before this place
abbrev pub HasPut : Option (List ℕ) → LinePlace → List Put → Type 0
HasPut known at puts = ReadsTo SpellsPuts (start known) at puts

-- a line can't be read, unless the objects before it repeat a reference
abbrev pub IsStopped : LoadFault → List Put → List ℕ → Type 0
IsStopped load puts file = AreApart puts → (left : Option (List ℕ)) × StopsFile file left load

-- how the reading ended
abbrev pub HasEnded : Option (List ℕ) → List Put → ReadEnd → Type 0
HasEnded known puts All = ReadsAll SpellsPuts known puts
HasEnded known puts (Stopped load) = (load.fault.cause ≢ causes.Memory) × IfSome known (IsStopped load puts)
HasEnded known puts Repeated = AreApart puts → ⊥

module _ {S : Type 0} (runs : S → List (List ℕ)) (in_hand : S → List ℕ) where
  -- all of these objects were taken
  pub record Gathered (g : Gathering S) (puts : List Put) : Type 0 where
    pub names : HoldsNames runs in_hand g.names (names_of puts)
    pub done : List Element
    pub held : HoldsEntries runs in_hand g.entries done
    pub all : objects_of puts ≡ done ++ g.chunk.items

  -- they were taken, or two have one reference
  abbrev pub GathersIf : Bool → Gathering S → List Put → Type 0
  GathersIf true g puts = Gathered g puts
  GathersIf false g puts = HoldsNames runs in_hand g.names (names_of puts) × (AreApart puts → ⊥)

  -- they were taken, and none is in the chunk, or two have one reference
  abbrev pub FlushesIf : Bool → Gathering S → List Put → Type 0
  FlushesIf true g puts = Gathered g puts × (g.chunk.items ≡ [])
  FlushesIf false g puts = HoldsNames runs in_hand g.names (names_of puts) × (AreApart puts → ⊥)

  -- the reading ended so
  abbrev pub EndsIf : ReadEnd → Gathering S → List Put → Type 0
  EndsIf All g puts = FlushesIf true g puts
  EndsIf (Stopped load) g puts = HoldsNames runs in_hand g.names (names_of puts)
  EndsIf Repeated g puts = HoldsNames runs in_hand g.names (names_of puts)

  -- a file was read: what its lines put, and how the reading ended
  pub record HasGathered (known : Option (List ℕ)) (end : ReadEnd) (g : Gathering S) : Type 0 where
    pub puts : List Put
    pub at : LinePlace
    pub put : HasPut known at puts
    pub few : at.lines ≤ 2 ^ 48
    pub ended : HasEnded known puts end
    pub taken : EndsIf end g puts

-- no reference is repeated, and the reading of a file ended so: the sorters hold the entries of the set, or a line can't be read
pub data IsReady {S : Type 0} (runs : S → List (List ℕ)) (in_hand : S → List ℕ) (known : Option (List ℕ)) (end : ReadEnd) (entries : EntrySorter S) : Type 0 where
  Whole : end ≡ All → (set : List Element) → IsObjectSet set → IfSome known (λ file. HoldsSet file set) → HoldsEntries runs in_hand entries set → IsReady runs in_hand known end entries
  Faulty : (load : LoadFault) → end ≡ Stopped load → load.fault.cause ≢ causes.Memory → IfSome known (λ file. (left : Option (List ℕ)) × StopsFile file left load) → IsReady runs in_hand known end entries
