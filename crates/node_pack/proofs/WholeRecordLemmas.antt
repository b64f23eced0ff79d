-- Records that were read whole, and the places of children in them.
use Rattle.std.proofs.Common.{◌≡◌, ◌≤◌, ◌<◌, ◌+◌, ◌*◌, ℕ, zero, suc, List, [], ◌∷◌, Option, Some, None, drop, get_or, length, min, take, sym, ap, subst, ◌∙◌, refl, arith}
use Rattle.std.proofs.lemmas.List.{drop-drop, length-drop}
use Rattle.std.specs.Prelude.{MatchOption}
use Rattle.node_pack.specs.Known.{IsTable}
use Rattle.node_pack.specs.Packs.{Kept}
use Rattle.node_pack.specs.Places.{at_place, first_place}
use Rattle.node_pack.specs.Placed.{HasNodeAt}
use Rattle.node_pack.specs.WholeRecords.{IsPlaceOfChild, IsRecordAt, bytes_in}
use Rattle.node_pack.specs.declared.place.Place.{Place}
use Rattle.node_pack.specs.declared.whole_record.Record.{Record}
use Rattle.node_pack.specs.internal.Reading.{table_in}
use Rattle.node_pack.proofs.RecordLemmas.{first_of, table_again}

-- ---- tables

-- a child of a table, by its number, and its place
pub record NthOf (place_of : List ℕ → Option Place) (limit : ℕ) (child : List ℕ) (rest : List ℕ) : Type 0 where
  pub is : place_of child ≡ Some (first_place rest)
  pub near : (first_place rest).at < limit
  pub long : 12 ≤ length rest

pub nth_of : (place_of : List ℕ → Option Place) (limit : ℕ) (children : List (List ℕ)) (number : ℕ) (rest : List ℕ) → number < length children → IsTable place_of limit children rest
    → NthOf place_of limit (get_or children number []) (drop (12 * number) rest)
nth_of place_of limit [] number rest lt is = absurd (omega (arith, lt))
nth_of place_of limit (child ∷ children) zero rest lt is =
    let first = first_of place_of limit child children rest is in
    record { is = first.is; near = first.near; long = first.long }
nth_of place_of limit (child ∷ children) (suc number) rest lt is =
    let first = first_of place_of limit child children rest is in
    let e : drop (12 * number) (drop 12 rest) ≡ drop (12 * suc number) rest = drop-drop (12 * number) 12 rest ∙ ap (λ (n : ℕ). drop n rest) (omega arith) in
    subst (NthOf place_of limit (get_or children number [])) e (nth_of place_of limit children number (drop 12 rest) (omega (arith, lt)) first.others)

-- the place that was read is the child's
pub child_of : (place_of : List ℕ → Option Place) (limit : ℕ) (kept : Kept) (number : ℕ) (table : List ℕ) (found : Option Place) → number < length kept.children → IsTable place_of limit kept.children table
    → MatchOption found (length table < 12 * number + 12) (λ (place : Place). place ≡ first_place (drop (12 * number) table)) → IsPlaceOfChild place_of limit kept number found
child_of place_of limit kept number table None lt is none =
    let nth = nth_of place_of limit kept.children number table lt is in
    absurd (omega (arith, none, nth.long, length-drop (12 * number) table))
child_of place_of limit kept number table (Some place) lt is some =
    let nth = nth_of place_of limit kept.children number table lt is in
    record {
      place = place;
      is = refl;
      at = nth.is ∙ ap (λ (p : Place). Some p) (sym some);
      near = subst (λ (p : Place). p.at < limit) (sym some) nth.near;
    }

-- the table of a record
pub table_of : (place_of : List ℕ → Option Place) (limit : ℕ) (nodes : List Kept) (key : List ℕ) (whole : Record) (is : IsRecordAt place_of limit nodes key whole)
    → IsTable place_of limit is.kept.children (table_in (bytes_in whole))
table_of place_of limit nodes key whole is = record {
  spelled = ap table_in is.bytes ∙ table_again place_of is.kept is.short;
  placed = is.placed;
}

-- ---- what is read

-- the bytes that were read are the record at the place
pub record_at : (file : List ℕ) (limit : ℕ) (place_of : List ℕ → Option Place) (nodes : List Kept) (key : List ℕ) (place : Place) (whole : Record) → HasNodeAt file limit place_of nodes key place
    → bytes_in whole ≡ at_place (record place { len = min place.len (place.len + 772) }) file → IsRecordAt place_of limit nodes key whole
record_at file limit place_of nodes key place whole has read =
    let all : min place.len (place.len + 772) ≡ place.len = omega arith in
    record {
      kept = has.kept;
      is_in = has.is_in;
      has_digest = has.has_digest;
      children = has.children;
      placed = has.placed;
      bytes = read ∙ ap (λ (n : ℕ). take n (drop place.at file)) all ∙ has.stands;
      short = omega (arith, has.short);
    }
