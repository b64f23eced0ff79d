-- A file that is read line by line: what its lines put, and the line at which it stops.
use Rattle.std.proofs.Common.{◌≡◌, ◌⊎◌, inl, inr, ℕ, ◌+◌, ◌<◌, List, [], ◌∷◌, ◌++◌, length, length-append, arith, Option, None, Some, Result, Ok, Err, IfSome, true, false, refl, sym, ◌∙◌, ap, subst, append_assoc, append-nil}
use Rattle.std.specs.Io.KnownBytes.{Consumes, IsAtEnd, prepend_known}
use Rattle.std.specs.List.{AllByRecursion}
use Rattle.std.proofs.KnownBytes.{Consumes-nil, prepend_known-nil}
use Rattle.osm_model.specs.Elements.{Element}
use Rattle.osm_model.specs.Sets.{HasDistinctReferences}
use Rattle.byte_io.specs.Pieces.{pieces}
use Rattle.opl_codec.specs.Fields.{Each}
use Rattle.opl_codec.specs.Files.{IsAtFault, IsNoChange, PutSet, SpellsChanges, StopsAt, StopsChanges, StopsFile, without_skipped}
use Rattle.opl_codec.specs.LineReads.{AreEnded, AreSkipped, Ends, IsEnd, IsRefused, IsUnread, IsWholeLine, LinePlace, Says, Stops, StopsLine, Takes, no_memory}
use Rattle.opl_codec.specs.LineChanges.{IsSkipped, Spells, SpellsObject}
use Rattle.opl_codec.specs.LineReaders.{place, unread}
use Rattle.opl_codec.specs.internal.Loading.{IsReader, IsTold, IsUnput, Puts, ReadsAll, ReadsTo, start}
use Rattle.opl_codec.specs.declared.cause.OplCause.TheVariants as causes
use Rattle.opl_codec.specs.declared.change.Change.{Change}
use Rattle.opl_codec.specs.declared.change.Change.TheVariants as changes
use Rattle.opl_codec.specs.declared.fault.LoadFault.{LoadFault}
use Rattle.opl_codec.specs.declared.fault.OplFault.{OplFault}
use Rattle.opl_codec.specs.declared.line.TheConstants.{LONGEST_LINE}
use Rattle.opl_codec.specs.declared.line_buffer.LineBuffer.{LineBuffer}
use Rattle.opl_codec.proofs.EachLemmas.{each_append}
use Rattle.opl_codec.proofs.NextLemmas.{takes_more}
use Rattle.opl_codec.proofs.LongLines.{empty_is_skipped, long_is_refused}
use Rattle.opl_codec.proofs.PieceLemmas.{pieces_join}
use Rattle.opl_codec.proofs.ReadPieces.{some_piece}
use Rattle.opl_codec.proofs.UnskippedLines.{unskipped_lines-append, unskipped_lines-unskipped, unskipped_lines-with_skipped, unskipped}

-- a text of lines that have ended, and what comes after it
ended_then : (a b : List ℕ) (lines ls : List (List ℕ)) → AreEnded a lines → pieces 10 b ≡ ls → pieces 10 (a ++ b) ≡ lines ++ ls
ended_then a b lines [] ended here = absurd (some_piece 10 b here)
ended_then a b lines (q ∷ qs) ended here = pieces_join 10 a b lines [] q qs ended here

first_piece : (text : List ℕ) (ls : List (List ℕ)) → pieces 10 text ≡ ls → (q : List ℕ) × (qs : List (List ℕ)) × (pieces 10 text ≡ q ∷ qs)
first_piece text [] cut = absurd (some_piece 10 text cut)
first_piece text (q ∷ qs) cut = (q, qs, cut)

is_reader : (taken : ℕ) (fault : OplFault) → IsUnread taken fault → IsReader fault.cause
is_reader taken fault (inl failed) = inl (ap (λ (f : OplFault). f.cause) failed)
is_reader taken fault (inr endless) = inr (ap (λ (f : OplFault). f.cause) endless.0)

left_of : (file : List ℕ) (known : Option (List ℕ)) (text : List ℕ) → Consumes (Some file) known text → (rest : List ℕ) × (known ≡ Some rest) × (file ≡ text ++ rest)
left_of file None text read = absurd read
left_of file (Some rest) text read = (rest, refl, read)

-- what lines put, which skipped lines don't change
module _ {X : Type 0} (Put : List (List ℕ) → X → Type 0) (skips : (lines more : List (List ℕ)) (found : X) → Put lines found → AllByRecursion IsSkipped more → Put (lines ++ more) found) where
  -- nothing was read yet
  pub starts : (known : Option (List ℕ)) (b : LineBuffer) → (b.lines ≡ 0) × (b.total ≡ 0) × (b.is_ended ≡ false) → unread b ≡ [] → (found : X) → Put [] found → ReadsTo Put (start known) (place known b) found
  starts known b fresh none found put = record {
    text = [];
    lines = [];
    takes = record {
      read = subst (λ k. Consumes known k []) (sym (ap (λ u. prepend_known u known) none ∙ prepend_known-nil known)) (Consumes-nil known);
      taken = omega (arith, fresh.1);
    };
    lines_are = inl refl;
    counted = fresh.0;
    put = put;
  }

  -- lines were read, this is what they put, and then this text, with the line of this number
  record UpTo (old new : LinePlace) (number : ℕ) (found : X) (text : List ℕ) : Type 0 where
    front : List ℕ
    before : List (List ℕ)
    takes : Takes old new (front ++ text)
    ended : AreEnded front before
    number_is : number ≡ old.lines + length before + 1
    put : Put before found

  not_at_end : (mid : LinePlace) (text : List ℕ) (lines : List (List ℕ)) → AreEnded text lines ⊎ ((pieces 10 text ≡ lines) × IsEnd mid) → (mid.is_ended ≡ true → ⊥) → AreEnded text lines
  not_at_end mid text lines (inl ended) goes_on = ended
  not_at_end mid text lines (inr over) goes_on = absurd (goes_on over.1.found)

  up_to : (old mid new : LinePlace) (number : ℕ) (found : X) (front : List ℕ) (skipped : List (List ℕ)) (text : List ℕ) (r : ReadsTo Put old mid found) → (mid.is_ended ≡ true → ⊥)
      → Takes mid new (front ++ text) → AreSkipped front skipped → number ≡ mid.lines + length skipped + 1 → UpTo old new number found text
  up_to old mid new number found front skipped text r goes_on takes before number_is = record {
    front = r.text ++ front;
    before = r.lines ++ skipped;
    takes = subst (λ (t : List ℕ). Takes old new t) (sym (append_assoc r.text front text)) (takes_more old mid new r.text (front ++ text) r.takes takes);
    ended = ended_then r.text front r.lines (skipped ++ [] ∷ []) (not_at_end mid r.text r.lines r.lines_are goes_on) before.ended ∙ sym (append_assoc r.lines skipped ([] ∷ []));
    number_is = omega (arith, r.counted, number_is, length-append r.lines skipped);
    put = skips r.lines skipped found r.put before.none;
  }

  -- the line that comes next says a change
  pub reads_more : (old mid new : LinePlace) (number : ℕ) (found more : X) (change : Change) → ReadsTo Put old mid found → (mid.is_ended ≡ true → ⊥) → Says mid new number change
      → ((lines : List (List ℕ)) (line : List ℕ) → Put lines found → Spells line change → Put (lines ++ line ∷ []) more) → ReadsTo Put old new more
  reads_more old mid new number found more change r goes_on s put = record {
    text = u.front ++ s.text;
    lines = u.before ++ s.line ∷ [];
    takes = u.takes;
    lines_are = whole s.whole;
    counted = omega (arith, s.counted, u.number_is, length-append u.before (s.line ∷ []));
    put = put u.before s.line u.put s.says;
  }
    where
      u : UpTo old new number found s.text
      u = up_to old mid new number found s.front s.skipped s.text r goes_on s.takes s.before s.number_is

      whole : IsWholeLine s.text s.line new → AreEnded (u.front ++ s.text) (u.before ++ s.line ∷ []) ⊎ ((pieces 10 (u.front ++ s.text) ≡ u.before ++ s.line ∷ []) × IsEnd new)
      whole (inl cut) = inl (ended_then u.front s.text u.before (s.line ∷ [] ∷ []) u.ended cut ∙ sym (append_assoc u.before (s.line ∷ []) ([] ∷ [])))
      whole (inr last) = inr (ended_then u.front s.text u.before (s.line ∷ []) u.ended last.0, last.1)

  -- nothing comes next
  pub reads_all : (known : Option (List ℕ)) (mid new : LinePlace) (found : X) → ReadsTo Put (start known) mid found → Ends mid new → ReadsAll Put known found
  reads_all known mid new found r e = go r.lines_are
    where
      all_skipped : (lines : List (List ℕ)) → AllByRecursion IsSkipped lines → AllByRecursion IsSkipped (lines ++ [] ∷ [])
      all_skipped [] none = (empty_is_skipped, tt)
      all_skipped (line ∷ lines) none = (none.0, all_skipped lines none.1)

      put : AreEnded r.text r.lines → AreEnded e.text e.skipped ⊎ (pieces 10 e.text ≡ e.skipped) → Put (pieces 10 (r.text ++ e.text)) found
      put ended (inl cut) = subst (λ ls. Put ls found) (sym (ended_then r.text e.text r.lines (e.skipped ++ [] ∷ []) ended cut)) (skips r.lines (e.skipped ++ [] ∷ []) found r.put (all_skipped e.skipped e.none))
      put ended (inr cut) = subst (λ ls. Put ls found) (sym (ended_then r.text e.text r.lines e.skipped ended cut)) (skips r.lines e.skipped found r.put e.none)

      go : AreEnded r.text r.lines ⊎ ((pieces 10 r.text ≡ r.lines) × IsEnd mid) → ReadsAll Put known found
      go (inl ended) = record {
        left = new.left;
        text = r.text ++ e.text;
        read = (takes_more (start known) mid new r.text e.text r.takes e.takes).read;
        end = e.end.none;
        put = put ended e.lines;
      }
      go (inr over) = record { left = mid.left; text = r.text; read = r.takes.read; end = over.1.none; put = subst (λ ls. Put ls found) (sym over.0) r.put }

  -- ---- the line at which the file stops

  module _ (AtFault : X → List ℕ → OplFault → Type 0) (refuses : (found : X) (line : List ℕ) (fault : OplFault) → IsRefused line fault → AtFault found line fault) where
    module _ (file : List ℕ) (left : Option (List ℕ)) (b : LineBuffer) (load : LoadFault) (found : X) (text line : List ℕ) (u : UpTo (start (Some file)) (place left b) load.line found text) where
      -- a line that was read whole
      whole_line : IsWholeLine text line (place left b) → (after : List (List ℕ)) × (pieces 10 file ≡ u.before ++ line ∷ after)
      whole_line (inl cut) =
          let rest = left_of file _ (u.front ++ text) u.takes.read in
          let ended : AreEnded (u.front ++ text) (u.before ++ line ∷ []) = ended_then u.front text u.before (line ∷ [] ∷ []) u.ended cut ∙ sym (append_assoc u.before (line ∷ []) ([] ∷ [])) in
          (pieces 10 rest.0, ap (pieces 10) rest.2 ∙ ended_then (u.front ++ text) rest.0 (u.before ++ line ∷ []) (pieces 10 rest.0) ended refl ∙ append_assoc u.before (line ∷ []) (pieces 10 rest.0))
      whole_line (inr last) =
          let rest = left_of file _ (u.front ++ text) u.takes.read in
          let none : rest.0 ≡ [] = subst IsAtEnd rest.1 last.1.none in
          let all : file ≡ u.front ++ text = rest.2 ∙ ap (λ r. (u.front ++ text) ++ r) none ∙ append-nil (u.front ++ text) in
          ([], ap (pieces 10) all ∙ ended_then u.front text u.before (line ∷ []) u.ended last.0)

      at_line : IsWholeLine text line (place left b) → AtFault found line load.fault → StopsAt Put AtFault file left load
      at_line whole why = let cut = whole_line whole in
          record { before = u.before; line = line; after = cut.0; found = found; lines_are = cut.1; number_is = omega (arith, u.number_is); put = u.put; why = inl why }

      -- a line of which the beginning was read
      begun_line : pieces 10 text ≡ line ∷ [] → (more : List ℕ) × (after : List (List ℕ)) × (pieces 10 file ≡ u.before ++ (line ++ more) ∷ after)
      begun_line cut =
          let rest = left_of file _ (u.front ++ text) u.takes.read in
          let next = first_piece rest.0 (pieces 10 rest.0) refl in
          (next.0, next.1, ap (pieces 10) rest.2 ∙ pieces_join 10 (u.front ++ text) rest.0 u.before line next.0 next.1 (ended_then u.front text u.before (line ∷ []) u.ended cut) next.2)

      too_long : pieces 10 text ≡ line ∷ [] → load.fault ≡ record { cause = causes.LineTooLong; byte = LONGEST_LINE } → LONGEST_LINE < length line → StopsAt Put AtFault file left load
      too_long cut fault long =
          let begun = begun_line cut in
          let refused : IsRefused (line ++ begun.0) load.fault = subst (λ (f : OplFault). IsRefused (line ++ begun.0) f) (sym fault) (long_is_refused (line ++ begun.0) (omega (arith, length-append line begun.0))) in
          record { before = u.before; line = line ++ begun.0; after = begun.1; found = found; lines_are = begun.2; number_is = omega (arith, u.number_is); put = u.put; why = inl (refuses found (line ++ begun.0) load.fault refused) }

      cut_off : pieces 10 text ≡ line ∷ [] → IsUnread (place left b).taken load.fault → unread b ≡ [] → StopsAt Put AtFault file left load
      cut_off cut why none =
          let begun = begun_line cut in
          let taken : (place left b).taken ≡ length (u.front ++ text) = omega (arith, u.takes.taken) in
          let left_is : prepend_known (unread b) left ≡ left = ap (λ bytes. prepend_known bytes left) none ∙ prepend_known-nil left in
          record {
            before = u.before;
            line = line ++ begun.0;
            after = begun.1;
            found = found;
            lines_are = begun.2;
            number_is = omega (arith, u.number_is);
            put = u.put;
            why = inr (record {
              given = u.front ++ text;
              begun = line;
              read = subst (λ k. Consumes (Some file) k (u.front ++ text)) left_is u.takes.read;
              cut = ended_then u.front text u.before (line ∷ []) u.ended cut;
              why = subst (λ (n : ℕ). IsUnread n load.fault) taken why;
            });
          }

    -- the line that comes next isn't read
    pub stops : (file : List ℕ) (left : Option (List ℕ)) (b : LineBuffer) (mid : LinePlace) (load : LoadFault) (found : X) → ReadsTo Put (start (Some file)) mid found → (mid.is_ended ≡ true → ⊥)
        → Stops mid (place left b) load → IsTold b load → StopsAt Put AtFault file left load
    stops file left b mid load found r goes_on s told = go s.why
      where
        u : UpTo (start (Some file)) (place left b) load.line found s.text
        u = up_to (start (Some file)) mid (place left b) load.line found s.front s.skipped s.text r goes_on s.takes s.before s.number_is

        go : StopsLine s.text s.line (place left b) load.fault → StopsAt Put AtFault file left load
        go (inl refused) = at_line file left b load found s.text s.line u refused.0 (refuses found s.line load.fault refused.1)
        go (inr (cut, inl long)) = too_long file left b load found s.text s.line u cut long.0 long.1
        go (inr (cut, inr why)) = cut_off file left b load found s.text s.line u cut why (told.reader (is_reader _ load.fault why))

    -- the line that comes next says a change that can't be put
    pub stops_at : (file : List ℕ) (left : Option (List ℕ)) (b : LineBuffer) (mid : LinePlace) (number : ℕ) (change : Change) (load : LoadFault) (found : X) → ReadsTo Put (start (Some file)) mid found → (mid.is_ended ≡ true → ⊥)
        → Says mid (place left b) number change → load.line ≡ number → ((line : List ℕ) → Spells line change → AtFault found line load.fault) → StopsAt Put AtFault file left load
    stops_at file left b mid number change load found r goes_on s number_is why = at_line file left b load found s.text s.line u s.whole (why s.line s.says)
      where
        u : UpTo (start (Some file)) (place left b) load.line found s.text
        u = up_to (start (Some file)) mid (place left b) load.line found s.front s.skipped s.text r goes_on s.takes s.before (number_is ∙ s.number_is)

    pub next_stops : (known left : Option (List ℕ)) (b : LineBuffer) (mid : LinePlace) (load : LoadFault) (found : X) → ReadsTo Put (start known) mid found → (mid.is_ended ≡ true → ⊥)
        → (load ≡ no_memory) ⊎ Stops mid (place left b) load → IsTold b load → IfSome known (λ file. (load ≡ no_memory) ⊎ StopsAt Put AtFault file left load)
    next_stops None left b mid load found r goes_on why told = tt
    next_stops (Some file) left b mid load found r goes_on (inl memory) told = inl memory
    next_stops (Some file) left b mid load found r goes_on (inr s) told = inr (stops file left b mid load found r goes_on s told)

-- ---- a set

put_skipped : (lines more : List (List ℕ)) (objects : List Element) → PutSet lines objects → AllByRecursion IsSkipped more → PutSet (lines ++ more) objects
put_skipped lines more objects put none = record { each = subst (λ ls. Each SpellsObject ls objects) (sym (unskipped_lines-with_skipped lines more none)) put.each; apart = put.apart }

put_more : (lines : List (List ℕ)) (line : List ℕ) (objects : List Element) (o : Element) → PutSet lines objects → SpellsObject line o → HasDistinctReferences (objects ++ o ∷ []) → PutSet (lines ++ line ∷ []) (objects ++ o ∷ [])
put_more lines line objects o put spells apart =
    let one : without_skipped (line ∷ []) ≡ line ∷ [] = unskipped_lines-unskipped line [] (unskipped line (changes.Put o) spells) in
    let all : without_skipped (lines ++ line ∷ []) ≡ without_skipped lines ++ line ∷ [] = unskipped_lines-append lines (line ∷ []) ∙ ap (λ ls. without_skipped lines ++ ls) one in
    record {
      each = subst (λ ls. Each SpellsObject ls (objects ++ o ∷ [])) (sym all) (each_append SpellsObject (without_skipped lines) (line ∷ []) objects (o ∷ []) put.each (spells, tt));
      apart = apart;
    }

refused_is : (objects : List Element) (line : List ℕ) (fault : OplFault) → IsRefused line fault → IsAtFault objects line fault
refused_is objects line fault refused = inl refused

-- nothing was read yet
pub set_starts : (known : Option (List ℕ)) (b : LineBuffer) → (b.lines ≡ 0) × (b.total ≡ 0) × (b.is_ended ≡ false) → unread b ≡ [] → HasDistinctReferences [] → ReadsTo PutSet (start known) (place known b) []
set_starts known b fresh none apart = starts PutSet put_skipped known b fresh none [] (record { each = tt; apart = apart })

-- the change of the line that comes next was put
pub reads_put : (old mid new : LinePlace) (number : ℕ) (change : Change) (objects more : List Element) → ReadsTo PutSet old mid objects → (mid.is_ended ≡ true → ⊥) → Says mid new number change
    → Puts objects more change → HasDistinctReferences more → ReadsTo PutSet old new more
reads_put old mid new number change objects more r goes_on s put apart =
    reads_more PutSet put_skipped old mid new number objects more change r goes_on s
    (λ lines line before spells. subst (λ (os : List Element). PutSet (lines ++ line ∷ []) os) (sym put.more)
    (put_more lines line objects put.object before (subst (λ (c : Change). Spells line c) put.change_is spells) (subst (λ (os : List Element). HasDistinctReferences os) put.more apart)))

pub set_reads_all : (known : Option (List ℕ)) (mid new : LinePlace) (objects : List Element) → ReadsTo PutSet (start known) mid objects → Ends mid new → ReadsAll PutSet known objects
set_reads_all = reads_all PutSet put_skipped

pub next_refused : (known left : Option (List ℕ)) (b : LineBuffer) (mid : LinePlace) (load : LoadFault) (objects : List Element) → ReadsTo PutSet (start known) mid objects → (mid.is_ended ≡ true → ⊥)
    → (load ≡ no_memory) ⊎ Stops mid (place left b) load → IsTold b load → IfSome known (λ file. (load ≡ no_memory) ⊎ StopsFile file left load)
next_refused = next_stops PutSet put_skipped IsAtFault refused_is

-- why a change can't be put, in terms of its line
unput_line : (objects : List Element) (change : Change) (fault : OplFault) → IsUnput objects change fault → (line : List ℕ) → Spells line change → IsAtFault objects line fault
unput_line objects change fault (inl deletes) line says = inr (inl (deletes.0, (deletes.1.0, subst (λ (c : Change). Spells line c) deletes.1.1 says)))
unput_line objects change fault (inr repeats) line says = inr (inr (repeats.0, (repeats.1.0, subst (λ (c : Change). Spells line c) repeats.1.1 says, repeats.1.2)))

pub put_refused : (known left : Option (List ℕ)) (b : LineBuffer) (mid : LinePlace) (number : ℕ) (change : Change) (load : LoadFault) (objects : List Element) → ReadsTo PutSet (start known) mid objects → (mid.is_ended ≡ true → ⊥)
    → Says mid (place left b) number change → (load ≡ no_memory) ⊎ ((load.line ≡ number) × IsUnput objects change load.fault) → IfSome known (λ file. (load ≡ no_memory) ⊎ StopsFile file left load)
put_refused None left b mid number change load objects r goes_on s why = tt
put_refused (Some file) left b mid number change load objects r goes_on s (inl memory) = inl memory
put_refused (Some file) left b mid number change load objects r goes_on s (inr why) = inr (stops_at PutSet put_skipped IsAtFault refused_is file left b mid number change load objects r goes_on s why.0 (unput_line objects change load.fault why.1))

-- ---- changes

pub changes_skipped : (lines more : List (List ℕ)) (changes : List Change) → SpellsChanges lines changes → AllByRecursion IsSkipped more → SpellsChanges (lines ++ more) changes
changes_skipped lines more changes put none = subst (λ ls. Each Spells ls changes) (sym (unskipped_lines-with_skipped lines more none)) put

pub change_more : (changes : List Change) (change : Change) (lines : List (List ℕ)) (line : List ℕ) → SpellsChanges lines changes → Spells line change → SpellsChanges (lines ++ line ∷ []) (changes ++ change ∷ [])
change_more changes change lines line put spells =
    let one : without_skipped (line ∷ []) ≡ line ∷ [] = unskipped_lines-unskipped line [] (unskipped line change spells) in
    let all : without_skipped (lines ++ line ∷ []) ≡ without_skipped lines ++ line ∷ [] = unskipped_lines-append lines (line ∷ []) ∙ ap (λ ls. without_skipped lines ++ ls) one in
    subst (λ ls. Each Spells ls (changes ++ change ∷ [])) (sym all) (each_append Spells (without_skipped lines) (line ∷ []) changes (change ∷ []) put (spells, tt))

no_change : (changes : List Change) (line : List ℕ) (fault : OplFault) → IsRefused line fault → IsNoChange changes line fault
no_change changes line fault refused = refused

pub changes_start : (known : Option (List ℕ)) (b : LineBuffer) → (b.lines ≡ 0) × (b.total ≡ 0) × (b.is_ended ≡ false) → unread b ≡ [] → ReadsTo SpellsChanges (start known) (place known b) []
changes_start known b fresh none = starts SpellsChanges changes_skipped known b fresh none [] tt

pub reads_change : (old mid new : LinePlace) (number : ℕ) (change : Change) (changes more : List Change) → ReadsTo SpellsChanges old mid changes → (mid.is_ended ≡ true → ⊥) → Says mid new number change
    → more ≡ changes ++ change ∷ [] → ReadsTo SpellsChanges old new more
reads_change old mid new number change changes more r goes_on s is = reads_more SpellsChanges changes_skipped old mid new number changes more change r goes_on s
    (λ lines line before spells. subst (λ (read : List Change). SpellsChanges (lines ++ line ∷ []) read) (sym is) (change_more changes change lines line before spells))

pub changes_read_all : (known : Option (List ℕ)) (mid new : LinePlace) (changes : List Change) → ReadsTo SpellsChanges (start known) mid changes → Ends mid new → ReadsAll SpellsChanges known changes
changes_read_all = reads_all SpellsChanges changes_skipped

pub change_refused : (known left : Option (List ℕ)) (b : LineBuffer) (mid : LinePlace) (load : LoadFault) (changes : List Change) → ReadsTo SpellsChanges (start known) mid changes → (mid.is_ended ≡ true → ⊥)
    → (load ≡ no_memory) ⊎ Stops mid (place left b) load → IsTold b load → IfSome known (λ file. (load ≡ no_memory) ⊎ StopsChanges file left load)
change_refused = next_stops SpellsChanges changes_skipped IsNoChange no_change

-- what is refused, or says something, isn't the end
pub not_refused : {A : Type 0} (r : Result (Option A) LoadFault) (load : LoadFault) → r ≡ Err load → r ≡ Ok None → ⊥
not_refused r load refused end = cc

pub not_over : {A : Type 0} (r : Result (Option A) LoadFault) (found : Option A) (x : A) → r ≡ Ok found → found ≡ Some x → r ≡ Ok None → ⊥
not_over r found x was is end = cc
