-- A file that is read line by line: what its lines put, with the numbers of the lines, and the line at which it stops.
use Rattle.std.proofs.Common.{◌≡◌, ◌⊎◌, inl, inr, ℕ, ◌+◌, ◌<◌, ◌≤◌, List, [], ◌∷◌, ◌++◌, length, length-append, arith, Option, None, Some, true, false, refl, sym, ◌∙◌, ap, subst, append_assoc, append-nil, map}
use Rattle.std.specs.Io.KnownBytes.{Consumes, IsAtEnd}
use Rattle.std.specs.List.{AllByRecursion}
use Rattle.std.proofs.KnownBytes.{Consumes-nil}
use Rattle.std.proofs.lemmas.List.{map-append}
use Rattle.osm_model.specs.Elements.{Element}
use Rattle.osm_model.specs.Sets.{HasDistinctReferences}
use Rattle.byte_io.specs.Pieces.{pieces}
use Rattle.opl_codec.specs.Fields.{Each}
use Rattle.opl_codec.specs.Files.{IsAtFault, StopsFile, without_skipped}
use Rattle.opl_codec.specs.LineReads.{AreEnded, AreSkipped, IsEnd, IsTooLong, IsUnread, IsWholeLine, LinePlace, Says, Stops, StopsLine, Takes}
use Rattle.opl_codec.specs.LineChanges.{IsSkipped, Spells, SpellsObject}
use Rattle.opl_codec.specs.internal.Loading.{ReadsTo, start}
use Rattle.opl_codec.specs.declared.cause.OplCause.TheVariants as causes
use Rattle.opl_codec.specs.declared.change.Change.{Change}
use Rattle.opl_codec.specs.declared.change.Change.TheVariants as changes
use Rattle.opl_codec.specs.declared.fault.LoadFault.{LoadFault}
use Rattle.opl_codec.specs.declared.fault.OplFault.{OplFault}
use Rattle.opl_codec.specs.LineReads.{IsRefused}
use Rattle.opl_codec.proofs.EachLemmas.{each_append}
use Rattle.opl_codec.proofs.NextLemmas.{takes_more}
use Rattle.opl_codec.proofs.LongLines.{long_is_refused}
use Rattle.opl_codec.proofs.PieceLemmas.{pieces_join}
use Rattle.opl_codec.proofs.ReadPieces.{some_piece}
use Rattle.opl_codec.proofs.UnskippedLines.{unskipped_lines-append, unskipped_lines-unskipped, unskipped_lines-with_skipped, unskipped}
use Rattle.entry_sort.specs.internal.Puts.{AreApart, HasPut, LinesRise, Put, SpellsPuts, StandsAfter, objects_of, put_of}
use Rattle.entry_sort.proofs.GatherLemmas.{objects-push}

-- ---- lists

all_more : {X : Type 0} (P : X → Type 0) (xs : List X) (y : X) → AllByRecursion P xs → P y → AllByRecursion P (xs ++ y ∷ [])
all_more P [] y h last = (last, tt)
all_more P (x ∷ xs) y h last = (h.0, all_more P xs y h.1 last)

all_weaker : {X : Type 0} (P Q : X → Type 0) (xs : List X) → ((x : X) → P x → Q x) → AllByRecursion P xs → AllByRecursion Q xs
all_weaker P Q [] f h = tt
all_weaker P Q (x ∷ xs) f h = (f x h.0, all_weaker P Q xs f h.1)

-- what splits a list with one more at its end
abbrev Split : List Put → Put → List Put → Put → List Put → Type 0
Split puts p before x after = ((puts ≡ before) × (p ≡ x)) ⊎ ((more : List Put) × (puts ≡ before ++ x ∷ more))

split_more : (puts : List Put) (p : Put) (before : List Put) (x : Put) (after : List Put) → puts ++ p ∷ [] ≡ before ++ x ∷ after → Split puts p before x after
split_more [] p [] x after e = inl (refl, cc)
split_more [] p (b ∷ []) x after e = cc
split_more [] p (b ∷ c ∷ before) x after e = cc
split_more (q ∷ puts) p [] x after e = let same : q ≡ x = cc in inr (puts, ap (λ (r : Put). r ∷ puts) same)
split_more (q ∷ puts) p (b ∷ before) x after e =
    let same : q ≡ b = cc in
    let rest : puts ++ p ∷ [] ≡ before ++ x ∷ after = cc in
    elim (split_more puts p before x after rest) [
      | inl last ↦ inl (ap (λ (ps : List Put). q ∷ ps) last.0 ∙ ap (λ (r : Put). r ∷ before) same, last.1)
      | inr more ↦ inr (more.0, ap (λ (ps : List Put). q ∷ ps) more.1 ∙ ap (λ (r : Put). r ∷ (before ++ x ∷ more.0)) same)
    ]

rise_more : (puts : List Put) (p : Put) → LinesRise puts → AllByRecursion (λ (q : Put). q.line < p.line) puts → LinesRise (puts ++ p ∷ [])
rise_more [] p h below = (tt, tt)
rise_more (q ∷ puts) p h below = (all_more (λ (r : Put). q.line < r.line) puts p h.0 below.0, rise_more puts p h.1 below.1)

-- ---- what lines put

pub none_put : SpellsPuts [] []
none_put = record {
  each = tt;
  stand = nothing;
  rise = tt;
  below = tt;
}
  where
    nothing : (before : List Put) (x : Put) (after : List Put) → [] ≡ before ++ x ∷ after → StandsAfter [] before x
    nothing [] x after e = cc
    nothing (b ∷ before) x after e = cc

-- skipped lines put nothing
pub puts_skipped : (lines more : List (List ℕ)) (puts : List Put) → SpellsPuts lines puts → AllByRecursion IsSkipped more → SpellsPuts (lines ++ more) puts
puts_skipped lines more puts h none = record {
  each = subst (λ ls. Each SpellsObject ls (objects_of puts)) (sym (unskipped_lines-with_skipped lines more none)) h.each;
  stand = λ before x after e.
      let s = h.stand before x after e in
      record { front = s.front; line = s.line; back = s.back ++ more; lines_are = ap (λ ls. ls ++ more) s.lines_are ∙ append_assoc s.front (s.line ∷ s.back) more; number_is = s.number_is; each = s.each; says = s.says };
  rise = h.rise;
  below = all_weaker (λ (p : Put). p.line ≤ length lines) (λ (p : Put). p.line ≤ length (lines ++ more)) puts (λ p le. omega (arith, le, length-append lines more)) h.below;
}

-- one more line puts one more object
pub puts_more : (lines : List (List ℕ)) (line : List ℕ) (puts : List Put) (number : ℕ) (o : Element) → SpellsPuts lines puts → SpellsObject line o → number ≡ length lines + 1 → SpellsPuts (lines ++ line ∷ []) (puts ++ put_of number o ∷ [])
puts_more lines line puts number o h says is =
    let one : without_skipped (line ∷ []) ≡ line ∷ [] = unskipped_lines-unskipped line [] (unskipped line (changes.Put o) says) in
    let all : without_skipped (lines ++ line ∷ []) ≡ without_skipped lines ++ line ∷ [] = unskipped_lines-append lines (line ∷ []) ∙ ap (λ ls. without_skipped lines ++ ls) one in
    let both = each_append SpellsObject (without_skipped lines) (line ∷ []) (objects_of puts) (o ∷ []) h.each (says, tt) in
    record {
      each = subst (λ ls. Each SpellsObject ls (objects_of (puts ++ put_of number o ∷ []))) (sym all) (subst (λ os. Each SpellsObject (without_skipped lines ++ line ∷ []) os) (sym (objects-push puts number o)) both);
      stand = λ before x after e.
          elim (split_more puts (put_of number o) before x after e) [
            | inl last ↦ record {
              front = lines;
              line = line;
              back = [];
              lines_are = refl;
              number_is = ap (λ (p : Put). p.line) (sym last.1) ∙ is;
              each = subst (λ (ps : List Put). Each SpellsObject (without_skipped lines) (objects_of ps)) last.0 h.each;
              says = subst (λ (p : Put). SpellsObject line p.object) last.1 says;
            }
            | inr more ↦
                let s = h.stand before x more.0 more.1 in
                record { front = s.front; line = s.line; back = s.back ++ line ∷ []; lines_are = ap (λ ls. ls ++ line ∷ []) s.lines_are ∙ append_assoc s.front (s.line ∷ s.back) (line ∷ []); number_is = s.number_is; each = s.each; says = s.says }
          ];
      rise = rise_more puts (put_of number o) h.rise (all_weaker (λ (p : Put). p.line ≤ length lines) (λ (p : Put). p.line < number) puts (λ p le. omega (arith, le, is)) h.below);
      below = all_more (λ (p : Put). p.line ≤ length (lines ++ line ∷ [])) puts (put_of number o)
          (all_weaker (λ (p : Put). p.line ≤ length lines) (λ (p : Put). p.line ≤ length (lines ++ line ∷ [])) puts (λ p le. omega (arith, le, length-append lines (line ∷ []))) h.below)
          (omega (arith, is, length-append lines (line ∷ [])));
    }

-- ---- places

-- a text of lines that have ended, and what comes after it
ended_then : (a b : List ℕ) (lines ls : List (List ℕ)) → AreEnded a lines → pieces 10 b ≡ ls → pieces 10 (a ++ b) ≡ lines ++ ls
ended_then a b lines [] ended here = absurd (some_piece 10 b here)
ended_then a b lines (q ∷ qs) ended here = pieces_join 10 a b lines [] q qs ended here

first_piece : (text : List ℕ) (ls : List (List ℕ)) → pieces 10 text ≡ ls → (q : List ℕ) × (qs : List (List ℕ)) × (pieces 10 text ≡ q ∷ qs)
first_piece text [] cut = absurd (some_piece 10 text cut)
first_piece text (q ∷ qs) cut = (q, qs, cut)

left_of : (file : List ℕ) (known : Option (List ℕ)) (text : List ℕ) → Consumes (Some file) known text → (rest : List ℕ) × (known ≡ Some rest) × (file ≡ text ++ rest)
left_of file None text read = absurd read
left_of file (Some rest) text read = (rest, refl, read)

not_at_end : (mid : LinePlace) (text : List ℕ) (lines : List (List ℕ)) → AreEnded text lines ⊎ ((pieces 10 text ≡ lines) × IsEnd mid) → (mid.is_ended ≡ true → ⊥) → AreEnded text lines
not_at_end mid text lines (inl ended) goes_on = ended
not_at_end mid text lines (inr over) goes_on = absurd (goes_on over.1.found)

-- nothing was read yet
pub starts : (known : Option (List ℕ)) → HasPut known (start known) []
starts known = record { text = []; lines = []; takes = record { read = Consumes-nil known; taken = refl }; lines_are = inl refl; counted = refl; put = none_put }

module _ (known : Option (List ℕ)) (mid new : LinePlace) (puts : List Put) (r : HasPut known mid puts) (goes_on : mid.is_ended ≡ true → ⊥)
    (front : List ℕ) (skipped : List (List ℕ)) (text line : List ℕ) (takes : Takes mid new (front ++ text)) (skips : AreSkipped front skipped) where
  before : List (List ℕ)
  before = r.lines ++ skipped

  ended : AreEnded (r.text ++ front) (r.lines ++ skipped)
  ended = ended_then r.text front r.lines (skipped ++ [] ∷ []) (not_at_end mid r.text r.lines r.lines_are goes_on) skips.ended ∙ sym (append_assoc r.lines skipped ([] ∷ []))

  taken : Takes (start known) new ((r.text ++ front) ++ text)
  taken = subst (λ (t : List ℕ). Takes (start known) new t) (sym (append_assoc r.text front text)) (takes_more (start known) mid new r.text (front ++ text) r.takes takes)

  counts : mid.lines + length skipped ≡ length (r.lines ++ skipped)
  counts = omega (arith, r.counted, length-append r.lines skipped)

  there : SpellsPuts (r.lines ++ skipped) puts
  there = puts_skipped r.lines skipped puts r.put skips.none

  whole_ends : IsWholeLine text line new → AreEnded ((r.text ++ front) ++ text) ((r.lines ++ skipped) ++ line ∷ []) ⊎ ((pieces 10 ((r.text ++ front) ++ text) ≡ (r.lines ++ skipped) ++ line ∷ []) × IsEnd new)
  whole_ends (inl cut) = inl (ended_then (r.text ++ front) text (r.lines ++ skipped) (line ∷ [] ∷ []) ended cut ∙ sym (append_assoc (r.lines ++ skipped) (line ∷ []) ([] ∷ [])))
  whole_ends (inr last) = inr (ended_then (r.text ++ front) text (r.lines ++ skipped) (line ∷ []) ended last.0, last.1)

  -- the line puts an object
  one_more : (number : ℕ) (o : Element) → IsWholeLine text line new → SpellsObject line o → number ≡ mid.lines + length skipped + 1 → new.lines ≡ number → HasPut known new (puts ++ put_of number o ∷ [])
  one_more number o whole says is counted = record {
    text = (r.text ++ front) ++ text;
    lines = (r.lines ++ skipped) ++ line ∷ [];
    takes = taken;
    lines_are = whole_ends whole;
    counted = omega (arith, counted, is, counts, length-append (r.lines ++ skipped) (line ∷ []));
    put = puts_more (r.lines ++ skipped) line puts number o there says (omega (arith, is, counts));
  }

pub next_put : (known : Option (List ℕ)) (mid new : LinePlace) (puts : List Put) (number : ℕ) (o : Element) → HasPut known mid puts → (mid.is_ended ≡ true → ⊥) → Says mid new number (changes.Put o) → HasPut known new (puts ++ put_of number o ∷ [])
next_put known mid new puts number o r goes_on s = one_more known mid new puts r goes_on s.front s.skipped s.text s.line s.takes s.before number o s.whole s.says s.number_is s.counted

-- ---- the line at which the file stops

module _ (file : List ℕ) (mid new : LinePlace) (puts : List Put) (r : HasPut (Some file) mid puts) (goes_on : mid.is_ended ≡ true → ⊥) (apart : AreApart puts) (load : LoadFault)
    (front : List ℕ) (skipped : List (List ℕ)) (text line : List ℕ) (takes : Takes mid new (front ++ text)) (skips : AreSkipped front skipped) (number_is : load.line ≡ mid.lines + length skipped + 1) where
  all : List ℕ
  all = (r.text ++ front) ++ text

  took : Takes (start (Some file)) new ((r.text ++ front) ++ text)
  took = taken (Some file) mid new puts r goes_on front skipped text line takes skips

  has_ended : AreEnded (r.text ++ front) (r.lines ++ skipped)
  has_ended = ended (Some file) mid new puts r goes_on front skipped text line takes skips

  has_put : SpellsPuts (r.lines ++ skipped) puts
  has_put = there (Some file) mid new puts r goes_on front skipped text line takes skips

  at_number : load.line ≡ length (r.lines ++ skipped) + 1
  at_number = omega (arith, number_is, counts (Some file) mid new puts r goes_on front skipped text line takes skips)

  -- a line that was read whole
  whole_line : IsWholeLine text line new → (after : List (List ℕ)) × (pieces 10 file ≡ (r.lines ++ skipped) ++ line ∷ after)
  whole_line (inl cut) =
      let rest = left_of file new.left ((r.text ++ front) ++ text) took.read in
      let lines : AreEnded ((r.text ++ front) ++ text) ((r.lines ++ skipped) ++ line ∷ []) = ended_then (r.text ++ front) text (r.lines ++ skipped) (line ∷ [] ∷ []) has_ended cut ∙ sym (append_assoc (r.lines ++ skipped) (line ∷ []) ([] ∷ [])) in
      (pieces 10 rest.0, ap (pieces 10) rest.2 ∙ ended_then ((r.text ++ front) ++ text) rest.0 ((r.lines ++ skipped) ++ line ∷ []) (pieces 10 rest.0) lines refl ∙ append_assoc (r.lines ++ skipped) (line ∷ []) (pieces 10 rest.0))
  whole_line (inr last) =
      let rest = left_of file new.left ((r.text ++ front) ++ text) took.read in
      let none : rest.0 ≡ [] = subst IsAtEnd rest.1 last.1.none in
      let is : file ≡ (r.text ++ front) ++ text = rest.2 ∙ ap (λ e. ((r.text ++ front) ++ text) ++ e) none ∙ append-nil ((r.text ++ front) ++ text) in
      ([], ap (pieces 10) is ∙ ended_then (r.text ++ front) text (r.lines ++ skipped) (line ∷ []) has_ended last.0)

  at_line : IsWholeLine text line new → IsAtFault (objects_of puts) line load.fault → StopsFile file new.left load
  at_line whole why = let cut = whole_line whole in
      record { before = r.lines ++ skipped; line = line; after = cut.0; found = objects_of puts; lines_are = cut.1; number_is = at_number; put = record { each = has_put.each; apart = apart }; why = inl why }

  -- a line of which the beginning was read
  begun_line : pieces 10 text ≡ line ∷ [] → (more : List ℕ) × (after : List (List ℕ)) × (pieces 10 file ≡ (r.lines ++ skipped) ++ (line ++ more) ∷ after)
  begun_line cut =
      let rest = left_of file new.left ((r.text ++ front) ++ text) took.read in
      let next = first_piece rest.0 (pieces 10 rest.0) refl in
      (next.0, next.1, ap (pieces 10) rest.2 ∙ pieces_join 10 ((r.text ++ front) ++ text) rest.0 (r.lines ++ skipped) line next.0 next.1 (ended_then (r.text ++ front) text (r.lines ++ skipped) (line ∷ []) has_ended cut) next.2)

  too_long : pieces 10 text ≡ line ∷ [] → IsTooLong line load.fault → StopsFile file new.left load
  too_long cut long =
      let begun = begun_line cut in
      let refused : IsRefused (line ++ begun.0) load.fault = subst (λ (f : OplFault). IsRefused (line ++ begun.0) f) (sym long.0) (long_is_refused (line ++ begun.0) (omega (arith, long.1, length-append line begun.0))) in
      record { before = r.lines ++ skipped; line = line ++ begun.0; after = begun.1; found = objects_of puts; lines_are = begun.2; number_is = at_number; put = record { each = has_put.each; apart = apart }; why = inl (inl refused) }

  cut_off : pieces 10 text ≡ line ∷ [] → IsUnread new.taken load.fault → StopsFile file new.left load
  cut_off cut why =
      let begun = begun_line cut in
      let count : new.taken ≡ length ((r.text ++ front) ++ text) = omega (arith, took.taken) in
      record {
        before = r.lines ++ skipped;
        line = line ++ begun.0;
        after = begun.1;
        found = objects_of puts;
        lines_are = begun.2;
        number_is = at_number;
        put = record { each = has_put.each; apart = apart };
        why = inr (record {
          given = (r.text ++ front) ++ text;
          begun = line;
          read = took.read;
          cut = ended_then (r.text ++ front) text (r.lines ++ skipped) (line ∷ []) has_ended cut;
          why = subst (λ (n : ℕ). IsUnread n load.fault) count why;
        });
      }

  stop : StopsLine text line new load.fault → StopsFile file new.left load
  stop (inl refused) = at_line refused.0 (inl refused.1)
  stop (inr (cut, inl long)) = too_long cut long
  stop (inr (cut, inr why)) = cut_off cut why

-- the line that comes next isn't read
pub stops : (file : List ℕ) (mid new : LinePlace) (puts : List Put) (load : LoadFault) → HasPut (Some file) mid puts → (mid.is_ended ≡ true → ⊥) → AreApart puts → Stops mid new load → StopsFile file new.left load
stops file mid new puts load r goes_on apart s = stop file mid new puts r goes_on apart load s.front s.skipped s.text s.line s.takes s.before s.number_is s.why

-- the line that comes next deletes an object
pub deletes : (file : List ℕ) (mid new : LinePlace) (puts : List Put) (number : ℕ) (change : Change) (load : LoadFault) → HasPut (Some file) mid puts → (mid.is_ended ≡ true → ⊥) → AreApart puts → Says mid new number change
    → load.line ≡ number → ((line : List ℕ) → Spells line change → IsAtFault (objects_of puts) line load.fault) → StopsFile file new.left load
deletes file mid new puts number change load r goes_on apart s is why = at_line file mid new puts r goes_on apart load s.front s.skipped s.text s.line s.takes s.before (is ∙ s.number_is) s.whole (why s.line s.says)

-- ---- a line that repeats a reference

pub repeat_stops : (file : List ℕ) (mid : LinePlace) (puts before : List Put) (x : Put) (after : List Put) (line : ℕ) → HasPut (Some file) mid puts → puts ≡ before ++ x ∷ after → x.line ≡ line → AreApart before → (AreApart (before ++ x ∷ []) → ⊥)
    → StopsFile file mid.left (record { line = line; fault = record { cause = causes.OutsideModel; byte = 0 } })
repeat_stops file mid puts before x after line r split is apart twice = record {
  before = s.front;
  line = s.line;
  after = s.back ++ tail.0;
  found = objects_of before;
  lines_are = tail.1 ∙ ap (λ ls. ls ++ tail.0) s.lines_are ∙ append_assoc s.front (s.line ∷ s.back) tail.0;
  number_is = sym is ∙ s.number_is;
  put = record { each = s.each; apart = apart };
  why = inl (inr (inr (refl, (x.object, s.says, λ differ. twice (subst (λ os. HasDistinctReferences os) (sym (map-append (λ (p : Put). p.object) before (x ∷ []))) differ)))));
}
  where
    s : StandsAfter r.lines before x
    s = r.put.stand before x after split

    rest : (left : List ℕ) × (mid.left ≡ Some left) × (file ≡ r.text ++ left)
    rest = left_of file mid.left r.text r.takes.read

    tail_of : AreEnded r.text r.lines ⊎ ((pieces 10 r.text ≡ r.lines) × IsEnd mid) → (tail : List (List ℕ)) × (pieces 10 file ≡ r.lines ++ tail)
    tail_of (inl lines) = (pieces 10 rest.0, ap (pieces 10) rest.2 ∙ ended_then r.text rest.0 r.lines (pieces 10 rest.0) lines refl)
    tail_of (inr over) =
        let none : rest.0 ≡ [] = subst IsAtEnd rest.1 over.1.none in
        let whole : file ≡ r.text = rest.2 ∙ ap (λ e. r.text ++ e) none ∙ append-nil r.text in
        ([], ap (pieces 10) whole ∙ over.0 ∙ sym (append-nil r.lines))

    tail : (ls : List (List ℕ)) × (pieces 10 file ≡ r.lines ++ ls)
    tail = tail_of r.lines_are
