-- A change file that is read line by line: what its lines say, and the comment that it ends with.
use Rattle.std.proofs.Common.{◌≡◌, ◌⊎◌, inl, inr, ℕ, List, [], ◌∷◌, ◌++◌, length-append, arith, Option, None, Some, IfSome, MatchOption, Bool, true, false, refl, sym, ◌∙◌, ap, subst, append-nil}
use Rattle.std.specs.Io.KnownBytes.{Consumes, prepend_known}
use Rattle.std.proofs.KnownBytes.{Consumes-nil, Consumes-whole, prepend_known-nil}
use Rattle.std.proofs.lemmas.List.{reverse-append}
use Rattle.std.specs.Global.{Vec}
use Rattle.std.specs.List.{find}
use Rattle.std.specs.Prelude.{if◌then◌else◌, option_and_then, option_map, reverse, unwrap_or}
use Rattle.byte_io.specs.Pieces.{pieces}
use Rattle.opl_codec.specs.Files.{HoldsChangeFile, HoldsChanges, SpellsChanges, StopsChanges, if_comment, last_line}
use Rattle.opl_codec.specs.LineChanges.{IsSkipped, Spells}
use Rattle.opl_codec.specs.LineFields.{is_comment, is_some_text}
use Rattle.opl_codec.specs.LineReads.{AreEnded, IsEnd, IsWholeLine, LinePlace, Stops, Takes, no_memory}
use Rattle.opl_codec.specs.LineReaders.{place, unread}
use Rattle.opl_codec.specs.internal.Buffering.{IsKept, StopsNext, TakesLine, comment_after}
use Rattle.opl_codec.specs.internal.Loading.{IsTold, ReadsAll, ReadsTo, SpellsFile, comment_in, start}
use Rattle.opl_codec.specs.declared.change.Change.{Change}
use Rattle.opl_codec.specs.declared.change_file.ChangeFile.{ChangeFile}
use Rattle.opl_codec.specs.declared.fault.LoadFault.{LoadFault}
use Rattle.opl_codec.specs.declared.line_buffer.LineBuffer.{LineBuffer}
use Rattle.opl_codec.proofs.LongLines.{empty_is_skipped}
use Rattle.opl_codec.proofs.NextLemmas.{line_after, takes_more}
use Rattle.opl_codec.proofs.ReadFiles.{change_more, change_refused, changes_skipped}

-- ---- the comment that comes last

last_of : (lines : List (List ℕ)) (line : List ℕ) → last_line (lines ++ line ∷ []) ≡ find is_some_text (line ∷ reverse lines)
last_of lines line = ap (find is_some_text) (reverse-append lines (line ∷ []))

if_comment_or : (line : List ℕ) (b : Bool) → is_comment line ≡ b → unwrap_or (if_comment line) [] ≡ (if b then line else [])
if_comment_or line true is = ap (λ b. unwrap_or (if b then Some line else None) []) is
if_comment_or line false is = ap (λ b. unwrap_or (if b then Some line else None) []) is

-- after one line more
pub comment_more : (lines : List (List ℕ)) (line : List ℕ) → comment_in (lines ++ line ∷ []) ≡ comment_after (comment_in lines) line
comment_more lines [] = ap (λ o. unwrap_or (option_and_then if_comment o) []) (last_of lines [])
comment_more lines (byte ∷ bytes) =
    ap (λ o. unwrap_or (option_and_then if_comment o) []) (last_of lines (byte ∷ bytes))
    ∙ if_comment_or (byte ∷ bytes) (is_comment (byte ∷ bytes)) refl

-- ---- lines that were read

not_ended : (mid : LinePlace) (text : List ℕ) (lines : List (List ℕ)) → AreEnded text lines ⊎ ((pieces 10 text ≡ lines) × IsEnd mid) → (mid.is_ended ≡ true → ⊥) → AreEnded text lines
not_ended mid text lines (inl ended) goes_on = ended
not_ended mid text lines (inr over) goes_on = absurd (goes_on over.1.found)

-- nothing was read yet
pub file_starts : (known : Option (List ℕ)) (b : LineBuffer) → (b.lines ≡ 0) × (b.total ≡ 0) × (b.is_ended ≡ false) → unread b ≡ [] → b.comment.items ≡ []
    → ReadsTo SpellsFile (start known) (place known b) ([], b.comment.items)
file_starts known b fresh none no_comment = record {
  text = [];
  lines = [];
  takes = record {
    read = subst (λ k. Consumes known k []) (sym (ap (λ u. prepend_known u known) none ∙ prepend_known-nil known)) (Consumes-nil known);
    taken = omega (arith, fresh.1);
  };
  lines_are = inl refl;
  counted = fresh.0;
  put = record { changes = tt; comment = no_comment };
}

-- the changes after a line
said_more : (lines : List (List ℕ)) (line : List ℕ) (found : Option Change) (changes more : List Change) → SpellsChanges lines changes → MatchOption found (IsSkipped line) (Spells line)
    → MatchOption found (more ≡ changes) (λ change. more ≡ changes ++ change ∷ []) → SpellsChanges (lines ++ line ∷ []) more
said_more lines line None changes more put says is = subst (λ (all : List Change). SpellsChanges (lines ++ line ∷ []) all) (sym is) (changes_skipped lines (line ∷ []) changes put (says, tt))
said_more lines line (Some change) changes more put says is = subst (λ (all : List Change). SpellsChanges (lines ++ line ∷ []) all) (sym is) (change_more changes change lines line put says)

-- a line more was read
pub reads_line : (old mid new : LinePlace) (kept comment : List ℕ) (found : Option Change) (changes more : List Change) → ReadsTo SpellsFile old mid (changes, kept) → (mid.is_ended ≡ true → ⊥)
    → TakesLine mid new kept comment found → MatchOption found (more ≡ changes) (λ change. more ≡ changes ++ change ∷ []) → ReadsTo SpellsFile old new (more, comment)
reads_line old mid new kept comment found changes more r goes_on s is = record {
  text = r.text ++ s.text;
  lines = r.lines ++ s.line ∷ [];
  takes = takes_more old mid new r.text s.text r.takes s.takes;
  lines_are = whole s.whole;
  counted = omega (arith, r.counted, s.counted, length-append r.lines (s.line ∷ []));
  put = record {
    changes = said_more r.lines s.line found changes more r.put.changes s.says is;
    comment = s.comment_is ∙ ap (λ (c : List ℕ). comment_after c s.line) r.put.comment ∙ sym (comment_more r.lines s.line);
  };
}
  where
    ended : AreEnded r.text r.lines
    ended = not_ended mid r.text r.lines r.lines_are goes_on

    whole : IsWholeLine s.text s.line new → AreEnded (r.text ++ s.text) (r.lines ++ s.line ∷ []) ⊎ ((pieces 10 (r.text ++ s.text) ≡ r.lines ++ s.line ∷ []) × IsEnd new)
    whole (inl cut) = inl (line_after r.text s.text r.lines s.line ([] ∷ []) ended cut)
    whole (inr last) = inr (line_after r.text s.text r.lines s.line [] ended last.0 ∙ append-nil (r.lines ++ s.line ∷ []), last.1)

-- the empty piece after the last LF says nothing
file_ends : (lines : List (List ℕ)) (found : List Change × List ℕ) → SpellsFile lines found → SpellsFile (lines ++ [] ∷ []) found
file_ends lines found put = record {
  changes = changes_skipped lines ([] ∷ []) found.0 put.changes (empty_is_skipped, tt);
  comment = put.comment ∙ sym (comment_more lines []);
}

-- the end was read
pub file_read_all : (known : Option (List ℕ)) (mid new : LinePlace) (found : List Change × List ℕ) → ReadsTo SpellsFile (start known) mid found → Takes mid new [] → IsEnd new → ReadsAll SpellsFile known found
file_read_all known mid new found r takes end = record {
  left = new.left;
  text = r.text ++ [];
  read = (takes_more (start known) mid new r.text [] r.takes takes).read;
  end = end.none;
  put = subst (λ (text : List ℕ). SpellsFile (pieces 10 text) found) (sym (append-nil r.text)) (go r.lines_are);
}
  where
    go : AreEnded r.text r.lines ⊎ ((pieces 10 r.text ≡ r.lines) × IsEnd mid) → SpellsFile (pieces 10 r.text) found
    go (inl ended) = subst (λ (ls : List (List ℕ)). SpellsFile ls found) (sym ended) (file_ends r.lines found r.put)
    go (inr over) = subst (λ (ls : List (List ℕ)). SpellsFile ls found) (sym over.0) r.put

-- ---- the line at which the file stops

stops_here : (old new : LinePlace) (load : LoadFault) → (load ≡ no_memory) ⊎ StopsNext old new load → (load ≡ no_memory) ⊎ Stops old new load
stops_here old new load (inl memory) = inl memory
stops_here old new load (inr s) = inr (record {
  front = [];
  skipped = [];
  text = s.text;
  line = s.line;
  takes = s.takes;
  before = record { ended = refl; none = tt };
  number_is = omega (arith, s.number_is);
  why = s.why;
})

pub file_refused : (known left : Option (List ℕ)) (b : LineBuffer) (mid : LinePlace) (load : LoadFault) (found : List Change × List ℕ) → ReadsTo SpellsFile (start known) mid found → (mid.is_ended ≡ true → ⊥)
    → (load ≡ no_memory) ⊎ StopsNext mid (place left b) load → IsTold b load → IfSome known (λ file. (load ≡ no_memory) ⊎ StopsChanges file left load)
file_refused known left b mid load found r goes_on why told =
    change_refused known left b mid load found.0
    (record { text = r.text; lines = r.lines; takes = r.takes; lines_are = r.lines_are; counted = r.counted; put = r.put.changes })
    goes_on (stops_here mid (place left b) load why) told

-- ---- what the file holds

not_empty : (line : List ℕ) → is_comment line ≡ true → line ≡ [] → ⊥
not_empty [] comment none = let e : false ≡ true = comment in cc
not_empty (byte ∷ bytes) comment none = cc

-- what is kept of a line is told, where there is something
one_told : (line : List ℕ) (b : Bool) → is_comment line ≡ b → (kept : Option (Vec ℕ)) (comment : List ℕ) → comment ≡ unwrap_or (if b then Some line else None) [] → IsKept comment kept
    → (if b then Some line else None) ≡ option_map (λ (text : Vec ℕ). text.items) kept
one_told line true is None comment same kept = absurd (not_empty line is (sym same ∙ kept))
one_told line true is (Some text) comment same kept = ap (λ (t : List ℕ). Some t) (sym (kept.0 ∙ same))
one_told line false is None comment same kept = refl
one_told line false is (Some text) comment same kept = absurd (kept.1 same)

comment_told : (last : Option (List ℕ)) (comment : List ℕ) (kept : Option (Vec ℕ)) → comment ≡ unwrap_or (option_and_then if_comment last) [] → IsKept comment kept
    → option_and_then if_comment last ≡ option_map (λ (text : Vec ℕ). text.items) kept
comment_told None comment None same kept = refl
comment_told None comment (Some text) same kept = absurd (kept.1 same)
comment_told (Some line) comment kept same is = one_told line (is_comment line) refl kept comment same is

file_held : (text : List ℕ) (found : ChangeFile) (comment : List ℕ) → SpellsFile (pieces 10 text) (found.changes.items, comment) → IsKept comment found.end_comment → HoldsChangeFile text found
file_held text found comment put kept = record {
  changes = put.changes;
  comment = comment_told (last_line (pieces 10 text)) comment found.end_comment put.comment kept;
}

-- all bytes of a reader were read
pub change_file_held : (known : Option (List ℕ)) (found : ChangeFile) → ((comment : List ℕ) × ReadsAll SpellsFile known (found.changes.items, comment) × IsKept comment found.end_comment)
    → (file : List ℕ) × HoldsChangeFile file found
change_file_held known found (comment, all, kept) = (all.text, file_held all.text found comment all.put kept)

pub change_file_known : (known : Option (List ℕ)) (found : ChangeFile) → ((comment : List ℕ) × ReadsAll SpellsFile known (found.changes.items, comment) × IsKept comment found.end_comment)
    → IfSome known (λ file. HoldsChangeFile file found)
change_file_known known found (comment, all, kept) = Consumes-whole known all.left all.text (λ file. HoldsChangeFile file found) all.read all.end (file_held all.text found comment all.put kept)

-- the changes alone
pub changes_of_file : (known : Option (List ℕ)) (found : ChangeFile) → IfSome known (λ file. HoldsChangeFile file found) → IfSome known (λ file. HoldsChanges file found.changes.items)
changes_of_file None found holds = tt
changes_of_file (Some file) found holds = holds.changes
