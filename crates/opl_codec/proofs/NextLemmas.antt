-- Lines that are passed over, and what comes after them.
use Rattle.std.proofs.Common.{◌≡◌, ℕ, ◌+◌, List, [], ◌∷◌, ◌++◌, length, length-append, arith, Option, None, Some, Result, Ok, Err, ◌⊎◌, inl, inr, true, refl, sym, ◌∙◌, subst, append_assoc, append-nil}
use Rattle.std.specs.List.{AllByRecursion}
use Rattle.std.proofs.KnownBytes.{Consumes-trans}
use Rattle.byte_io.specs.Pieces.{pieces}
use Rattle.opl_codec.specs.LineChanges.{IsSkipped}
use Rattle.opl_codec.specs.LineReads.{AreEnded, Ends, IsEnd, IsWholeLine, LinePlace, Says, Stops, Takes, no_memory}
use Rattle.opl_codec.specs.internal.Buffering.{SkippedTo, StopsNext, TakesLine}
use Rattle.opl_codec.specs.declared.change.Change.{Change}
use Rattle.opl_codec.specs.declared.fault.LoadFault.{LoadFault}
use Rattle.opl_codec.specs.declared.line_buffer.Step.{Step}
use Rattle.opl_codec.specs.declared.line_buffer.Step.TheVariants as steps
use Rattle.opl_codec.proofs.PieceLemmas.{pieces_join}

pub takes_more : (a b c : LinePlace) (s t : List ℕ) → Takes a b s → Takes b c t → Takes a c (s ++ t)
takes_more a b c s t h k = record {
  read = Consumes-trans _ _ _ s t h.read k.read;
  taken = omega (arith, h.taken, k.taken, length-append s t);
}

all_more : (xs : List (List ℕ)) (line : List ℕ) → AllByRecursion IsSkipped xs → IsSkipped line → AllByRecursion IsSkipped (xs ++ line ∷ [])
all_more [] line h k = (k, tt)
all_more (x ∷ xs) line h k = (h.0, all_more xs line h.1 k)

-- a line after others
pub line_after : (front text : List ℕ) (lines : List (List ℕ)) (line : List ℕ) (rest : List (List ℕ)) → AreEnded front lines → pieces 10 text ≡ line ∷ rest → pieces 10 (front ++ text) ≡ (lines ++ line ∷ []) ++ rest
line_after front text lines line rest ended here = pieces_join 10 front text lines [] line rest ended here ∙ sym (append_assoc lines (line ∷ []) rest)

-- a line isn't the end
pub not_end : (r : Result Step LoadFault) (step : Step) (found : Option Change) → r ≡ Ok step → step ≡ steps.Line found → r ≡ Ok steps.End → ⊥
not_end r step found e f g = cc

-- nor is what is refused
pub not_end_refused : (r : Result Step LoadFault) (load : LoadFault) → r ≡ Err load → r ≡ Ok steps.End → ⊥
not_end_refused r load e f = cc

pub skip_more : (old mid new : LinePlace) (kept comment : List ℕ) (come : SkippedTo old mid) → (mid.is_ended ≡ true → ⊥) → TakesLine mid new kept comment None → SkippedTo old new
skip_more old mid new kept comment come goes_on step = go come.lines step.whole
  where
    counted : AreEnded come.text come.skipped → new.lines ≡ old.lines + length (come.skipped ++ step.line ∷ [])
    counted ended = omega (arith, step.counted, come.counted ended, length-append come.skipped (step.line ∷ []))

    go : AreEnded come.text come.skipped ⊎ ((pieces 10 come.text ≡ come.skipped) × IsEnd mid) → IsWholeLine step.text step.line new → SkippedTo old new
    go (inr over) whole = absurd (goes_on over.1.found)
    go (inl ended) (inl whole) = record {
      text = come.text ++ step.text;
      skipped = come.skipped ++ step.line ∷ [];
      takes = takes_more old mid new come.text step.text come.takes step.takes;
      lines = inl (line_after come.text step.text come.skipped step.line ([] ∷ []) ended whole);
      none = all_more come.skipped step.line come.none step.says;
      counted = λ _. counted ended;
    }
    go (inl ended) (inr whole) = record {
      text = come.text ++ step.text;
      skipped = come.skipped ++ step.line ∷ [];
      takes = takes_more old mid new come.text step.text come.takes step.takes;
      lines = inr (line_after come.text step.text come.skipped step.line [] ended whole.0 ∙ append-nil (come.skipped ++ step.line ∷ []), whole.1);
      none = all_more come.skipped step.line come.none step.says;
      counted = λ _. counted ended;
    }

pub says_next : (old mid new : LinePlace) (kept comment : List ℕ) (change : Change) (come : SkippedTo old mid) → (mid.is_ended ≡ true → ⊥) → TakesLine mid new kept comment (Some change) → Says old new new.lines change
says_next old mid new kept comment change come goes_on step = go come.lines
  where
    go : AreEnded come.text come.skipped ⊎ ((pieces 10 come.text ≡ come.skipped) × IsEnd mid) → Says old new new.lines change
    go (inr over) = absurd (goes_on over.1.found)
    go (inl ended) = record {
      front = come.text;
      skipped = come.skipped;
      text = step.text;
      line = step.line;
      takes = takes_more old mid new come.text step.text come.takes step.takes;
      before = record { ended = ended; none = come.none };
      whole = step.whole;
      says = step.says;
      number_is = omega (arith, step.counted, come.counted ended);
      counted = refl;
    }

pub ends_next : (old mid new : LinePlace) (come : SkippedTo old mid) → Takes mid new [] → IsEnd new → Ends old new
ends_next old mid new come takes end = record {
  text = come.text;
  skipped = come.skipped;
  takes = subst (λ (t : List ℕ). Takes old new t) (append-nil come.text) (takes_more old mid new come.text [] come.takes takes);
  lines = go come.lines;
  none = come.none;
  end = end;
}
  where
    go : AreEnded come.text come.skipped ⊎ ((pieces 10 come.text ≡ come.skipped) × IsEnd mid) → AreEnded come.text come.skipped ⊎ (pieces 10 come.text ≡ come.skipped)
    go (inl ended) = inl ended
    go (inr over) = inr over.0

pub stops_next : (old mid new : LinePlace) (load : LoadFault) (come : SkippedTo old mid) → (mid.is_ended ≡ true → ⊥) → (load ≡ no_memory) ⊎ StopsNext mid new load → (load ≡ no_memory) ⊎ Stops old new load
stops_next old mid new load come goes_on (inl memory) = inl memory
stops_next old mid new load come goes_on (inr stop) = inr (go come.lines)
  where
    go : AreEnded come.text come.skipped ⊎ ((pieces 10 come.text ≡ come.skipped) × IsEnd mid) → Stops old new load
    go (inr over) = absurd (goes_on over.1.found)
    go (inl ended) = record {
      front = come.text;
      skipped = come.skipped;
      text = stop.text;
      line = stop.line;
      takes = takes_more old mid new come.text stop.text come.takes stop.takes;
      before = record { ended = ended; none = come.none };
      number_is = omega (arith, stop.number_is, come.counted ended);
      why = stop.why;
    }
