-- One line more of a reader, or why there is none.
use Rattle.std.proofs.Common.{◌≡◌, ℕ, suc, add-one, ◌+◌, ◌-◌, ◌≤◌, List, [], ◌∷◌, ◌++◌, length, length-append, take, drop, arith, Option, Result, Ok, Err, IfOk, IfErr, ◌⊎◌, inl, inr, Bool, true, false, refl, sym, ◌∙◌, ap, subst, append_assoc, append-nil}
use Rattle.std.specs.Global.{Vec}
use Rattle.std.specs.Io.KnownBytes.{Consumes, IsAtEnd, Keeps, prepend_known}
use Rattle.std.proofs.KnownBytes.{Consumes-trans}
use Rattle.byte_io.specs.Pieces.{pieces}
use Rattle.opl_codec.specs.LineReads.{IsRefused, IsTooLong, IsUnread, Takes, no_memory}
use Rattle.opl_codec.specs.LineReaders.{place, unread}
use Rattle.std.specs.Prelude.{OnOk}
use Rattle.opl_codec.specs.internal.Buffering.{IsStep, SaysOrSkipped, comment_after}
use Rattle.opl_codec.specs.internal.Loading.{IsTold}
use Rattle.opl_codec.specs.declared.change.Change.{Change}
use Rattle.opl_codec.specs.declared.fault.LoadFault.{LoadFault}
use Rattle.opl_codec.specs.declared.line_buffer.LineBuffer.{LineBuffer}
use Rattle.opl_codec.specs.declared.line_buffer.Step.{Step}
use Rattle.opl_codec.specs.declared.line_buffer.Step.TheVariants as steps
use Rattle.opl_codec.proofs.PieceLemmas.{pieces_join}
use Rattle.opl_codec.proofs.LineLemmas.{with_end, buffer_taken, buffer_kept, buffer_ends}

drop_more : (line rest : List ℕ) (c : ℕ) → drop (suc (length line)) (line ++ c ∷ rest) ≡ rest
drop_more [] rest c = refl
drop_more (x ∷ line) rest c = drop_more line rest c

pub drop_past : (line rest : List ℕ) (c : ℕ) → drop (length line + 1) (line ++ c ∷ rest) ≡ rest
drop_past line rest c = rw add-one (drop_more line rest c)

pub take_front : (line rest : List ℕ) → take (length line) (line ++ rest) ≡ line
take_front [] rest = refl
take_front (x ∷ line) rest = ap (λ l. x ∷ l) (take_front line rest)

-- from the first state the reader and the buffer have come to the second, and the line that is being
-- read has what is pending
pub record Comes (k0 k : Option (List ℕ)) (b0 b : LineBuffer) : Type 0 where
  pub read : Consumes (prepend_known (unread b0) k0) (prepend_known (unread b) k) b.pending.items
  pub line : pieces 10 b.pending.items ≡ b.pending.items ∷ []
  pub few : length (unread b0) ≤ b0.total
  pub fits : length (unread b) ≤ b.total
  pub taken : b.total + length (unread b0) ≡ b0.total + length b.pending.items + length (unread b)
  pub lines : b.lines ≡ b0.lines
  pub comment : b.comment ≡ b0.comment

-- the comment that is kept after a line, where nothing was kept since the first state
next_comment : (b0 b : LineBuffer) (comment : List ℕ) (text line : List ℕ) → b.comment ≡ b0.comment → text ≡ line → comment ≡ comment_after b.comment.items text → comment ≡ comment_after b0.comment.items line
next_comment b0 b comment text line kept same is = is ∙ ap (λ (v : Vec ℕ). comment_after v.items text) kept ∙ ap (comment_after b0.comment.items) same

module _ (k0 k : Option (List ℕ)) (b0 b n : LineBuffer) (h : Comes k0 k b0 b) where
  -- the line that ends in the unread bytes
  ended_takes : (line rest : List ℕ) (len : ℕ) → unread b ≡ line ++ 10 ∷ rest → len ≡ length line → unread n ≡ drop (len + 1) (unread b) → n.total ≡ b.total
      → Takes (place k0 b0) (place k n) (b.pending.items ++ (line ++ 10 ∷ []))
  ended_takes line rest len cut long is same =
      let left : unread n ≡ rest = is ∙ ap (λ u. drop (len + 1) u) cut ∙ ap (λ m. drop (m + 1) (line ++ 10 ∷ rest)) long ∙ drop_past line rest 10 in
      let whole : unread b ≡ (line ++ 10 ∷ []) ++ unread n = cut ∙ sym (append_assoc line (10 ∷ []) rest) ∙ ap (λ r. (line ++ 10 ∷ []) ++ r) (sym left) in
      record {
        read = Consumes-trans _ _ _ b.pending.items (line ++ 10 ∷ []) h.read (buffer_taken k (unread b) (line ++ 10 ∷ []) (unread n) whole);
        taken = omega (arith, h.taken, h.few, h.fits, same, ap length whole, length-append (line ++ 10 ∷ []) (unread n), length-append b.pending.items (line ++ 10 ∷ []));
      }

  ended_line : (line : List ℕ) → pieces 10 line ≡ line ∷ [] → pieces 10 (b.pending.items ++ (line ++ 10 ∷ [])) ≡ (b.pending.items ++ line) ∷ [] ∷ []
  ended_line line one = pieces_join 10 b.pending.items (line ++ 10 ∷ []) [] b.pending.items line ([] ∷ []) h.line (with_end 10 line one refl)

  same_line : (line rest : List ℕ) (len : ℕ) → unread b ≡ line ++ 10 ∷ rest → len ≡ length line → b.pending.items ++ take len (unread b) ≡ b.pending.items ++ line
  same_line line rest len cut long = ap (λ l. b.pending.items ++ l) (ap (λ u. take len u) cut ∙ ap (λ m. take m (line ++ 10 ∷ rest)) long ∙ take_front line (10 ∷ rest))

  pub step_ended : (line rest : List ℕ) (len : ℕ) (r : Result Step LoadFault)
      → unread b ≡ line ++ 10 ∷ rest → len ≡ length line → pieces 10 line ≡ line ∷ [] → unread n ≡ drop (len + 1) (unread b) → n.total ≡ b.total → n.lines ≡ b.lines + 1
      → IfOk r (λ step. (found : Option Change) × (step ≡ steps.Line found) × SaysOrSkipped (b.pending.items ++ take len (unread b)) found)
      → OnOk r (n.comment.items ≡ comment_after b.comment.items (b.pending.items ++ take len (unread b)))
      → IfErr r (λ load. (load ≡ no_memory) ⊎ ((load.line ≡ b.lines + 1) × IsRefused (b.pending.items ++ take len (unread b)) load.fault))
      → IsStep (place k0 b0) (place k n) b0.comment.items n.comment.items r
  step_ended line rest len (Ok step) cut long one is same counted said kept fault =
      subst (λ (s : Step). IsStep (place k0 b0) (place k n) b0.comment.items n.comment.items (Ok s)) (sym said.1) (record {
        text = b.pending.items ++ (line ++ 10 ∷ []);
        line = b.pending.items ++ line;
        takes = ended_takes line rest len cut long is same;
        whole = inl (ended_line line one);
        says = subst (λ (l : List ℕ). SaysOrSkipped l said.0) (same_line line rest len cut long) said.2;
        counted = omega (arith, counted, h.lines);
        comment_is = next_comment b0 b n.comment.items _ _ h.comment (same_line line rest len cut long) kept;
      })
  step_ended line rest len (Err load) cut long one is same counted said kept (inl memory) = inl memory
  step_ended line rest len (Err load) cut long one is same counted said kept (inr why) = inr (record {
    text = b.pending.items ++ (line ++ 10 ∷ []);
    line = b.pending.items ++ line;
    takes = ended_takes line rest len cut long is same;
    number_is = omega (arith, why.0, h.lines);
    why = inl (inl (ended_line line one), subst (λ (l : List ℕ). IsRefused l load.fault) (same_line line rest len cut long) why.1);
  })

  -- the last line, which lacks its LF
  last_takes : unread b ≡ [] → unread n ≡ unread b → n.total ≡ b.total → Takes (place k0 b0) (place k n) b.pending.items
  last_takes none is same = record {
    read = subst (λ (u : List ℕ). Consumes (prepend_known (unread b0) k0) (prepend_known u k) b.pending.items) (sym is) h.read;
    taken = omega (arith, h.taken, h.few, h.fits, same, ap length is, ap length none);
  }

  last_step : (step : Step) → unread b ≡ [] → IsAtEnd k → unread n ≡ unread b → n.total ≡ b.total → n.is_ended ≡ true
      → ((step ≡ steps.End) × (b.pending.items ≡ []) × (n.lines ≡ b.lines)) ⊎ ((found : Option Change) × (step ≡ steps.Line found) × SaysOrSkipped b.pending.items found × (n.lines ≡ b.lines + 1))
      → n.comment.items ≡ comment_after b.comment.items b.pending.items
      → IsStep (place k0 b0) (place k n) b0.comment.items n.comment.items (Ok step)
  last_step step none end is same stays (inl over) kept =
      subst (λ (s : Step). IsStep (place k0 b0) (place k n) b0.comment.items n.comment.items (Ok s)) (sym over.0) (
        subst (λ (t : List ℕ). Takes (place k0 b0) (place k n) t) over.1 (last_takes none is same),
        record { found = stays; none = buffer_ends k (unread n) (is ∙ none) end },
        over.2 ∙ h.lines,
        next_comment b0 b n.comment.items _ _ h.comment over.1 kept,
      )
  last_step step none end is same stays (inr said) kept =
      subst (λ (s : Step). IsStep (place k0 b0) (place k n) b0.comment.items n.comment.items (Ok s)) (sym said.1) (record {
        text = b.pending.items;
        line = b.pending.items;
        takes = last_takes none is same;
        whole = inr (h.line, record { found = stays; none = buffer_ends k (unread n) (is ∙ none) end });
        says = said.2;
        counted = omega (arith, said.3, h.lines);
        comment_is = next_comment b0 b n.comment.items b.pending.items b.pending.items h.comment refl kept;
      })

  pub step_last : (r : Result Step LoadFault) → unread b ≡ [] → IsAtEnd k → unread n ≡ unread b → n.total ≡ b.total → n.is_ended ≡ true
      → IfOk r (λ step. ((step ≡ steps.End) × (b.pending.items ≡ []) × (n.lines ≡ b.lines)) ⊎ ((found : Option Change) × (step ≡ steps.Line found) × SaysOrSkipped b.pending.items found × (n.lines ≡ b.lines + 1)))
      → OnOk r (n.comment.items ≡ comment_after b.comment.items b.pending.items)
      → IfErr r (λ load. (load ≡ no_memory) ⊎ ((load.line ≡ b.lines + 1) × IsRefused b.pending.items load.fault))
      → IsStep (place k0 b0) (place k n) b0.comment.items n.comment.items r
  step_last (Ok step) none end is same stays said kept fault = last_step step none end is same stays said kept
  step_last (Err load) none end is same stays said kept (inl memory) = inl memory
  step_last (Err load) none end is same stays said kept (inr why) = inr (record {
    text = b.pending.items;
    line = b.pending.items;
    takes = last_takes none is same;
    number_is = omega (arith, why.0, h.lines);
    why = inl (inr (h.line, record { found = stays; none = buffer_ends k (unread n) (is ∙ none) end }), why.1);
  })

  -- the unread bytes are kept as the beginning of the line
  pub kept_read : unread n ≡ [] → Consumes (prepend_known (unread b0) k0) (prepend_known (unread n) k) (b.pending.items ++ unread b)
  kept_read none = Consumes-trans _ _ _ b.pending.items (unread b) h.read (buffer_taken k (unread b) (unread b) (unread n) (sym (append-nil (unread b)) ∙ ap (λ u. unread b ++ u) (sym none)))

  pub kept_line : pieces 10 (unread b) ≡ unread b ∷ [] → pieces 10 (b.pending.items ++ unread b) ≡ (b.pending.items ++ unread b) ∷ []
  kept_line one = pieces_join 10 b.pending.items (unread b) [] b.pending.items (unread b) [] h.line one

  pub step_long : (load : LoadFault) → pieces 10 (unread b) ≡ unread b ∷ [] → unread n ≡ [] → n.total ≡ b.total
      → (load ≡ no_memory) ⊎ ((load.line ≡ b.lines + 1) × IsTooLong (b.pending.items ++ unread b) load.fault)
      → IsStep (place k0 b0) (place k n) b0.comment.items n.comment.items (Err load)
  step_long load one none same (inl memory) = inl memory
  step_long load one none same (inr why) = inr (record {
    text = b.pending.items ++ unread b;
    line = b.pending.items ++ unread b;
    takes = record { read = kept_read none; taken = omega (arith, h.taken, h.few, h.fits, same, ap length none, length-append b.pending.items (unread b)) };
    number_is = omega (arith, why.0, h.lines);
    why = inr (kept_line one, inl why.1);
  })

-- the reader gave no more
pub step_unread : (k0 k m : Option (List ℕ)) (b0 b n : LineBuffer) (h : Comes k0 k b0 b) (load : LoadFault)
    → unread b ≡ [] → unread n ≡ [] → Keeps k m → n.total ≡ b.total → (load.line ≡ b.lines + 1) × IsUnread b.total load.fault
    → IsStep (place k0 b0) (place m n) b0.comment.items n.comment.items (Err load)
step_unread k0 k m b0 b n h load none still keeps same why = inr (record {
  text = b.pending.items;
  line = b.pending.items;
  takes = record {
    read = subst (λ (t : List ℕ). Consumes (prepend_known (unread b0) k0) (prepend_known (unread n) m) t) (append-nil b.pending.items)
        (Consumes-trans _ _ _ b.pending.items [] h.read (buffer_kept k m (unread b) (unread n) none still keeps));
    taken = omega (arith, h.taken, h.few, h.fits, same, ap length none, ap length still);
  };
  number_is = omega (arith, why.0, h.lines);
  why = inr (h.line, inr (subst (λ (t : ℕ). IsUnread t load.fault) (let t : b.total ≡ n.total - length (unread n) = omega (arith, same, ap length still) in t) why.1));
})

-- a refusal that is told of any buffer is told of this one
pub told_of : (r : Result Step LoadFault) (b : LineBuffer) → IfErr r (λ load. (buffer : LineBuffer) → IsTold buffer load) → IfErr r (IsTold b)
told_of (Ok step) b told = tt
told_of (Err load) b told = told b

-- what the last line says, which has no end
pub last_said : (r : Result Step LoadFault) (line : List ℕ) (lines : ℕ) → IfOk r (λ step. (found : Option Change) × (step ≡ steps.Line found) × SaysOrSkipped (line ++ []) found)
    → IfOk r (λ step. ((step ≡ steps.End) × (line ≡ []) × (lines + 1 ≡ lines)) ⊎ ((found : Option Change) × (step ≡ steps.Line found) × SaysOrSkipped line found × (lines + 1 ≡ lines + 1)))
last_said (Ok step) line lines said = inr (said.0, said.1, subst (λ (text : List ℕ). SaysOrSkipped text said.0) (append-nil line) said.2, refl)
last_said (Err load) line lines said = tt

-- a reader that goes on hasn't ended
pub not_both : (b : Bool) → b ≡ true → b ≡ false → ⊥
not_both b e f = cc
