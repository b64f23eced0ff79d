-- What a reader gave, a writer got and a gate holds, from one piece to the next.
use Rattle.std.proofs.Common.{◌≡◌, ◌≤◌, ◌<◌, ◌∙◌, ◌+◌, ◌-◌, ◌⊎◌, ℕ, true, false, List, [], ◌∷◌, ◌++◌, ap, sym, refl, arith, subst, inl, inr, length, take, append-nil, length-append}
use Rattle.std.specs.Prelude.{Option, Some, None, IfSome, Result, Ok, Err}
use Rattle.std.specs.Io.KnownBytes.{Appends, Consumes, IsAtEnd, Keeps}
use Rattle.std.specs.List.{All, concat, slice_index_or}
use Rattle.std.specs.Result.{IsErrAnd}
use Rattle.std.proofs.KnownBytes.{Appends-trans, Consumes-kept, Consumes-nil, Consumes-trans}
use Rattle.std.proofs.lemmas.List.{length-take-le, take_all}
use Rattle.std.proofs.lemmas.List.Elements.{All-append}
use Rattle.std.proofs.lemmas.List.Folds.{concat-append}
use Rattle.std.proofs.Math.Seq.{take-append-add, take-append_seam}
use Rattle.osm_keys.specs.Publications.{Publication}
use Rattle.osm_gate.specs.Connections.{Requests, Responds, RespondsTo, Rest, requests_in, requests_next}
use Rattle.osm_gate.specs.Terms.{within}
use Rattle.osm_gate.specs.Serving.{AreRead, Exchange, HasBegun, HasBrokenOff, HasEnded, HasGivenUp, IsPiece, but_last, is_closed_by, longest_piece, most_reads}
use Rattle.byte_io.specs.Written.{AppendsFront}
use Rattle.osm_gate.specs.declared.gate_fault.GateFault.{GateFault}
use Rattle.osm_gate.specs.declared.gate_fault.GateFault.TheVariants.{Memory, Writer}
use Rattle.osm_gate.proofs.ConnectionLemmas.{cut}
use Rattle.osm_gate.proofs.RespondingLemmas.{responds-append}

-- ---- one more piece

concat-more : (pieces : List (List ℕ)) (piece : List ℕ) → concat (pieces ++ piece ∷ []) ≡ concat pieces ++ piece
concat-more pieces piece = concat-append pieces (piece ∷ []) ∙ ap (λ l. concat pieces ++ l) (append-nil piece)

but_last-more : (pieces : List (List ℕ)) (piece : List ℕ) → but_last (pieces ++ piece ∷ []) ≡ pieces
but_last-more pieces piece =
    let one : length (pieces ++ piece ∷ []) - 1 ≡ length pieces = omega (arith, length-append pieces (piece ∷ [])) in
    ap (λ n. take n (pieces ++ piece ∷ [])) one ∙ take-append_seam pieces (piece ∷ [])

one_piece : (piece : List ℕ) → IsPiece piece → All IsPiece (piece ∷ [])
one_piece piece is = λ k d inside.
    let first : k ≡ 0 = omega arith in
    subst (λ (k : ℕ). IsPiece (slice_index_or (piece ∷ []) k d)) (sym first) is

pub one_longer : (pieces : List (List ℕ)) (piece : List ℕ) (reads : ℕ) → length pieces ≡ reads → length (pieces ++ piece ∷ []) ≡ reads + 1
one_longer pieces piece reads number = omega (arith, number, length-append pieces (piece ∷ []))

-- nothing was read yet
pub read-none : (unread : Option (List ℕ)) → AreRead unread unread []
read-none unread = record {
  sized = λ k d inside. absurd (omega arith);
  few = omega arith;
  still_open = refl;
  consumed = Consumes-nil unread;
}

-- one piece more was read
pub read-more : (unread mid left : Option (List ℕ)) (pieces : List (List ℕ)) (piece : List ℕ) → AreRead unread mid pieces
    → is_closed_by pieces ≡ false → length pieces < most_reads → IsPiece piece → Consumes mid left piece → AreRead unread left (pieces ++ piece ∷ [])
read-more unread mid left pieces piece are opened few is consumes = record {
  sized = All-append IsPiece pieces (piece ∷ []) are.sized (one_piece piece is);
  few = omega (arith, few, length-append pieces (piece ∷ []));
  still_open = ap is_closed_by (but_last-more pieces piece) ∙ opened;
  consumed = subst (Consumes unread left) (sym (concat-more pieces piece)) (Consumes-trans unread mid left (concat pieces) piece are.consumed consumes);
}

-- a read that gave nothing, or failed, left what was read
pub read-kept : (unread mid left : Option (List ℕ)) (pieces : List (List ℕ)) → AreRead unread mid pieces → Keeps mid left → AreRead unread left pieces
read-kept unread mid left pieces are kept = record {
  sized = are.sized;
  few = are.few;
  still_open = are.still_open;
  consumed = Consumes-kept unread mid left (concat pieces) are.consumed kept;
}

pub read-end : (unread mid left : Option (List ℕ)) (pieces : List (List ℕ)) → AreRead unread mid pieces → Consumes mid left [] → AreRead unread left pieces
read-end unread mid left pieces are none = record {
  sized = are.sized;
  few = are.few;
  still_open = are.still_open;
  consumed = subst (Consumes unread left) (append-nil (concat pieces)) (Consumes-trans unread mid left (concat pieces) [] are.consumed none);
}

-- what a read put into a buffer is a piece
pub is_piece : (n : ℕ) (buf : List ℕ) → ¬ (n ≡ 0) → n ≤ length buf → length buf ≤ longest_piece → IsPiece (take n buf)
is_piece n buf some within small = let long = length-take-le n buf within in (omega (arith, some, long), omega (arith, within, small, long))

-- ---- what was written

-- all of a text is a beginning of it
pub all_front : (old new : Option (List ℕ)) (text : List ℕ) → Appends old new text → AppendsFront old new text
all_front old new text h = (length text, omega arith, rw (take_all (length text) text (omega arith)) h)

-- a beginning of what comes after a text
pub more_front : (old mid new : Option (List ℕ)) (x y : List ℕ) → Appends old mid x → AppendsFront mid new y → AppendsFront old new (x ++ y)
more_front old mid new x y h (k, within, begun) =
    (length x + k, omega (arith, within, length-append x y), rw (take-append-add x y k) (Appends-trans old mid new x (take k y) h begun))

-- what a front and a piece ask, by the gate between them
asked_on : (front piece : List ℕ) (gate : Rest) → gate ≡ (requests_in front).rest
    → (requests_in (front ++ piece)).complete ≡ (requests_in front).complete ++ (requests_next gate piece).complete
asked_on front piece gate is =
    ap (λ (s : Requests). s.complete) (cut front piece)
    ∙ ap (λ (r : Rest). (requests_in front).complete ++ (requests_next r piece).complete) (sym is)

pub rest-on : (pieces : List (List ℕ)) (piece : List ℕ) (gate : Rest) → gate ≡ (requests_in (concat pieces)).rest
    → (requests_next gate piece).rest ≡ (requests_in (concat (pieces ++ piece ∷ []))).rest
rest-on pieces piece gate is =
    ap (λ (r : Rest). (requests_next r piece).rest) is
    ∙ sym (ap (λ (s : Requests). s.rest) (cut (concat pieces) piece))
    ∙ ap (λ (bytes : List ℕ). (requests_in bytes).rest) (sym (concat-more pieces piece))

pub responds-on : (p : Publication) (pieces : List (List ℕ)) (piece x y : List ℕ) (gate : Rest) → gate ≡ (requests_in (concat pieces)).rest
    → RespondsTo p (concat pieces) x → Responds p (requests_next gate piece).complete y → RespondsTo p (concat (pieces ++ piece ∷ [])) (x ++ y)
responds-on p pieces piece x y gate is one two =
    let front = concat pieces in
    rw (concat-more pieces piece, asked_on front piece gate is) (responds-append (within None) p (requests_in front).complete (requests_next gate piece).complete x y one two)

-- what was read before one piece more has its responses
pub responds-before : (p : Publication) (pieces : List (List ℕ)) (piece x : List ℕ) → RespondsTo p (concat pieces) x
    → RespondsTo p (concat (but_last (pieces ++ piece ∷ []))) x
responds-before p pieces piece x is = subst (λ (ps : List (List ℕ)). RespondsTo p (concat ps) x) (sym (but_last-more pieces piece)) is

-- ---- how it breaks off

-- a writer fails
pub broken_writer : (p : Publication) (e : Exchange) (result : Result (Unit {0}) GateFault) → IsErrAnd result (λ told. told ≡ Writer)
    → HasBegun p e → HasEnded p e result
broken_writer p e (Ok done) told begun = absurd told
broken_writer p e (Err other) told begun = subst (HasBrokenOff p e) (sym told) begun

-- memory runs out
pub given_up : (p : Publication) (e : Exchange) (fault : GateFault) → (fault ≡ Memory) ⊎ (fault ≡ Writer) → (fault ≡ Memory → HasGivenUp p e) → HasBegun p e
    → HasBrokenOff p e fault
given_up p e fault (inl memory) whole begun = subst (HasBrokenOff p e) (sym memory) (whole memory)
given_up p e fault (inr writer) whole begun = subst (HasBrokenOff p e) (sym writer) begun

-- ---- the loop

-- these pieces were read, one a round, the connection is open and holds their rest, and what was written responds to them,
-- over whatever publication the connection is over
abbrev pub Served : (Publication → Type 0) → Exchange → Rest → ℕ → Type 0
Served over e gate reads = (pieces : List (List ℕ)) × (length pieces ≡ reads) × AreRead e.unread e.left pieces
    × (is_closed_by pieces ≡ false) × (gate ≡ (requests_in (concat pieces)).rest)
    × ((p : Publication) → over p → (text : List ℕ) × RespondsTo p (concat pieces) text × Appends e.before e.after text)

-- after the end of a connection nothing more is asked
closed_on : (front more : List ℕ) → (requests_in front).rest.is_closed ≡ true → (requests_in (front ++ more)).complete ≡ (requests_in front).complete
closed_on front more is =
    asked_on front more (requests_in front).rest refl
    ∙ rw is (append-nil (requests_in front).complete)

-- so what was written responds to the whole input
pub closed_whole : (p : Publication) (a b : Option (List ℕ)) (front text : List ℕ) (old new : Option (List ℕ)) → Consumes a b front
    → (requests_in front).rest.is_closed ≡ true → RespondsTo p front text → Appends old new text
    → IfSome a (λ input. (t : List ℕ) × RespondsTo p input t × Appends old new t)
closed_whole p None b front text old new consumed is_shut responds h = tt
closed_whole p (Some input) None front text old new consumed is_shut responds h = absurd consumed
closed_whole p (Some input) (Some more) front text old new consumed is_shut responds h =
    (text, rw (consumed, closed_on front more is_shut) responds, h)

-- and where the input has ended
pub ended_whole : (p : Publication) (a b : Option (List ℕ)) (front text : List ℕ) (old new : Option (List ℕ)) → Consumes a b front
    → IsAtEnd b → RespondsTo p front text → Appends old new text
    → IfSome a (λ input. (t : List ℕ) × RespondsTo p input t × Appends old new t)
ended_whole p None b front text old new consumed end responds h = tt
ended_whole p (Some input) None front text old new consumed end responds h = absurd consumed
ended_whole p (Some input) (Some more) front text old new consumed end responds h =
    let all : input ≡ front = consumed ∙ ap (λ l. front ++ l) end ∙ append-nil front in
    (text, subst (λ (bytes : List ℕ). RespondsTo p bytes text) (sym all) responds, h)
