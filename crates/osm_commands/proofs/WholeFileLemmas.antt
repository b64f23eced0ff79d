-- Pieces that are read of a file.
use Rattle.std.proofs.Common.{◌≡◌, ◌≤◌, ◌∙◌, ◌+◌, ℕ, suc, List, [], ◌∷◌, ◌++◌, Option, Result, Ok, Err, ap, sym, subst, arith, length, take, append-nil, length-append}
use Rattle.std.specs.Global.{Vec}
use Rattle.std.specs.Io.KnownBytes.{Consumes, Keeps}
use Rattle.std.specs.List.{All, concat, slice_index_or}
use Rattle.std.specs.Result.{IsErrAnd}
use Rattle.std.proofs.KnownBytes.{Consumes-kept, Consumes-nil, Consumes-trans}
use Rattle.std.proofs.lemmas.List.{length-take-le}
use Rattle.std.proofs.lemmas.List.Elements.{All-append}
use Rattle.std.proofs.lemmas.List.Folds.{concat-append}
use Rattle.osm_commands.specs.WholeFiles.{AreRead, BreaksOff, HasReadUpTo, IsPiece, longest_piece, most_reads}
use Rattle.osm_commands.specs.internal.Fronts.{IsFrontRead}
use Rattle.osm_commands.specs.declared.command_fault.CommandFault.{CommandFault}
use Rattle.osm_commands.specs.declared.command_fault.CommandFault.TheVariants.{Memory}

one_piece : (piece : List ℕ) → IsPiece piece → All IsPiece (piece ∷ [])
one_piece piece is = λ k d inside.
    let first : k ≡ 0 = omega arith in
    subst (λ (k : ℕ). IsPiece (slice_index_or (piece ∷ []) k d)) (sym first) is

concat-more : (pieces : List (List ℕ)) (piece : List ℕ) → concat (pieces ++ piece ∷ []) ≡ concat pieces ++ piece
concat-more pieces piece = concat-append pieces (piece ∷ []) ∙ ap (λ l. concat pieces ++ l) (append-nil piece)

-- nothing was read yet
pub read-none : (unread : Option (List ℕ)) → AreRead unread unread []
read-none unread = record { sized = λ k d inside. absurd (omega arith); consumed = Consumes-nil unread }

-- what a read put into a buffer is a piece
pub is_piece : (n : ℕ) (buf : List ℕ) → ¬ (n ≡ 0) → n ≤ length buf → length buf ≤ longest_piece → IsPiece (take n buf)
is_piece n buf some within small = let long = length-take-le n buf within in (omega (arith, some, long), omega (arith, within, small, long))

-- one piece more was read
pub read-more : (unread mid left : Option (List ℕ)) (pieces : List (List ℕ)) (piece : List ℕ) → AreRead unread mid pieces → IsPiece piece → Consumes mid left piece
    → AreRead unread left (pieces ++ piece ∷ [])
read-more unread mid left pieces piece are is consumes = record {
  sized = All-append IsPiece pieces (piece ∷ []) are.sized (one_piece piece is);
  consumed = subst (Consumes unread left) (sym (concat-more pieces piece)) (Consumes-trans unread mid left (concat pieces) piece are.consumed consumes);
}

pub bytes-more : (pieces : List (List ℕ)) (piece old new : List ℕ) → old ≡ concat pieces → new ≡ old ++ piece → new ≡ concat (pieces ++ piece ∷ [])
bytes-more pieces piece old new is more = more ∙ ap (λ l. l ++ piece) is ∙ sym (concat-more pieces piece)

pub one_longer : (pieces : List (List ℕ)) (piece : List ℕ) (reads : ℕ) → length pieces ≡ reads → length (pieces ++ piece ∷ []) ≡ reads + 1
one_longer pieces piece reads number = omega (arith, number, length-append pieces (piece ∷ []))

-- a read that failed, or gave nothing, left what was read
pub read-kept : (unread mid left : Option (List ℕ)) (pieces : List (List ℕ)) → AreRead unread mid pieces → Keeps mid left → AreRead unread left pieces
read-kept unread mid left pieces are kept = record { sized = are.sized; consumed = Consumes-kept unread mid left (concat pieces) are.consumed kept }

pub read-end : (unread mid left : Option (List ℕ)) (pieces : List (List ℕ)) → AreRead unread mid pieces → Consumes mid left [] → AreRead unread left pieces
read-end unread mid left pieces are none = record {
  sized = are.sized;
  consumed = subst (Consumes unread left) (append-nil (concat pieces)) (Consumes-trans unread mid left (concat pieces) [] are.consumed none);
}

-- memory ran out
pub broken_memory : (limit : ℕ) (unread left : Option (List ℕ)) (result : Result (Vec ℕ) CommandFault) (fault : CommandFault) → IsErrAnd result (λ told. told ≡ fault) → fault ≡ Memory
    → HasReadUpTo (limit + 1) unread left (λ pieces. length pieces ≤ most_reads) → IsFrontRead limit unread left result
broken_memory limit unread left (Ok bytes) fault told is read = absurd told
broken_memory limit unread left (Err other) fault told is read = subst (BreaksOff (HasReadUpTo (limit + 1) unread left)) (sym (told ∙ is)) read

-- so many bytes more
pub longer : (pieces : List (List ℕ)) (piece : List ℕ) → length (concat (pieces ++ piece ∷ [])) ≡ length (concat pieces) + length piece
longer pieces piece = ap length (concat-more pieces piece) ∙ length-append (concat pieces) piece

-- each piece has a byte
pub long : (pieces : List (List ℕ)) → All IsPiece pieces → length pieces ≤ length (concat pieces)
long [] all = omega arith
long (piece ∷ pieces) all =
    let first = all 0 piece (omega arith) in
    let later = long pieces (λ k d inside. all (suc k) d (omega (arith, inside))) in
    omega (arith, first.0, later, length-append piece (concat pieces))
