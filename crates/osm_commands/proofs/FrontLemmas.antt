-- The front of a file, a whole file, one within a limit, and a query's.
use Rattle.std.proofs.Common.{◌≡◌, ◌≤◌, ◌<◌, ◌⊎◌, ◌∙◌, ◌+◌, ◌*◌, ◌^◌, ℕ, suc, List, [], ◌∷◌, ◌++◌, Option, None, Some, IfSome, Result, Ok, Err, IfErr, IfOk, OnOk, ap, sym, subst, refl, inl, inr, arith, length, append-nil, length-append}
use Rattle.std.specs.Prelude.{unwrap_or}
use Rattle.std.specs.Global.{Vec}
use Rattle.std.specs.Io.KnownBytes.{Consumes, IsAtEnd}
use Rattle.std.specs.List.{All, concat}
use Rattle.std.proofs.KnownBytes.{Consumes-nil}
use Rattle.osm_commands.specs.Files.{FitsWithin, IsUnread, IsUnreadOrTooLarge}
use Rattle.osm_commands.specs.WholeFiles.{AreRead, BreaksOff, HasRead, HasReadUpTo, IsLimitedRead, IsPiece, IsQueryRead, IsReadSo, IsReadWithin, IsTooLarge, ReadsAs, TakesAtMost, TakesWithin, longest_query, most_reads}
use Rattle.osm_commands.specs.internal.Fronts.{IsFrontRead, IsLimited}
use Rattle.osm_commands.specs.declared.command_fault.CommandFault.{CommandFault}
use Rattle.osm_commands.specs.declared.command_fault.CommandFault.TheVariants.{Opl, Query, Endless, TooLarge, Work, Clash, TooMany, Apply, Memory, Device}
use Rattle.osm_commands.proofs.WholeFileLemmas.{long}

-- as if there were no limit
abbrev pub no_limit : ℕ
no_limit = 18446744073709551615

-- ---- pieces

-- each piece has so many bytes at most
short : (pieces : List (List ℕ)) → All IsPiece pieces → length (concat pieces) ≤ 65536 * length pieces
short [] all = omega arith
short (piece ∷ pieces) all =
    let first = all 0 piece (omega arith) in
    let later = short pieces (λ k d inside. all (suc k) d (omega (arith, inside))) in
    omega (arith, first.1, later, length-append piece (concat pieces))

-- so many reads never give as many bytes
few_bytes : (unread left : Option (List ℕ)) (pieces : List (List ℕ)) → AreRead unread left pieces → length pieces ≤ most_reads → length (concat pieces) < no_limit
few_bytes unread left pieces are few = omega (arith, short pieces are.sized, few)

-- a file of which so many pieces were read is so long
long_all : (all : List ℕ) (left : Option (List ℕ)) (pieces : List (List ℕ)) → AreRead (Some all) left pieces → length (concat pieces) ≤ length all
long_all all None pieces are = absurd are.consumed
long_all all (Some rest) pieces are = omega (arith, ap length are.consumed, length-append (concat pieces) rest)

-- where no byte is left, all bytes were read
gathered : (unread left : Option (List ℕ)) (bytes read : List ℕ) → bytes ≡ read → Consumes unread left read → IsAtEnd left → IfSome unread (λ all. bytes ≡ all)
gathered None left bytes read same consumed end = tt
gathered (Some all) None bytes read same consumed end = absurd consumed
gathered (Some all) (Some rest) bytes read same consumed end = same ∙ sym (consumed ∙ ap (λ r. read ++ r) end ∙ append-nil read)

-- ---- how reading breaks off

-- the bound may be left out
loosen : (most : ℕ) (unread left : Option (List ℕ)) (fault : CommandFault) → BreaksOff (HasReadUpTo most unread left) fault → BreaksOff (HasRead unread left) fault
loosen most unread left (Opl load) why = absurd why
loosen most unread left (Query refused) why = absurd why
loosen most unread left Endless (pieces, are, (fits, number)) = (pieces, are, number)
loosen most unread left TooLarge why = absurd why
loosen most unread left Work why = absurd why
loosen most unread left Clash why = absurd why
loosen most unread left TooMany why = absurd why
loosen most unread left (Apply refused) why = absurd why
loosen most unread left Memory (pieces, are, (fits, number)) = (pieces, are, number)
loosen most unread left Device (pieces, are, (fits, number)) = (pieces, are, number)

broken_unread : (Has : (List (List ℕ) → Type 0) → Type 0) (fault : CommandFault) → BreaksOff Has fault → IsUnread fault
broken_unread Has (Opl load) why = absurd why
broken_unread Has (Query refused) why = absurd why
broken_unread Has Endless why = inl refl
broken_unread Has TooLarge why = absurd why
broken_unread Has Work why = absurd why
broken_unread Has Clash why = absurd why
broken_unread Has TooMany why = absurd why
broken_unread Has (Apply refused) why = absurd why
broken_unread Has Memory why = inr (inl refl)
broken_unread Has Device why = inr (inr refl)

broken_takes : (most : ℕ) (unread left : Option (List ℕ)) (fault : CommandFault) → BreaksOff (HasReadUpTo most unread left) fault → TakesAtMost most unread left
broken_takes most unread left (Opl load) why = absurd why
broken_takes most unread left (Query refused) why = absurd why
broken_takes most unread left Endless (pieces, are, (fits, number)) = (concat pieces, are.consumed, fits)
broken_takes most unread left TooLarge why = absurd why
broken_takes most unread left Work why = absurd why
broken_takes most unread left Clash why = absurd why
broken_takes most unread left TooMany why = absurd why
broken_takes most unread left (Apply refused) why = absurd why
broken_takes most unread left Memory (pieces, are, (fits, number)) = (concat pieces, are.consumed, fits)
broken_takes most unread left Device (pieces, are, (fits, number)) = (concat pieces, are.consumed, fits)

-- ---- the whole file

pub whole_of : (unread left : Option (List ℕ)) (result : Result (Vec ℕ) CommandFault) → IsFrontRead no_limit unread left result → IsReadSo unread left result
whole_of unread left (Ok bytes) (pieces, are, (same, inl (few, end, fits))) = (pieces, are, (few, end, same))
whole_of unread left (Ok bytes) (pieces, are, (same, inr (few, beyond))) = absurd (omega (arith, few_bytes unread left pieces are few, beyond))
whole_of unread left (Err fault) broken = loosen (no_limit + 1) unread left fault broken

pub whole_end : (unread left : Option (List ℕ)) (result : Result (Vec ℕ) CommandFault) → IsReadSo unread left result → OnOk result (IsAtEnd left)
whole_end unread left (Ok bytes) (pieces, are, (few, end, same)) = end
whole_end unread left (Err fault) broken = tt

pub whole_bytes : (unread left : Option (List ℕ)) (result : Result (Vec ℕ) CommandFault) → IsReadSo unread left result → IfOk result (λ bytes. IfSome unread (λ all. bytes.items ≡ all))
whole_bytes unread left (Ok bytes) (pieces, are, (few, end, same)) = gathered unread left bytes.items (concat pieces) same are.consumed end
whole_bytes unread left (Err fault) broken = tt

pub whole_unread : (unread left : Option (List ℕ)) (result : Result (Vec ℕ) CommandFault) → IsReadSo unread left result → IfErr result IsUnread
whole_unread unread left (Ok bytes) read = tt
whole_unread unread left (Err fault) broken = broken_unread (HasRead unread left) fault broken

pub whole_endless : (unread left : Option (List ℕ)) (result : Result (Vec ℕ) CommandFault) → IsReadSo unread left result
    → IfSome unread (λ all. IfErr result (λ fault. fault ≡ Endless → 2 ^ 32 ≤ length all))
whole_endless None left result read = tt
whole_endless (Some all) left (Ok bytes) read = tt
whole_endless (Some all) left (Err fault) broken = λ is.
    let (pieces, are, number) = subst (BreaksOff (HasRead (Some all) left)) is broken in
    omega (arith, number, long pieces are.sized, long_all all left pieces are)

-- ---- a file that may be too large

-- a file is told to be too large where a byte beyond the limit was read
abbrev IsBeyond : Option ℕ → (unread left : Option (List ℕ)) → Type 0
IsBeyond None unread left = ⊥
IsBeyond (Some limit) unread left = HasRead unread left (λ pieces. (length pieces ≤ most_reads) × (length (concat pieces) ≡ limit + 1))

limited_fault : (limit : ℕ) (unread left : Option (List ℕ)) (fault : CommandFault) → BreaksOff (HasReadUpTo (limit + 1) unread left) fault → IsLimitedRead limit unread left (Err fault)
limited_fault limit unread left (Opl load) why = why
limited_fault limit unread left (Query refused) why = why
limited_fault limit unread left Endless why = why
limited_fault limit unread left TooLarge why = absurd why
limited_fault limit unread left Work why = why
limited_fault limit unread left Clash why = why
limited_fault limit unread left TooMany why = why
limited_fault limit unread left (Apply refused) why = why
limited_fault limit unread left Memory why = why
limited_fault limit unread left Device why = why

-- without a limit nothing is too large
unlimited_read : (unread left : Option (List ℕ)) (front result : Result (Vec ℕ) CommandFault) → IsFrontRead no_limit unread left front → IsLimited no_limit front result → IsReadSo unread left result
unlimited_read unread left (Ok bytes) result (pieces, are, (same, inl (few, end, fits))) (inl (over, is)) = absurd (omega (arith, over, fits, ap length same))
unlimited_read unread left (Ok bytes) result (pieces, are, (same, inr (few, beyond))) (inl (over, is)) = absurd (omega (arith, few_bytes unread left pieces are few, beyond))
unlimited_read unread left (Ok bytes) result read (inr (fits, is)) = subst (IsReadSo unread left) (sym is) (whole_of unread left (Ok bytes) read)
unlimited_read unread left (Err fault) result read is = subst (IsReadSo unread left) (sym is) (whole_of unread left (Err fault) read)

limited_read : (limit : ℕ) (unread left : Option (List ℕ)) (front result : Result (Vec ℕ) CommandFault) → IsFrontRead limit unread left front → IsLimited limit front result → IsLimitedRead limit unread left result
limited_read limit unread left (Ok bytes) result (pieces, are, (same, inl (few, end, within))) (inl (over, is)) = absurd (omega (arith, over, within, ap length same))
limited_read limit unread left (Ok bytes) result (pieces, are, (same, inr (few, beyond))) (inl (over, is)) = subst (IsLimitedRead limit unread left) (sym is) (pieces, are, (few, beyond))
limited_read limit unread left (Ok bytes) result (pieces, are, (same, inl (few, end, within))) (inr (fits, is)) = subst (IsLimitedRead limit unread left) (sym is) ((pieces, are, (few, end, same)), fits)
limited_read limit unread left (Ok bytes) result (pieces, are, (same, inr (few, beyond))) (inr (fits, is)) = absurd (omega (arith, fits, beyond, ap length same))
limited_read limit unread left (Err fault) result broken is = subst (IsLimitedRead limit unread left) (sym is) (limited_fault limit unread left fault broken)

pub within_read : (limit : Option ℕ) (unread left : Option (List ℕ)) (front result : Result (Vec ℕ) CommandFault) → IsFrontRead (unwrap_or limit no_limit) unread left front
    → IsLimited (unwrap_or limit no_limit) front result → IsReadWithin limit unread left result
within_read None unread left front result read limited = unlimited_read unread left front result read limited
within_read (Some limit) unread left front result read limited = limited_read limit unread left front result read limited

-- it was read whole, or is too large
parted : (limit : Option ℕ) (unread left : Option (List ℕ)) (result : Result (Vec ℕ) CommandFault) → IsReadWithin limit unread left result
    → IsReadSo unread left result ⊎ ((result ≡ Err TooLarge) × IsBeyond limit unread left)
parted None unread left result read = inl read
parted (Some limit) unread left (Ok bytes) (read, fits) = inl read
parted (Some limit) unread left (Err (Opl load)) why = absurd why
parted (Some limit) unread left (Err (Query refused)) why = absurd why
parted (Some limit) unread left (Err Endless) why = inl (loosen (limit + 1) unread left Endless why)
parted (Some limit) unread left (Err TooLarge) why = inr (refl, why)
parted (Some limit) unread left (Err Work) why = absurd why
parted (Some limit) unread left (Err Clash) why = absurd why
parted (Some limit) unread left (Err TooMany) why = absurd why
parted (Some limit) unread left (Err (Apply refused)) why = absurd why
parted (Some limit) unread left (Err Memory) why = inl (loosen (limit + 1) unread left Memory why)
parted (Some limit) unread left (Err Device) why = inl (loosen (limit + 1) unread left Device why)

pub within_end : (limit : Option ℕ) (unread left : Option (List ℕ)) (result : Result (Vec ℕ) CommandFault) → IsReadWithin limit unread left result → OnOk result (IsAtEnd left)
within_end limit unread left result read = elim (parted limit unread left result read) [
  | inl so ↦ whole_end unread left result so
  | inr large ↦ subst (λ (r : Result (Vec ℕ) CommandFault). OnOk r (IsAtEnd left)) (sym large.0) tt
]

pub within_bytes : (limit : Option ℕ) (unread left : Option (List ℕ)) (result : Result (Vec ℕ) CommandFault) → IsReadWithin limit unread left result
    → IfOk result (λ bytes. IfSome unread (λ all. bytes.items ≡ all))
within_bytes limit unread left result read = elim (parted limit unread left result read) [
  | inl so ↦ whole_bytes unread left result so
  | inr large ↦ subst (λ (r : Result (Vec ℕ) CommandFault). IfOk r (λ bytes. IfSome unread (λ all. bytes.items ≡ all))) (sym large.0) tt
]

pub within_unread : (limit : Option ℕ) (unread left : Option (List ℕ)) (result : Result (Vec ℕ) CommandFault) → IsReadWithin limit unread left result → IfErr result IsUnreadOrTooLarge
within_unread limit unread left (Ok bytes) read = tt
within_unread limit unread left (Err fault) read = elim (parted limit unread left (Err fault) read) [
  | inl so ↦ inr (whole_unread unread left (Err fault) so)
  | inr large ↦ inl cc
]

pub within_endless : (limit : Option ℕ) (unread left : Option (List ℕ)) (result : Result (Vec ℕ) CommandFault) → IsReadWithin limit unread left result
    → IfSome unread (λ all. IfErr result (λ fault. fault ≡ Endless → 2 ^ 32 ≤ length all))
within_endless limit None left result read = tt
within_endless limit (Some all) left (Ok bytes) read = tt
within_endless limit (Some all) left (Err fault) read = elim (parted limit (Some all) left (Err fault) read) [
  | inl so ↦ whole_endless (Some all) left (Err fault) so
  | inr large ↦ λ is. let other : fault ≡ TooLarge = cc in cc
]

pub within_too_large : (limit : Option ℕ) (unread left : Option (List ℕ)) (result : Result (Vec ℕ) CommandFault) → IsReadWithin limit unread left result
    → IfSome unread (λ all. IfErr result (λ fault. fault ≡ TooLarge → IsTooLarge limit all))
within_too_large limit None left result read = tt
within_too_large limit (Some all) left (Ok bytes) read = tt
within_too_large limit (Some all) left (Err fault) read = elim (parted limit (Some all) left (Err fault) read) [
  | inl so ↦ λ is. absurd (elim (whole_unread (Some all) left (Err fault) so) [ inl endless ↦ cc | inr other ↦ elim other [ inl memory ↦ cc | inr device ↦ cc ] ])
  | inr large ↦ λ is. beyond limit large.1
]
  where
    beyond : (limit : Option ℕ) → IsBeyond limit (Some all) left → IsTooLarge limit all
    beyond None why = absurd why
    beyond (Some limit) (pieces, are, (few, number)) = omega (arith, number, long_all all left pieces are)

pub within_fits : (limit : Option ℕ) (unread left : Option (List ℕ)) (result : Result (Vec ℕ) CommandFault) → IsReadWithin limit unread left result
    → IfOk result (λ bytes. ¬ (IsTooLarge limit bytes.items))
within_fits limit unread left (Err fault) read = tt
within_fits None unread left (Ok bytes) read = λ large. large
within_fits (Some limit) unread left (Ok bytes) (read, fits) = λ large. omega (arith, large, fits)

pub within_fitted : (limit : Option ℕ) (unread left : Option (List ℕ)) (result : Result (Vec ℕ) CommandFault) → IsReadWithin limit unread left result → OnOk result (FitsWithin limit unread)
within_fitted limit None left (Ok bytes) read = tt
within_fitted limit (Some all) left (Ok bytes) read =
    subst (λ (b : List ℕ). ¬ (IsTooLarge limit b)) (within_bytes limit (Some all) left (Ok bytes) read) (within_fits limit (Some all) left (Ok bytes) read)
within_fitted limit unread left (Err fault) read = tt

pub within_takes : (limit : Option ℕ) (unread left : Option (List ℕ)) (result : Result (Vec ℕ) CommandFault) → IsReadWithin limit unread left result → TakesWithin limit unread left
within_takes None unread left result read = tt
within_takes (Some limit) unread left (Ok bytes) ((pieces, are, (few, end, same)), fits) = (concat pieces, are.consumed, omega (arith, fits, ap length same))
within_takes (Some limit) unread left (Err (Opl load)) why = absurd why
within_takes (Some limit) unread left (Err (Query refused)) why = absurd why
within_takes (Some limit) unread left (Err Endless) why = broken_takes (limit + 1) unread left Endless why
within_takes (Some limit) unread left (Err TooLarge) (pieces, are, (few, number)) = (concat pieces, are.consumed, omega (arith, number))
within_takes (Some limit) unread left (Err Work) why = absurd why
within_takes (Some limit) unread left (Err Clash) why = absurd why
within_takes (Some limit) unread left (Err TooMany) why = absurd why
within_takes (Some limit) unread left (Err (Apply refused)) why = absurd why
within_takes (Some limit) unread left (Err Memory) why = broken_takes (limit + 1) unread left Memory why
within_takes (Some limit) unread left (Err Device) why = broken_takes (limit + 1) unread left Device why

-- a file that wasn't read
pub untaken : (limit : Option ℕ) (unread : Option (List ℕ)) → TakesWithin limit unread unread
untaken None unread = tt
untaken (Some limit) unread = ([], Consumes-nil unread, omega arith)

-- ---- a query's file

pub query_bytes : (unread left : Option (List ℕ)) (result : Result (Vec ℕ) CommandFault) → IsFrontRead longest_query unread left result → IfOk result (λ bytes. IfSome unread (ReadsAs bytes.items))
query_bytes None left (Ok bytes) read = tt
query_bytes (Some all) left (Ok bytes) (pieces, are, (same, inl (few, end, fits))) = inl (gathered (Some all) left bytes.items (concat pieces) same are.consumed end)
query_bytes (Some all) left (Ok bytes) (pieces, are, (same, inr (few, beyond))) =
    inr (omega (arith, beyond, ap length same), omega (arith, beyond, long_all all left pieces are))
query_bytes unread left (Err fault) broken = tt

pub query_end : (unread left : Option (List ℕ)) (result : Result (Vec ℕ) CommandFault) → IsFrontRead longest_query unread left result → OnOk result (IsQueryRead unread left)
query_end unread left (Ok bytes) (pieces, are, (same, inl (few, end, fits))) = inl end
query_end unread left (Ok bytes) (pieces, are, (same, inr (few, beyond))) = inr (concat pieces, are.consumed, beyond)
query_end unread left (Err fault) broken = tt

query_broken : (unread left : Option (List ℕ)) (fault : CommandFault) → BreaksOff (HasReadUpTo (longest_query + 1) unread left) fault → (fault ≡ Memory) ⊎ (fault ≡ Device)
query_broken unread left (Opl load) why = absurd why
query_broken unread left (Query refused) why = absurd why
query_broken unread left Endless (pieces, are, (fits, number)) = absurd (omega (arith, number, fits, long pieces are.sized))
query_broken unread left TooLarge why = absurd why
query_broken unread left Work why = absurd why
query_broken unread left Clash why = absurd why
query_broken unread left TooMany why = absurd why
query_broken unread left (Apply refused) why = absurd why
query_broken unread left Memory why = inl refl
query_broken unread left Device why = inr refl

pub query_failed : (unread left : Option (List ℕ)) (result : Result (Vec ℕ) CommandFault) → IsFrontRead longest_query unread left result → IfErr result (λ fault. (fault ≡ Memory) ⊎ (fault ≡ Device))
query_failed unread left (Ok bytes) read = tt
query_failed unread left (Err fault) broken = query_broken unread left fault broken

pub query_takes : (unread left : Option (List ℕ)) (result : Result (Vec ℕ) CommandFault) → IsFrontRead longest_query unread left result → TakesAtMost (longest_query + 1) unread left
query_takes unread left (Ok bytes) (pieces, are, (same, inl (few, end, fits))) = (concat pieces, are.consumed, omega (arith, fits))
query_takes unread left (Ok bytes) (pieces, are, (same, inr (few, beyond))) = (concat pieces, are.consumed, omega (arith, beyond))
query_takes unread left (Err fault) broken = broken_takes (longest_query + 1) unread left fault broken
