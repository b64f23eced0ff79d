-- The root that the header of a pack states.
use Rattle.std.proofs.Common.{◌≡◌, ℕ, List, ◌++◌, Bool, true, false, cond, ltb, eqb, Result, Ok, Err, length, take, drop, sym, ap, ◌∙◌, append_assoc, arith, w32, w64}
use Rattle.std.specs.Int.{from_be_bytes, to_be_bytes}
use Rattle.std.specs.Prelude.{unwrap_or}
use Rattle.std.proofs.lemmas.List.{take_at, take-take}
use Rattle.node_pack.specs.Headers.{fields_at, header_at}
use Rattle.node_pack.specs.Packs.{Kept, no_place, pack, pack_len, place_in, records_in}
use Rattle.node_pack.specs.Places.{place_bytes}
use Rattle.node_pack.specs.declared.fault.PackFault.{PackFault}
use Rattle.node_pack.specs.declared.fault.PackFault.TheVariants.{BytesAfter, Cut, NotAPack, OtherVersion}
use Rattle.node_pack.specs.declared.header.Header.{Header}
use Rattle.node_pack.specs.declared.header.TheConstants.{HEADER_LEN, MAGIC, VERSION}

-- ---- where something is made of a test, and a fault in the other case, the test went this way

not_so : (b : Bool) (fault : PackFault) (r : Result Header PackFault) (header : Header) → cond b (Err fault) r ≡ Ok header → r ≡ Ok header
not_so true fault r header is = cc
not_so false fault r header is = is

so : (b : Bool) (fault : PackFault) (r : Result Header PackFault) (header : Header) → cond b r (Err fault) ≡ Ok header → r ≡ Ok header
so true fault r header is = is
so false fault r header is = cc

the_ok : Header → Result Header PackFault
the_ok h = Ok h

-- ---- headers

-- a header that is read has the fields that stand after the version
of_fields : (front : List ℕ) (size : ℕ) (header : Header) → header_at front size ≡ Ok header → fields_at (drop 4 (drop 4 front)) ≡ header
unfolding header_at
of_fields front size header is =
    let h = fields_at (drop 4 (drop 4 front)) in
    let in_size = cond (ltb size h.size) (Err Cut) (cond (ltb h.size size) (Err BytesAfter) (Ok h)) in
    let whole = cond (ltb (length front) HEADER_LEN) (Err Cut) in_size in
    let versioned = cond (eqb (from_be_bytes w32 (take 4 (drop 4 front))) VERSION) whole (Err OtherVersion) in
    let long = cond (ltb (length front) 8) (Err Cut) versioned in
    let a = not_so (ltb (length front) 4) NotAPack (cond (eqb (from_be_bytes w32 (take 4 front)) MAGIC) long (Err NotAPack)) header is in
    let b = so (eqb (from_be_bytes w32 (take 4 front)) MAGIC) NotAPack long header a in
    let c = not_so (ltb (length front) 8) Cut versioned header b in
    let d = so (eqb (from_be_bytes w32 (take 4 (drop 4 front))) VERSION) OtherVersion whole header c in
    let e = not_so (ltb (length front) HEADER_LEN) Cut in_size header d in
    let f = not_so (ltb size h.size) Cut (cond (ltb h.size size) (Err BytesAfter) (Ok h)) header e in
    let g = not_so (ltb h.size size) BytesAfter (Ok h) header f in
    cc

-- the root that is read of a pack's header is that of the pack
pub root_read : (root : List ℕ) (nodes : List Kept) (size : ℕ) (header : Header) → length root ≡ 32 → header_at (take 60 (pack root nodes)) size ≡ Ok header → header.root.0 ≡ root
unfolding pack
root_read root nodes size header wide is =
    let rest = to_be_bytes w64 (pack_len nodes) ++ place_bytes (unwrap_or (place_in nodes root) no_place) in
    let fields = of_fields (take 60 (pack root nodes)) size header is in
    let short : take 32 (take 52 ((root ++ rest) ++ records_in nodes)) ≡ take 32 ((root ++ rest) ++ records_in nodes) = take-take 32 52 ((root ++ rest) ++ records_in nodes) (omega arith) in
    sym (ap (λ (h : Header). h.root.0) fields) ∙ (short ∙ (ap (take 32) (append_assoc root rest (records_in nodes)) ∙ take_at root (rest ++ records_in nodes) 32 wide))
