-- What a header says.
use Rattle.std.proofs.Common.{◌≡◌, ◌≤◌, ◌<◌, ◌+◌, ◌^◌, ℕ, List, [], ◌++◌, min, inl, inr, Bool, true, false, cond, ltb, eqb, Result, Ok, Err, length, take, drop, refl, sym, ap, ◌∙◌, arith, eq-eqb, le-ltb, w32, w64}
use Rattle.std.specs.Int.{from_be_bytes, to_be_bytes}
use Rattle.std.proofs.lemmas.Bool.{cases_order}
use Rattle.std.proofs.lemmas.List.{drop_at, take_all, take_at}
use Rattle.tree_node.proofs.shared.FieldLemmas.{wide64}
use Rattle.node_pack.specs.Headers.{fields_at, header_at, header_bytes, sized}
use Rattle.node_pack.specs.Places.{first_place, place_bytes}
use Rattle.node_pack.specs.declared.fault.PackFault.{PackFault}
use Rattle.node_pack.specs.declared.fault.PackFault.TheVariants.{BytesAfter, Cut, NotAPack, OtherVersion}
use Rattle.node_pack.specs.declared.header.Header.{Header}
use Rattle.node_pack.specs.declared.header.TheConstants.{MAGIC, VERSION}
use Rattle.node_pack.specs.declared.place.Place.{Place}
use Rattle.node_pack.proofs.RecordLemmas.{place_again}

by_tests : (a m b v c : Bool) (r : Result Header PackFault) → a ≡ false → m ≡ true → b ≡ false → v ≡ true → c ≡ false
    → cond a (Err NotAPack) (cond m (cond b (Err Cut) (cond v (cond c (Err Cut) r) (Err OtherVersion))) (Err NotAPack)) ≡ r
by_tests a m b v c r ea em eb ev ec = rw (ea, em, eb, ev, ec) refl

-- where nothing of the first eight bytes is at fault, and the header isn't cut
pub header_of : (front : List ℕ) (size : ℕ) → 60 ≤ length front → from_be_bytes w32 (take 4 front) ≡ MAGIC → from_be_bytes w32 (take 4 (drop 4 front)) ≡ VERSION
    → header_at front size ≡ sized (fields_at (drop 4 (drop 4 front))) size
unfolding header_at
header_of front size long magic version =
    by_tests (ltb (length front) 4) (eqb (from_be_bytes w32 (take 4 front)) MAGIC) (ltb (length front) 8) (eqb (from_be_bytes w32 (take 4 (drop 4 front))) VERSION) (ltb (length front) 60)
    (sized (fields_at (drop 4 (drop 4 front))) size)
    (le-ltb (length front) 4 (omega arith)) (eq-eqb _ _ magic) (le-ltb (length front) 8 (omega arith)) (eq-eqb _ _ version) (le-ltb (length front) 60 long)

-- the same of the parts that were read one after the other
pub read_is : (front rest more magic version : List ℕ) (size m v : ℕ) (h : Header) (r : Result Header PackFault) → magic ≡ take 4 front → rest ≡ drop 4 front → length rest + 4 ≡ length front
    → version ≡ take 4 rest → more ≡ drop 4 rest → length more + 4 ≡ length rest → 52 ≤ length more
    → m ≡ from_be_bytes w32 magic → v ≡ from_be_bytes w32 version → m ≡ MAGIC → v ≡ VERSION → h ≡ fields_at more → r ≡ sized h size → r ≡ header_at front size
read_is front rest more magic version size m v h r a b len c d long enough em ev is-m is-v fields told =
    let first : from_be_bytes w32 (take 4 front) ≡ MAGIC = ap (λ (l : List ℕ). from_be_bytes w32 l) (sym a) ∙ sym em ∙ is-m in
    let second : from_be_bytes w32 (take 4 (drop 4 front)) ≡ VERSION = ap (λ (l : List ℕ). from_be_bytes w32 (take 4 l)) (sym b) ∙ ap (λ (l : List ℕ). from_be_bytes w32 l) (sym c) ∙ sym ev ∙ is-v in
    let same : h ≡ fields_at (drop 4 (drop 4 front)) = fields ∙ ap fields_at d ∙ ap (λ (l : List ℕ). fields_at (drop 4 l)) b in
    told ∙ ap (λ (k : Header). sized k size) same ∙ sym (header_of front size (omega (arith, len, long, enough)) first second)

-- a header has these parts
parts_are : (h : Header) (root : List ℕ) (size : ℕ) (manifest : Place) → root ≡ h.root.0 → size ≡ h.size → manifest ≡ h.manifest
    → record { root = record { 0 = root }; size = size; manifest = manifest } ≡ h
parts_are h root size manifest a b c = rw (a, b, c) refl

-- the fields that were written are read
fields_again : (h : Header) → length h.root.0 ≡ 32 → h.size < 2 ^ 64 → h.manifest.at < 2 ^ 64 → h.manifest.len < 2 ^ 32
    → fields_at (h.root.0 ++ (to_be_bytes w64 h.size ++ place_bytes h.manifest)) ≡ h
fields_again h wide size far short =
    let rest = to_be_bytes w64 h.size ++ place_bytes h.manifest in
    let after : drop 32 (h.root.0 ++ rest) ≡ rest = drop_at h.root.0 rest 32 wide in
    parts_are h (take 32 (h.root.0 ++ rest)) (from_be_bytes w64 (take 8 (drop 32 (h.root.0 ++ rest)))) (first_place (drop 8 (drop 32 (h.root.0 ++ rest))))
    (take_at h.root.0 rest 32 wide)
    (ap (λ (l : List ℕ). from_be_bytes w64 (take 8 l)) after ∙ wide64.again h.size size)
    (ap (λ (l : List ℕ). first_place (drop 8 l)) after ∙ place_again h.manifest [] far short)

by_sizes : (a b : Bool) (r : Result Header PackFault) → a ≡ false → b ≡ false → cond a (Err Cut) (cond b (Err BytesAfter) r) ≡ r
by_sizes a b r ea eb = rw (ea, eb) refl

-- a header that was written is read
pub header_again : (h : Header) → length h.root.0 ≡ 32 → h.size < 2 ^ 64 → h.manifest.at < 2 ^ 64 → h.manifest.len < 2 ^ 32 → 60 ≤ length (header_bytes h)
    → header_at (header_bytes h) h.size ≡ Ok h
header_again h wide size far short long =
    header_of (header_bytes h) h.size long refl refl
    ∙ ap (λ (k : Header). sized k h.size) (fields_again h wide size far short)
    ∙ by_sizes (ltb h.size h.size) (ltb h.size h.size) (Ok h) (le-ltb h.size h.size (omega arith)) (le-ltb h.size h.size (omega arith))

-- the front of a file, of which at most so many bytes were read
pub front_read : (bytes buffer old : List ℕ) (size least : ℕ) → buffer ≡ old ++ take least bytes → old ≡ [] → least ≡ min size 60 → size ≡ length bytes → buffer ≡ take 60 bytes
front_read bytes buffer old size least read empty is long =
    read ∙ ap (λ (o : List ℕ). o ++ take least bytes) empty
    ∙ elim (cases_order (length bytes) 60) [
      | inl same ↦ let e : least ≡ 60 = omega (arith, is, long, same) in ap (λ (n : ℕ). take n bytes) e
      | inr (inl less) ↦ take_all least bytes (omega (arith, is, long, less)) ∙ sym (take_all 60 bytes (omega (arith, less)))
      | inr (inr more) ↦ let e : least ≡ 60 = omega (arith, is, long, more) in ap (λ (n : ℕ). take n bytes) e
    ]

-- the header that was read is that of the file
pub header_read : (bytes front : List ℕ) (size : ℕ) (r s : Result Header PackFault) → r ≡ header_at front size → r ≡ s → front ≡ take 60 bytes → size ≡ length bytes → header_at (take 60 bytes) (length bytes) ≡ s
header_read bytes front size r s told was is long =
    ap (λ (l : List ℕ). header_at l (length bytes)) (sym is) ∙ ap (λ (n : ℕ). header_at front n) (sym long) ∙ sym told ∙ was
