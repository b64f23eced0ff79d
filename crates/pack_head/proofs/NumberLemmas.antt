-- Numbers and what comes after them.
use Rattle.std.proofs.Common.{◌≡◌, ◌≢◌, ◌<◌, ◌^◌, ℕ, List, ◌∷◌, ◌++◌, sym, ap, ◌∙◌, arith, subst, Result, Ok, Err, length, ◌*◌, ◌≤◌, drop}
use Rattle.std.specs.Fmt.{decimal}
use Rattle.std.specs.Prelude.{MatchOption}
use Rattle.std.specs.Result.{OkIff, result_ok}
use Rattle.std.specs.Str.{IsUtf8}
use Rattle.std.proofs.lemmas.Fmt.{IsAscii-decimal, decimal_injective}
use Rattle.std.proofs.lemmas.Str.{IsUtf8-from_ascii}
use Rattle.hex.specs.Hex.{decode_of, decode_sized, encode_lower, lower_digits}
use Rattle.hex.proofs.HexLemmas.{decode_of-encode_lower, decode_of-ok, decode_sized-ok, decode_sized-twice, length-encode_with}
use Rattle.byte_io.specs.Pieces.{Lacks}
use Rattle.pack_head.specs.Heads.{IsRoot, space}
use Rattle.pack_head.specs.Lines.{IsFileLine, IsManifestLine}
use Rattle.pack_head.specs.Names.{IsHeadName}
use Rattle.pack_head.specs.declared.limits.TheConstants.{FILES_LIMIT, FILE_LEN_LIMIT}
use Rattle.pack_head.proofs.LackLemmas.{Lacks-decimal, lacks_not}
use Rattle.pack_head.proofs.PieceLemmas.{cut_same}

-- a number is text
pub IsUtf8-decimal : (text : List ℕ) (n : ℕ) → n < 2 ^ 64 → text ≡ decimal n → IsUtf8 text
IsUtf8-decimal text n small is = subst IsUtf8 (sym is) (IsUtf8-from_ascii (decimal n) (IsAscii-decimal n small))

-- what begins with a number and a space
module _ (text : List ℕ) (n : ℕ) (rest : List ℕ) (small : n < 2 ^ 64) (is : text ≡ decimal n ++ space ∷ rest) where
  pub spaced : Lacks space text → ⊥
  spaced lacks = lacks_not space (decimal n) rest (subst (Lacks space) is lacks)

  pub spaced_parts : (front after : List ℕ) → text ≡ front ++ space ∷ after → Lacks space front → (front ≡ decimal n) × (after ≡ rest)
  spaced_parts front after parts lacks = cut_same space front (decimal n) after rest lacks (Lacks-decimal space n (omega arith) small) (sym parts ∙ is)

  pub spaced_same : (m : ℕ) (after : List ℕ) → m < 2 ^ 64 → text ≡ decimal m ++ space ∷ after → (m ≡ n) × (after ≡ rest)
  spaced_same m after fits parts =
      let (front, later) = spaced_parts (decimal m) after parts (Lacks-decimal space m (omega arith) fits) in
      (decimal_injective m n fits small front, later)

-- ---- roots

-- a root is decoded from its digits
pub decoded : (text root : List ℕ) → IsRoot root → text ≡ encode_lower root → decode_sized text 32 ≡ Ok root
decoded text root is spelled =
    let long : length text ≡ 2 * 32 = omega (arith, ap (λ (t : List ℕ). length t) spelled, length-encode_with lower_digits root, is.wide) in
    decode_sized-twice text 32 long ∙ ap decode_of spelled ∙ decode_of-encode_lower root is.bytes

-- what is decoded is a root
pub root_decoded : (text root : List ℕ) → decode_sized text 32 ≡ Ok root → IsRoot root
root_decoded text root read =
    let long = decode_sized-ok text 32 root read in
    let is = decode_of-ok text root (sym (decode_sized-twice text 32 long) ∙ read) in
    record { wide = omega (arith, long, is.2); bytes = is.3 }

-- ---- lines with two parts

module _ (line text rest : List ℕ) (n : ℕ) (small : n < 2 ^ 64) (parts : text ≡ decimal n ++ space ∷ rest) where
  pub no_manifest : text ≡ drop 9 line → ((m : ℕ) → m < 2 ^ 32 → rest ≢ decimal m) → ¬ (IsManifestLine line)
  no_manifest dropped unread (at, len, far, short, is) =
      let begun : text ≡ decimal at ++ space ∷ decimal len = dropped ∙ ap (λ (t : List ℕ). drop 9 t) is in
      unread len short (spaced_same text at (decimal len) far begun n rest small parts).1

  pub only_file : (number : ℕ) → text ≡ drop 5 line → IsFileLine number line → (number < FILES_LIMIT) × (n ≤ FILE_LEN_LIMIT) × IsHeadName rest
  only_file number dropped (file, below, fits, is) =
      let begun : text ≡ decimal file.len ++ space ∷ file.name.now = dropped ∙ ap (λ (t : List ℕ). drop 5 t) is in
      let short = fits.len in
      let same = spaced_same text file.len file.name.now (omega arith) begun n rest small parts in
      (below, omega (arith, same.0), subst IsHeadName (sym same.1) fits.name)

-- a number of 64 bits, as one of 32 bits
pub as_short : {E : Type 0} (text : List ℕ) (n : ℕ) (r : Result ℕ E) → text ≡ decimal n → n < 2 ^ 64 → OkIff r (n < 2 ^ 32) n
    → MatchOption (result_ok r) ((m : ℕ) → m < 2 ^ 32 → text ≢ decimal m) (λ m. (text ≡ decimal m) × (m < 2 ^ 32))
as_short text n (Ok m) is small (fits, same) = (is ∙ ap decimal (sym same), omega arith)
as_short text n (Err e) is small long = λ m fits spelled. let same : n ≡ m = decimal_injective n m small (omega arith) (sym is ∙ spelled) in long (omega arith)
