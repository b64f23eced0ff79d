-- What the text of a head says, and what a wrong line says.
use Rattle.std.proofs.Common.{◌≡◌, ◌<◌, ◌≤◌, ◌+◌, ◌^◌, ℕ, suc, List, [], ◌∷◌, ◌++◌, Bool, true, false, not, ◌==◌, Ok, refl, sym, ap, ◌∙◌, arith, drop, length, inl, inr, map, subst}
use Rattle.std.specs.Fmt.{decimal}
use Rattle.std.specs.List.{AllByRecursion, list_all}
use Rattle.std.specs.Prelude.{codes}
use Rattle.std.proofs.lemmas.Bool.{and_parts}
use Rattle.std.proofs.lemmas.Fmt.{decimal_injective}
use Rattle.hex.specs.Hex.{decode_of, encode_lower}
use Rattle.hex.proofs.HexLemmas.{decode_of-encode_lower}
use Rattle.byte_io.specs.Pieces.{Lacks, pieces}
use Rattle.pack_head.specs.Heads.{FitsTypes, IsHead, IsHeadFile, IsRoot, SaysSame, file_line, file_parts, head_text, line_feed, lines_of, manifest_line, root_line, sequence_line, space, version_line}
use Rattle.pack_head.specs.Lines.{IsFirstWrong, IsLineAt}
use Rattle.pack_head.specs.declared.head.Head.{Head}
use Rattle.pack_head.specs.declared.head.HeadFile.{HeadFile}
use Rattle.pack_head.specs.declared.limits.TheConstants.{FILES_LIMIT}
use Rattle.pack_head.proofs.LackLemmas.{Lacks-append, Lacks-decimal, Lacks-hex, Lacks-name}
use Rattle.pack_head.proofs.NumberLemmas.{spaced_same}
use Rattle.pack_head.proofs.PieceLemmas.{pieces_of_ended}

-- ---- the lines of a head's text

false_from : (b : Bool) → not b ≡ true → b ≡ false
false_from true e = cc e
false_from false e = refl

lacks_tested : (text : List ℕ) → list_all (λ (byte : ℕ). not (byte == line_feed)) text ≡ true → Lacks line_feed text
lacks_tested [] all = tt
lacks_tested (x ∷ text) all =
    let parts = and_parts (not (x == line_feed)) (list_all (λ (byte : ℕ). not (byte == line_feed)) text) all in
    (false_from (x == line_feed) parts.0, lacks_tested text parts.1)

two_numbers_lack : (word rest : List ℕ) (n : ℕ) → Lacks line_feed word → n < 2 ^ 64 → Lacks line_feed rest → Lacks line_feed (word ++ (decimal n ++ space ∷ rest))
two_numbers_lack word rest n front small last =
    Lacks-append line_feed word (decimal n ++ space ∷ rest) front (Lacks-append line_feed (decimal n) (space ∷ rest) (Lacks-decimal line_feed n (omega arith) small) (refl, last))

files_lack : (files : List HeadFile) → AllByRecursion IsHeadFile files → AllByRecursion (Lacks line_feed) (map file_line files)
files_lack [] fit = tt
files_lack (file ∷ files) fit =
    let short = fit.0.len in
    (two_numbers_lack (codes "file ") file.name.now file.len (lacks_tested (codes "file ") refl) (omega arith) (Lacks-name file.name.now fit.0.name.bytes), files_lack files fit.1)

lines_lack : (head : Head) → FitsTypes head → IsHead head → AllByRecursion (Lacks line_feed) (lines_of head)
lines_lack head types is =
    let len = types.manifest_len in (
      lacks_tested version_line refl,
      (
        Lacks-append line_feed (codes "root ") (encode_lower head.root.0) (lacks_tested (codes "root ") refl) (Lacks-hex line_feed (omega arith) head.root.0 types.root.bytes),
        (
          Lacks-append line_feed (codes "sequence ") (decimal head.sequence) (lacks_tested (codes "sequence ") refl) (Lacks-decimal line_feed head.sequence (omega arith) types.sequence),
          (
            two_numbers_lack (codes "manifest ") (decimal head.manifest_len) head.manifest_at (lacks_tested (codes "manifest ") refl) types.manifest_at (Lacks-decimal line_feed head.manifest_len (omega arith) (omega arith)),
            files_lack head.files.items is.files,
          ),
        ),
      ),
    )

pieces_of_head : (head : Head) → FitsTypes head → IsHead head → pieces line_feed (head_text head) ≡ lines_of head ++ [] ∷ []
unfolding head_text
pieces_of_head head types is = pieces_of_ended (lines_of head) (lines_lack head types is)

-- ---- no line of it is wrong

-- a right line isn't the first wrong one
goes_on : (place number : ℕ) (line : List ℕ) (later : List (List ℕ)) → IsLineAt place line → IsFirstWrong place (line ∷ later) number → IsFirstWrong (suc place) later number
goes_on place number line later right (inl wrong) = wrong.1
goes_on place number line later right (inr wrong) = absurd (wrong.0 right)

files_go_on : (files : List HeadFile) (before number : ℕ) → AllByRecursion IsHeadFile files → 1 ≤ before + length files → before + length files ≤ FILES_LIMIT
    → IsFirstWrong (suc (suc (suc (suc before)))) (map file_line files ++ [] ∷ []) number → ⊥
files_go_on [] before number fit some few (inl (line, later)) = let e : [] ≡ file_line line.0 = line.3 in cc e
files_go_on [] before number fit some few (inr (other, no_end, at)) = no_end (record { after_file = omega arith; nothing = refl; last = refl })
files_go_on (file ∷ files) before number fit some few wrong =
    files_go_on files (suc before) number fit.1 (omega arith) (omega arith)
    (goes_on (suc (suc (suc (suc before)))) number (file_line file) (map file_line files ++ [] ∷ []) (file, omega arith, fit.0, refl) wrong)

pub all_right : (head : Head) (number : ℕ) → FitsTypes head → IsHead head → ¬ (IsFirstWrong 0 (pieces line_feed (head_text head)) number)
all_right head number types is wrong =
    let root = head.root.0 in
    let files = map file_line head.files.items ++ [] ∷ [] in
    let manifest = manifest_line head.manifest_at head.manifest_len in
    let sequence = sequence_line head.sequence in
    let all : IsFirstWrong 0 (lines_of head ++ [] ∷ []) number = subst (λ (lines : List (List ℕ)). IsFirstWrong 0 lines number) (pieces_of_head head types is) wrong in
    files_go_on head.files.items 0 number is.files (omega (arith, is.some)) (omega (arith, is.few))
    (goes_on 3 number manifest files (head.manifest_at, head.manifest_len, types.manifest_at, types.manifest_len, refl)
    (goes_on 2 number sequence (manifest ∷ files) (head.sequence, types.sequence, refl)
    (goes_on 1 number (root_line root) (sequence ∷ manifest ∷ files) (root, types.root, refl)
    (goes_on 0 number version_line (root_line root ∷ sequence ∷ manifest ∷ files) refl all))))

-- one line at most is the first wrong one
pub one_wrong : (lines : List (List ℕ)) (place m n : ℕ) → IsFirstWrong place lines m → IsFirstWrong place lines n → m ≡ n
one_wrong [] place m n a b = a ∙ sym b
one_wrong (line ∷ lines) place m n (inl a) (inl b) = one_wrong lines (suc place) m n a.1 b.1
one_wrong (line ∷ lines) place m n (inl a) (inr b) = absurd (b.0 a.0)
one_wrong (line ∷ lines) place m n (inr a) (inl b) = absurd (a.0 b.0)
one_wrong (line ∷ lines) place m n (inr a) (inr b) = a.2 ∙ sym b.2

-- ---- one head

same_parts : {A : Type 0} (a b : A) (more others : List A) → a ∷ more ≡ b ∷ others → (a ≡ b) × (more ≡ others)
same_parts a b more others e = (cc, cc)

same_root : (a b : List ℕ) → IsRoot a → IsRoot b → root_line a ≡ root_line b → a ≡ b
same_root a b fits other e =
    let digits : encode_lower a ≡ encode_lower b = ap (λ (t : List ℕ). drop 5 t) e in
    let read : Ok a ≡ Ok b = sym (decode_of-encode_lower a fits.bytes) ∙ ap decode_of digits ∙ decode_of-encode_lower b other.bytes in
    cc read

same_files : (a b : List HeadFile) → AllByRecursion IsHeadFile a → AllByRecursion IsHeadFile b → map file_line a ++ [] ∷ [] ≡ map file_line b ++ [] ∷ [] → map file_parts a ≡ map file_parts b
same_files [] [] fa fb e = refl
same_files [] (g ∷ b) fa fb e = let parts = same_parts [] (file_line g) [] (map file_line b ++ [] ∷ []) e in cc parts.0
same_files (f ∷ a) [] fa fb e = let parts = same_parts (file_line f) [] (map file_line a ++ [] ∷ []) [] e in cc parts.0
same_files (f ∷ a) (g ∷ b) fa fb e =
    let parts = same_parts (file_line f) (file_line g) (map file_line a ++ [] ∷ []) (map file_line b ++ [] ∷ []) e in
    let line : decimal f.len ++ space ∷ f.name.now ≡ decimal g.len ++ space ∷ g.name.now = ap (λ (t : List ℕ). drop 5 t) parts.0 in
    let first_short = fa.0.len in
    let second_short = fb.0.len in
    let (len, name) = spaced_same (decimal f.len ++ space ∷ f.name.now) g.len g.name.now (omega arith) line f.len f.name.now (omega arith) refl in
    rw (len, name, same_files a b fa.1 fb.1 parts.1) refl

pub one_head : (a b : Head) → FitsTypes a → FitsTypes b → IsHead a → IsHead b → head_text a ≡ head_text b → SaysSame a b
one_head a b ta tb ia ib e =
    let all : lines_of a ++ [] ∷ [] ≡ lines_of b ++ [] ∷ [] = sym (pieces_of_head a ta ia) ∙ ap (pieces line_feed) e ∙ pieces_of_head b tb ib in
    let after_version = (same_parts _ _ _ _ all).1 in
    let root = same_parts _ _ _ _ after_version in
    let sequence = same_parts _ _ _ _ root.1 in
    let manifest = same_parts _ _ _ _ sequence.1 in
    let second : decimal a.manifest_at ++ space ∷ decimal a.manifest_len ≡ decimal b.manifest_at ++ space ∷ decimal b.manifest_len = ap (λ (t : List ℕ). drop 9 t) manifest.0 in
    let place = spaced_same (decimal a.manifest_at ++ space ∷ decimal a.manifest_len) b.manifest_at (decimal b.manifest_len) tb.manifest_at second a.manifest_at (decimal a.manifest_len) ta.manifest_at refl in
    let short = ta.manifest_len in
    let other_short = tb.manifest_len in
    record {
      root = same_root a.root.0 b.root.0 ta.root tb.root root.0;
      sequence = decimal_injective a.sequence b.sequence ta.sequence tb.sequence (ap (λ (t : List ℕ). drop 9 t) sequence.0);
      manifest_at = place.0;
      manifest_len = decimal_injective a.manifest_len b.manifest_len (omega arith) (omega arith) place.1;
      files = same_files a.files.items b.files.items ia.files ib.files manifest.1;
    }
