-- The first wrong line, line by line.
use Rattle.std.proofs.Common.{◌≡◌, ◌≤◌, ◌+◌, ℕ, suc, List, [], ◌∷◌, ◌++◌, refl, sym, ◌∙◌, arith, length, inl, inr, map, subst, Result, Ok, Err, Bool, true, false}
use Rattle.std.specs.List.{AllByRecursion}
use Rattle.std.specs.Prelude.{◌↔◌, IfErr, IsErrAnd, IsTrue}
use Rattle.pack_head.specs.Heads.{IsHeadFile, file_line, manifest_line, root_line, sequence_line, version_line}
use Rattle.pack_head.specs.Lines.{IsEndAt, IsFault, IsFileLine, IsFirstWrong, IsLineAt}
use Rattle.pack_head.specs.declared.fault.HeadFault.{HeadFault}
use Rattle.pack_head.specs.declared.fault.HeadFault.TheVariants.{Line, Memory}
use Rattle.pack_head.specs.declared.front.Front.{Front}
use Rattle.pack_head.specs.declared.head.HeadFile.{HeadFile}
use Rattle.pack_head.specs.declared.limits.TheConstants.{FILES_LIMIT}
use Rattle.pack_head.specs.internal.Fronts.{IsFront}

-- after a right line a fault of the later ones is one of all
pub later_fault : (place : ℕ) (line : List ℕ) (later : List (List ℕ)) (fault : HeadFault) → IsLineAt place line → IsFault (suc place) later fault → IsFault place (line ∷ later) fault
later_fault place line later (Line number) right wrong = inl (right, wrong)
later_fault place line later Memory right wrong = tt

-- the same of files, where those before are so many
pub files_fault : (files : List HeadFile) (before count : ℕ) (later : List (List ℕ)) (fault : HeadFault) → AllByRecursion IsHeadFile files → count ≡ before + length files → count ≤ FILES_LIMIT
    → IsFault (suc (suc (suc (suc count)))) later fault → IsFault (suc (suc (suc (suc before)))) (map file_line files ++ later) fault
files_fault [] before count later fault fit all few wrong = let e : count ≡ before = omega arith in subst (λ (n : ℕ). IsFault (suc (suc (suc (suc n)))) later fault) e wrong
files_fault (file ∷ files) before count later fault fit all few wrong =
    later_fault (suc (suc (suc (suc before)))) (file_line file) (map file_line files ++ later) fault (file, omega arith, fit.0, refl)
    (files_fault files (suc before) count later fault fit.1 (omega arith) few wrong)

module _ (all later : List (List ℕ)) (files : List HeadFile) (number : ℕ) (fit : AllByRecursion IsHeadFile files) (few : length files ≤ FILES_LIMIT) (is : number ≡ 5 + length files) where
  -- after these files comes a line that is wrong
  pub wrong_file : (line : List ℕ) → all ≡ map file_line files ++ line ∷ later → (¬ (IsFileLine (length files) line)) → (¬ (IsEndAt (suc (suc (suc (suc (length files))))) line later)) → IsFirstWrong 4 all number
  wrong_file line are other goes_on =
      subst (λ (ls : List (List ℕ)). IsFirstWrong 4 ls number) (sym are)
      (files_fault files 0 (length files) (line ∷ later) (Line number) fit (omega arith) few (inr (other, goes_on, omega arith)))

  -- or there is none
  pub missing_file : all ≡ map file_line files ++ [] → IsFirstWrong 4 all number
  missing_file are =
      subst (λ (ls : List (List ℕ)). IsFirstWrong 4 ls number) (sym are)
      (files_fault files 0 (length files) [] (Line number) fit (omega arith) few (omega arith))

-- no test holds where it failed
pub failed : (b : Bool) (P : Type 0) → IsTrue b ↔ P → b ≡ false → ¬ P
failed b P is test p = let holds : b ≡ true = is.1 p in let e : true ≡ false = sym holds ∙ test in cc e

-- what a `?` hands on
pub told_is : {A : Type 0} (r : Result A HeadFault) (fault : HeadFault) (P : HeadFault → Type 0) → IsErrAnd r (λ told. told ≡ fault) → P fault → IfErr r P
told_is (Ok a) fault P told is = absurd told
told_is (Err e) fault P told is = subst P (sym told) is

-- the same, of lines that are so
pub fault_after : (place : ℕ) (lines : List (List ℕ)) (line : List ℕ) (later : List (List ℕ)) (fault : HeadFault) → lines ≡ line ∷ later → IsLineAt place line → IsFault (suc place) later fault → IsFault place lines fault
fault_after place lines line later fault are right wrong = subst (λ (ls : List (List ℕ)). IsFault place ls fault) (sym are) (later_fault place line later fault right wrong)

-- after the first four lines a fault of the later ones is one of all
pub front_fault : (front : Front) (all later : List (List ℕ)) (fault : HeadFault) → IsFront front
    → all ≡ version_line ∷ root_line front.root.0 ∷ sequence_line front.sequence ∷ manifest_line front.manifest.at front.manifest.len ∷ later
    → IsFault 4 later fault → IsFault 0 all fault
front_fault front all later fault is are wrong =
    let root = front.root.0 in
    let manifest = front.manifest in
    fault_after 0 all version_line (root_line root ∷ sequence_line front.sequence ∷ manifest_line manifest.at manifest.len ∷ later) fault are refl
    (later_fault 1 (root_line root) (sequence_line front.sequence ∷ manifest_line manifest.at manifest.len ∷ later) fault (root, is.root, refl)
    (later_fault 2 (sequence_line front.sequence) (manifest_line manifest.at manifest.len ∷ later) fault (front.sequence, is.sequence, refl)
    (later_fault 3 (manifest_line manifest.at manifest.len) later fault (manifest.at, manifest.len, is.at, is.len, refl) wrong)))
