-- The text of a head by its lines.
use Rattle.std.proofs.Common.{◌≡◌, ℕ, List, [], ◌∷◌, ◌++◌, ◌∙◌, Err, Ok, Result, ap, append_assoc, map, refl, sym}
use Rattle.std.specs.List.{flat_map}
use Rattle.std.specs.Prelude.{OnOk}
use Rattle.byte_io.specs.Pieces.{pieces}
use Rattle.pack_head.specs.Heads.{ended, file_line, head_text, line_feed, lines_of, manifest_line, root_line, sequence_line, version_line}
use Rattle.pack_head.specs.declared.head.Head.{Head}
use Rattle.pack_head.specs.declared.head.HeadFile.{HeadFile}
use Rattle.pack_head.proofs.PieceLemmas.{ended_text}

-- the lines that are read are those of a head's text
pub text_is : (head : Head) (text : List ℕ) (all later : List (List ℕ)) → pieces line_feed text ≡ all
    → all ≡ version_line ∷ root_line head.root.0 ∷ sequence_line head.sequence ∷ manifest_line head.manifest_at head.manifest_len ∷ later
    → later ≡ map file_line head.files.items ++ [] ∷ [] → text ≡ head_text head
unfolding head_text
text_is head text all later cut front files =
    ended_text text (lines_of head)
    (cut ∙ front ∙ ap (λ (ls : List (List ℕ)). version_line ∷ root_line head.root.0 ∷ sequence_line head.sequence ∷ manifest_line head.manifest_at head.manifest_len ∷ ls) files)

-- ---- writing

files_text : (files : List HeadFile) → flat_map (λ (file : HeadFile). ended (file_line file)) files ≡ flat_map ended (map file_line files)
files_text [] = refl
files_text (file ∷ files) = ap (λ (t : List ℕ). ended (file_line file) ++ t) (files_text files)

-- the text of a head, line by line
parts_are : (head : Head) → head_text head ≡ ended version_line ++ (ended (root_line head.root.0) ++ (ended (sequence_line head.sequence)
    ++ (ended (manifest_line head.manifest_at head.manifest_len) ++ flat_map (λ (file : HeadFile). ended (file_line file)) head.files.items)))
unfolding head_text
parts_are head =
    ap (λ (t : List ℕ). ended version_line ++ (ended (root_line head.root.0) ++ (ended (sequence_line head.sequence) ++ (ended (manifest_line head.manifest_at head.manifest_len) ++ t))))
    (sym (files_text head.files.items))

five_appended : (old a b c d e v r s m f : List ℕ) → a ≡ old ++ v → b ≡ a ++ r → c ≡ b ++ s → d ≡ c ++ m → e ≡ d ++ f → e ≡ old ++ (v ++ (r ++ (s ++ (m ++ f))))
five_appended old a b c d e v r s m f ia ib ic id ie = rw (ie, id, ic, ib, ia) (simp append_assoc)

-- what was appended line by line
pub head_written : {A E : Type 0} (res : Result A E) (head : Head) (files : List HeadFile) (old a b c d e : List ℕ) → files ≡ head.files.items → a ≡ old ++ ended version_line → b ≡ a ++ ended (root_line head.root.0)
    → c ≡ b ++ ended (sequence_line head.sequence) → d ≡ c ++ ended (manifest_line head.manifest_at head.manifest_len)
    → OnOk res (e ≡ d ++ flat_map (λ (file : HeadFile). ended (file_line file)) files) → OnOk res (e ≡ old ++ head_text head)
head_written (Ok x) head files old a b c d e same ia ib ic id ie =
    five_appended old a b c d e (ended version_line) (ended (root_line head.root.0)) (ended (sequence_line head.sequence)) (ended (manifest_line head.manifest_at head.manifest_len))
    (flat_map (λ (file : HeadFile). ended (file_line file)) head.files.items) ia ib ic id (ie ∙ ap (λ (l : List HeadFile). d ++ flat_map (λ (file : HeadFile). ended (file_line file)) l) same)
    ∙ ap (λ (t : List ℕ). old ++ t) (sym (parts_are head))
head_written (Err x) head files old a b c d e same ia ib ic id ie = tt
