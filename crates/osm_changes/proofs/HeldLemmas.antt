-- A change file with another root line holds the same changes.
use Rattle.std.proofs.Common.{◌≡◌, ◌∙◌, ℕ, ◌+◌, Bool, true, false, not, List, [], ◌∷◌, ◌++◌, length, inl, inr, refl, sym, ap, subst, append_assoc, append-nil, arith, length-append}
use Rattle.std.proofs.lemmas.Bool.{eqb-true}
use Rattle.std.proofs.lemmas.List.Elements.{filter-append}
use Rattle.std.specs.Prelude.{if◌then◌else◌, nat_le, ◌&&◌}
use Rattle.byte_io.specs.Pieces.{pieces}
use Rattle.osm_model.specs.Bytes.{hash, line_feed}
use Rattle.osm_model.specs.CanonicalLine.{kind_letter}
use Rattle.osm_model.specs.declared.kind.Kind.{Kind}
use Rattle.osm_model.specs.declared.kind.Kind.TheVariants as kinds
use Rattle.osm_model.specs.Elements.{reference}
use Rattle.opl_codec.specs.Fields.{Each}
use Rattle.opl_codec.specs.Files.{HoldsChanges, without_skipped}
use Rattle.opl_codec.specs.LineChanges.{Spells, is_skipped}
use Rattle.opl_codec.specs.LineFields.{is_comment}
use Rattle.opl_codec.specs.declared.change.Change.{Change}
use Rattle.opl_codec.specs.declared.change.Change.TheVariants as changes
use Rattle.osm_keys.specs.Publications.{Publication, root_of}
use Rattle.osm_desk.specs.AnnouncedRoots.{root_digits, root_words}
use Rattle.osm_desk.proofs.shared.RootDigits.{digits_len}
use Rattle.osm_changes.specs.AnnouncedChanges.{HasRootLine, IsEnded, IsWithLineEnd, IsWithoutRootLine}
use Rattle.osm_commands.specs.TreeRoots.{publication_line}
use Rattle.osm_changes.proofs.RootLineLemmas.{AreLineFeeds, digits_lack, line_ended, one_line, pieces_over, words_lack}

-- ---- the lines of a text that say something

abbrev said : List ℕ → List (List ℕ)
said text = without_skipped (pieces line_feed text)

said_over : (front rest : List ℕ) → said (front ++ line_feed ∷ rest) ≡ said front ++ said rest
said_over front rest = ap without_skipped (pieces_over front rest) ∙ filter-append (λ line. not (is_skipped line)) (pieces line_feed front) (pieces line_feed rest)

said_end : (front : List ℕ) → said (front ++ line_feed ∷ []) ≡ said front
said_end front = said_over front [] ∙ append-nil (said front)

said_after : (text rest : List ℕ) → IsEnded text → said (text ++ rest) ≡ said text ++ said rest
said_after text rest (inl empty) = subst (λ (t : List ℕ). said (t ++ rest) ≡ said t ++ said rest) (sym empty) refl
said_after text rest (inr (front, is)) = subst (λ (t : List ℕ). said (t ++ rest) ≡ said t ++ said rest) (sym is)
    (ap said (append_assoc front (line_feed ∷ []) rest) ∙ said_over front rest ∙ ap (λ (s : List (List ℕ)). s ++ said rest) (sym (said_end front)))

said_feeds : (after : List ℕ) → AreLineFeeds after → said after ≡ []
said_feeds [] all = refl
said_feeds (byte ∷ after) all = subst (λ (b : ℕ). said (b ∷ after) ≡ []) (sym all.0) (said_over [] after ∙ said_feeds after all.1)

said_line : (line after : List ℕ) → AreLineFeeds after → said (line ++ after) ≡ said line
said_line line [] all = ap said (append-nil line)
said_line line (byte ∷ after) all = subst (λ (b : ℕ). said (line ++ b ∷ after) ≡ said line) (sym all.0)
    (said_over line after ∙ ap (λ (s : List (List ℕ)). said line ++ s) (said_feeds after all.1) ∙ append-nil (said line))

-- ---- a comment says nothing

no_kind : (kind : Kind) (byte : ℕ) → byte ≡ kind_letter kind → byte ≡ hash → ⊥
no_kind kinds.Node byte is are = omega (arith, is, are)
no_kind kinds.Way byte is are = omega (arith, is, are)
no_kind kinds.Rel byte is are = omega (arith, is, are)

no_change : (line : List ℕ) (change : Change) → is_comment line ≡ true → Spells line change → ⊥
no_change [] change comment says = let no : false ≡ true = comment in cc
no_change (byte ∷ line) (changes.Put o) comment says = no_kind (reference o).kind byte says.spelled.begins (eqb-true byte hash comment)
no_change (byte ∷ line) (changes.Delete name) comment says = no_kind name.kind byte says.spelled.begins (eqb-true byte hash comment)

not_last : (before : List (List ℕ)) (line : List ℕ) (all : List Change) → is_comment line ≡ true → Each Spells (before ++ line ∷ []) all → ⊥
not_last [] line [] comment each = each
not_last [] line (change ∷ all) comment each = no_change line change comment each.0
not_last (first ∷ before) line [] comment each = each
not_last (first ∷ before) line (change ∷ all) comment each = not_last before line all comment each.1

-- so where changes are held it is skipped
comment_unsaid : (before : List (List ℕ)) (line : List ℕ) (all : List Change) → is_comment line ≡ true → Each Spells (before ++ without_skipped (line ∷ [])) all → without_skipped (line ∷ []) ≡ []
comment_unsaid before line all comment each = by (is_skipped line) each
  where
    by : (b : Bool) → Each Spells (before ++ (if not b then line ∷ [] else [])) all → (if not b then line ∷ [] else []) ≡ []
    by true is = refl
    by false is = absurd (not_last before line all comment is)

-- ---- the same changes

-- without the root line that there was
kept_holds : (text kept : List ℕ) (all : List Change) → IsWithoutRootLine text kept → HoldsChanges text all → HoldsChanges kept all
kept_holds text kept all (inl (none, same)) holds = subst (λ (t : List ℕ). HoldsChanges t all) (sym same) holds
kept_holds text kept all (inr (announced, after, told, is, lacks, ended, feeds)) holds =
    let line = root_words ++ announced in
    let parts : said text ≡ said kept ++ without_skipped (line ∷ []) = ap said is ∙ said_after kept (line ++ after) ended
    ∙ ap (λ (s : List (List ℕ)). said kept ++ s) (said_line line after feeds ∙ ap without_skipped (one_line line (words_lack announced lacks))) in
    let each : Each Spells (said kept ++ without_skipped (line ∷ [])) all = subst (λ (s : List (List ℕ)). Each Spells s all) parts holds in
    let none : without_skipped (line ∷ []) ≡ [] = comment_unsaid (said kept) line all refl each in
    subst (λ (s : List (List ℕ)). Each Spells s all) (ap (λ (s : List (List ℕ)). said kept ++ s) none ∙ append-nil (said kept)) each

-- with its line end
ended_said : (kept ended : List ℕ) → IsWithLineEnd kept ended → said ended ≡ said kept
ended_said kept ended (inl (is, same)) = ap said same
ended_said kept ended (inr (open_end, is)) = ap said is ∙ said_end kept

-- a root line is short
short : (line : List ℕ) → length line ≡ 71 → nat_le (length line) 33554432 ≡ true
short line len = ap (λ (n : ℕ). nat_le n 33554432) len

root_unsaid : (q : Publication) → without_skipped ((root_words ++ root_digits q) ∷ []) ≡ []
root_unsaid q =
    let len : length (root_words ++ root_digits q) ≡ 71 = length-append root_words (root_digits q) ∙ ap (λ (n : ℕ). 7 + n) (digits_len q) in
    ap (λ (b : Bool). if not (b && true) then (root_words ++ root_digits q) ∷ [] else []) (short (root_words ++ root_digits q) len)

-- and with the root line that there is
pub held_again : (text written : List ℕ) (q : Publication) (all : List Change) → HasRootLine text (publication_line q) written → HoldsChanges text all → HoldsChanges written all
held_again text written q all line holds =
    let digits = root_digits q in
    let own = root_words ++ digits in
    let is : written ≡ line.ended ++ (own ++ line_feed ∷ []) = line.is ∙ ap (λ (l : List ℕ). line.ended ++ l) (sym (append_assoc root_words digits (line_feed ∷ []))) in
    let same : said written ≡ said line.kept =
    ap said is
    ∙ said_after line.ended (own ++ line_feed ∷ []) (line_ended line.kept line.ended line.line_end)
    ∙ ap (λ (s : List (List ℕ)). said line.ended ++ s) (said_end own ∙ ap without_skipped (one_line own (words_lack digits (digits_lack (root_of q)))) ∙ root_unsaid q)
    ∙ append-nil (said line.ended)
    ∙ ended_said line.kept line.ended line.line_end in
    subst (λ (s : List (List ℕ)). Each Spells s all) (sym same) (kept_holds text line.kept all line.without holds)
