-- The root line at the end of a change file.
use Rattle.std.proofs.Common.{◌≡◌, ◌≢◌, ◌∙◌, ℕ, zero, suc, Bool, true, false, cond, List, [], ◌∷◌, ◌++◌, ◌==◌, ◌-◌, arith, length, length-drop, take, drop, Option, None, Some, inl, inr, refl, sym, ap, subst, append_assoc, append-nil}
use Rattle.std.specs.List.{AllByRecursion, find}
use Rattle.std.specs.Option.{option_or}
use Rattle.std.specs.Prelude.{if◌then◌else◌, option_and_then, reverse, slice_index}
use Rattle.std.proofs.Math.Seq.{drop-append_seam, take-append_seam, take-length}
use Rattle.std.proofs.lemmas.List.{reverse-append, take_all}
use Rattle.std.proofs.lemmas.List.Folds.{find-append}
use Rattle.hex.specs.Hex.{encode_lower, encode_with, lower_digits}
use Rattle.byte_io.specs.Pieces.{Lacks, onto_first, pieces}
use Rattle.osm_model.specs.Bytes.{line_feed}
use Rattle.opl_codec.specs.Files.{end_comment, if_comment, last_line}
use Rattle.opl_codec.specs.LineFields.{is_comment, is_some_text}
use Rattle.osm_keys.specs.Publications.{Publication, root_of}
use Rattle.osm_desk.specs.AnnouncedRoots.{Announces, AnnouncesSome, root_digits, root_words}
use Rattle.osm_changes.specs.AnnouncedChanges.{HasRootLine, IsEnded, IsWithLineEnd, IsWithoutRootLine}
use Rattle.osm_commands.specs.TreeRoots.{publication_line}

-- line feeds and nothing else
abbrev pub AreLineFeeds : List ℕ → Type 0
AreLineFeeds text = AllByRecursion (λ byte. byte ≡ line_feed) text

-- ---- the lines of a text

no_pieces : (text : List ℕ) → pieces line_feed text ≡ [] → ⊥
no_pieces [] none = cc
no_pieces (byte ∷ text) none = by (byte == line_feed) (pieces line_feed text) none
  where
    by : (b : Bool) (ps : List (List ℕ)) → (if b then [] ∷ ps else onto_first byte ps) ≡ [] → ⊥
    by true ps is = cc
    by false [] is = cc
    by false (p ∷ ps) is = cc

onto_over : (byte : ℕ) (xs ys : List (List ℕ)) → (xs ≡ [] → ⊥) → onto_first byte (xs ++ ys) ≡ onto_first byte xs ++ ys
onto_over byte [] ys some = absurd (some refl)
onto_over byte (x ∷ xs) ys some = refl

over_more : (byte : ℕ) (b : Bool) (all front rest : List (List ℕ)) → all ≡ front ++ rest → (front ≡ [] → ⊥)
    → (if b then [] ∷ all else onto_first byte all) ≡ (if b then [] ∷ front else onto_first byte front) ++ rest
over_more byte true all front rest is some = ap (λ (ps : List (List ℕ)). [] ∷ ps) is
over_more byte false all front rest is some = ap (onto_first byte) is ∙ onto_over byte front rest some

-- a line feed parts the lines
pub pieces_over : (front rest : List ℕ) → pieces line_feed (front ++ line_feed ∷ rest) ≡ pieces line_feed front ++ pieces line_feed rest
pieces_over [] rest = refl
pieces_over (byte ∷ front) rest = over_more byte (byte == line_feed) (pieces line_feed (front ++ line_feed ∷ rest)) (pieces line_feed front) (pieces line_feed rest) (pieces_over front rest) (no_pieces front)

pub one_line : (line : List ℕ) → Lacks line_feed line → pieces line_feed line ≡ line ∷ []
one_line [] lacks = refl
one_line (byte ∷ line) lacks = rw (lacks.0, one_line line lacks.1) refl

-- ---- the last line that isn't empty

last_over : (xs ys : List (List ℕ)) → last_line (xs ++ ys) ≡ option_or (last_line ys) (last_line xs)
last_over xs ys = ap (find is_some_text) (reverse-append xs ys) ∙ find-append is_some_text (reverse ys) (reverse xs)

no_line : (after : List ℕ) → AreLineFeeds after → last_line (pieces line_feed after) ≡ None
no_line [] all = refl
no_line (byte ∷ after) all =
    subst (λ (b : ℕ). last_line (pieces line_feed (b ∷ after)) ≡ None) (sym all.0)
    (last_over ([] ∷ []) (pieces line_feed after) ∙ ap (λ (o : Option (List ℕ)). option_or o None) (no_line after all.1))

alone : (line : List ℕ) → is_some_text line ≡ true → last_line (line ∷ []) ≡ Some line
alone line some = ap (λ (b : Bool). cond b (Some line) None) some

line_last : (line after : List ℕ) → Lacks line_feed line → is_some_text line ≡ true → AreLineFeeds after → last_line (pieces line_feed (line ++ after)) ≡ Some line
line_last line [] lacks some all = ap (λ (t : List ℕ). last_line (pieces line_feed t)) (append-nil line) ∙ ap last_line (one_line line lacks) ∙ alone line some
line_last line (byte ∷ after) lacks some all =
    subst (λ (b : ℕ). last_line (pieces line_feed (line ++ b ∷ after)) ≡ Some line) (sym all.0)
    (ap last_line (pieces_over line after ∙ ap (λ (ps : List (List ℕ)). ps ++ pieces line_feed after) (one_line line lacks))
    ∙ last_over (line ∷ []) (pieces line_feed after)
    ∙ ap (λ (o : Option (List ℕ)). option_or o (last_line (line ∷ []))) (no_line after all.1)
    ∙ alone line some)

text_last : (kept line after : List ℕ) → IsEnded kept → Lacks line_feed line → is_some_text line ≡ true → AreLineFeeds after → last_line (pieces line_feed (kept ++ (line ++ after))) ≡ Some line
text_last kept line after (inl empty) lacks some all =
    ap (λ (k : List ℕ). last_line (pieces line_feed (k ++ (line ++ after)))) empty ∙ line_last line after lacks some all
text_last kept line after (inr (front, is)) lacks some all =
    ap (λ (k : List ℕ). last_line (pieces line_feed (k ++ (line ++ after)))) is
    ∙ ap (λ (t : List ℕ). last_line (pieces line_feed t)) (append_assoc front (line_feed ∷ []) (line ++ after))
    ∙ ap last_line (pieces_over front (line ++ after))
    ∙ last_over (pieces line_feed front) (pieces line_feed (line ++ after))
    ∙ ap (λ (o : Option (List ℕ)). option_or o (last_line (pieces line_feed front))) (line_last line after lacks some all)

-- ---- a text that announces a root

announces : (kept announced after : List ℕ) → IsEnded kept → Lacks line_feed (root_words ++ announced) → AreLineFeeds after → Announces (kept ++ ((root_words ++ announced) ++ after)) announced
announces kept announced after ended lacks all = ap (option_and_then if_comment) (text_last kept (root_words ++ announced) after ended lacks refl all)

-- what follows the words
rest_lacks : (announced : List ℕ) → Lacks line_feed (root_words ++ announced) → Lacks line_feed announced
rest_lacks announced lacks = lacks.1.1.1.1.1.1.1

comment_is : (line comment : List ℕ) → if_comment line ≡ Some comment → line ≡ comment
comment_is line comment is = by (is_comment line) is
  where
    by : (b : Bool) → (if b then Some line else None) ≡ Some comment → line ≡ comment
    by true is = cc
    by false is = cc

-- ---- the text before the root line

-- the text in its parts: what is kept, the last line that isn't empty, and line feeds
pub record Parts (text kept line : List ℕ) : Type 0 where
  pub lines : List ℕ
  pub after : List ℕ
  pub text_is : text ≡ lines ++ after
  pub feeds : AreLineFeeds after
  pub all : (front : List ℕ) → ¬ (lines ≡ front ++ line_feed ∷ [])
  pub lines_are : lines ≡ kept ++ line
  pub lacks : Lacks line_feed line
  pub ended : IsEnded kept

pub kept_before : (text kept line announced : List ℕ) → Parts text kept line → line ≡ root_words ++ announced → IsWithoutRootLine text (take (length kept) text)
kept_before text kept line announced parts is =
    let whole : text ≡ kept ++ (line ++ parts.after) = parts.text_is ∙ ap (λ (l : List ℕ). l ++ parts.after) parts.lines_are ∙ append_assoc kept line parts.after in
    let same : take (length kept) text ≡ kept = ap (λ (t : List ℕ). take (length kept) t) whole ∙ take-append_seam kept (line ++ parts.after) in
    let named : text ≡ kept ++ ((root_words ++ announced) ++ parts.after) = whole ∙ ap (λ (l : List ℕ). kept ++ (l ++ parts.after)) is in
    let told : Announces text announced = subst (λ (t : List ℕ). Announces t announced) (sym named)
    (announces kept announced parts.after parts.ended (subst (Lacks line_feed) is parts.lacks) parts.feeds) in
    subst (IsWithoutRootLine text) (sym same) (inr (announced, parts.after, told, named, rest_lacks announced (subst (Lacks line_feed) is parts.lacks), parts.ended, parts.feeds))

-- the last line, as a range gives it
pub last_is : (lines kept line : List ℕ) → lines ≡ kept ++ line → take (length lines - length kept) (drop (length kept) lines) ≡ line
last_is lines kept line is =
    take_all (length lines - length kept) (drop (length kept) lines) (omega (arith, length-drop (length kept) lines))
    ∙ ap (λ (l : List ℕ). drop (length kept) l) is
    ∙ drop-append_seam kept line

-- where the last line is no root line nothing is announced
no_root : (text kept line : List ℕ) → Parts text kept line → ((announced : List ℕ) → line ≢ root_words ++ announced) → AnnouncesSome text → ⊥
no_root text kept [] parts never (announced, told) = by parts.ended
  where
    lines_are : parts.lines ≡ kept
    lines_are = parts.lines_are ∙ append-nil kept

    by : IsEnded kept → ⊥
    by (inr (front, is)) = parts.all front (lines_are ∙ is)
    by (inl empty) =
        let feeds : text ≡ parts.after = parts.text_is ∙ ap (λ (l : List ℕ). l ++ parts.after) (lines_are ∙ empty) in
        let none : end_comment text ≡ None = ap end_comment feeds ∙ ap (option_and_then if_comment) (no_line parts.after parts.feeds) in
        let both : None ≡ Some (root_words ++ announced) = sym none ∙ told in
        cc
no_root text kept (byte ∷ line) parts never (announced, told) =
    let whole : text ≡ kept ++ ((byte ∷ line) ++ parts.after) = parts.text_is ∙ ap (λ (l : List ℕ). l ++ parts.after) parts.lines_are ∙ append_assoc kept (byte ∷ line) parts.after in
    let last : end_comment text ≡ if_comment (byte ∷ line) = ap end_comment whole ∙ ap (option_and_then if_comment) (text_last kept (byte ∷ line) parts.after parts.ended parts.lacks refl parts.feeds) in
    never announced (comment_is (byte ∷ line) (root_words ++ announced) (sym last ∙ told))

pub kept_whole : (text kept line : List ℕ) → Parts text kept line → ((announced : List ℕ) → line ≢ root_words ++ announced) → IsWithoutRootLine text (take (length text) text)
kept_whole text kept line parts never = inl (no_root text kept line parts never, take-length text)

-- ---- the text with its root line

digit_lacks : (table : List ℕ) (k : ℕ) → Lacks line_feed table → (slice_index table k == line_feed) ≡ false
digit_lacks [] k lacks = refl
digit_lacks (digit ∷ table) zero lacks = lacks.0
digit_lacks (digit ∷ table) (suc k) lacks = digit_lacks table k lacks.1

table_lacks : Lacks line_feed lower_digits
table_lacks =
    (refl, (refl, (refl, (refl, (refl, (refl, (refl, (refl, (refl, (refl, (refl, (refl, (refl, (refl, (refl, (refl, tt))))))))))))))))

pub digits_lack : (bytes : List ℕ) → Lacks line_feed (encode_lower bytes)
unfolding encode_with
digits_lack [] = tt
digits_lack (byte ∷ bytes) = (digit_lacks lower_digits _ table_lacks, (digit_lacks lower_digits _ table_lacks, digits_lack bytes))

pub words_lack : (text : List ℕ) → Lacks line_feed text → Lacks line_feed (root_words ++ text)
words_lack text lacks = (refl, (refl, (refl, (refl, (refl, (refl, (refl, lacks)))))))

pub line_ended : (kept ended : List ℕ) → IsWithLineEnd kept ended → IsEnded ended
line_ended kept ended (inl (is, same)) = subst IsEnded (sym same) is
line_ended kept ended (inr (open_end, is)) = inr (kept, is)

-- it announces the root of the line
pub root_announced : (text written : List ℕ) (q : Publication) → HasRootLine text (publication_line q) written → Announces written (root_digits q)
root_announced text written q line =
    let digits = root_digits q in
    let same : written ≡ line.ended ++ ((root_words ++ digits) ++ line_feed ∷ []) =
    line.is ∙ ap (λ (l : List ℕ). line.ended ++ l) (sym (append_assoc root_words digits (line_feed ∷ []))) in
    subst (λ (t : List ℕ). Announces t digits) (sym same)
    (announces line.ended digits (line_feed ∷ []) (line_ended line.kept line.ended line.line_end) (words_lack digits (digits_lack (root_of q))) (refl, tt))
