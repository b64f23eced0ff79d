-- Settings are spelled as rules read them.
use Rattle.std.proofs.Common.{◌≡◌, ℕ, zero, suc, List, [], ◌∷◌, Option, None, Some, refl, sym, ◌∙◌, subst, inl, inr}
use Rattle.std.specs.Option.{option_or}
use Rattle.std.specs.Prelude.{◌⊎◌}
use Rattle.osm_model.specs.Degrees.{Decimal}
use Rattle.ql_syntax.specs.Formats.{format_word, asking, setting_asking, settings_asking, last_format}
use Rattle.ql_syntax.specs.Grammar as grammar
use Rattle.ql_syntax.specs.TokenRules.{Word, next_token, pass, unexpected, a_word}
use Rattle.ql_syntax.specs.Rules.{◌>>=◌, give, refuse, from, choose, by_case, repeat, More, Done, RoundsRead, Last}
use Rattle.ql_syntax.specs.Rules as rounds
use Rattle.ql_syntax.specs.SettingWords.{setting_of, format_of}
use Rattle.ql_syntax.specs.Settings.{format_named, format, count, setting_named, setting_value, setting, setting_round, settings}
use Rattle.ql_syntax.specs.Spellings.{Spelling, Both, ◌or◌, each, some, times, says, word, number}
use Rattle.ql_syntax.specs.WholeNumbers.{IsCount, count_of}
use Rattle.ql_syntax.specs.declared.format.Format.{Format}
use Rattle.ql_syntax.specs.declared.format.Format.TheVariants as named
use Rattle.ql_syntax.specs.declared.setting_word.FormatWord.{FormatWord}
use Rattle.ql_syntax.specs.declared.setting_word.FormatWord.TheVariants as formats
use Rattle.ql_syntax.specs.declared.setting_word.SettingWord.{SettingWord}
use Rattle.ql_syntax.specs.declared.setting_word.SettingWord.TheVariants as words
use Rattle.ql_syntax.specs.declared.token_kind.TokenKind.{TokenKind}
use Rattle.ql_syntax.specs.declared.token_kind.TokenKind.TheVariants as kinds
use Rattle.ql_syntax.proofs.FilterSpellings.{means, number_split, word_split, reads_word_at, reads_number}
use Rattle.ql_syntax.proofs.OutSpellings.{reads_count}
use Rattle.ql_syntax.proofs.SpellingLemmas.{Alike, alike, alike_by, alike_on, alike_back, from_token, at_rest, both, spelled_to, other_kind, Reading, reads_then, reads_give, reads_yes, reads_no, reads_from, reads_case, reads_token, pass_sound, reads_punctuation}
use Rattle.ql_syntax.proofs.TokenSpellings.{IsPunctuation, said_at, token, IsWordOf, number_said, number_token}
use Rattle.ql_syntax.proofs.WordSpellings.{setting_is, format_is, format_setting_token, count_setting_token, format_token}

a_word_split : {text rest : List ℕ} (found : Word) → a_word.reads text found rest → IsWordOf (λ (w : List ℕ). w ≡ found.word) text rest
unfolding a_word ◌>>=◌ choose next_token unexpected refuse
a_word_split found r = elim r.back_reads [
  | inl it ↦ record { next = r.front; place = r.middle; word = found.word; at = r.front_reads; is = it.0; run = word_split r.front found it.1; means = refl }
  | inr other ↦ absurd other.1
]

-- the word of a format is one of the two
any_format : (f : Format) {text rest : List ℕ} → format_word f text rest → (word "json" or word "xml") text rest
any_format named.Json w = inl w
any_format named.Xml w = inr w

format_split : (text rest : List ℕ) (value : Option Format) → format.reads text value rest → (word "json" or word "xml") text rest
unfolding format ◌>>=◌ by_case give refuse
format_split text rest value r = by_word (format_of (r.front).word) refl r.back_reads
  where
    by_word : (case : FormatWord) → format_of (r.front).word ≡ case → (format_named (r.front).place case).reads r.middle value rest → (word "json" or word "xml") text rest
    by_word (formats.Known f) is it = spelled_to (word "json" or word "xml") it.1 (any_format f (format_is (r.front).word (a_word_split r.front r.front_reads) (formats.Known f) is))
    by_word formats.Unsupported is it = absurd it
    by_word formats.Unknown is it = absurd it

abbrev A_count : Decimal → Type 0
A_count value = (count : ℕ) × IsCount value count

count_split : {text rest : List ℕ} (value : Option Format) → count.reads text value rest → number A_count text rest
unfolding count ◌>>=◌ give count_of
count_split {text = text} value r = let of = r.back_reads in
    spelled_to (number A_count) (of.back_reads.1 ∙ of.front_reads.1) (number_said (means (λ (d : Decimal) e. (of.front, subst (λ (n : Decimal). IsCount n of.front) (sym e) of.front_reads.0)) (number_split r.front (alike text) r.front_reads)))

-- a setting without its brackets
abbrev body : Spelling
body = grammar.format or grammar.limit

body_split : (text middle rest : List ℕ) (value : Option Format) (place w : List ℕ) (case : SettingWord) → setting_of w ≡ case → IsWordOf (λ (v : List ℕ). v ≡ w) text middle → (setting_named place case).reads middle value rest → body text rest
unfolding ◌>>=◌ refuse
body_split text middle rest value place w words.Format is spelled r =
    inl (both middle (setting_is w spelled words.Format is) (both r.middle (pass_sound kinds.Colon (alike middle) (record { reads = r.front_reads })) (format_split r.middle rest value r.back_reads)))
body_split text middle rest value place w words.Count is spelled r =
    inr (both middle (setting_is w spelled words.Count is) (both r.middle (pass_sound kinds.Colon (alike middle) (record { reads = r.front_reads })) (count_split value r.back_reads)))
body_split text middle rest value place w words.Unsupported is spelled r = absurd r
body_split text middle rest value place w words.Unknown is spelled r = absurd r

setting_split : (text rest : List ℕ) (value : Option Format) → setting.reads text value rest → Both body (says "]") text rest
unfolding setting ◌>>=◌ setting_value by_case give
setting_split text rest value r = let of = r.back_reads in let close = of.back_reads in
    both of.middle (body_split text r.middle of.middle of.front (r.front).place (r.front).word (setting_of (r.front).word) refl (a_word_split r.front r.front_reads) of.front_reads)
    (spelled_to (says "]") close.back_reads.1 (pass_sound kinds.CloseBracket (alike of.middle) (record { reads = close.front_reads })))

-- settings after the first `[`, and the `;`
record Spelled (before rest : List ℕ) : Type 0 where
  n : ℕ
  middle : List ℕ
  front : Both grammar.setting (times n grammar.setting) before middle
  back : says ";" middle rest

one_setting : {before text middle : List ℕ} → says "[" before text → Both body (says "]") text middle → grammar.setting before middle
one_setting {text = text} bracket closed = both text bracket closed

rounds_split : (value : Option Format) (rest : List ℕ) (state : Option Format) (text before : List ℕ) → says "[" before text → RoundsRead setting_round value rest state text → Spelled before rest
unfolding setting_round ◌>>=◌ choose give next_token unexpected refuse
rounds_split value rest _ _ before bracket (Last state text r) = let close = r.back_reads in elim close.back_reads [
  | inl it ↦ (let bad : Done value ≡ More (option_or r.front state) = it.1.0 in absurd (cc))
  | inr it ↦ elim it.1 [
    | inl end ↦ record { n = zero; middle = r.middle; front = both r.middle (one_setting bracket (setting_split text r.middle r.front r.front_reads)) refl; back = said_at (at_rest end.1.1 close.front_reads) end.0 }
    | inr other ↦ absurd other.1
  ]
]
rounds_split value rest _ _ before bracket (rounds.Next state next text middle r more) = let close = r.back_reads in elim close.back_reads [
  | inl it ↦ (let s = rounds_split value rest next middle r.middle (said_at (at_rest it.1.1 close.front_reads) it.0) more in
      record { n = suc s.n; middle = s.middle; front = both r.middle (one_setting bracket (setting_split text r.middle r.front r.front_reads)) s.front; back = s.back })
  | inr it ↦ elim it.1 [
    | inl end ↦ (let bad : More next ≡ Done (option_or r.front state) = end.1.0 in absurd (cc))
    | inr other ↦ absurd other.1
  ]
]

-- settings and their `;`, or none, and blanks and comments have been passed
pub settings_sound : (text rest : List ℕ) (value : Option Format) → settings.reads text value rest → Both (some grammar.setting) (says ";") text rest ⊎ Alike text rest
unfolding settings ◌>>=◌ choose give from next_token repeat
settings_sound text rest value r = elim r.back_reads [
  | inl it ↦ (let s = rounds_split value rest None r.middle text (said_at r.front_reads it.0) it.1 in inl (both s.middle (s.n, s.front) s.back))
  | inr it ↦ inr (alike_back (alike_on (alike_by it.1.1) (from_token r.front_reads)))
]

-- how what is spelled is read
reads_a_word : {Means : List ℕ → Type 0} {text rest : List ℕ} → (w : IsWordOf Means text rest) → Reading a_word text (record { word = w.word; place = (w.next).place }) rest
unfolding a_word
reads_a_word {text = text} w = reads_then _ (reads_token (alike text) w.at) (reads_yes _ w.is (reads_word_at w.next w.run))

reads_format : (f : Format) {text rest : List ℕ} → format_word f text rest → Reading format text (Some f) rest
unfolding format
reads_format f spelled = let w = format_token f spelled in reads_then _ (reads_a_word w) (reads_case _ w.means reads_give)

reads_limit : {text rest : List ℕ} → number A_count text rest → Reading count text None rest
unfolding count
reads_limit {text = text} spelled = let n = number_token spelled in reads_then _ (reads_number (alike text) n) (reads_then _ (reads_count _ (n.means).1) reads_give)

reads_close : (asked : Option Format) {text rest : List ℕ} → says "]" text rest → Reading (pass kinds.CloseBracket >>= (λ close. give asked)) text asked rest
reads_close asked close = reads_then _ (reads_punctuation (alike _) (token kinds.CloseBracket close refl refl)) reads_give

reads_setting : (asked : Option Format) {text middle rest : List ℕ} → asking asked text middle → says "]" middle rest → Reading setting text asked rest
unfolding setting setting_value
reads_setting (Some f) b close = let w = format_setting_token b.front in
    reads_then _ (reads_a_word w) (reads_then _ (reads_case _ w.means (reads_then _ (reads_punctuation (alike _) (token kinds.Colon (b.back).front refl refl)) (reads_format f (b.back).back))) (reads_close (Some f) close))
reads_setting None b close = let w = count_setting_token b.front in
    reads_then _ (reads_a_word w) (reads_then _ (reads_case _ w.means (reads_then _ (reads_punctuation (alike _) (token kinds.Colon (b.back).front refl refl)) (reads_limit (b.back).back))) (reads_close None close))

reads_last : (asked before : Option Format) {text middle rest : List ℕ} → Both (asking asked) (says "]") text middle → says ";" middle rest → Reading (setting_round before) text (Done (option_or asked before)) rest
unfolding setting_round
reads_last asked before {middle = middle} b end = let s = token kinds.Semicolon end refl refl in
    reads_then _ (reads_setting asked b.front b.back) (reads_then _ (reads_token (alike middle) s.at) (reads_no _ (other_kind s.is (λ e. cc)) (reads_yes _ s.is reads_give)))

reads_next : (asked before : Option Format) {text middle rest : List ℕ} → Both (asking asked) (says "]") text middle → says "[" middle rest → Reading (setting_round before) text (More (option_or asked before)) rest
unfolding setting_round
reads_next asked before {middle = middle} b more = let s = token kinds.OpenBracket more refl refl in
    reads_then _ (reads_setting asked b.front b.back) (reads_then _ (reads_token (alike middle) s.at) (reads_yes _ s.is reads_give))

-- of three formats the first that is there
or_or : (a b c : Option Format) → option_or (option_or a b) c ≡ option_or a (option_or b c)
or_or None b c = refl
or_or (Some f) b c = refl

or_none : (a : Option Format) → option_or a None ≡ a
or_none None = refl
or_none (Some f) = refl

rounds_of : (more : List (Option Format)) (first before : Option Format) (text middle last rest : List ℕ) → Both (asking first) (says "]") text middle → each setting_asking more middle last → says ";" last rest
    → RoundsRead setting_round (option_or (last_format (first ∷ more)) before) rest before text
rounds_of [] first before text middle last rest b more end = Last before text (reads_last first before b (subst (λ (s : List ℕ). says ";" s rest) more end)).reads
rounds_of (second ∷ others) first before text middle last rest b more end =
    let next = more.front in
    subst (λ (v : Option Format). RoundsRead setting_round v rest before text) (sym (or_or (last_format (second ∷ others)) first before))
    (rounds.Next before (option_or first before) text next.middle (reads_next first before b next.front).reads (rounds_of others second (option_or first before) next.middle more.middle last rest next.back more.back end))

-- settings are read as the last format that they ask for
pub reads_settings : (first : Option Format) (more : List (Option Format)) {text rest : List ℕ} → settings_asking (first ∷ more) text rest → Reading settings text (last_format (first ∷ more)) rest
unfolding settings repeat
reads_settings first more {text = text} {rest = rest} b =
    let all = b.front in
    let bracket = token kinds.OpenBracket (all.front).front refl refl in
    reads_then _ (reads_token (alike text) bracket.at) (reads_yes _ bracket.is (record {
      reads = subst (λ (v : Option Format). RoundsRead setting_round v rest None (all.front).middle) (or_none (last_format (first ∷ more)))
          (rounds_of more first None (all.front).middle all.middle b.middle rest (all.front).back all.back b.back);
    }))

pub reads_no_settings : {text rest : List ℕ} {kind : TokenKind} → (s : IsPunctuation kind text rest) → (kind ≡ kinds.OpenBracket → ⊥) → Reading settings text None (s.next).place
unfolding settings
reads_no_settings {text = text} s other = reads_then _ (reads_token (alike text) s.at) (reads_no _ (other_kind s.is other) (reads_from _ reads_give))

-- ---- what settings that are spelled ask for

format_asked : {text rest : List ℕ} → grammar.format text rest → (f : Format) × asking (Some f) text rest
format_asked f = elim (f.back).back [
  | inl w ↦ (named.Json, both f.middle f.front (both (f.back).middle (f.back).front w))
  | inr w ↦ (named.Xml, both f.middle f.front (both (f.back).middle (f.back).front w))
]

setting_asked : {text rest : List ℕ} → grammar.setting text rest → (asked : Option Format) × setting_asking asked text rest
setting_asked s = elim (s.back).front [
  | inl f ↦ (let a = format_asked f in (Some a.0, both s.middle s.front (both (s.back).middle a.1 (s.back).back)))
  | inr l ↦ (None, both s.middle s.front (both (s.back).middle l (s.back).back))
]

times_asked : (n : ℕ) {text rest : List ℕ} → times n grammar.setting text rest → (asked : List (Option Format)) × each setting_asking asked text rest
times_asked zero t = ([], t)
times_asked (suc n) t =
    let first = setting_asked t.front in
    let more = times_asked n t.back in
    (first.0 ∷ more.0, both t.middle first.1 more.1)

pub settings_asked : {text rest : List ℕ} → grammar.settings text rest → (asked : List (Option Format)) × settings_asking asked text rest
settings_asked (inl b) =
    let all = b.front in
    let first = setting_asked (all.1).front in
    let more = times_asked all.0 (all.1).back in
    (first.0 ∷ more.0, both b.middle (both (all.1).middle first.1 more.1) b.back)
settings_asked (inr none) = ([], none)
