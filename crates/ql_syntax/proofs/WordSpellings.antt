-- Words, and what the tables say of them.
use Rattle.std.proofs.Common.{◌≡◌, ℕ, List, Bool, true, false, cond, ◌||◌, refl, ◌∙◌, ap, subst, inl, inr}
use Rattle.std.proofs.lemmas.Slice.Eq.{bytes_eq-Decides}
use Rattle.std.specs.Bool.{⊤}
use Rattle.std.specs.Option.{unwrap_or}
use Rattle.std.specs.Prelude.{codes, bytes_eq, Option, None, Some}
use Rattle.osm_model.specs.declared.out_mode.OutMode.{OutMode}
use Rattle.osm_model.specs.declared.out_mode.OutMode.TheVariants as modes
use Rattle.ql_syntax.specs.Formats.{format_word}
use Rattle.ql_syntax.specs.Grammar as grammar
use Rattle.ql_syntax.specs.OutWords as out_words
use Rattle.ql_syntax.specs.OutWords.{out_word}
use Rattle.ql_syntax.specs.Picks.{allows}
use Rattle.ql_syntax.specs.SelectorWords as selector_words
use Rattle.ql_syntax.specs.SelectorWords.{selector_word, path_of, path_word}
use Rattle.ql_syntax.specs.SettingWords.{setting_of, format_of}
use Rattle.ql_syntax.specs.Spellings.{Spelling, AfterGap, word, ◌or◌}
use Rattle.ql_syntax.specs.StatementWords as statement_words
use Rattle.ql_syntax.specs.StatementWords.{statement_word, known_word}
use Rattle.ql_syntax.specs.Words.{IsRun}
use Rattle.ql_syntax.specs.declared.format.Format.{Format}
use Rattle.ql_syntax.specs.declared.format.Format.TheVariants as named
use Rattle.ql_syntax.specs.declared.out_word.OutWord.{OutWord}
use Rattle.ql_syntax.specs.declared.out_word.OutWord.TheVariants as outs
use Rattle.ql_syntax.specs.declared.path.Path.{Path}
use Rattle.ql_syntax.specs.declared.path.Path.TheVariants as paths
use Rattle.ql_syntax.specs.declared.pick.Pick.{Pick}
use Rattle.ql_syntax.specs.declared.pick.Pick.TheVariants as picks
use Rattle.ql_syntax.specs.declared.selector_word.SelectorWord.{SelectorWord}
use Rattle.ql_syntax.specs.declared.selector_word.SelectorWord.TheVariants as selectors
use Rattle.ql_syntax.specs.declared.setting_word.FormatWord.{FormatWord}
use Rattle.ql_syntax.specs.declared.setting_word.FormatWord.TheVariants as formats
use Rattle.ql_syntax.specs.declared.setting_word.SettingWord.{SettingWord}
use Rattle.ql_syntax.specs.declared.setting_word.SettingWord.TheVariants as settings
use Rattle.ql_syntax.specs.declared.statement_word.StatementWord.{StatementWord}
use Rattle.ql_syntax.specs.declared.statement_word.StatementWord.TheVariants as statements
use Rattle.ql_syntax.proofs.TokenSpellings.{by_test, IsWordOf, word_said, word_token}

abbrev anything : Spelling
anything text rest = ⊤

-- what is spelled by a word of a table
abbrev pub statement_spelled : StatementWord → Spelling
statement_spelled (statements.Kind pick) = grammar.kind pick
statement_spelled statements.Print = word "out"
statement_spelled statements.Unsupported = anything
statement_spelled statements.Unknown = anything

abbrev pub out_spelled : OutWord → Spelling
out_spelled (outs.Mode mode) = grammar.mode_word mode
out_spelled outs.Order = word "asc" or word "qt"
out_spelled outs.Unsupported = anything
out_spelled outs.Unknown = anything

abbrev pub setting_spelled : SettingWord → Spelling
setting_spelled settings.Format = word "out"
setting_spelled settings.Count = word "timeout" or word "maxsize"
setting_spelled settings.Unsupported = anything
setting_spelled settings.Unknown = anything

abbrev pub format_spelled : FormatWord → Spelling
format_spelled (formats.Known format) = format_word format
format_spelled formats.Unsupported = anything
format_spelled formats.Unknown = anything

abbrev path_spelled : Option Path → Spelling
path_spelled None = anything
path_spelled (Some path) = grammar.path path

abbrev pub selector_spelled : SelectorWord → Spelling
selector_spelled selectors.Ids = word "id"
selector_spelled (selectors.Along path) = grammar.path path
selector_spelled selectors.Unsupported = anything
selector_spelled selectors.Unknown = anything

module _ {text rest : List ℕ} (w : List ℕ) (spelled : IsWordOf (λ (v : List ℕ). v ≡ w) text rest) where
  -- the word is this one
  is_said : (said : List ℕ) → bytes_eq w said ≡ true → AfterGap (λ place end. IsRun place said end) text rest
  is_said said test = word_said (record { next = spelled.next; place = spelled.place; word = spelled.word; at = spelled.at; is = spelled.is; run = spelled.run; means = spelled.means ∙ (bytes_eq-Decides w said).0 test })

  -- the word is one of two
  is_either : {P : Type 0} (b c : Bool) → (b ≡ true → P) → (c ≡ true → P) → (b || c) ≡ true → P
  is_either true c f g is = f refl
  is_either false c f g is = g is

  abbrev At_statement : StatementWord → Type 0
  At_statement case = statement_spelled case text rest

  abbrev At_known : Option StatementWord → Type 0
  At_known None = ⊤
  At_known (Some case) = At_statement case

  known_said : At_known (known_word w)
  known_said =
      by_test At_known (bytes_eq w (codes "node")) (Some (statements.Kind picks.Node)) _ (is_said (codes "node"))
      (by_test At_known (bytes_eq w (codes "way")) (Some (statements.Kind picks.Way)) _ (is_said (codes "way"))
      (by_test At_known (bytes_eq w (codes "rel") || bytes_eq w (codes "relation")) (Some (statements.Kind picks.Rel)) _ (is_either _ _ (λ t. inl (is_said (codes "rel") t)) (λ t. inr (is_said (codes "relation") t)))
      (by_test At_known (bytes_eq w (codes "nwr")) (Some (statements.Kind picks.Nwr)) _ (is_said (codes "nwr"))
      (by_test At_known (bytes_eq w (codes "out")) (Some statements.Print) None (is_said (codes "out")) tt))))

  or_other : (found : Option StatementWord) → At_known found → At_statement (unwrap_or found (cond (statement_words.is_unsupported w) statements.Unsupported statements.Unknown))
  or_other (Some case) is = is
  or_other None is = by_test At_statement (statement_words.is_unsupported w) statements.Unsupported statements.Unknown (λ t. tt) tt

  statement_said : At_statement (statement_word w)
  statement_said = or_other (known_word w) known_said

  pub statement_is : (case : StatementWord) → statement_word w ≡ case → statement_spelled case text rest
  statement_is case is = subst At_statement is statement_said

  abbrev At_out : OutWord → Type 0
  At_out case = out_spelled case text rest

  out_said : At_out (out_word w)
  out_said =
      by_test At_out (out_words.is_unsupported w) outs.Unsupported _ (λ t. tt)
      (by_test At_out (bytes_eq w (codes "ids")) (outs.Mode modes.Ids) _ (is_said (codes "ids"))
      (by_test At_out (bytes_eq w (codes "tags")) (outs.Mode modes.Tags) _ (is_said (codes "tags"))
      (by_test At_out (bytes_eq w (codes "skel")) (outs.Mode modes.Skel) _ (is_said (codes "skel"))
      (by_test At_out (bytes_eq w (codes "body")) (outs.Mode modes.Body) _ (is_said (codes "body"))
      (by_test At_out (bytes_eq w (codes "meta")) (outs.Mode modes.Meta) _ (is_said (codes "meta"))
      (by_test At_out (bytes_eq w (codes "asc") || bytes_eq w (codes "qt")) outs.Order outs.Unknown (is_either _ _ (λ t. inl (is_said (codes "asc") t)) (λ t. inr (is_said (codes "qt") t)))
      tt))))))

  pub out_is : (case : OutWord) → out_word w ≡ case → out_spelled case text rest
  out_is case is = subst At_out is out_said

  abbrev At_setting : SettingWord → Type 0
  At_setting case = setting_spelled case text rest

  setting_said : At_setting (setting_of w)
  setting_said =
      by_test At_setting _ settings.Unsupported _ (λ t. tt)
      (by_test At_setting (bytes_eq w (codes "out")) settings.Format _ (is_said (codes "out"))
      (by_test At_setting (bytes_eq w (codes "timeout") || bytes_eq w (codes "maxsize")) settings.Count settings.Unknown (is_either _ _ (λ t. inl (is_said (codes "timeout") t)) (λ t. inr (is_said (codes "maxsize") t)))
      tt))

  pub setting_is : (case : SettingWord) → setting_of w ≡ case → setting_spelled case text rest
  setting_is case is = subst At_setting is setting_said

  abbrev At_format : FormatWord → Type 0
  At_format case = format_spelled case text rest

  format_said : At_format (format_of w)
  format_said =
      by_test At_format _ formats.Unsupported _ (λ t. tt)
      (by_test At_format (bytes_eq w (codes "json")) (formats.Known named.Json) _ (is_said (codes "json"))
      (by_test At_format (bytes_eq w (codes "xml")) (formats.Known named.Xml) formats.Unknown (is_said (codes "xml")) tt))

  pub format_is : (case : FormatWord) → format_of w ≡ case → format_spelled case text rest
  format_is case is = subst At_format is format_said

  abbrev At_path : Option Path → Type 0
  At_path case = path_spelled case text rest

  path_said : At_path (path_of w)
  path_said =
      by_test At_path (bytes_eq w (codes "w")) (Some paths.W) _ (is_said (codes "w"))
      (by_test At_path (bytes_eq w (codes "r")) (Some paths.R) _ (is_said (codes "r"))
      (by_test At_path (bytes_eq w (codes "bn")) (Some paths.Bn) _ (is_said (codes "bn"))
      (by_test At_path (bytes_eq w (codes "bw")) (Some paths.Bw) _ (is_said (codes "bw"))
      (by_test At_path (bytes_eq w (codes "br")) (Some paths.Br) None (is_said (codes "br")) tt))))

  abbrev At_selector : SelectorWord → Type 0
  At_selector case = selector_spelled case text rest

  along_said : (pick : Pick) (found : Option Path) → At_path found → At_selector (path_word pick found)
  along_said pick None is = tt
  along_said pick (Some path) is = by_test At_selector (allows pick path) (selectors.Along path) selectors.Unsupported (λ t. is) tt

  selector_said : (pick : Pick) → At_selector (selector_word pick w)
  selector_said pick =
      by_test At_selector (bytes_eq w (codes "id")) selectors.Ids _ (is_said (codes "id"))
      (by_test At_selector (selector_words.is_unsupported w) selectors.Unsupported _ (λ t. tt) (along_said pick (path_of w) path_said))

  pub selector_is : (pick : Pick) (case : SelectorWord) → selector_word pick w ≡ case → selector_spelled case text rest
  selector_is pick case is = subst At_selector is (selector_said pick)

-- the words of a meaning
pub kind_token : (pick : Pick) {text rest : List ℕ} → grammar.kind pick text rest → IsWordOf (λ (w : List ℕ). statement_word w ≡ statements.Kind pick) text rest
kind_token picks.Node w = word_token (codes "node") w refl refl
kind_token picks.Way w = word_token (codes "way") w refl refl
kind_token picks.Rel (inl w) = word_token (codes "rel") w refl refl
kind_token picks.Rel (inr w) = word_token (codes "relation") w refl refl
kind_token picks.Nwr w = word_token (codes "nwr") w refl refl

pub print_token : {text rest : List ℕ} → word "out" text rest → IsWordOf (λ (w : List ℕ). statement_word w ≡ statements.Print) text rest
print_token w = word_token (codes "out") w refl refl

pub mode_token : (mode : OutMode) {text rest : List ℕ} → grammar.mode_word mode text rest → IsWordOf (λ (w : List ℕ). out_word w ≡ outs.Mode mode) text rest
mode_token modes.Ids w = word_token (codes "ids") w refl refl
mode_token modes.Tags w = word_token (codes "tags") w refl refl
mode_token modes.Skel w = word_token (codes "skel") w refl refl
mode_token modes.Body w = word_token (codes "body") w refl refl
mode_token modes.Meta w = word_token (codes "meta") w refl refl

pub asc_token : {text rest : List ℕ} → word "asc" text rest → IsWordOf (λ (w : List ℕ). out_word w ≡ outs.Order) text rest
asc_token w = word_token (codes "asc") w refl refl

pub qt_token : {text rest : List ℕ} → word "qt" text rest → IsWordOf (λ (w : List ℕ). out_word w ≡ outs.Order) text rest
qt_token w = word_token (codes "qt") w refl refl

pub format_setting_token : {text rest : List ℕ} → word "out" text rest → IsWordOf (λ (w : List ℕ). setting_of w ≡ settings.Format) text rest
format_setting_token w = word_token (codes "out") w refl refl

pub count_setting_token : {text rest : List ℕ} → (word "timeout" or word "maxsize") text rest → IsWordOf (λ (w : List ℕ). setting_of w ≡ settings.Count) text rest
count_setting_token (inl w) = word_token (codes "timeout") w refl refl
count_setting_token (inr w) = word_token (codes "maxsize") w refl refl

pub format_token : (format : Format) {text rest : List ℕ} → format_word format text rest → IsWordOf (λ (w : List ℕ). format_of w ≡ formats.Known format) text rest
format_token named.Json w = word_token (codes "json") w refl refl
format_token named.Xml w = word_token (codes "xml") w refl refl

pub ids_token : (pick : Pick) {text rest : List ℕ} → word "id" text rest → IsWordOf (λ (w : List ℕ). selector_word pick w ≡ selectors.Ids) text rest
ids_token pick w = word_token (codes "id") w refl refl

allowed : (pick : Pick) (path : Path) → allows pick path ≡ true → path_word pick (Some path) ≡ selectors.Along path
allowed pick path is = ap (λ (test : Bool). cond test (selectors.Along path) selectors.Unsupported) is

pub path_token : (pick : Pick) (path : Path) {text rest : List ℕ} → allows pick path ≡ true → grammar.path path text rest → IsWordOf (λ (w : List ℕ). selector_word pick w ≡ selectors.Along path) text rest
path_token pick paths.W is w = word_token (codes "w") w refl (allowed pick paths.W is)
path_token pick paths.R is w = word_token (codes "r") w refl (allowed pick paths.R is)
path_token pick paths.Bn is w = word_token (codes "bn") w refl (allowed pick paths.Bn is)
path_token pick paths.Bw is w = word_token (codes "bw") w refl (allowed pick paths.Bw is)
path_token pick paths.Br is w = word_token (codes "br") w refl (allowed pick paths.Br is)
