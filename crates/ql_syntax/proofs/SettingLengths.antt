-- A round of settings leaves less.
use Rattle.std.proofs.Common.{List, ℕ, Option, lit≤}
use Rattle.ql_syntax.specs.Settings.{format, format_named, count, setting_named, setting_value, setting, setting_round}
use Rattle.ql_syntax.specs.declared.format.Format.{Format}
use Rattle.ql_syntax.specs.declared.setting_word.SettingWord.{SettingWord}
use Rattle.ql_syntax.specs.declared.setting_word.SettingWord.TheVariants as words
use Rattle.ql_syntax.specs.declared.setting_word.FormatWord.{FormatWord}
use Rattle.ql_syntax.specs.declared.setting_word.FormatWord.TheVariants as formats
use Rattle.ql_syntax.specs.declared.token_kind.TokenKind.TheVariants as kinds
use Rattle.ql_syntax.proofs.Lengths.{Within, Shorter, within_shorter, within_then, within_next, within_choose, within_case, within_give, within_refuse, within_unexpected, within_word, within_number, within_count, shorter_pass, shorter_first, shorter_second}

format_named_within : {start : List ℕ} (place : List ℕ) (word : FormatWord) → Within start (format_named place word)
format_named_within place (formats.Known format) = within_give _
format_named_within place formats.Unsupported = within_refuse _ place
format_named_within place formats.Unknown = within_refuse _ place

format_within : {start : List ℕ} → Within start format
unfolding format
format_within = within_then _ within_word (λ word. within_case _ _ (format_named_within word.place))

count_within : {start : List ℕ} → Within start count
unfolding count
count_within = within_then _ within_number (λ number. within_then _ (within_count number.number number.place) (λ value. within_give _))

value_named_within : {start : List ℕ} (place : List ℕ) (word : SettingWord) → Within start (setting_named place word)
value_named_within place words.Format = within_then _ (within_shorter (shorter_pass kinds.Colon (lit≤ tt))) (λ colon. format_within)
value_named_within place words.Count = within_then _ (within_shorter (shorter_pass kinds.Colon (lit≤ tt))) (λ colon. count_within)
value_named_within place words.Unsupported = within_refuse _ place
value_named_within place words.Unknown = within_refuse _ place

setting_shorter : Shorter setting
unfolding setting setting_value
setting_shorter = shorter_second _ (λ start. within_word) (λ word. shorter_second _ (λ start. within_case _ _ (value_named_within word.place)) (λ asked. shorter_first _ (shorter_pass kinds.CloseBracket (lit≤ tt)) (λ close start. within_give asked)))

pub round_shorter : (before : Option Format) → Shorter (setting_round before)
unfolding setting_round
round_shorter before = shorter_first _ setting_shorter (λ found start. within_next _ (λ next. within_choose _ (within_give _) (within_choose _ (within_give _) (within_unexpected next))))
