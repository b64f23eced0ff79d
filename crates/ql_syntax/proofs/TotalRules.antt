-- Productions read each text or stop at it.
use Rattle.std.proofs.Common.{ℕ, zero, suc, List, [], ◌∷◌, Option, None, Some, Bool, true, false, drop}
use Rattle.std.specs.Option.{is_some}
use Rattle.ql_syntax.specs.Outs.{once, out_word_at, with_word, with_number, out_round, out_options}
use Rattle.ql_syntax.specs.TokenRules.{Next, Word, Number}
use Rattle.ql_syntax.specs.Queries.{query}
use Rattle.ql_syntax.specs.Rules.{Rule}
use Rattle.ql_syntax.specs.Selections.{a_filter, selection}
use Rattle.ql_syntax.specs.Selectors.{an_id, id_after, id_list, path_close, path_from, selector_named, word_selector, corner, box_after, number_selector, selector}
use Rattle.ql_syntax.specs.Settings.{format, format_named, count, setting_named, setting_value, setting, setting_round, settings}
use Rattle.ql_syntax.specs.StatementRules.{recursion, item, out_of, print_at, print, statement_named, word_statement, set_statement_named, set_word_statement, recursion_or_item, set_statement, recursion_at, plain_statement, part, union, difference, block, statement, top_statement}
use Rattle.ql_syntax.specs.Statements.{Statement}
use Rattle.ql_syntax.specs.TagFilters.{tag_filter, tag_rest, tag_value, tag_text, tag_text_at, tag_close, not_in_tag}
use Rattle.ql_syntax.specs.declared.format.Format.{Format}
use Rattle.ql_syntax.specs.declared.level.Level.{Level}
use Rattle.ql_syntax.specs.declared.level.Level.TheVariants as levels
use Rattle.ql_syntax.specs.declared.out_options.OutOptions.{OutOptions}
use Rattle.ql_syntax.specs.declared.out_word.OutWord.{OutWord}
use Rattle.ql_syntax.specs.declared.out_word.OutWord.TheVariants as outs
use Rattle.ql_syntax.specs.declared.path.Path.{Path}
use Rattle.ql_syntax.specs.declared.pick.Pick.{Pick}
use Rattle.ql_syntax.specs.declared.recursion.Recursion.{Recursion}
use Rattle.ql_syntax.specs.declared.selector_word.SelectorWord.{SelectorWord}
use Rattle.ql_syntax.specs.declared.selector_word.SelectorWord.TheVariants as selectors
use Rattle.ql_syntax.specs.declared.setting_word.FormatWord.{FormatWord}
use Rattle.ql_syntax.specs.declared.setting_word.FormatWord.TheVariants as formats
use Rattle.ql_syntax.specs.declared.setting_word.SettingWord.{SettingWord}
use Rattle.ql_syntax.specs.declared.setting_word.SettingWord.TheVariants as setting_words
use Rattle.ql_syntax.specs.declared.token_kind.TokenKind.TheVariants as kinds
use Rattle.ql_syntax.specs.declared.statement_word.StatementWord.{StatementWord}
use Rattle.ql_syntax.specs.declared.statement_word.StatementWord.TheVariants as words
use Rattle.ql_syntax.proofs.Lengths.{Shorter}
use Rattle.ql_syntax.proofs.OutLengths.{out_round_shorter}
use Rattle.ql_syntax.proofs.SelectorLengths.{id_after_shorter}
use Rattle.ql_syntax.proofs.SettingLengths.{round_shorter}
use Rattle.ql_syntax.proofs.StatementLengths.{a_filter_shorter, part_shorter, statement_shorter, top_statement_shorter}
use Rattle.ql_syntax.proofs.TotalLemmas.{Total, total_give, total_refuse, total_unexpected, total_from, total_choose, total_case, total_then, total_repeat, total_gather, where_shorter}
use Rattle.ql_syntax.proofs.TotalNumbers.{total_id, total_count, total_area}
use Rattle.ql_syntax.proofs.TotalTexts.{text_at}
use Rattle.ql_syntax.proofs.TotalTokens.{is_kind, is_true, total_token, total_run, total_name_after, total_pass, total_word_at, total_word, total_number_at, total_number, total_into}

-- settings
format_named_is : (place : List ℕ) (word : FormatWord) → Total (format_named place word)
format_named_is place (formats.Known format) = total_give (Some format)
format_named_is place formats.Unsupported = total_refuse _ place
format_named_is place formats.Unknown = total_refuse _ place

format_is : Total format
unfolding format
format_is = total_then _ total_word (λ word. total_case _ _ (format_named_is word.place))

count_is : Total count
unfolding count
count_is = total_then _ total_number (λ number. total_then _ (total_count number.number number.place) (λ value. total_give None))

setting_named_is : (place : List ℕ) (word : SettingWord) → Total (setting_named place word)
setting_named_is place setting_words.Format = total_then _ (total_pass kinds.Colon) (λ colon. format_is)
setting_named_is place setting_words.Count = total_then _ (total_pass kinds.Colon) (λ colon. count_is)
setting_named_is place setting_words.Unsupported = total_refuse _ place
setting_named_is place setting_words.Unknown = total_refuse _ place

setting_is : Total setting
unfolding setting setting_value
setting_is = total_then _ total_word (λ word. total_then _ (total_case _ _ (setting_named_is word.place)) (λ value. total_then _ (total_pass kinds.CloseBracket) (λ close. total_give value)))

setting_round_is : (before : Option Format) → Total (setting_round before)
unfolding setting_round
setting_round_is before = total_then _ setting_is (λ found. total_then _ total_token (λ next. total_choose (is_kind _ _) (λ is. total_give _) (total_choose (is_kind _ _) (λ is. total_give _) (total_unexpected next))))

settings_is : Total settings
unfolding settings
settings_is = total_then _ total_token (λ next. total_choose (is_kind _ _) (λ is. total_repeat setting_round_is (λ before. where_shorter (round_shorter before)) None) (total_from next.place ((total_give {A = Option Format} None).at next.place)))

-- filters by tags
not_in_tag_is : {A : Type 0} (next : Next) → Total (not_in_tag {A = A} next)
unfolding not_in_tag
not_in_tag_is next = total_refuse _ next.place

tag_text_at_is : (next : Next) → Total (tag_text_at next)
unfolding tag_text_at
tag_text_at_is next = total_choose (is_true _) (λ is. total_from next.place (text_at next.place is)) (total_choose (is_true _) (λ is. total_from next.place (total_run.at next.place)) (not_in_tag_is next))

tag_text_is : Total tag_text
unfolding tag_text
tag_text_is = total_then _ total_token tag_text_at_is

tag_close_is : Total tag_close
unfolding tag_close
tag_close_is = total_then _ total_token (λ next. total_choose (is_kind _ _) (λ is. total_give tt) (not_in_tag_is next))

tag_value_is : Total tag_value
unfolding tag_value
tag_value_is = total_then _ tag_text_is (λ value. total_then _ tag_close_is (λ close. total_give _))

tag_rest_is : (key : List ℕ) → Total (tag_rest key)
unfolding tag_rest
tag_rest_is key = total_then _ total_token (λ next. total_choose (is_kind _ _) (λ is. total_give _)
    (total_choose (is_kind _ _) (λ is. total_then _ tag_value_is (λ value. total_give _))
    (total_choose (is_kind _ _) (λ is. total_then _ tag_value_is (λ value. total_give _)) (not_in_tag_is next))))

tag_filter_is : Total tag_filter
unfolding tag_filter
tag_filter_is = total_then _ total_token (λ next. total_choose (is_kind _ _) (λ is. total_then _ tag_value_is (λ key. total_give _)) (total_then _ (tag_text_at_is next) tag_rest_is))

-- filters in parentheses
an_id_is : Total an_id
unfolding an_id
an_id_is = total_then _ total_number (λ number. total_id number.number number.place)

id_after_is : Total id_after
unfolding id_after
id_after_is = total_then _ total_token (λ next. total_choose (is_kind _ _) (λ is. total_then _ an_id_is (λ id. total_give _)) (total_choose (is_kind _ _) (λ is. total_give _) (total_unexpected next)))

id_list_is : Total id_list
unfolding id_list
id_list_is = total_then _ (total_pass kinds.Colon) (λ colon. total_then _ an_id_is (λ first. total_then _ (total_gather id_after_is (where_shorter id_after_shorter) (first ∷ [])) (λ ids. total_give _)))

path_close_is : Total path_close
unfolding path_close
path_close_is = total_then _ total_token (λ next. total_choose (is_kind _ _) (λ is. total_give tt) (total_choose (is_kind _ _) (λ is. total_refuse _ next.place) (total_unexpected next)))

path_from_is : (path : Path) → Total (path_from path)
unfolding path_from
path_from_is path = total_then _ total_token (λ next. total_choose (is_kind _ _) (λ is. total_then _ (total_name_after next) (λ name. total_then _ path_close_is (λ close. total_give _)))
    (total_then _ (total_from next.place (path_close_is.at next.place)) (λ close. total_give _)))

selector_named_is : (place : List ℕ) (word : SelectorWord) → Total (selector_named place word)
selector_named_is place selectors.Ids = id_list_is
selector_named_is place (selectors.Along path) = path_from_is path
selector_named_is place selectors.Unsupported = total_refuse _ place
selector_named_is place selectors.Unknown = total_refuse _ place

word_selector_is : (pick : Pick) (word : Word) → Total (word_selector pick word)
unfolding word_selector
word_selector_is pick word = total_case _ _ (selector_named_is word.place)

corner_is : Total corner
unfolding corner
corner_is = total_then _ (total_pass kinds.Comma) (λ comma. total_number)

box_is : (south : Number) → Total (box_after south)
unfolding box_after
box_is south = total_then _ total_number (λ west. total_then _ corner_is (λ north. total_then _ corner_is (λ east. total_then _ (total_pass kinds.CloseParenthesis) (λ close. total_then _ (total_area _ south.place) (λ box. total_give _)))))

number_selector_is : (pick : Pick) (number : Number) → Total (number_selector pick number)
unfolding number_selector
number_selector_is pick number = total_then _ total_token (λ next. total_choose (is_kind _ _) (λ is. total_choose (is_true _) (λ yes. box_is number) (total_refuse _ number.place))
    (total_choose (is_kind _ _) (λ is. total_then _ (total_id number.number number.place) (λ id. total_give _)) (total_unexpected next)))

selector_is : (pick : Pick) → Total (selector pick)
unfolding selector
selector_is pick = total_then _ total_token (λ next. total_choose (is_kind _ _) (λ is. total_then _ (total_word_at next) (word_selector_is pick))
    (total_choose (is_true _) (λ is. total_then _ (total_number_at next) (number_selector_is pick)) (total_unexpected next)))

-- query statements
a_filter_is : (pick : Pick) → Total (a_filter pick)
unfolding a_filter
a_filter_is pick = total_then _ total_token (λ next. total_choose (is_kind _ _) (λ is. total_then _ (total_name_after next) (λ name. total_give _))
    (total_choose (is_kind _ _) (λ is. total_then _ tag_filter_is (λ filter. total_give _))
    (total_choose (is_kind _ _) (λ is. total_then _ (selector_is pick) (λ filter. total_give _)) (total_from next.place ((total_give None).at next.place)))))

selection_is : (pick : Pick) → Total (selection pick)
unfolding selection
selection_is pick = total_then _ (total_gather (a_filter_is pick) (a_filter_shorter pick) []) (λ filters. total_then _ total_into (λ set. total_give _))

-- out statements
once_is : {A : Type 0} (stood : Bool) (place : List ℕ) (value : A) → Total (once stood place value)
once_is true place value = total_refuse _ place
once_is false place value = total_give value

out_word_at_is : (seen : OutOptions) (place : List ℕ) (word : OutWord) → Total (out_word_at seen place word)
out_word_at_is seen place (outs.Mode mode) = once_is (is_some seen.mode) place _
out_word_at_is seen place outs.Order = once_is seen.ordered place _
out_word_at_is seen place outs.Unsupported = total_refuse _ place
out_word_at_is seen place outs.Unknown = total_refuse _ place

with_word_is : (seen : OutOptions) (word : Word) → Total (with_word seen word)
unfolding with_word
with_word_is seen word = total_case _ _ (out_word_at_is seen word.place)

with_number_is : (seen : OutOptions) (number : Number) → Total (with_number seen number)
unfolding with_number
with_number_is seen number = total_then _ (once_is (is_some seen.limit) number.place seen) (λ first. total_then _ (total_count number.number number.place) (λ limit. total_give _))

out_round_is : (seen : OutOptions) → Total (out_round seen)
unfolding out_round
out_round_is seen = total_then _ total_token (λ next. total_choose (is_kind _ _) (λ is. total_then _ (total_word_at next) (λ word. total_then _ (with_word_is seen word) (λ more. total_give _)))
    (total_choose (is_true _) (λ is. total_then _ (total_number_at next) (λ number. total_then _ (with_number_is seen number) (λ more. total_give _)))
    (total_choose (is_kind _ _) (λ is. total_refuse _ next.place) (total_choose (is_kind _ _) (λ is. total_give _) (total_unexpected next)))))

-- statements
recursion_is : (start : List ℕ) (how : Recursion) → Total (recursion start how)
unfolding recursion
recursion_is start how = total_then _ total_into (λ set. total_give _)

item_is : (start : List ℕ) → Total (item start)
unfolding item
item_is start = total_then _ total_into (λ set. total_give _)

out_is : (start : List ℕ) → Total (out_of start)
unfolding out_of out_options
out_is start = total_then _ (total_repeat out_round_is (λ seen. where_shorter (out_round_shorter seen)) _) (λ options. total_give _)

print_at_is : (start place : List ℕ) (level : Level) → Total (print_at start place level)
print_at_is start place levels.Top = out_is start
print_at_is start place levels.Inner = total_refuse _ place

print_is : (level : Level) (start place : List ℕ) → Total (print level start place)
unfolding print
print_is level start place = total_case _ _ (print_at_is start place)

statement_named_is : (level : Level) (place : List ℕ) (word : StatementWord) → Total (statement_named level place word)
statement_named_is level place (words.Kind pick) = selection_is pick
statement_named_is level place words.Print = print_is level _ place
statement_named_is level place words.Unsupported = total_refuse _ place
statement_named_is level place words.Unknown = total_refuse _ place

word_statement_is : (level : Level) (word : Word) → Total (word_statement level word)
unfolding word_statement
word_statement_is level word = total_case _ _ (statement_named_is level word.place)

set_named_is : (level : Level) (start place : List ℕ) (word : StatementWord) → Total (set_statement_named level start place word)
set_named_is level start place (words.Kind pick) = total_refuse _ place
set_named_is level start place words.Print = print_is level start place
set_named_is level start place words.Unsupported = total_refuse _ place
set_named_is level start place words.Unknown = total_refuse _ place

set_word_is : (level : Level) (start : List ℕ) (word : Word) → Total (set_word_statement level start word)
unfolding set_word_statement
set_word_is level start word = total_case _ _ (set_named_is level start word.place)

recursion_or_item_is : (start place : List ℕ) (how : Option Recursion) → Total (recursion_or_item start place how)
recursion_or_item_is start place (Some how) = recursion_is start how
recursion_or_item_is start place None = total_from place ((item_is start).at place)

set_statement_is : (level : Level) (start : List ℕ) → Total (set_statement level start)
unfolding set_statement
set_statement_is level start = total_then _ total_token (λ next. total_choose (is_kind _ _) (λ is. total_then _ (total_word_at next) (set_word_is level start)) (total_case _ _ (recursion_or_item_is start next.place)))

recursion_at_is : (next : Next) (how : Option Recursion) → Total (recursion_at next how)
recursion_at_is next (Some how) = recursion_is _ how
recursion_at_is next None = total_unexpected next

plain_is : (level : Level) (next : Next) → Total (plain_statement level next)
unfolding plain_statement
plain_is level next = total_choose (is_kind _ _) (λ is. total_then _ (total_name_after next) (set_statement_is level))
    (total_choose (is_kind _ _) (λ is. total_then _ (total_word_at next) (word_statement_is level)) (total_case _ _ (recursion_at_is next)))

module _ {inner : Rule Statement} (d : Total inner) (short : Shorter inner) where
  part_is : Total (part inner)
  unfolding part
  part_is = total_then _ total_token (λ next. total_choose (is_kind _ _) (λ is. total_give _) (total_then _ (total_from next.place (d.at next.place)) (λ s. total_give _)))

  union_is : (first : Statement) → Total (union inner first)
  unfolding union
  union_is first = total_then _ (total_gather part_is (where_shorter (part_shorter short)) (first ∷ [])) (λ parts. total_then _ total_into (λ set. total_give _))

  difference_is : (left : Statement) → Total (difference inner left)
  unfolding difference
  difference_is left = total_then _ d (λ right. total_then _ (total_pass kinds.CloseParenthesis) (λ close. total_then _ total_into (λ set. total_give _)))

  block_is : Total (block inner)
  unfolding block
  block_is = total_then _ d (λ first. total_then _ total_token (λ next. total_choose (is_kind _ _) (λ is. difference_is first) (total_choose (is_kind _ _) (λ is. total_from (drop 1 next.place) ((difference_is first).at (drop 1 next.place))) (total_from next.place ((union_is first).at next.place)))))

statement_is : (level : Level) (depth : ℕ) → Total (statement level depth)
unfolding statement
statement_is level zero = total_then _ total_token (λ next. total_choose (is_kind _ _) (λ is. total_refuse _ next.place) (plain_is level next))
statement_is level (suc depth) = total_then _ total_token (λ next. total_choose (is_kind _ _) (λ is. block_is (statement_is levels.Inner depth) (statement_shorter levels.Inner depth)) (plain_is level next))

top_statement_is : Total top_statement
unfolding top_statement
top_statement_is = total_then _ total_token (λ next. total_choose (is_kind _ _) (λ is. total_from [] ((total_give None).at [])) (total_then _ (total_from next.place ((statement_is levels.Top 32).at next.place)) (λ s. total_give _)))

-- queries
pub query_is : Total query
unfolding query
query_is = total_then _ settings_is (λ set. total_then _ (total_gather top_statement_is top_statement_shorter []) (λ all. total_give _))
