-- Productions have one outcome at most.
use Rattle.std.proofs.Common.{ℕ, zero, suc, List, [], ◌∷◌, Option, None, Some, Bool, true, false, drop}
use Rattle.std.specs.Option.{is_some}
use Rattle.ql_syntax.specs.Outs.{once, out_word_at, with_word, with_number, out_round, out_options}
use Rattle.ql_syntax.specs.TokenRules.{Next, Word, Number}
use Rattle.ql_syntax.specs.Queries.{query}
use Rattle.ql_syntax.specs.Rules.{Rule}
use Rattle.ql_syntax.specs.Selections.{a_filter, selection}
use Rattle.ql_syntax.specs.Selectors.{an_id, id_after, id_list, path_close, path_from, selector_named, word_selector, corner, box_after, number_selector, selector}
use Rattle.ql_syntax.specs.Settings.{format, format_named, count, setting_named, setting_value, setting, setting_round, settings}
use Rattle.ql_syntax.specs.StatementRules.{recursion, item, out_of, print_at, print, statement_named, word_statement, set_statement_named, set_word_statement, recursion_or_item, set_statement, recursion_at, plain_statement, part, union, difference, block, statement, top_statement}
use Rattle.ql_syntax.specs.Statements.{Statement}
use Rattle.ql_syntax.specs.TagFilters.{tag_filter, tag_rest, tag_value, tag_text, tag_text_at, tag_close, not_in_tag}
use Rattle.ql_syntax.specs.declared.format.Format.{Format}
use Rattle.ql_syntax.specs.declared.level.Level.{Level}
use Rattle.ql_syntax.specs.declared.level.Level.TheVariants as levels
use Rattle.ql_syntax.specs.declared.out_options.OutOptions.{OutOptions}
use Rattle.ql_syntax.specs.declared.out_word.OutWord.{OutWord}
use Rattle.ql_syntax.specs.declared.out_word.OutWord.TheVariants as outs
use Rattle.ql_syntax.specs.declared.path.Path.{Path}
use Rattle.ql_syntax.specs.declared.pick.Pick.{Pick}
use Rattle.ql_syntax.specs.declared.recursion.Recursion.{Recursion}
use Rattle.ql_syntax.specs.declared.selector_word.SelectorWord.{SelectorWord}
use Rattle.ql_syntax.specs.declared.selector_word.SelectorWord.TheVariants as selectors
use Rattle.ql_syntax.specs.declared.setting_word.FormatWord.{FormatWord}
use Rattle.ql_syntax.specs.declared.setting_word.FormatWord.TheVariants as formats
use Rattle.ql_syntax.specs.declared.setting_word.SettingWord.{SettingWord}
use Rattle.ql_syntax.specs.declared.setting_word.SettingWord.TheVariants as setting_words
use Rattle.ql_syntax.specs.declared.token_kind.TokenKind.TheVariants as kinds
use Rattle.ql_syntax.specs.declared.statement_word.StatementWord.{StatementWord}
use Rattle.ql_syntax.specs.declared.statement_word.StatementWord.TheVariants as words
use Rattle.ql_syntax.proofs.DefiniteLemmas.{Definite, definite_give, definite_refuse, definite_unexpected, definite_from, definite_choose, definite_case, definite_then, definite_repeat, definite_gather}
use Rattle.ql_syntax.proofs.DefiniteTokens.{definite_token, definite_run, definite_name_after, definite_text, definite_pass, definite_word_at, definite_word, definite_number_at, definite_number, definite_into, definite_id, definite_count, definite_area}

-- settings
format_named_is : (place : List ℕ) (word : FormatWord) → Definite (format_named place word)
format_named_is place (formats.Known format) = definite_give (Some format)
format_named_is place formats.Unsupported = definite_refuse _ place
format_named_is place formats.Unknown = definite_refuse _ place

format_is : Definite format
unfolding format
format_is = definite_then _ definite_word (λ word. definite_case _ _ (format_named_is word.place))

count_is : Definite count
unfolding count
count_is = definite_then _ definite_number (λ number. definite_then _ (definite_count number.number number.place) (λ value. definite_give None))

setting_named_is : (place : List ℕ) (word : SettingWord) → Definite (setting_named place word)
setting_named_is place setting_words.Format = definite_then _ (definite_pass kinds.Colon) (λ colon. format_is)
setting_named_is place setting_words.Count = definite_then _ (definite_pass kinds.Colon) (λ colon. count_is)
setting_named_is place setting_words.Unsupported = definite_refuse _ place
setting_named_is place setting_words.Unknown = definite_refuse _ place

setting_is : Definite setting
unfolding setting setting_value
setting_is = definite_then _ definite_word (λ word. definite_then _ (definite_case _ _ (setting_named_is word.place)) (λ value. definite_then _ (definite_pass kinds.CloseBracket) (λ close. definite_give value)))

setting_round_is : (before : Option Format) → Definite (setting_round before)
unfolding setting_round
setting_round_is before = definite_then _ setting_is (λ found. definite_then _ definite_token (λ next. definite_choose _ (definite_give _) (definite_choose _ (definite_give _) (definite_unexpected next))))

pub settings_is : Definite settings
unfolding settings
settings_is = definite_then _ definite_token (λ next. definite_choose _ (definite_repeat setting_round_is None) (definite_from next.place (definite_give None)))

-- filters by tags
not_in_tag_is : {A : Type 0} (next : Next) → Definite (not_in_tag {A = A} next)
unfolding not_in_tag
not_in_tag_is next = definite_refuse _ next.place

tag_text_at_is : (next : Next) → Definite (tag_text_at next)
unfolding tag_text_at
tag_text_at_is next = definite_choose _ (definite_from next.place definite_text) (definite_choose _ (definite_from next.place definite_run) (not_in_tag_is next))

tag_text_is : Definite tag_text
unfolding tag_text
tag_text_is = definite_then _ definite_token tag_text_at_is

tag_close_is : Definite tag_close
unfolding tag_close
tag_close_is = definite_then _ definite_token (λ next. definite_choose _ (definite_give tt) (not_in_tag_is next))

tag_value_is : Definite tag_value
unfolding tag_value
tag_value_is = definite_then _ tag_text_is (λ value. definite_then _ tag_close_is (λ close. definite_give _))

tag_rest_is : (key : List ℕ) → Definite (tag_rest key)
unfolding tag_rest
tag_rest_is key = definite_then _ definite_token (λ next. definite_choose _ (definite_give _)
    (definite_choose _ (definite_then _ tag_value_is (λ value. definite_give _))
    (definite_choose _ (definite_then _ tag_value_is (λ value. definite_give _)) (not_in_tag_is next))))

tag_filter_is : Definite tag_filter
unfolding tag_filter
tag_filter_is = definite_then _ definite_token (λ next. definite_choose _ (definite_then _ tag_value_is (λ key. definite_give _)) (definite_then _ (tag_text_at_is next) tag_rest_is))

-- filters in parentheses
an_id_is : Definite an_id
unfolding an_id
an_id_is = definite_then _ definite_number (λ number. definite_id number.number number.place)

id_after_is : Definite id_after
unfolding id_after
id_after_is = definite_then _ definite_token (λ next. definite_choose _ (definite_then _ an_id_is (λ id. definite_give _)) (definite_choose _ (definite_give _) (definite_unexpected next)))

id_list_is : Definite id_list
unfolding id_list
id_list_is = definite_then _ (definite_pass kinds.Colon) (λ colon. definite_then _ an_id_is (λ first. definite_then _ (definite_gather id_after_is (first ∷ [])) (λ ids. definite_give _)))

path_close_is : Definite path_close
unfolding path_close
path_close_is = definite_then _ definite_token (λ next. definite_choose _ (definite_give tt) (definite_choose _ (definite_refuse _ next.place) (definite_unexpected next)))

path_from_is : (path : Path) → Definite (path_from path)
unfolding path_from
path_from_is path = definite_then _ definite_token (λ next. definite_choose _ (definite_then _ (definite_name_after next) (λ name. definite_then _ path_close_is (λ close. definite_give _)))
    (definite_then _ (definite_from next.place path_close_is) (λ close. definite_give _)))

selector_named_is : (place : List ℕ) (word : SelectorWord) → Definite (selector_named place word)
selector_named_is place selectors.Ids = id_list_is
selector_named_is place (selectors.Along path) = path_from_is path
selector_named_is place selectors.Unsupported = definite_refuse _ place
selector_named_is place selectors.Unknown = definite_refuse _ place

word_selector_is : (pick : Pick) (word : Word) → Definite (word_selector pick word)
unfolding word_selector
word_selector_is pick word = definite_case _ _ (selector_named_is word.place)

corner_is : Definite corner
unfolding corner
corner_is = definite_then _ (definite_pass kinds.Comma) (λ comma. definite_number)

box_is : (south : Number) → Definite (box_after south)
unfolding box_after
box_is south = definite_then _ definite_number (λ west. definite_then _ corner_is (λ north. definite_then _ corner_is (λ east. definite_then _ (definite_pass kinds.CloseParenthesis) (λ close. definite_then _ (definite_area _ south.place) (λ box. definite_give _)))))

number_selector_is : (pick : Pick) (number : Number) → Definite (number_selector pick number)
unfolding number_selector
number_selector_is pick number = definite_then _ definite_token (λ next. definite_choose _ (definite_choose _ (box_is number) (definite_refuse _ number.place))
    (definite_choose _ (definite_then _ (definite_id number.number number.place) (λ id. definite_give _)) (definite_unexpected next)))

selector_is : (pick : Pick) → Definite (selector pick)
unfolding selector
selector_is pick = definite_then _ definite_token (λ next. definite_choose _ (definite_then _ (definite_word_at next) (word_selector_is pick))
    (definite_choose _ (definite_then _ (definite_number_at next) (number_selector_is pick)) (definite_unexpected next)))

-- query statements
a_filter_is : (pick : Pick) → Definite (a_filter pick)
unfolding a_filter
a_filter_is pick = definite_then _ definite_token (λ next. definite_choose _ (definite_then _ (definite_name_after next) (λ name. definite_give _))
    (definite_choose _ (definite_then _ tag_filter_is (λ filter. definite_give _))
    (definite_choose _ (definite_then _ (selector_is pick) (λ filter. definite_give _)) (definite_from next.place (definite_give _)))))

selection_is : (pick : Pick) → Definite (selection pick)
unfolding selection
selection_is pick = definite_then _ (definite_gather (a_filter_is pick) []) (λ filters. definite_then _ definite_into (λ set. definite_give _))

-- out statements
once_is : {A : Type 0} (stood : Bool) (place : List ℕ) (value : A) → Definite (once stood place value)
once_is true place value = definite_refuse _ place
once_is false place value = definite_give value

out_word_at_is : (seen : OutOptions) (place : List ℕ) (word : OutWord) → Definite (out_word_at seen place word)
out_word_at_is seen place (outs.Mode mode) = once_is (is_some seen.mode) place _
out_word_at_is seen place outs.Order = once_is seen.ordered place _
out_word_at_is seen place outs.Unsupported = definite_refuse _ place
out_word_at_is seen place outs.Unknown = definite_refuse _ place

with_word_is : (seen : OutOptions) (word : Word) → Definite (with_word seen word)
unfolding with_word
with_word_is seen word = definite_case _ _ (out_word_at_is seen word.place)

with_number_is : (seen : OutOptions) (number : Number) → Definite (with_number seen number)
unfolding with_number
with_number_is seen number = definite_then _ (once_is (is_some seen.limit) number.place seen) (λ first. definite_then _ (definite_count number.number number.place) (λ limit. definite_give _))

out_round_is : (seen : OutOptions) → Definite (out_round seen)
unfolding out_round
out_round_is seen = definite_then _ definite_token (λ next. definite_choose _ (definite_then _ (definite_word_at next) (λ word. definite_then _ (with_word_is seen word) (λ more. definite_give _)))
    (definite_choose _ (definite_then _ (definite_number_at next) (λ number. definite_then _ (with_number_is seen number) (λ more. definite_give _)))
    (definite_choose _ (definite_refuse _ next.place) (definite_choose _ (definite_give _) (definite_unexpected next)))))

-- statements
recursion_is : (start : List ℕ) (how : Recursion) → Definite (recursion start how)
unfolding recursion
recursion_is start how = definite_then _ definite_into (λ set. definite_give _)

item_is : (start : List ℕ) → Definite (item start)
unfolding item
item_is start = definite_then _ definite_into (λ set. definite_give _)

out_is : (start : List ℕ) → Definite (out_of start)
unfolding out_of out_options
out_is start = definite_then _ (definite_repeat out_round_is _) (λ options. definite_give _)

print_at_is : (start place : List ℕ) (level : Level) → Definite (print_at start place level)
print_at_is start place levels.Top = out_is start
print_at_is start place levels.Inner = definite_refuse _ place

print_is : (level : Level) (start place : List ℕ) → Definite (print level start place)
unfolding print
print_is level start place = definite_case _ _ (print_at_is start place)

statement_named_is : (level : Level) (place : List ℕ) (word : StatementWord) → Definite (statement_named level place word)
statement_named_is level place (words.Kind pick) = selection_is pick
statement_named_is level place words.Print = print_is level _ place
statement_named_is level place words.Unsupported = definite_refuse _ place
statement_named_is level place words.Unknown = definite_refuse _ place

word_statement_is : (level : Level) (word : Word) → Definite (word_statement level word)
unfolding word_statement
word_statement_is level word = definite_case _ _ (statement_named_is level word.place)

set_named_is : (level : Level) (start place : List ℕ) (word : StatementWord) → Definite (set_statement_named level start place word)
set_named_is level start place (words.Kind pick) = definite_refuse _ place
set_named_is level start place words.Print = print_is level start place
set_named_is level start place words.Unsupported = definite_refuse _ place
set_named_is level start place words.Unknown = definite_refuse _ place

set_word_is : (level : Level) (start : List ℕ) (word : Word) → Definite (set_word_statement level start word)
unfolding set_word_statement
set_word_is level start word = definite_case _ _ (set_named_is level start word.place)

recursion_or_item_is : (start place : List ℕ) (how : Option Recursion) → Definite (recursion_or_item start place how)
recursion_or_item_is start place (Some how) = recursion_is start how
recursion_or_item_is start place None = definite_from place (item_is start)

set_statement_is : (level : Level) (start : List ℕ) → Definite (set_statement level start)
unfolding set_statement
set_statement_is level start = definite_then _ definite_token (λ next. definite_choose _ (definite_then _ (definite_word_at next) (set_word_is level start)) (definite_case _ _ (recursion_or_item_is start next.place)))

recursion_at_is : (next : Next) (how : Option Recursion) → Definite (recursion_at next how)
recursion_at_is next (Some how) = recursion_is _ how
recursion_at_is next None = definite_unexpected next

plain_is : (level : Level) (next : Next) → Definite (plain_statement level next)
unfolding plain_statement
plain_is level next = definite_choose _ (definite_then _ (definite_name_after next) (set_statement_is level))
    (definite_choose _ (definite_then _ (definite_word_at next) (word_statement_is level)) (definite_case _ _ (recursion_at_is next)))

module _ {inner : Rule Statement} (d : Definite inner) where
  part_is : Definite (part inner)
  unfolding part
  part_is = definite_then _ definite_token (λ next. definite_choose _ (definite_give _) (definite_then _ (definite_from next.place d) (λ s. definite_give _)))

  union_is : (first : Statement) → Definite (union inner first)
  unfolding union
  union_is first = definite_then _ (definite_gather part_is (first ∷ [])) (λ parts. definite_then _ definite_into (λ set. definite_give _))

  difference_is : (left : Statement) → Definite (difference inner left)
  unfolding difference
  difference_is left = definite_then _ d (λ right. definite_then _ (definite_pass kinds.CloseParenthesis) (λ close. definite_then _ definite_into (λ set. definite_give _)))

  block_is : Definite (block inner)
  unfolding block
  block_is = definite_then _ d (λ first. definite_then _ definite_token (λ next. definite_choose _ (difference_is first) (definite_choose _ (definite_from (drop 1 next.place) (difference_is first)) (definite_from next.place (union_is first)))))

statement_is : (level : Level) (depth : ℕ) → Definite (statement level depth)
unfolding statement
statement_is level zero = definite_then _ definite_token (λ next. definite_choose _ (definite_refuse _ next.place) (plain_is level next))
statement_is level (suc depth) = definite_then _ definite_token (λ next. definite_choose _ (block_is (statement_is levels.Inner depth)) (plain_is level next))

top_statement_is : Definite top_statement
unfolding top_statement
top_statement_is = definite_then _ definite_token (λ next. definite_choose _ (definite_from [] (definite_give _)) (definite_then _ (definite_from next.place (statement_is levels.Top 32)) (λ s. definite_give _)))

-- queries
pub query_is : Definite query
unfolding query
query_is = definite_then _ settings_is (λ set. definite_then _ (definite_gather top_statement_is []) (λ all. definite_give _))
