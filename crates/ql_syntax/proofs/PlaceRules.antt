-- The rules of queries read and stop within the text, and not for want of memory.
use Rattle.std.proofs.Common.{◌≢◌, ℕ, zero, suc, List, [], ◌∷◌, Bool, true, false, Option, None, Some, sym, subst, append-nil}
use Rattle.std.specs.List.{flat_map}
use Rattle.osm_model.specs.Degrees.{Decimal, sign, spelling}
use Rattle.ql_syntax.specs.Areas.{Corners, area}
use Rattle.ql_syntax.specs.Numbers.{IsMisfit, IsNoNumber}
use Rattle.ql_syntax.specs.Outs.{once, out_word_at, with_word, with_number, out_round, out_options}
use Rattle.ql_syntax.specs.TokenRules.{Next, Word, Number, pass, run_here, word_at, a_word, number_here, number_at, a_number, name_after, a_name, into, text_here}
use Rattle.ql_syntax.specs.Queries.{query}
use Rattle.ql_syntax.specs.QuotedTexts.{StopsInside, AtEnd, InEscape, AtEscape, AtNul}
use Rattle.ql_syntax.specs.QuotedTexts as quoted
use Rattle.ql_syntax.specs.Rules.{Rule}
use Rattle.ql_syntax.specs.Selections.{a_filter, selection}
use Rattle.ql_syntax.specs.Selectors.{an_id, id_after, id_list, path_close, path_from, selector_named, word_selector, corner, box_after, number_selector, selector}
use Rattle.ql_syntax.specs.Settings.{format_named, format, count, setting_named, setting_value, setting, setting_round, settings}
use Rattle.ql_syntax.specs.StatementRules.{recursion, item, out_of, print_at, print, statement_named, word_statement, set_statement_named, set_word_statement, recursion_or_item, set_statement, recursion_at, plain_statement, part, union, difference, block, statement, top_statement}
use Rattle.ql_syntax.specs.Statements.{Statement}
use Rattle.ql_syntax.specs.TagFilters.{cause_in_tag, not_in_tag, tag_text_at, tag_text, tag_close, tag_value, tag_rest, tag_filter}
use Rattle.ql_syntax.specs.WholeNumbers.{id_of, count_of}
use Rattle.ql_syntax.specs.Words.{IsNoName}
use Rattle.ql_syntax.specs.declared.cause.QlCause.{QlCause}
use Rattle.ql_syntax.specs.declared.cause.QlCause.TheVariants as causes
use Rattle.ql_syntax.specs.declared.format.Format.{Format}
use Rattle.ql_syntax.specs.declared.level.Level.{Level}
use Rattle.ql_syntax.specs.declared.level.Level.TheVariants as levels
use Rattle.ql_syntax.specs.declared.out_options.OutOptions.{OutOptions}
use Rattle.ql_syntax.specs.declared.out_word.OutWord.{OutWord}
use Rattle.ql_syntax.specs.declared.out_word.OutWord.TheVariants as out_words
use Rattle.ql_syntax.specs.declared.path.Path.{Path}
use Rattle.ql_syntax.specs.declared.pick.Pick.{Pick}
use Rattle.ql_syntax.specs.declared.recursion.Recursion.{Recursion}
use Rattle.ql_syntax.specs.declared.selector_word.SelectorWord.{SelectorWord}
use Rattle.ql_syntax.specs.declared.selector_word.SelectorWord.TheVariants as selectors
use Rattle.ql_syntax.specs.declared.setting_word.FormatWord.{FormatWord}
use Rattle.ql_syntax.specs.declared.setting_word.FormatWord.TheVariants as formats
use Rattle.ql_syntax.specs.declared.setting_word.SettingWord.{SettingWord}
use Rattle.ql_syntax.specs.declared.setting_word.SettingWord.TheVariants as setting_words
use Rattle.ql_syntax.specs.declared.token_kind.TokenKind.{TokenKind}
use Rattle.ql_syntax.specs.declared.token_kind.TokenKind.TheVariants as kinds
use Rattle.ql_syntax.specs.declared.statement_word.StatementWord.{StatementWord}
use Rattle.ql_syntax.specs.declared.statement_word.StatementWord.TheVariants as words
use Rattle.ql_syntax.proofs.PlaceLemmas.{Ends, ends_whole, ends_same, ends_after, ends_tail, ends_drop, Inside, IsTold, told_as, Anywhere, NextIn, inside_give, inside_refuse, inside_unexpected, inside_from, inside_then, inside_choose, inside_case, inside_repeat, inside_gather, inside_token}

abbrev WordIn : List ℕ → Word → Type 0
WordIn whole word = Ends whole word.place

abbrev NumberIn : List ℕ → Number → Type 0
NumberIn whole number = Ends whole number.place

told_misfit : (place : List ℕ) (cause : QlCause) → IsMisfit place cause → IsTold cause
told_misfit [] cause is = told_as is tt
told_misfit (b ∷ place) cause is = told_as is tt

told_in_tag : (kind : TokenKind) → IsTold (cause_in_tag kind)
told_in_tag kinds.Tilde = tt
told_in_tag kinds.NotTilde = tt
told_in_tag kinds.End = tt
told_in_tag kinds.Word = tt
told_in_tag _ = tt

module _ {whole : List ℕ} where
  ends_empty : Ends whole []
  ends_empty = record { front = whole; parts = sym (append-nil whole) }

  -- tokens
  in_pass : (kind : TokenKind) → Inside whole Anywhere (pass kind)
  unfolding pass
  in_pass kind = inside_then _ inside_token (λ next at. inside_choose (λ is. inside_give tt tt) (inside_unexpected next at))

  in_run : Inside whole Anywhere run_here
  unfolding run_here
  in_run = record { read = λ text v rest it reads. (ends_after v reads.parts it, tt); stop = λ text cause place it stops. absurd stops }

  in_word_at : (next : Next) → NextIn whole next → Inside whole (WordIn whole) (word_at next)
  unfolding word_at
  in_word_at next at = inside_then _ in_run (λ word is. inside_give _ at)

  in_a_word : Inside whole (WordIn whole) a_word
  unfolding a_word
  in_a_word = inside_then _ inside_token (λ next at. inside_choose (λ is. in_word_at next at) (inside_unexpected next at))

  no_number : (text : List ℕ) (cause : QlCause) (place : List ℕ) → Ends whole text → IsNoNumber text cause place → Ends whole place × IsTold cause
  no_number text cause place it stops = (ends_after (sign stops.negative) stops.parts it, told_misfit place cause stops.misfit)

  in_number_here : Inside whole Anywhere number_here
  unfolding number_here
  in_number_here = record { read = λ text v rest it reads. (ends_after (spelling v) reads.parts it, tt); stop = no_number }

  in_number_at : (next : Next) → NextIn whole next → Inside whole (NumberIn whole) (number_at next)
  unfolding number_at
  in_number_at next at = inside_then _ (inside_from at in_number_here) (λ number is. inside_give _ at)

  in_a_number : Inside whole (NumberIn whole) a_number
  unfolding a_number
  in_a_number = inside_then _ inside_token (λ next at. inside_choose (λ is. in_number_at next at) (inside_unexpected next at))

  no_name : (dot after : List ℕ) (cause : QlCause) (place : List ℕ) → Ends whole dot → IsNoName dot after cause place → Ends whole place × IsTold cause
  no_name dot [] cause place at stops = (ends_same stops.1.1 ends_empty, told_as stops.1.0 tt)
  no_name dot (b ∷ after) cause place at stops = (ends_same stops.1.1 at, told_as stops.1.0 tt)

  in_name_after : (next : Next) → NextIn whole next → Inside whole Anywhere (name_after next)
  unfolding name_after
  in_name_after next at = record { read = λ text v rest it reads. (ends_after v (reads.run).parts it, tt); stop = λ text cause place it stops. no_name next.place text cause place at stops }

  in_a_name : Inside whole Anywhere a_name
  unfolding a_name
  in_a_name = inside_then _ inside_token (λ next at. inside_choose (λ is. in_name_after next at) (inside_unexpected next at))

  in_into : Inside whole Anywhere into
  unfolding into
  in_into = inside_then _ inside_token (λ next at. inside_choose (λ is. inside_then _ in_a_name (λ name is. inside_then _ (in_pass _) (λ end is. inside_give name tt)))
      (inside_choose (λ is. inside_give _ tt) (inside_unexpected next at)))

  no_text : (text place : List ℕ) (cause : QlCause) (at : List ℕ) → Ends whole text → Ends whole place → StopsInside text place cause at → Ends whole at × IsTold cause
  no_text text place cause at it here (AtEnd is reason same) = (ends_same same it, told_as reason tt)
  no_text text place cause at it here (InEscape after is cut reason same) = (ends_same same it, told_as reason tt)
  no_text text place cause at it here (AtEscape after is bad reason same) = (ends_same same here, told_as reason tt)
  no_text text place cause at it here (AtNul after is reason same) = (ends_same same here, told_as reason tt)

  in_text_here : Inside whole Anywhere text_here
  unfolding text_here
  in_text_here = record {
    read = λ text v rest it reads. (let p = reads.passes in (ends_tail (ends_after (flat_map quoted.spelling p.pieces) p.parts (ends_after (reads.quote ∷ []) reads.opens it)), tt));
    stop = λ text cause place it stops. (let p = stops.passes in no_text text stops.place cause place it (ends_after (flat_map quoted.spelling p.pieces) p.parts (ends_after (stops.quote ∷ []) stops.opens it)) stops.stops);
  }

  in_id_of : (number : Decimal) (place : List ℕ) → Ends whole place → Inside whole Anywhere (id_of number place)
  unfolding id_of
  in_id_of number place at = record { read = λ text v rest it reads. (ends_same reads.1 it, tt); stop = λ text cause p it stops. (ends_same stops.2 at, told_as stops.1 tt) }

  in_count_of : (number : Decimal) (place : List ℕ) → Ends whole place → Inside whole Anywhere (count_of number place)
  unfolding count_of
  in_count_of number place at = record { read = λ text v rest it reads. (ends_same reads.1 it, tt); stop = λ text cause p it stops. (ends_same stops.2 at, told_as stops.1 tt) }

  in_area : (corners : Corners) (place : List ℕ) → Ends whole place → Inside whole Anywhere (area corners place)
  unfolding area
  in_area corners place at = record { read = λ text v rest it reads. (ends_same reads.2 it, tt); stop = λ text cause p it stops. (ends_same stops.2 at, told_as stops.1 tt) }

  -- filters by tags
  in_not_in_tag : {A : Type 0} (next : Next) → NextIn whole next → Inside whole Anywhere (not_in_tag {A = A} next)
  unfolding not_in_tag
  in_not_in_tag next at = inside_refuse _ (told_in_tag next.kind) at

  in_text_at : (next : Next) → NextIn whole next → Inside whole Anywhere (tag_text_at next)
  unfolding tag_text_at
  in_text_at next at = inside_choose (λ is. inside_from at in_text_here) (inside_choose (λ is. inside_from at in_run) (in_not_in_tag next at))

  in_tag_text : Inside whole Anywhere tag_text
  unfolding tag_text
  in_tag_text = inside_then _ inside_token in_text_at

  in_tag_close : Inside whole Anywhere tag_close
  unfolding tag_close
  in_tag_close = inside_then _ inside_token (λ next at. inside_choose (λ is. inside_give tt tt) (in_not_in_tag next at))

  in_tag_value : Inside whole Anywhere tag_value
  unfolding tag_value
  in_tag_value = inside_then _ in_tag_text (λ value is. inside_then _ in_tag_close (λ close is. inside_give value tt))

  in_tag_rest : (key : List ℕ) → Inside whole Anywhere (tag_rest key)
  unfolding tag_rest
  in_tag_rest key = inside_then _ inside_token (λ next at. inside_choose (λ is. inside_give _ tt) (inside_choose (λ is. inside_then _ in_tag_value (λ value is. inside_give _ tt))
      (inside_choose (λ is. inside_then _ in_tag_value (λ value is. inside_give _ tt)) (in_not_in_tag next at))))

  in_tag_filter : Inside whole Anywhere tag_filter
  unfolding tag_filter
  in_tag_filter = inside_then _ inside_token (λ next at. inside_choose (λ is. inside_then _ in_tag_value (λ value is. inside_give _ tt)) (inside_then _ (in_text_at next at) (λ key is. in_tag_rest key)))

  -- filters in parentheses
  in_an_id : Inside whole Anywhere an_id
  unfolding an_id
  in_an_id = inside_then _ in_a_number (λ number at. in_id_of _ _ at)

  in_id_after : Inside whole Anywhere id_after
  unfolding id_after
  in_id_after = inside_then _ inside_token (λ next at. inside_choose (λ is. inside_then _ in_an_id (λ id is. inside_give _ tt)) (inside_choose (λ is. inside_give _ tt) (inside_unexpected next at)))

  in_id_list : Inside whole Anywhere id_list
  unfolding id_list
  in_id_list = inside_then _ (in_pass _) (λ colon is. inside_then _ in_an_id (λ first is. inside_then _ (inside_gather in_id_after _) (λ ids is. inside_give _ tt)))

  in_path_close : Inside whole Anywhere path_close
  unfolding path_close
  in_path_close = inside_then _ inside_token (λ next at. inside_choose (λ is. inside_give tt tt) (inside_choose (λ is. inside_refuse _ tt at) (inside_unexpected next at)))

  in_path_from : (path : Path) → Inside whole Anywhere (path_from path)
  unfolding path_from
  in_path_from path = inside_then _ inside_token (λ next at. inside_choose (λ is. inside_then _ (in_name_after next at) (λ name is. inside_then _ in_path_close (λ close is. inside_give _ tt)))
      (inside_then _ (inside_from at in_path_close) (λ close is. inside_give _ tt)))

  in_selector_named : (place : List ℕ) (case : SelectorWord) → Ends whole place → Inside whole Anywhere (selector_named place case)
  in_selector_named place selectors.Ids at = in_id_list
  in_selector_named place (selectors.Along path) at = in_path_from path
  in_selector_named place selectors.Unsupported at = inside_refuse _ tt at
  in_selector_named place selectors.Unknown at = inside_refuse _ tt at

  in_word_selector : (pick : Pick) (word : Word) → WordIn whole word → Inside whole Anywhere (word_selector pick word)
  unfolding word_selector
  in_word_selector pick word at = inside_case _ _ (λ case. in_selector_named word.place case at)

  in_corner : Inside whole (NumberIn whole) corner
  unfolding corner
  in_corner = inside_then _ (in_pass _) (λ comma is. in_a_number)

  in_box_after : (south : Number) → NumberIn whole south → Inside whole Anywhere (box_after south)
  unfolding box_after
  in_box_after south at = inside_then _ in_a_number (λ west is. inside_then _ in_corner (λ north is. inside_then _ in_corner (λ east is. inside_then _ (in_pass _) (λ close is. inside_then _ (in_area _ _ at) (λ box is. inside_give _ tt)))))

  in_number_selector : (pick : Pick) (number : Number) → NumberIn whole number → Inside whole Anywhere (number_selector pick number)
  unfolding number_selector
  in_number_selector pick number at = inside_then _ inside_token (λ next here. inside_choose (λ is. inside_choose (λ is. in_box_after number at) (inside_refuse _ tt at))
      (inside_choose (λ is. inside_then _ (in_id_of _ _ at) (λ id is. inside_give _ tt)) (inside_unexpected next here)))

  in_selector : (pick : Pick) → Inside whole Anywhere (selector pick)
  unfolding selector
  in_selector pick = inside_then _ inside_token (λ next at. inside_choose (λ is. inside_then _ (in_word_at next at) (in_word_selector pick)) (inside_choose (λ is. inside_then _ (in_number_at next at) (in_number_selector pick)) (inside_unexpected next at)))

  in_a_filter : (pick : Pick) → Inside whole Anywhere (a_filter pick)
  unfolding a_filter
  in_a_filter pick = inside_then _ inside_token (λ next at. inside_choose (λ is. inside_then _ (in_name_after next at) (λ name is. inside_give _ tt)) (inside_choose (λ is. inside_then _ in_tag_filter (λ filter is. inside_give _ tt))
      (inside_choose (λ is. inside_then _ (in_selector pick) (λ filter is. inside_give _ tt)) (inside_from at (inside_give _ tt)))))

  in_selection : (pick : Pick) → Inside whole Anywhere (selection pick)
  unfolding selection
  in_selection pick = inside_then _ (inside_gather (in_a_filter pick) []) (λ filters is. inside_then _ in_into (λ set is. inside_give _ tt))

  -- out statements
  in_once : {A : Type 0} (stood : Bool) (place : List ℕ) (value : A) → Ends whole place → Inside whole Anywhere (once stood place value)
  in_once true place value at = inside_refuse _ tt at
  in_once false place value at = inside_give value tt

  in_out_word_at : (seen : OutOptions) (place : List ℕ) (case : OutWord) → Ends whole place → Inside whole Anywhere (out_word_at seen place case)
  in_out_word_at seen place (out_words.Mode mode) at = in_once _ place _ at
  in_out_word_at seen place out_words.Order at = in_once _ place _ at
  in_out_word_at seen place out_words.Unsupported at = inside_refuse _ tt at
  in_out_word_at seen place out_words.Unknown at = inside_refuse _ tt at

  in_with_word : (seen : OutOptions) (word : Word) → WordIn whole word → Inside whole Anywhere (with_word seen word)
  unfolding with_word
  in_with_word seen word at = inside_case _ _ (λ case. in_out_word_at seen word.place case at)

  in_with_number : (seen : OutOptions) (number : Number) → NumberIn whole number → Inside whole Anywhere (with_number seen number)
  unfolding with_number
  in_with_number seen number at = inside_then _ (in_once _ number.place seen at) (λ first is. inside_then _ (in_count_of _ _ at) (λ limit is. inside_give _ tt))

  in_out_round : (seen : OutOptions) → Inside whole Anywhere (out_round seen)
  unfolding out_round
  in_out_round seen = inside_then _ inside_token (λ next at. inside_choose (λ is. inside_then _ (in_word_at next at) (λ word is. inside_then _ (in_with_word seen word is) (λ more is. inside_give _ tt)))
      (inside_choose (λ is. inside_then _ (in_number_at next at) (λ number is. inside_then _ (in_with_number seen number is) (λ more is. inside_give _ tt)))
      (inside_choose (λ is. inside_refuse _ tt at) (inside_choose (λ is. inside_give _ tt) (inside_unexpected next at)))))

  in_out_options : Inside whole Anywhere out_options
  unfolding out_options
  in_out_options = inside_repeat in_out_round _

  -- settings
  in_format_named : (place : List ℕ) (case : FormatWord) → Ends whole place → Inside whole Anywhere (format_named place case)
  in_format_named place (formats.Known format) at = inside_give _ tt
  in_format_named place formats.Unsupported at = inside_refuse _ tt at
  in_format_named place formats.Unknown at = inside_refuse _ tt at

  in_format : Inside whole Anywhere format
  unfolding format
  in_format = inside_then _ in_a_word (λ found at. inside_case _ _ (λ case. in_format_named found.place case at))

  in_count : Inside whole Anywhere count
  unfolding count
  in_count = inside_then _ in_a_number (λ found at. inside_then _ (in_count_of _ _ at) (λ value is. inside_give _ tt))

  in_setting_named : (place : List ℕ) (case : SettingWord) → Ends whole place → Inside whole Anywhere (setting_named place case)
  in_setting_named place setting_words.Format at = inside_then _ (in_pass _) (λ colon is. in_format)
  in_setting_named place setting_words.Count at = inside_then _ (in_pass _) (λ colon is. in_count)
  in_setting_named place setting_words.Unsupported at = inside_refuse _ tt at
  in_setting_named place setting_words.Unknown at = inside_refuse _ tt at

  in_setting_value : (name : Word) → WordIn whole name → Inside whole Anywhere (setting_value name)
  unfolding setting_value
  in_setting_value name at = inside_case _ _ (λ case. in_setting_named name.place case at)

  in_setting : Inside whole Anywhere setting
  unfolding setting
  in_setting = inside_then _ in_a_word (λ name at. inside_then _ (in_setting_value name at) (λ asked is. inside_then _ (in_pass _) (λ close is. inside_give _ tt)))

  in_setting_round : (before : Option Format) → Inside whole Anywhere (setting_round before)
  unfolding setting_round
  in_setting_round before = inside_then _ in_setting (λ found is. inside_then _ inside_token (λ next at. inside_choose (λ is. inside_give _ tt) (inside_choose (λ is. inside_give _ tt) (inside_unexpected next at))))

  in_settings : Inside whole Anywhere settings
  unfolding settings
  in_settings = inside_then _ inside_token (λ next at. inside_choose (λ is. inside_repeat in_setting_round None) (inside_from at (inside_give _ tt)))

  -- statements
  in_recursion : (start : List ℕ) (how : Recursion) → Inside whole Anywhere (recursion start how)
  unfolding recursion
  in_recursion start how = inside_then _ in_into (λ set is. inside_give _ tt)

  in_item : (start : List ℕ) → Inside whole Anywhere (item start)
  unfolding item
  in_item start = inside_then _ in_into (λ set is. inside_give _ tt)

  in_out_of : (start : List ℕ) → Inside whole Anywhere (out_of start)
  unfolding out_of
  in_out_of start = inside_then _ in_out_options (λ options is. inside_give _ tt)

  in_print_at : (start place : List ℕ) (level : Level) → Ends whole place → Inside whole Anywhere (print_at start place level)
  in_print_at start place levels.Top at = in_out_of start
  in_print_at start place levels.Inner at = inside_refuse _ tt at

  in_print : (level : Level) (start place : List ℕ) → Ends whole place → Inside whole Anywhere (print level start place)
  unfolding print
  in_print level start place at = inside_case _ _ (λ case. in_print_at start place case at)

  in_statement_named : (level : Level) (place : List ℕ) (case : StatementWord) → Ends whole place → Inside whole Anywhere (statement_named level place case)
  in_statement_named level place (words.Kind pick) at = in_selection pick
  in_statement_named level place words.Print at = in_print level _ place at
  in_statement_named level place words.Unsupported at = inside_refuse _ tt at
  in_statement_named level place words.Unknown at = inside_refuse _ tt at

  in_word_statement : (level : Level) (word : Word) → WordIn whole word → Inside whole Anywhere (word_statement level word)
  unfolding word_statement
  in_word_statement level word at = inside_case _ _ (λ case. in_statement_named level word.place case at)

  in_set_statement_named : (level : Level) (start place : List ℕ) (case : StatementWord) → Ends whole place → Inside whole Anywhere (set_statement_named level start place case)
  in_set_statement_named level start place (words.Kind pick) at = inside_refuse _ tt at
  in_set_statement_named level start place words.Print at = in_print level start place at
  in_set_statement_named level start place words.Unsupported at = inside_refuse _ tt at
  in_set_statement_named level start place words.Unknown at = inside_refuse _ tt at

  in_set_word : (level : Level) (start : List ℕ) (word : Word) → WordIn whole word → Inside whole Anywhere (set_word_statement level start word)
  unfolding set_word_statement
  in_set_word level start word at = inside_case _ _ (λ case. in_set_statement_named level start word.place case at)

  in_recursion_or_item : (start place : List ℕ) (how : Option Recursion) → Ends whole place → Inside whole Anywhere (recursion_or_item start place how)
  in_recursion_or_item start place (Some how) at = in_recursion start how
  in_recursion_or_item start place None at = inside_from at (in_item start)

  in_set_statement : (level : Level) (start : List ℕ) → Inside whole Anywhere (set_statement level start)
  unfolding set_statement
  in_set_statement level start = inside_then _ inside_token (λ next at. inside_choose (λ is. inside_then _ (in_word_at next at) (in_set_word level start)) (inside_case _ _ (λ case. in_recursion_or_item start next.place case at)))

  in_recursion_at : (next : Next) (how : Option Recursion) → NextIn whole next → Inside whole Anywhere (recursion_at next how)
  in_recursion_at next (Some how) at = in_recursion _ how
  in_recursion_at next None at = inside_unexpected next at

  in_plain : (level : Level) (next : Next) → NextIn whole next → Inside whole Anywhere (plain_statement level next)
  unfolding plain_statement
  in_plain level next at = inside_choose (λ is. inside_then _ (in_name_after next at) (λ start is. in_set_statement level start))
      (inside_choose (λ is. inside_then _ (in_word_at next at) (in_word_statement level)) (inside_case _ _ (λ case. in_recursion_at next case at)))

  module _ {inner : Rule Statement} (i : Inside whole Anywhere inner) where
    in_part : Inside whole Anywhere (part inner)
    unfolding part
    in_part = inside_then _ inside_token (λ next at. inside_choose (λ is. inside_give _ tt) (inside_then _ (inside_from at i) (λ s is. inside_give _ tt)))

    in_union : (first : Statement) → Inside whole Anywhere (union inner first)
    unfolding union
    in_union first = inside_then _ (inside_gather in_part _) (λ parts is. inside_then _ in_into (λ set is. inside_give _ tt))

    in_difference : (left : Statement) → Inside whole Anywhere (difference inner left)
    unfolding difference
    in_difference left = inside_then _ i (λ right is. inside_then _ (in_pass _) (λ close is. inside_then _ in_into (λ set is. inside_give _ tt)))

    in_block : Inside whole Anywhere (block inner)
    unfolding block
    in_block = inside_then _ i (λ first is. inside_then _ inside_token (λ next at. inside_choose (λ is. in_difference first) (inside_choose (λ is. inside_from (ends_drop 1 at) (in_difference first)) (inside_from at (in_union first)))))

  in_statement : (level : Level) (depth : ℕ) → Inside whole Anywhere (statement level depth)
  unfolding statement
  in_statement level zero = inside_then _ inside_token (λ next at. inside_choose (λ is. inside_refuse _ tt at) (in_plain level next at))
  in_statement level (suc depth) = inside_then _ inside_token (λ next at. inside_choose (λ is. in_block (in_statement levels.Inner depth)) (in_plain level next at))

  in_top_statement : Inside whole Anywhere top_statement
  unfolding top_statement
  in_top_statement = inside_then _ inside_token (λ next at. inside_choose (λ is. inside_from ends_empty (inside_give _ tt)) (inside_then _ (inside_from at (in_statement levels.Top 32)) (λ s is. inside_give _ tt)))

  in_query : Inside whole Anywhere query
  unfolding query
  in_query = inside_then _ in_settings (λ set is. inside_then _ (inside_gather in_top_statement []) (λ all is. inside_give _ tt))

-- a query stops within its text
pub query_stops_inside : (bytes : List ℕ) (cause : QlCause) (place : List ℕ) → query.stops bytes cause place → Ends bytes place
query_stops_inside bytes cause place stops = let inside = in_query.stop bytes cause place (ends_whole bytes) stops in inside.0

-- and not for want of memory
pub query_stops_told : (bytes : List ℕ) (cause : QlCause) (place : List ℕ) → query.stops bytes cause place → cause ≢ causes.Memory
query_stops_told bytes cause place stops memory = let inside = in_query.stop bytes cause place (ends_whole bytes) stops in subst IsTold memory inside.1
