-- What filters in parentheses leave.
use Rattle.std.proofs.Common.{List, ℕ, [], ◌∷◌, lit≤, length, ap, arith}
use Rattle.ql_syntax.specs.Areas.{Corners, area}
use Rattle.ql_syntax.specs.TokenRules.{Number, Word, pass}
use Rattle.ql_syntax.specs.Selectors.{an_id, id_after, id_list, path_close, path_from, selector_named, word_selector, corner, box_after, number_selector, selector}
use Rattle.ql_syntax.specs.declared.path.Path.{Path}
use Rattle.ql_syntax.specs.declared.pick.Pick.{Pick}
use Rattle.ql_syntax.specs.declared.selector_word.SelectorWord.{SelectorWord}
use Rattle.ql_syntax.specs.declared.selector_word.SelectorWord.TheVariants as words
use Rattle.ql_syntax.specs.declared.token_kind.TokenKind.TheVariants as kinds
use Rattle.ql_syntax.proofs.GatherLemmas.{within_gather}
use Rattle.ql_syntax.proofs.Lengths.{Within, Shorter, within_shorter, within_then, within_next, within_choose, within_case, within_give, within_refuse, within_unexpected, within_from, within_number, within_id, within_word_at, within_number_at, shorter_pass}
use Rattle.ql_syntax.proofs.TokenLengths.{shorter_next, strict_punctuation, strict_unexpected, within_name}

within_an_id : {start : List ℕ} → Within start an_id
unfolding an_id
within_an_id = within_then _ within_number (λ number. within_id number.number number.place)

pub id_after_shorter : Shorter id_after
unfolding id_after
id_after_shorter = shorter_next _ (λ next. strict_punctuation kinds.Comma (lit≤ tt) (λ start. within_then _ within_an_id (λ id. within_give _)) (strict_punctuation kinds.CloseParenthesis (lit≤ tt) (λ start. within_give _) (strict_unexpected next)))

colon_within : {start : List ℕ} → Within start (pass kinds.Colon)
colon_within = within_shorter (shorter_pass kinds.Colon (lit≤ tt))

comma_within : {start : List ℕ} → Within start (pass kinds.Comma)
comma_within = within_shorter (shorter_pass kinds.Comma (lit≤ tt))

close_within : {start : List ℕ} → Within start (pass kinds.CloseParenthesis)
close_within = within_shorter (shorter_pass kinds.CloseParenthesis (lit≤ tt))

id_list_within : {start : List ℕ} → Within start id_list
unfolding id_list
id_list_within = within_then _ colon_within (λ colon. within_then _ within_an_id (λ first. within_then _ (within_gather (within_shorter id_after_shorter) (first ∷ [])) (λ ids. within_give _)))

path_close_within : {start : List ℕ} → Within start path_close
unfolding path_close
path_close_within = within_next _ (λ next. within_choose _ (within_give tt) (within_choose _ (within_refuse _ next.place) (within_unexpected next)))

path_from_within : {start : List ℕ} (path : Path) → Within start (path_from path)
unfolding path_from
path_from_within path = within_next _ (λ next. within_choose _ (within_then _ (within_name next) (λ name. within_then _ path_close_within (λ close. within_give _))) (within_then _ (within_from path_close_within) (λ close. within_give _)))

named_within : {start : List ℕ} (place : List ℕ) (word : SelectorWord) → Within start (selector_named place word)
named_within place words.Ids = id_list_within
named_within place (words.Along path) = path_from_within path
named_within place words.Unsupported = within_refuse _ place
named_within place words.Unknown = within_refuse _ place

word_selector_within : {start : List ℕ} (pick : Pick) (word : Word) → Within start (word_selector pick word)
unfolding word_selector
word_selector_within pick word = within_case _ _ (named_within word.place)

corner_within : {start : List ℕ} → Within start corner
unfolding corner
corner_within = within_then _ comma_within (λ comma. within_number)

area_within : {start : List ℕ} (corners : Corners) (place : List ℕ) → Within start (area corners place)
unfolding area
area_within corners place = record { at_most = λ text value rest le reads. let e = ap (λ (x : List ℕ). length x) reads.2 in omega arith }

box_within : {start : List ℕ} (south : Number) → Within start (box_after south)
unfolding box_after
box_within south = within_then _ within_number (λ west. within_then _ corner_within (λ north. within_then _ corner_within (λ east. within_then _ close_within (λ close. within_then _ (area_within _ south.place) (λ box. within_give _)))))

number_selector_within : {start : List ℕ} (pick : Pick) (number : Number) → Within start (number_selector pick number)
unfolding number_selector
number_selector_within pick number = within_next _ (λ next. within_choose _ (within_choose _ (box_within number) (within_refuse _ number.place)) (within_choose _ (within_then _ (within_id number.number number.place) (λ id. within_give _)) (within_unexpected next)))

pub selector_within : {start : List ℕ} (pick : Pick) → Within start (selector pick)
unfolding selector
selector_within pick = within_next _ (λ next. within_choose _ (within_then _ (within_word_at next) (word_selector_within pick)) (within_choose _ (within_then _ (within_number_at next) (number_selector_within pick)) (within_unexpected next)))
