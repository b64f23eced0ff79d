-- A statement leaves less.
use Rattle.std.proofs.Common.{ℕ, zero, suc, List, [], ◌∷◌, Option, None, Some, lit≤}
use Rattle.ql_syntax.specs.Outs.{out_options}
use Rattle.ql_syntax.specs.TokenRules.{Next, Word, pass, a_name, into}
use Rattle.ql_syntax.specs.Rules.{Rule, ◌>>=◌, give, refuse, by_case}
use Rattle.ql_syntax.specs.Selections.{a_filter, selection}
use Rattle.ql_syntax.specs.StatementRules.{recursion, item, out_of, print_at, print, statement_named, word_statement, set_statement_named, set_word_statement, recursion_or_item, set_statement, recursion_at, plain_statement, part, union, difference, block, statement, top_statement}
use Rattle.ql_syntax.specs.Statements.{Statement}
use Rattle.ql_syntax.specs.declared.level.Level.{Level}
use Rattle.ql_syntax.specs.declared.level.Level.TheVariants as levels
use Rattle.ql_syntax.specs.declared.pick.Pick.{Pick}
use Rattle.ql_syntax.specs.declared.recursion.Recursion.{Recursion}
use Rattle.ql_syntax.specs.declared.token_kind.TokenKind.TheVariants as kinds
use Rattle.ql_syntax.specs.declared.statement_word.StatementWord.{StatementWord}
use Rattle.ql_syntax.specs.declared.statement_word.StatementWord.TheVariants as words
use Rattle.ql_syntax.proofs.GatherLemmas.{within_gather}
use Rattle.ql_syntax.proofs.Lengths.{Within, Shorter, within_shorter, within_then, within_next, within_choose, within_give, within_unexpected, within_from, shorter_pass, shorter_first, shorter_second}
use Rattle.ql_syntax.proofs.OutLengths.{out_round_shorter}
use Rattle.ql_syntax.proofs.SelectorLengths.{selector_within}
use Rattle.ql_syntax.proofs.TagLengths.{tag_filter_within}
use Rattle.ql_syntax.proofs.TokenLengths.{IsAny, Strictly, ShorterWhere, where_next, shorter_next, strict_punctuation, strict_choose, strict_case, strict_word, strict_from, strict_shorter, strict_refuse, strict_unexpected, within_name, within_dropped, repeat_shorter, strict_from_then, IsOne, strict_none_at, strict_none_from}

semicolon_shorter : Shorter (pass kinds.Semicolon)
semicolon_shorter = shorter_pass kinds.Semicolon (lit≤ tt)

a_name_within : {start : List ℕ} → Within start a_name
unfolding a_name
a_name_within = within_next _ (λ next. within_choose _ (within_name next) (within_unexpected next))

pub into_shorter : Shorter into
unfolding into
into_shorter = shorter_next _ (λ next. strict_punctuation kinds.Arrow (lit≤ tt) (λ start. within_then _ a_name_within (λ name. within_then _ (within_shorter semicolon_shorter) (λ end. within_give _)))
    (strict_punctuation kinds.Semicolon (lit≤ tt) (λ start. within_give _) (strict_unexpected next)))

-- what ends with `->` or `;`
ends_shorter : {A B : Type 0} {first : Rule A} (second : A → List ℕ → B) → ((start : List ℕ) → Within start first) → Shorter (first >>= (λ x. into >>= (λ set. give (second x set))))
ends_shorter second first = shorter_second _ first (λ x. shorter_first _ into_shorter (λ set start. within_give _))

pub a_filter_within : {start : List ℕ} (pick : Pick) → Within start (a_filter pick)
unfolding a_filter
a_filter_within pick = within_next _ (λ next. within_choose _ (within_then _ (within_name next) (λ name. within_give _))
    (within_choose _ (within_then _ tag_filter_within (λ filter. within_give _))
    (within_choose _ (within_then _ (selector_within pick) (λ filter. within_give _)) (within_from (within_give _)))))

pub a_filter_shorter : (pick : Pick) → ShorterWhere IsOne (a_filter pick)
unfolding a_filter
a_filter_shorter pick = where_next _ _ (λ next. strict_punctuation kinds.Dot (lit≤ tt) (λ start. within_then _ (within_name next) (λ name. within_give _))
    (strict_punctuation kinds.OpenBracket (lit≤ tt) (λ start. within_then _ tag_filter_within (λ filter. within_give _))
    (strict_punctuation kinds.OpenParenthesis (lit≤ tt) (λ start. within_then _ (selector_within pick) (λ filter. within_give _)) (strict_none_from next))))

selection_shorter : (pick : Pick) → Shorter (selection pick)
unfolding selection
selection_shorter pick = ends_shorter _ (λ start. within_gather (a_filter_within pick) [])

recursion_shorter : (start : List ℕ) (how : Recursion) → Shorter (recursion start how)
unfolding recursion
recursion_shorter start how = shorter_first _ into_shorter (λ set begin. within_give _)

item_shorter : (start : List ℕ) → Shorter (item start)
unfolding item
item_shorter start = shorter_first _ into_shorter (λ set begin. within_give _)

out_shorter : (start : List ℕ) → Shorter (out_of start)
unfolding out_of out_options
out_shorter start = shorter_first _ (repeat_shorter out_round_shorter _) (λ options begin. within_give _)

shorter_refuse : {A : Type 0} (cause : _) (place : List ℕ) → Shorter (refuse {A = A} cause place)
unfolding refuse
shorter_refuse cause place = record { below = λ text value rest reads. absurd reads }

print_at_shorter : (start place : List ℕ) (level : Level) → Shorter (print_at start place level)
print_at_shorter start place levels.Top = out_shorter start
print_at_shorter start place levels.Inner = shorter_refuse _ place

print_shorter : (level : Level) (start place : List ℕ) → Shorter (print level start place)
unfolding print by_case
print_shorter level start place = print_at_shorter start place level

named_shorter : (level : Level) (place : List ℕ) (word : StatementWord) → Shorter (statement_named level place word)
named_shorter level place (words.Kind pick) = selection_shorter pick
named_shorter level place words.Print = print_shorter level _ place
named_shorter level place words.Unsupported = shorter_refuse _ place
named_shorter level place words.Unknown = shorter_refuse _ place

word_statement_shorter : (level : Level) (word : Word) → Shorter (word_statement level word)
unfolding word_statement by_case
word_statement_shorter level word = named_shorter level word.place _

set_named_shorter : (level : Level) (start place : List ℕ) (word : StatementWord) → Shorter (set_statement_named level start place word)
set_named_shorter level start place (words.Kind pick) = shorter_refuse _ place
set_named_shorter level start place words.Print = print_shorter level start place
set_named_shorter level start place words.Unsupported = shorter_refuse _ place
set_named_shorter level start place words.Unknown = shorter_refuse _ place

set_word_shorter : (level : Level) (start : List ℕ) (word : Word) → Shorter (set_word_statement level start word)
unfolding set_word_statement by_case
set_word_shorter level start word = set_named_shorter level start word.place _

recursion_or_item_strict : (start : List ℕ) (next : Next) (how : Option Recursion) → Strictly IsAny next (recursion_or_item start next.place how)
recursion_or_item_strict start next (Some how) = strict_shorter (recursion_shorter start how)
recursion_or_item_strict start next None = strict_from (item_shorter start)

set_statement_shorter : (level : Level) (start : List ℕ) → Shorter (set_statement level start)
unfolding set_statement
set_statement_shorter level start = shorter_next _ (λ next. strict_word _ (λ word begin. within_shorter (set_word_shorter level start word)) (strict_case _ _ (recursion_or_item_strict start next)))

recursion_at_strict : (next : Next) (how : Option Recursion) → Strictly IsAny next (recursion_at next how)
recursion_at_strict next (Some how) = strict_shorter (recursion_shorter _ how)
recursion_at_strict next None = strict_unexpected next

plain_strict : (level : Level) (next : Next) → Strictly IsAny next (plain_statement level next)
unfolding plain_statement
plain_strict level next = strict_punctuation kinds.Dot (lit≤ tt) (λ start. within_then _ (within_name next) (λ set. within_shorter (set_statement_shorter level set)))
    (strict_word _ (λ word start. within_shorter (word_statement_shorter level word)) (strict_case _ _ (recursion_at_strict next)))

close_within : {start : List ℕ} → Within start (pass kinds.CloseParenthesis)
close_within = within_shorter (shorter_pass kinds.CloseParenthesis (lit≤ tt))

module _ {inner : Rule Statement} (short : Shorter inner) where
  pub part_shorter : Shorter (part inner)
  unfolding part
  part_shorter = shorter_next _ (λ next. strict_punctuation kinds.CloseParenthesis (lit≤ tt) (λ start. within_give _) (strict_from_then _ short))

  union_shorter : (first : Statement) → Shorter (union inner first)
  unfolding union
  union_shorter first = ends_shorter _ (λ start. within_gather (within_shorter part_shorter) (first ∷ []))

  difference_shorter : (left : Statement) → Shorter (difference inner left)
  unfolding difference
  difference_shorter left = shorter_first _ short (λ right start. within_then _ close_within (λ close. within_then _ (within_shorter into_shorter) (λ set. within_give _)))

  block_shorter : Shorter (block inner)
  unfolding block
  block_shorter = shorter_first _ short (λ first start. within_next _ (λ next. within_choose _ (within_shorter (difference_shorter first)) (within_choose _ (within_dropped next (difference_shorter first)) (within_from (within_shorter (union_shorter first))))))

pub statement_shorter : (level : Level) (depth : ℕ) → Shorter (statement level depth)
unfolding statement
statement_shorter level zero = shorter_next _ (λ next. strict_choose _ (strict_refuse _ next.place) (plain_strict level next))
statement_shorter level (suc depth) = shorter_next _ (λ next. strict_choose _ (strict_shorter (block_shorter (statement_shorter levels.Inner depth))) (plain_strict level next))

pub top_statement_shorter : ShorterWhere IsOne top_statement
unfolding top_statement
top_statement_shorter = where_next _ _ (λ next. strict_choose _ (strict_none_at next []) (strict_from_then _ (statement_shorter levels.Top 32)))
