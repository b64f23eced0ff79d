-- What is read keeps what every query does.
use Rattle.std.proofs.Common.{◌≡◌, ℕ, zero, suc, List, [], ◌∷◌, Option, None, Some, Bool, true, false, cond, drop, refl, subst}
use Rattle.std.specs.Bool.{⊤}
use Rattle.std.specs.List.{AllByRecursion}
use Rattle.osm_model.specs.Limits.{HasNoNul}
use Rattle.ql_syntax.specs.LawfulQueries.{Allows, IsInner, AreInner, IsTop, IsQuery}
use Rattle.ql_syntax.specs.Picks.{allows, takes_boxes}
use Rattle.ql_syntax.specs.TokenRules.{Next, Word, Number, run_here, text_here}
use Rattle.ql_syntax.proofs.CleanTexts.{quoted_has_no_nul, run_has_no_nul}
use Rattle.ql_syntax.specs.Queries.{query}
use Rattle.ql_syntax.specs.Rules.{Rule, by_case}
use Rattle.ql_syntax.specs.Selections.{a_filter, selection}
use Rattle.ql_syntax.specs.SelectorWords.{path_word, selector_word, path_of}
use Rattle.ql_syntax.specs.Selectors.{id_after, id_list, path_from, selector_named, word_selector, box_after, number_selector, selector}
use Rattle.ql_syntax.specs.StatementRules.{recursion, item, out_of, print_at, print, statement_named, word_statement, set_statement_named, set_word_statement, recursion_or_item, set_statement, recursion_at, plain_statement, part, union, difference, block, statement, top_statement}
use Rattle.ql_syntax.specs.Statements.{Statement, End, Select, Recurse, Item, Union, Minus, Print, row_of}
use Rattle.ql_syntax.specs.TagFilters.{tag_filter, tag_rest, tag_text, tag_text_at, tag_value, not_in_tag}
use Rattle.ql_syntax.specs.declared.level.Level.{Level}
use Rattle.ql_syntax.specs.declared.level.Level.TheVariants as levels
use Rattle.ql_syntax.specs.declared.path.Path.{Path}
use Rattle.ql_syntax.specs.declared.pick.Pick.{Pick}
use Rattle.ql_syntax.specs.declared.recursion.Recursion.{Recursion}
use Rattle.ql_syntax.specs.declared.selector_word.SelectorWord.{SelectorWord}
use Rattle.ql_syntax.specs.declared.selector_word.SelectorWord.TheVariants as selectors
use Rattle.ql_syntax.specs.declared.statement_word.StatementWord.{StatementWord}
use Rattle.ql_syntax.specs.declared.statement_word.StatementWord.TheVariants as words
use Rattle.ql_syntax.proofs.GivesLemmas.{Gives, IfOne, gives_give, gives_refuse, gives_unexpected, gives_from, gives_then, gives_after, gives_choose, gives_case, gives_gather, gives_some, gives_also}

gives_in_tag : {A : Type 0} {IsSuch : A → Type 0} (next : Next) → Gives IsSuch (not_in_tag {A = A} next)
unfolding not_in_tag
gives_in_tag next = gives_refuse _ next.place

-- a word that begins a path names one that the kind allows
allowed : (pick : Pick) (p path : Path) (test : Bool) → allows pick p ≡ test → cond test (selectors.Along p) selectors.Unsupported ≡ selectors.Along path → allows pick path ≡ true
allowed pick p path true is e = let same : p ≡ path = cc in subst (λ (q : Path). allows pick q ≡ true) same is
allowed pick p path false is e = absurd (cc)

along : (pick : Pick) (path : Path) (b c : Bool) (o : Option Path) → cond b selectors.Ids (cond c selectors.Unsupported (path_word pick o)) ≡ selectors.Along path → allows pick path ≡ true
along pick path true c o e = absurd (cc)
along pick path false true o e = absurd (cc)
along pick path false false None e = absurd (cc)
along pick path false false (Some p) e = allowed pick p path (allows pick p) refl e

tag_text_at_gives : (next : Next) → Gives HasNoNul (tag_text_at next)
unfolding tag_text_at text_here run_here
tag_text_at_gives next = gives_choose _ (λ is. gives_from next.place (record { gives = λ text v rest reads. quoted_has_no_nul text v rest reads }))
    (gives_choose _ (λ is. gives_from next.place (record { gives = λ text v rest reads. run_has_no_nul text v rest reads })) (gives_in_tag next))

tag_value_gives : Gives HasNoNul tag_value
unfolding tag_value tag_text
tag_value_gives = gives_then _ (gives_after _ _ tag_text_at_gives) (λ value clean. gives_after _ _ (λ close. gives_give _ clean))

module _ (pick : Pick) where
  tag_rest_gives : (key : List ℕ) → HasNoNul key → Gives (Allows pick) (tag_rest key)
  unfolding tag_rest
  tag_rest_gives key clean = gives_after _ _ (λ next. gives_choose _ (λ is. gives_give _ clean)
      (gives_choose _ (λ is. gives_then _ tag_value_gives (λ value also. gives_give _ (clean, also)))
      (gives_choose _ (λ is. gives_then _ tag_value_gives (λ value also. gives_give _ (clean, also))) (gives_in_tag next))))

  tag_filter_gives : Gives (Allows pick) tag_filter
  unfolding tag_filter
  tag_filter_gives = gives_after _ _ (λ next. gives_choose _ (λ is. gives_then _ tag_value_gives (λ key clean. gives_give _ clean)) (gives_then _ (tag_text_at_gives next) tag_rest_gives))

  path_from_gives : (path : Path) → allows pick path ≡ true → Gives (Allows pick) (path_from path)
  unfolding path_from
  path_from_gives path is = gives_after _ _ (λ next. gives_choose _ (λ dot. gives_after _ _ (λ name. gives_after _ _ (λ close. gives_give _ is))) (gives_after _ _ (λ close. gives_give _ is)))

  id_list_gives : Gives (Allows pick) id_list
  unfolding id_list
  id_list_gives = gives_after _ _ (λ colon. gives_after _ _ (λ first. gives_then _ (gives_some id_after first) (λ ids some. gives_give _ some)))

  named_gives : (place word : List ℕ) (case : SelectorWord) → selector_word pick word ≡ case → Gives (Allows pick) (selector_named place case)
  named_gives place word selectors.Ids is = id_list_gives
  named_gives place word (selectors.Along path) is = path_from_gives path (along pick path _ _ (path_of word) is)
  named_gives place word selectors.Unsupported is = gives_refuse _ place
  named_gives place word selectors.Unknown is = gives_refuse _ place

  word_selector_gives : (word : Word) → Gives (Allows pick) (word_selector pick word)
  unfolding word_selector
  word_selector_gives word = gives_case _ _ (named_gives word.place word.word)

  box_gives : (south : Number) → takes_boxes pick ≡ true → Gives (Allows pick) (box_after south)
  unfolding box_after
  box_gives south is = gives_after _ _ (λ west. gives_after _ _ (λ north. gives_after _ _ (λ east. gives_after _ _ (λ close. gives_after _ _ (λ box. gives_give _ is)))))

  number_selector_gives : (number : Number) → Gives (Allows pick) (number_selector pick number)
  unfolding number_selector
  number_selector_gives number = gives_after _ _ (λ next. gives_choose _ (λ comma. gives_choose _ (λ box. box_gives number box) (gives_refuse _ number.place))
      (gives_choose _ (λ close. gives_after _ _ (λ id. gives_give _ (λ e. cc))) (gives_unexpected next)))

  selector_gives : Gives (Allows pick) (selector pick)
  unfolding selector
  selector_gives = gives_after _ _ (λ next. gives_choose _ (λ is. gives_after _ _ word_selector_gives) (gives_choose _ (λ is. gives_after _ _ number_selector_gives) (gives_unexpected next)))

  a_filter_gives : Gives (IfOne (Allows pick)) (a_filter pick)
  unfolding a_filter
  a_filter_gives = gives_after _ _ (λ next. gives_choose _ (λ is. gives_after _ _ (λ name. gives_give _ tt))
      (gives_choose _ (λ is. gives_then _ tag_filter_gives (λ filter such. gives_give _ such))
      (gives_choose _ (λ is. gives_then _ selector_gives (λ filter such. gives_give _ such)) (gives_from next.place (gives_give _ tt)))))

-- at a level, and this many deep at most
abbrev pub IsAt : Level → ℕ → Statement → Type 0
IsAt levels.Inner depth s = IsInner depth s
IsAt levels.Top depth (Print start mode limit) = ⊤
IsAt levels.Top depth (Select pick filters set) = IsInner depth (Select pick filters set)
IsAt levels.Top depth (Recurse start how set) = IsInner depth (Recurse start how set)
IsAt levels.Top depth (Item start set) = IsInner depth (Item start set)
IsAt levels.Top depth (Union parts set) = IsInner depth (Union parts set)
IsAt levels.Top depth (Minus left right set) = IsInner depth (Minus left right set)

inner_is : (level : Level) (depth : ℕ) (s : Statement) → IsInner depth s → IsAt level depth s
inner_is levels.Inner depth s is = is
inner_is levels.Top depth (Print start mode limit) is = tt
inner_is levels.Top depth (Select pick filters set) is = is
inner_is levels.Top depth (Recurse start how set) is = is
inner_is levels.Top depth (Item start set) is = is
inner_is levels.Top depth (Union parts set) is = is
inner_is levels.Top depth (Minus left right set) is = is

top_is : (s : Statement) → IsAt levels.Top 32 s → IsTop s
top_is (Print start mode limit) is = tt
top_is (Select pick filters set) is = is
top_is (Recurse start how set) is = is
top_is (Item start set) is = is
top_is (Union parts set) is = is
top_is (Minus left right set) is = is

row_is : (depth : ℕ) (parts : List Statement) → AllByRecursion (IsInner depth) parts → AreInner depth (row_of parts)
row_is depth [] all = tt
row_is depth (s ∷ parts) all = (all.0, row_is depth parts all.1)

some_row : (parts : List Statement) → ¬ (parts ≡ []) → ¬ (row_of parts ≡ End)
some_row [] some e = some refl
some_row (s ∷ parts) some e = cc

module _ (level : Level) (depth : ℕ) where
  selection_gives : (pick : Pick) → Gives (IsAt level depth) (selection pick)
  unfolding selection
  selection_gives pick = gives_then _ (gives_gather (Allows pick) (a_filter_gives pick) [] tt) (λ filters all. gives_after _ _ (λ set. gives_give _ (inner_is level depth (Select pick filters set) all)))

  recursion_gives : (start : List ℕ) (how : Recursion) → Gives (IsAt level depth) (recursion start how)
  unfolding recursion
  recursion_gives start how = gives_after _ _ (λ set. gives_give _ (inner_is level depth (Recurse start how set) tt))

  item_gives : (start : List ℕ) → Gives (IsAt level depth) (item start)
  unfolding item
  item_gives start = gives_after _ _ (λ set. gives_give _ (inner_is level depth (Item start set) tt))

out_gives : (depth : ℕ) (start : List ℕ) → Gives (IsAt levels.Top depth) (out_of start)
unfolding out_of
out_gives depth start = gives_after _ _ (λ options. gives_give _ tt)

print_at_gives : (level : Level) (depth : ℕ) (start place : List ℕ) → Gives (IsAt level depth) (print_at start place level)
print_at_gives levels.Top depth start place = out_gives depth start
print_at_gives levels.Inner depth start place = gives_refuse _ place

module _ (level : Level) (depth : ℕ) where
  print_gives : (start place : List ℕ) → Gives (IsAt level depth) (print level start place)
  unfolding print by_case
  print_gives start place = print_at_gives level depth start place

  statement_named_gives : (place : List ℕ) (word : StatementWord) → Gives (IsAt level depth) (statement_named level place word)
  statement_named_gives place (words.Kind pick) = selection_gives level depth pick
  statement_named_gives place words.Print = print_gives _ place
  statement_named_gives place words.Unsupported = gives_refuse _ place
  statement_named_gives place words.Unknown = gives_refuse _ place

  word_statement_gives : (word : Word) → Gives (IsAt level depth) (word_statement level word)
  unfolding word_statement
  word_statement_gives word = gives_case _ _ (λ case is. statement_named_gives word.place case)

  set_named_gives : (start place : List ℕ) (word : StatementWord) → Gives (IsAt level depth) (set_statement_named level start place word)
  set_named_gives start place (words.Kind pick) = gives_refuse _ place
  set_named_gives start place words.Print = print_gives start place
  set_named_gives start place words.Unsupported = gives_refuse _ place
  set_named_gives start place words.Unknown = gives_refuse _ place

  set_word_gives : (start : List ℕ) (word : Word) → Gives (IsAt level depth) (set_word_statement level start word)
  unfolding set_word_statement
  set_word_gives start word = gives_case _ _ (λ case is. set_named_gives start word.place case)

  recursion_or_item_gives : (start place : List ℕ) (how : Option Recursion) → Gives (IsAt level depth) (recursion_or_item start place how)
  recursion_or_item_gives start place (Some how) = recursion_gives level depth start how
  recursion_or_item_gives start place None = gives_from place (item_gives level depth start)

  set_statement_gives : (start : List ℕ) → Gives (IsAt level depth) (set_statement level start)
  unfolding set_statement
  set_statement_gives start = gives_after _ _ (λ next. gives_choose _ (λ is. gives_after _ _ (set_word_gives start)) (gives_case _ _ (λ case is. recursion_or_item_gives start next.place case)))

  recursion_at_gives : (next : Next) (how : Option Recursion) → Gives (IsAt level depth) (recursion_at next how)
  recursion_at_gives next (Some how) = recursion_gives level depth _ how
  recursion_at_gives next None = gives_unexpected next

  plain_gives : (next : Next) → Gives (IsAt level depth) (plain_statement level next)
  unfolding plain_statement
  plain_gives next = gives_choose _ (λ is. gives_after _ _ set_statement_gives) (gives_choose _ (λ is. gives_after _ _ word_statement_gives) (gives_case _ _ (λ case is. recursion_at_gives next case)))

module _ {inner : Rule Statement} (depth : ℕ) (g : Gives (IsInner depth) inner) where
  part_gives : Gives (IfOne (IsInner depth)) (part inner)
  unfolding part
  part_gives = gives_after _ _ (λ next. gives_choose _ (λ is. gives_give _ tt) (gives_then _ (gives_from next.place g) (λ s is. gives_give _ is)))

  union_gives : (first : Statement) → IsInner depth first → Gives (IsInner (suc depth)) (union inner first)
  unfolding union
  union_gives first is = gives_then _ (gives_also (gives_gather (IsInner depth) part_gives (first ∷ []) (is, tt)) (gives_some (part inner) first)) (λ parts all. gives_after _ _ (λ set. gives_give _ (depth, refl, row_is depth parts all.0, some_row parts all.1)))

  difference_gives : (left : Statement) → IsInner depth left → Gives (IsInner (suc depth)) (difference inner left)
  unfolding difference
  difference_gives left is = gives_then _ g (λ right also. gives_after _ _ (λ close. gives_after _ _ (λ set. gives_give _ (depth, refl, is, also))))

  block_gives : Gives (IsInner (suc depth)) (block inner)
  unfolding block
  block_gives = gives_then _ g (λ first is. gives_after _ _ (λ next. gives_choose _ (λ minus. difference_gives first is)
      (gives_choose _ (λ arrow. gives_from (drop 1 next.place) (difference_gives first is)) (gives_from next.place (union_gives first is)))))

gives_as : {A : Type 0} {IsSuch IsOther : A → Type 0} {rule : Rule A} → ((a : A) → IsSuch a → IsOther a) → Gives IsSuch rule → Gives IsOther rule
gives_as same g = record { gives = λ text v rest reads. same v (g.gives text v rest reads) }

statement_gives : (level : Level) (depth : ℕ) → Gives (IsAt level depth) (statement level depth)
unfolding statement
statement_gives level zero = gives_after _ _ (λ next. gives_choose _ (λ is. gives_refuse _ next.place) (plain_gives level zero next))
statement_gives level (suc depth) = gives_after _ _ (λ next. gives_choose _ (λ is. gives_as (inner_is level (suc depth)) (block_gives depth (statement_gives levels.Inner depth))) (plain_gives level (suc depth) next))

top_statement_gives : Gives (IfOne IsTop) top_statement
unfolding top_statement
top_statement_gives = gives_after _ _ (λ next. gives_choose _ (λ is. gives_from [] (gives_give _ tt)) (gives_then _ (gives_from next.place (statement_gives levels.Top 32)) (λ s is. gives_give _ (top_is s is))))

query_row : (all : List Statement) → AllByRecursion IsTop all → IsQuery (row_of all)
query_row [] such = tt
query_row (s ∷ all) such = (such.0, query_row all such.1)

-- what is read keeps what every query does
pub query_gives : Gives IsQuery query
unfolding query
query_gives = gives_after _ _ (λ set. gives_then _ (gives_gather IsTop top_statement_gives [] tt) (λ all such. gives_give _ (query_row all such)))
