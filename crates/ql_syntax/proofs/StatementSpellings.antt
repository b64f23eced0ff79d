-- What rules read as a statement is spelled so.
use Rattle.std.proofs.Common.{◌≡◌, ℕ, zero, suc, List, [], ◌∷◌, Option, None, Some, drop, refl, sym, ◌∙◌, ap, subst, inl, inr}
use Rattle.std.specs.Prelude.{codes}
use Rattle.std.specs.Option.{unwrap_or}
use Rattle.osm_model.specs.declared.out_mode.OutMode.TheVariants as modes
use Rattle.ql_syntax.specs.Filters.{Filter}
use Rattle.ql_syntax.specs.Grammar as grammar
use Rattle.ql_syntax.specs.TokenRules.{Next, At, next_token, unexpected, name_after}
use Rattle.ql_syntax.specs.Rules.{Rule, ◌>>=◌, give, refuse, from, choose, by_case, gather, gather_round, repeat, RoundsRead, Last}
use Rattle.ql_syntax.specs.Rules as rounds
use Rattle.ql_syntax.specs.Selections.{selection}
use Rattle.ql_syntax.specs.TokenKinds.{punctuation_len}
use Rattle.ql_syntax.specs.Spellings as spelling
use Rattle.ql_syntax.specs.Spellings.{Both, each, says, word, named_set, the_end}
use Rattle.ql_syntax.specs.StatementRules.{recursion_of, recursion, item, out_of, print_at, print, statement_named, word_statement, set_statement_named, set_word_statement, recursion_or_item, set_statement, recursion_at, plain_statement, part, union, difference, block, statement, top_statement}
use Rattle.ql_syntax.specs.StatementWords.{statement_word}
use Rattle.ql_syntax.specs.Statements.{Statement, Select, Union, row_of}
use Rattle.ql_syntax.specs.declared.level.Level.{Level}
use Rattle.ql_syntax.specs.declared.level.Level.TheVariants as levels
use Rattle.ql_syntax.specs.declared.pick.Pick.{Pick}
use Rattle.ql_syntax.specs.declared.recursion.Recursion.{Recursion}
use Rattle.ql_syntax.specs.declared.recursion.Recursion.TheVariants as recursions
use Rattle.ql_syntax.specs.declared.token_kind.TokenKind.{TokenKind}
use Rattle.ql_syntax.specs.declared.token_kind.TokenKind.TheVariants as kinds
use Rattle.ql_syntax.specs.declared.statement_word.StatementWord.{StatementWord}
use Rattle.ql_syntax.specs.declared.statement_word.StatementWord.TheVariants as words
use Rattle.ql_syntax.proofs.FilterSpellings.{filters_sound, word_split}
use Rattle.ql_syntax.proofs.GatherSpellings.{gather_sound}
use Rattle.ql_syntax.proofs.OutSpellings.{out_sound}
use Rattle.ql_syntax.proofs.SpellingLemmas.{Alike, alike, alike_back, from_token, at_rest, both, spelled_to, Shifts, shifts_then, shifts_token, pass_sound, into_sound}
use Rattle.ql_syntax.proofs.TokenSpellings.{said_at, set_said, IsWordOf, minus_said, end_said}
use Rattle.ql_syntax.proofs.WordSpellings.{statement_is}

-- statements that begin with a token
pub shifts_statement : (level : Level) (depth : ℕ) → Shifts (statement level depth)
unfolding statement
shifts_statement level zero = shifts_then _ shifts_token
shifts_statement level (suc depth) = shifts_then _ shifts_token

pub shifts_part : (inner : Rule Statement) → Shifts (part inner)
unfolding part
shifts_part inner = shifts_then _ shifts_token

pub shifts_top : Shifts top_statement
unfolding top_statement
shifts_top = shifts_then _ shifts_token

-- lists of them
first_round : {A : Type 0} {one : Rule (Option A)} → Shifts one → (found : List A) → Shifts (gather_round one found)
unfolding gather_round
first_round s found = shifts_then _ s

shifts_rounds : {A : Type 0} {one : Rule (Option A)} → Shifts one → (start text : List ℕ) (value : List A) (rest : List ℕ) (found : List A) → Alike text start → RoundsRead (gather_round one) value rest found start → RoundsRead (gather_round one) value rest found text
shifts_rounds s _ text value rest _ like (Last found start r) = Last found text ((first_round s found).shift start text _ rest like r)
shifts_rounds s _ text value rest _ like (rounds.Next found next start middle r more) = rounds.Next found next text middle ((first_round s found).shift start text _ middle like r) more

pub shifts_gather : {A : Type 0} {one : Rule (Option A)} → Shifts one → (found : List A) → Shifts (gather one found)
unfolding gather repeat
shifts_gather s found = record { shift = λ start text value rest like reads. shifts_rounds s start text value rest found like reads }

-- the sign of a recursion
abbrev sign_of : Recursion → TokenKind
sign_of recursions.Down = kinds.Down
sign_of recursions.DownAll = kinds.DownAll
sign_of recursions.Up = kinds.Up
sign_of recursions.UpAll = kinds.UpAll

sign_is : (kind : TokenKind) (how : Recursion) → recursion_of kind ≡ Some how → kind ≡ sign_of how
sign_is kinds.End how is = absurd (cc)
sign_is kinds.Word how is = absurd (cc)
sign_is kinds.Number how is = absurd (cc)
sign_is kinds.Quote how is = absurd (cc)
sign_is kinds.OpenBracket how is = absurd (cc)
sign_is kinds.CloseBracket how is = absurd (cc)
sign_is kinds.OpenParenthesis how is = absurd (cc)
sign_is kinds.CloseParenthesis how is = absurd (cc)
sign_is kinds.Semicolon how is = absurd (cc)
sign_is kinds.Comma how is = absurd (cc)
sign_is kinds.Colon how is = absurd (cc)
sign_is kinds.Equal how is = absurd (cc)
sign_is kinds.NotEqual how is = absurd (cc)
sign_is kinds.NotTilde how is = absurd (cc)
sign_is kinds.Not how is = absurd (cc)
sign_is kinds.Tilde how is = absurd (cc)
sign_is kinds.Dot how is = absurd (cc)
sign_is kinds.Minus how is = absurd (cc)
sign_is kinds.Arrow how is = absurd (cc)
sign_is kinds.Down how is = let same : recursions.Down ≡ how = cc in ap sign_of same
sign_is kinds.DownAll how is = let same : recursions.DownAll ≡ how = cc in ap sign_of same
sign_is kinds.Up how is = let same : recursions.Up ≡ how = cc in ap sign_of same
sign_is kinds.UpAll how is = let same : recursions.UpAll ≡ how = cc in ap sign_of same
sign_is kinds.Other how is = absurd (cc)

recursion_said : {text rest : List ℕ} (next : Next) (how : Recursion) → recursion_of next.kind ≡ Some how → At text next rest → grammar.recursion how text rest
recursion_said next recursions.Down is at = said_at at (sign_is next.kind recursions.Down is)
recursion_said next recursions.DownAll is at = said_at at (sign_is next.kind recursions.DownAll is)
recursion_said next recursions.Up is at = said_at at (sign_is next.kind recursions.Up is)
recursion_said next recursions.UpAll is at = said_at at (sign_is next.kind recursions.UpAll is)

module _ (text rest : List ℕ) where
  -- a statement, where this is the same one
  as_statement : {s t : Statement} → s ≡ t → grammar.statement t text rest → grammar.statement s text rest
  as_statement is it = subst (λ (u : Statement). grammar.statement u text rest) (sym is) it

  selection_split : (middle : List ℕ) (s : Statement) (pick : Pick) → grammar.kind pick text middle → (selection pick).reads middle s rest → grammar.statement s text rest
  unfolding selection ◌>>=◌ give
  selection_split middle s pick named r =
      let set = r.back_reads in
      let is = set.back_reads in
      let g = filters_sound pick r.front middle r.middle r.front_reads in
      let all : r.front ≡ g.more = g.is in
      as_statement (is.0 ∙ ap (λ (l : List Filter). Select pick l set.front) all)
      (both middle named (both g.middle g.front (spelled_to (spelling.into set.front) is.1 (into_sound g.back (record { reads = set.front_reads })))))

  recursion_split : {middle : List ℕ} (place : List ℕ) (s : Statement) (start : List ℕ) (how : Recursion) → spelling.source start text middle → grammar.recursion how middle place → (recursion start how).reads place s rest → grammar.statement s text rest
  unfolding recursion ◌>>=◌ give
  recursion_split {middle = middle} place s start how source is r = let e = r.back_reads in
      as_statement e.0 (both middle source (both place is (spelled_to (spelling.into r.front) e.1 (into_sound (alike place) (record { reads = r.front_reads })))))

  item_split : {middle place : List ℕ} (s : Statement) (start : List ℕ) → named_set start text middle → Alike middle place → (item start).reads place s rest → grammar.statement s text rest
  unfolding item ◌>>=◌ give
  item_split {middle = middle} s start named like r = let e = r.back_reads in
      as_statement e.0 (both middle named (spelled_to (spelling.into r.front) e.1 (into_sound like (record { reads = r.front_reads }))))

  print_split : {middle place : List ℕ} (s : Statement) (start at : List ℕ) (level : Level) → spelling.source start text middle → word "out" middle place → (print_at start at level).reads place s rest → grammar.statement s text rest
  unfolding out_of ◌>>=◌ give refuse
  print_split {middle = middle} {place = place} s start at levels.Top source out r = let e = r.back_reads in
      as_statement e.0 (both middle source (both place out (spelled_to (λ begin end. Both (grammar.out_options (unwrap_or (r.front).mode modes.Body) (r.front).limit) (says ";") begin end) e.1 (out_sound r.front place r.middle r.front_reads))))
  print_split s start at levels.Inner source out r = absurd r

  -- by the first word
  named_split : (level : Level) (place w : List ℕ) {after : List ℕ} (s : Statement) (case : StatementWord) → statement_word w ≡ case → IsWordOf (λ (v : List ℕ). v ≡ w) text after → (statement_named level place case).reads after s rest → grammar.statement s text rest
  unfolding refuse print by_case
  named_split level place w s (words.Kind pick) is spelled r = selection_split _ s pick (statement_is w spelled (words.Kind pick) is) r
  named_split level place w s words.Print is spelled r = print_split s (codes "_") place level (inr (refl, refl)) (statement_is w spelled words.Print is) r
  named_split level place w s words.Unsupported is spelled r = absurd r
  named_split level place w s words.Unknown is spelled r = absurd r

  set_named_split : (level : Level) (start place w : List ℕ) {middle after : List ℕ} (s : Statement) (case : StatementWord) → statement_word w ≡ case → named_set start text middle → IsWordOf (λ (v : List ℕ). v ≡ w) middle after → (set_statement_named level start place case).reads after s rest → grammar.statement s text rest
  unfolding refuse print by_case
  set_named_split level start place w s (words.Kind pick) is named spelled r = absurd r
  set_named_split level start place w s words.Print is named spelled r = print_split s start place level (inl named) (statement_is w spelled words.Print is) r
  set_named_split level start place w s words.Unsupported is named spelled r = absurd r
  set_named_split level start place w s words.Unknown is named spelled r = absurd r

  -- by what follows the name of a set
  set_kind_split : (start : List ℕ) {middle after : List ℕ} (next : Next) (s : Statement) (how : Option Recursion) → recursion_of next.kind ≡ how → named_set start text middle → At middle next after → (recursion_or_item start next.place how).reads after s rest → grammar.statement s text rest
  unfolding from
  set_kind_split start next s (Some how) is named at r = recursion_split _ s start how (inl named) (recursion_said next how is at) r
  set_kind_split start next s None is named at r = item_split s start named (alike_back (from_token at)) r

  set_split : (level : Level) (start : List ℕ) {middle : List ℕ} (s : Statement) → named_set start text middle → (set_statement level start).reads middle s rest → grammar.statement s text rest
  unfolding set_statement ◌>>=◌ choose by_case next_token set_word_statement
  set_split level start s named r = elim r.back_reads [
    | inl it ↦ (let word = it.1 in
        set_named_split level start (word.front).place (word.front).word s (statement_word (word.front).word) refl named
        (record { next = r.front; place = r.middle; word = (word.front).word; at = r.front_reads; is = it.0; run = word_split r.front word.front word.front_reads; means = refl }) word.back_reads)
    | inr it ↦ set_kind_split start r.front s (recursion_of (r.front).kind) refl named r.front_reads it.1
  ]

  -- by the first token
  kind_split : {after : List ℕ} (next : Next) (s : Statement) (how : Option Recursion) → recursion_of next.kind ≡ how → At text next after → (recursion_at next how).reads after s rest → grammar.statement s text rest
  unfolding unexpected refuse
  kind_split next s (Some how) is at r = recursion_split _ s (codes "_") how (inr (refl, refl)) (recursion_said next how is at) r
  kind_split next s None is at r = absurd r

  plain_split : (level : Level) (next : Next) {middle : List ℕ} (s : Statement) → At text next middle → (plain_statement level next).reads middle s rest → grammar.statement s text rest
  unfolding plain_statement ◌>>=◌ choose by_case name_after word_statement
  plain_split level next {middle = middle} s at r = elim r [
    | inl it ↦ (let named = it.1 in set_split level named.front s (set_said (record { next = next; place = middle; at = at; is = it.0; name_is = named.front_reads })) named.back_reads)
    | inr it ↦ elim it.1 [
      | inl it ↦ (let word = it.1 in
          named_split level (word.front).place (word.front).word s (statement_word (word.front).word) refl
          (record { next = next; place = middle; word = (word.front).word; at = at; is = it.0; run = word_split next word.front word.front_reads; means = refl }) word.back_reads)
      | inr it ↦ kind_split next s (recursion_of next.kind) refl at it.1
    ]
  ]

row_spelled : (list : List Statement) (text rest : List ℕ) → each grammar.statement list text rest → grammar.row (row_of list) text rest
row_spelled [] text rest these = these
row_spelled (s ∷ list) text rest these = both these.middle these.front (row_spelled list these.middle rest these.back)

-- unions and differences of statements of a rule that reads them as they are spelled
module _ (inner : Rule Statement) (shifts : Shifts inner) (sound : (text rest : List ℕ) (s : Statement) → inner.reads text s rest → grammar.statement s text rest) where
  one_part : (s : Statement) (text rest : List ℕ) → (part inner).reads text (Some s) rest → grammar.statement s text rest
  unfolding part ◌>>=◌ choose give from next_token
  one_part s text rest r = elim r.back_reads [
    | inl it ↦ (let bad : Some s ≡ None = it.1.0 in absurd (cc))
    | inr it ↦ (let found = it.1 in let is : s ≡ found.front = (let e = found.back_reads.0 in cc) in
        as_statement text rest is (spelled_to (grammar.statement found.front) found.back_reads.1
        (sound text found.middle found.front (shifts.shift (r.front).place text found.front found.middle (alike_back (from_token r.front_reads)) found.front_reads))))
  ]

  no_part : (text rest : List ℕ) → (part inner).reads text None rest → says ")" text rest
  unfolding part ◌>>=◌ choose give next_token
  no_part text rest r = elim r.back_reads [
    | inl it ↦ said_at (at_rest it.1.1 r.front_reads) it.0
    | inr it ↦ (let found = it.1 in let bad : None ≡ Some found.front = found.back_reads.0 in absurd (cc))
  ]

  module _ (text rest : List ℕ) {opened : List ℕ} (kind : says "(" text opened) (middle : List ℕ) (first : Statement) (is_first : grammar.statement first opened middle) where
    union_split : (s : Statement) → (union inner first).reads middle s rest → grammar.statement s text rest
    unfolding union ◌>>=◌ give
    union_split s r =
        let set = r.back_reads in
        let is = set.back_reads in
        let g = gather_sound (part inner) one_part no_part (first ∷ []) r.front middle r.middle r.front_reads in
        as_statement text rest (is.0 ∙ ap (λ (l : List Statement). Union (row_of l) set.front) g.is)
        (both r.middle (both opened kind (both g.middle (both middle is_first (row_spelled g.more middle g.middle g.front)) g.back)) (spelled_to (spelling.into set.front) is.1 (into_sound (alike r.middle) (record { reads = set.front_reads }))))

    difference_split : {place : List ℕ} (s : Statement) → says "-" middle place → (difference inner first).reads place s rest → grammar.statement s text rest
    unfolding difference ◌>>=◌ give
    difference_split {place = place} s minus r =
        let close = r.back_reads in
        let set = close.back_reads in
        let is = set.back_reads in
        as_statement text rest is.0
        (both close.middle (both opened kind (both r.middle (both middle is_first (both place minus (sound place r.middle r.front r.front_reads))) (pass_sound kinds.CloseParenthesis (alike r.middle) (record { reads = close.front_reads }))))
        (spelled_to (spelling.into set.front) is.1 (into_sound (alike close.middle) (record { reads = set.front_reads }))))

  block_split : (text rest : List ℕ) {opened : List ℕ} → says "(" text opened → (s : Statement) → (block inner).reads opened s rest → grammar.statement s text rest
  unfolding block ◌>>=◌ choose from next_token union
  block_split text rest {opened = opened} kind s r =
      let first = sound opened r.middle r.front r.front_reads in
      let next = r.back_reads in
      elim next.back_reads [
        | inl it ↦ difference_split text rest kind r.middle r.front first s (minus_said (record { next = next.front; place = next.middle; at = next.front_reads; is = inl it.0; rest_is = (next.front_reads).rest_is ∙ ap (λ (k : TokenKind). drop (punctuation_len k) (next.front).place) it.0 })) it.1
        | inr it ↦ elim it.1 [
          | inl it ↦ difference_split text rest kind r.middle r.front first s (minus_said (record { next = next.front; place = next.middle; at = next.front_reads; is = inr it.0; rest_is = refl })) it.1
          | inr it ↦ union_split text rest kind r.middle r.front first s (record { front = (it.1).front; middle = (it.1).middle; front_reads = (shifts_gather (shifts_part inner) (r.front ∷ [])).shift (next.front).place r.middle _ _ (alike_back (from_token next.front_reads)) (it.1).front_reads; back_reads = (it.1).back_reads })
        ]
      ]

pub statement_sound : (level : Level) (depth : ℕ) (text rest : List ℕ) (s : Statement) → (statement level depth).reads text s rest → grammar.statement s text rest
unfolding statement ◌>>=◌ choose next_token refuse
statement_sound level zero text rest s r = elim r.back_reads [
  | inl it ↦ absurd it.1
  | inr it ↦ plain_split text rest level r.front s r.front_reads it.1
]
statement_sound level (suc depth) text rest s r = elim r.back_reads [
  | inl it ↦ block_split (statement levels.Inner depth) (shifts_statement levels.Inner depth) (statement_sound levels.Inner depth) text rest (said_at r.front_reads it.0) s it.1
  | inr it ↦ plain_split text rest level r.front s r.front_reads it.1
]

-- at the top level
one_statement : (s : Statement) (text rest : List ℕ) → top_statement.reads text (Some s) rest → grammar.statement s text rest
unfolding top_statement ◌>>=◌ choose give from next_token
one_statement s text rest r = elim r.back_reads [
  | inl it ↦ (let bad : Some s ≡ None = it.1.0 in absurd (cc))
  | inr it ↦ (let found = it.1 in let is : s ≡ found.front = (let e = found.back_reads.0 in cc) in
      as_statement text rest is (spelled_to (grammar.statement found.front) found.back_reads.1
      (statement_sound levels.Top 32 text found.middle found.front ((shifts_statement levels.Top 32).shift (r.front).place text found.front found.middle (alike_back (from_token r.front_reads)) found.front_reads))))
]

no_statement : (text rest : List ℕ) → top_statement.reads text None rest → the_end text rest
unfolding top_statement ◌>>=◌ choose give from next_token
no_statement text rest r = elim r.back_reads [
  | inl it ↦ end_said (record { next = r.front; place = r.middle; at = r.front_reads; is = it.0; nothing_left = it.1.1 })
  | inr it ↦ (let found = it.1 in let bad : None ≡ Some found.front = found.back_reads.0 in absurd (cc))
]

pub statements_sound : (text rest : List ℕ) (all : List Statement) → (gather top_statement []).reads text all rest → Both (grammar.row (row_of all)) the_end text rest
statements_sound text rest all reads =
    let g = gather_sound top_statement one_statement no_statement [] all text rest reads in
    subst (λ (l : List Statement). Both (grammar.row (row_of l)) the_end text rest) (sym g.is) (both g.middle (row_spelled g.more text g.middle g.front) g.back)
