-- What is spelled as a statement is read so.
use Rattle.std.proofs.Common.{◌≡◌, ℕ, zero, suc, Bool, true, false, ◌==◌, List, [], ◌∷◌, Option, None, Some, drop, refl, sym, ◌∙◌, ap, subst, inl, inr}
use Rattle.std.specs.Char.{is_ascii_digit}
use Rattle.std.specs.Prelude.{codes}
use Rattle.std.specs.List.{AllByRecursion}
use Rattle.std.specs.Option.{unwrap_or}
use Rattle.osm_model.specs.declared.out_mode.OutMode.{OutMode}
use Rattle.osm_model.specs.declared.out_mode.OutMode.TheVariants as modes
use Rattle.ql_syntax.specs.Filters.{Filter}
use Rattle.ql_syntax.specs.Grammar as grammar
use Rattle.ql_syntax.specs.LawfulQueries.{Allows, IsInner, AreInner}
use Rattle.ql_syntax.specs.TokenRules.{Next, At}
use Rattle.ql_syntax.specs.Rules.{Rule, by_case}
use Rattle.ql_syntax.specs.Selections.{selection, a_filter}
use Rattle.ql_syntax.specs.TokenKinds.{token_kind_at, punctuation_len}
use Rattle.ql_syntax.specs.Spellings as spelling
use Rattle.ql_syntax.specs.Spellings.{each, says, word}
use Rattle.ql_syntax.specs.Words.{begins_with}
use Rattle.ql_syntax.specs.StatementRules.{recursion_of, recursion, item, out_of, print, statement_named, word_statement, set_word_statement, set_statement, plain_statement, part, union, difference, block, statement}
use Rattle.ql_syntax.specs.StatementWords.{statement_word}
use Rattle.ql_syntax.specs.Statements.{Statement, Statements, Select, Recurse, Item, Union, Minus, Print, End, Then, row_of}
use Rattle.ql_syntax.specs.declared.level.Level.{Level}
use Rattle.ql_syntax.specs.declared.level.Level.TheVariants as levels
use Rattle.ql_syntax.specs.declared.pick.Pick.{Pick}
use Rattle.ql_syntax.specs.declared.recursion.Recursion.{Recursion}
use Rattle.ql_syntax.specs.declared.recursion.Recursion.TheVariants as recursions
use Rattle.ql_syntax.specs.declared.token_kind.TokenKind.{TokenKind}
use Rattle.ql_syntax.specs.declared.token_kind.TokenKind.TheVariants as kinds
use Rattle.ql_syntax.specs.declared.statement_word.StatementWord.{StatementWord}
use Rattle.ql_syntax.specs.declared.statement_word.StatementWord.TheVariants as words
use Rattle.ql_syntax.proofs.FilterSpellings.{reads_filter, reads_no_filter, reads_word_at}
use Rattle.ql_syntax.proofs.GatherSpellings.{reads_gather}
use Rattle.ql_syntax.proofs.GivesRules.{IsAt}
use Rattle.ql_syntax.proofs.OutSpellings.{reads_out, out_reading}
use Rattle.ql_syntax.proofs.SpellingLemmas.{Alike, alike, from_token, both, other_kind, Reading, reads_then, reads_give, reads_as, reads_yes, reads_no, reads_from, reads_case, reads_token, reads_punctuation, reads_name_after, reads_into, into_first, Shifts, shifts_then}
use Rattle.ql_syntax.proofs.StatementSpellings.{shifts_statement, shifts_gather, shifts_part}
use Rattle.ql_syntax.proofs.TokenSpellings.{IsPunctuation, token, IsWordOf, IsSet, set_token, minus_token, Solid, chosen, same_place, not_next, digit_solid, digit_kind}
use Rattle.ql_syntax.proofs.WordSpellings.{kind_token, print_token}

-- the sign of a recursion comes next
record IsRecursion (how : Recursion) (text rest : List ℕ) : Type 0 where
  kind : TokenKind
  means : recursion_of kind ≡ Some how
  spelled : IsPunctuation kind text rest

-- what stands before the end of a statement begins with `->` or `;`
into_other : (b : ℕ) → Solid b → (45 == b) ≡ false → (59 == b) ≡ false → {set text rest : List ℕ} → spelling.into set text rest → begins_with (λ (c : ℕ). c == b) text ≡ false
into_other b solid no_minus no_end {text = text} (inl named) = let arrow = named.front in
    not_next b solid text arrow.place arrow.passed (ap (λ (t : List ℕ). begins_with (λ (c : ℕ). c == b) t) (arrow.spelled).parts ∙ no_minus)
into_other b solid no_minus no_end {text = text} (inr default) = let end = default.back in
    ap (λ (t : List ℕ). begins_with (λ (c : ℕ). c == b) t) (sym (default.front).1) ∙ not_next b solid default.middle end.place end.passed (ap (λ (t : List ℕ). begins_with (λ (c : ℕ). c == b) t) (end.spelled).parts ∙ no_end)

recursion_token : (how : Recursion) {set text middle rest : List ℕ} → grammar.recursion how text middle → spelling.into set middle rest → IsRecursion how text middle
recursion_token recursions.Down s ends = record { kind = kinds.Down; means = refl; spelled = token kinds.Down s (chosen _ (into_other 62 (record { no_blank = refl; no_slash = refl }) refl refl ends)) refl }
recursion_token recursions.DownAll s ends = record { kind = kinds.DownAll; means = refl; spelled = token kinds.DownAll s refl refl }
recursion_token recursions.Up s ends = record { kind = kinds.Up; means = refl; spelled = token kinds.Up s (chosen _ (into_other 60 (record { no_blank = refl; no_slash = refl }) refl refl ends)) refl }
recursion_token recursions.UpAll s ends = record { kind = kinds.UpAll; means = refl; spelled = token kinds.UpAll s refl refl }

-- what a statement may begin with
pub data Begins (kind : TokenKind) : Type 0 where
  AWord : kind ≡ kinds.Word → Begins kind
  ASet : kind ≡ kinds.Dot → Begins kind
  ABlock : kind ≡ kinds.OpenParenthesis → Begins kind
  ARecursion : (how : Recursion) → recursion_of kind ≡ Some how → Begins kind

-- the token that a statement begins with
pub record First (text : List ℕ) : Type 0 where
  pub next : Next
  pub after : List ℕ
  pub at : At text next after
  pub begins : Begins next.kind

pub not_first : {kind : TokenKind} (that : TokenKind) → Begins kind → (kinds.Word ≡ that → ⊥) → (kinds.Dot ≡ that → ⊥) → (kinds.OpenParenthesis ≡ that → ⊥) → recursion_of that ≡ None → kind ≡ that → ⊥
not_first that (AWord is) w d o r e = w (sym is ∙ e)
not_first that (ASet is) w d o r e = d (sym is ∙ e)
not_first that (ABlock is) w d o r e = o (sym is ∙ e)
not_first that (ARecursion how is) w d o r e = let bad : Some how ≡ None = sym is ∙ ap recursion_of e ∙ r in cc

first_of : {kind : TokenKind} {text after : List ℕ} → IsPunctuation kind text after → (Begins kind) → First text
first_of s begins = record { next = s.next; after = _; at = s.at; begins = subst Begins (sym s.is) begins }

first_word : {Means : List ℕ → Type 0} {text after : List ℕ} → IsWordOf Means text after → First text
first_word w = record { next = w.next; after = w.place; at = w.at; begins = AWord w.is }

first_set : {name text after : List ℕ} → IsSet name text after → First text
first_set s = record { next = s.next; after = s.place; at = s.at; begins = ASet s.is }

first_at : {start text : List ℕ} → start ≡ text → First start → First text
first_at e f = subst First e f

pub first_token : (s : Statement) (text rest : List ℕ) → grammar.statement s text rest → First text
first_token (Select pick filters set) text rest g = first_word (kind_token pick g.front)
first_token (Recurse start how set) text rest g = elim g.front [
  | inl named ↦ first_set (set_token named)
  | inr default ↦ (let r = recursion_token how (g.back).front (g.back).back in first_at default.1 (first_of r.spelled (ARecursion how r.means)))
]
first_token (Item start set) text rest g = first_set (set_token g.front)
first_token (Union parts set) text rest g = first_of (token kinds.OpenParenthesis (g.front).front refl refl) (ABlock refl)
first_token (Minus left right set) text rest g = first_of (token kinds.OpenParenthesis (g.front).front refl refl) (ABlock refl)
first_token (Print start mode limit) text rest g = elim g.front [
  | inl named ↦ first_set (set_token named)
  | inr default ↦ first_at default.1 (first_word (print_token (g.back).front))
]

-- a statement begins with no digit
no_digit : (text : List ℕ) → First text → begins_with is_ascii_digit text ≡ false
no_digit [] f = refl
no_digit (b ∷ s) f = tested (is_ascii_digit b) refl
  where
    tested : (test : Bool) → is_ascii_digit b ≡ test → is_ascii_digit b ≡ false
    tested false is = is
    tested true is =
        let place : (f.next).place ≡ b ∷ s = same_place b s (f.next).place (digit_solid b is) (f.at).after_gap in
        absurd (not_first kinds.Number f.begins (λ e. cc) (λ e. cc) (λ e. cc) refl ((f.at).kind_is ∙ ap token_kind_at place ∙ digit_kind b s is))

-- statements that don't begin with `(`
reads_plain : (level : Level) (depth : ℕ) {text after rest : List ℕ} {next : Next} {s : Statement} → At text next after → (next.kind ≡ kinds.OpenParenthesis → ⊥) → Reading (plain_statement level next) after s rest → Reading (statement level depth) text s rest
unfolding statement
reads_plain level zero {text = text} at other more = reads_then _ (reads_token (alike text) at) (reads_no _ other more)
reads_plain level (suc depth) {text = text} at other more = reads_then _ (reads_token (alike text) at) (reads_no _ other more)

reads_block : (level : Level) (depth : ℕ) {text opened rest : List ℕ} {s : Statement} → IsPunctuation kinds.OpenParenthesis text opened → Reading (block (statement levels.Inner depth)) opened s rest → Reading (statement level (suc depth)) text s rest
unfolding statement
reads_block level depth {text = text} kind more = reads_then _ (reads_token (alike text) kind.at) (reads_yes _ kind.is more)

module _ (level : Level) (depth : ℕ) where
  -- by the first word
  reads_named : (case : StatementWord) {text after rest : List ℕ} {s : Statement} → (w : IsWordOf (λ (word : List ℕ). statement_word word ≡ case) text after) → Reading (statement_named level (w.next).place case) after s rest → Reading (statement level depth) text s rest
  unfolding plain_statement word_statement
  reads_named case w more = reads_plain level depth w.at (other_kind w.is (λ e. cc)) (reads_no _ (other_kind w.is (λ e. cc)) (reads_yes _ w.is (reads_then _ (reads_word_at w.next w.run) (reads_case _ w.means more))))

  -- by a recursion's sign
  reads_how : (how : Recursion) {text rest : List ℕ} {after : List ℕ} {s : Statement} → (r : IsRecursion how text after) → Reading (recursion (codes "_") how) after s rest → Reading (statement level depth) text s rest
  unfolding plain_statement
  reads_how how r more =
      let kind = r.spelled in
      let means : recursion_of (kind.next).kind ≡ Some how = ap recursion_of kind.is ∙ r.means in
      reads_plain level depth kind.at (no_such (kind.next).kind kinds.OpenParenthesis means refl)
      (reads_no _ (no_such (kind.next).kind kinds.Dot means refl) (reads_no _ (no_such (kind.next).kind kinds.Word means refl) (reads_case _ means more)))
    where
      no_such : (kind that : TokenKind) → recursion_of kind ≡ Some how → recursion_of that ≡ None → kind ≡ that → ⊥
      no_such kind that means none e = let bad : Some how ≡ None = sym means ∙ ap recursion_of e ∙ none in cc

  -- by the name of a set
  reads_set : {text place rest : List ℕ} (start : List ℕ) {s : Statement} → IsSet start text place → Reading (set_statement level start) place s rest → Reading (statement level depth) text s rest
  unfolding plain_statement
  reads_set start named more = reads_plain level depth named.at (other_kind named.is (λ e. cc)) (reads_yes _ named.is (reads_then _ (reads_name_after _ named.name_is) more))

-- what stands after the first token of a statement
reads_selection : (pick : Pick) (filters : List Filter) (set : List ℕ) {place middle rest : List ℕ} → AllByRecursion (Allows pick) filters → each grammar.filter filters place middle → spelling.into set middle rest → Reading (selection pick) place (Select pick filters set) rest
unfolding selection
reads_selection pick filters set {middle = middle} such these ends = into_first ends
    (λ after s. reads_then _ (reads_gather (a_filter pick) (reads_filter pick) [] filters such these (reads_no_filter pick s (λ e. cc) (λ e. cc) (λ e. cc))) (reads_then _ (reads_into set (from_token s.at) ends) reads_give))
    (λ after s. reads_then _ (reads_gather (a_filter pick) (reads_filter pick) [] filters such these (reads_no_filter pick s (λ e. cc) (λ e. cc) (λ e. cc))) (reads_then _ (reads_into set (from_token s.at) ends) reads_give))

reads_recursion : (start : List ℕ) (how : Recursion) (set : List ℕ) {place rest : List ℕ} → spelling.into set place rest → Reading (recursion start how) place (Recurse start how set) rest
unfolding recursion
reads_recursion start how set {place = place} ends = reads_then _ (reads_into set (alike place) ends) reads_give

reads_item : (start set : List ℕ) {place text rest : List ℕ} → Alike place text → spelling.into set text rest → Reading (item start) place (Item start set) rest
unfolding item
reads_item start set like ends = reads_then _ (reads_into set like ends) reads_give

reads_print : (start at : List ℕ) (mode : OutMode) (limit : Option ℕ) {place middle rest : List ℕ} → grammar.out_options mode limit place middle → says ";" middle rest → Reading (print levels.Top start at) place (Print start mode limit) rest
unfolding print by_case out_of
reads_print start at mode limit spelled end = let o = reads_out mode limit spelled end in
    reads_then _ (out_reading o) (reads_as (ap (λ (m : OutMode). Print start m limit) (sym o.mode_is) ∙ ap (λ (n : Option ℕ). Print start (unwrap_or (o.found).mode modes.Body) n) (sym o.most_is)))

-- after the name of a set
module _ (level : Level) (start : List ℕ) where
  reads_set_how : (how : Recursion) {text after rest : List ℕ} {s : Statement} → (r : IsRecursion how text after) → Reading (recursion start how) after s rest → Reading (set_statement level start) text s rest
  unfolding set_statement
  reads_set_how how {text = text} r more =
      let kind = r.spelled in
      let means : recursion_of (kind.next).kind ≡ Some how = ap recursion_of kind.is ∙ r.means in
      reads_then _ (reads_token (alike text) kind.at) (reads_no _ (λ e. (let bad : Some how ≡ None = sym means ∙ ap recursion_of e in cc)) (reads_case _ means more))

  reads_set_alone : (kind : TokenKind) {text after rest : List ℕ} {s : Statement} → (e : IsPunctuation kind text after) → (kind ≡ kinds.Word → ⊥) → recursion_of kind ≡ None → Reading (item start) (e.next).place s rest → Reading (set_statement level start) text s rest
  unfolding set_statement
  reads_set_alone kind {text = text} e other none more = reads_then _ (reads_token (alike text) e.at) (reads_no _ (other_kind e.is other) (reads_case _ (ap recursion_of e.is ∙ none) (reads_from _ more)))

  reads_set_word : {text after rest : List ℕ} {s : Statement} → (w : IsWordOf (λ (word : List ℕ). statement_word word ≡ words.Print) text after) → Reading (print level start (w.next).place) after s rest → Reading (set_statement level start) text s rest
  unfolding set_statement set_word_statement
  reads_set_word {text = text} w more = reads_then _ (reads_token (alike text) w.at) (reads_yes _ w.is (reads_then _ (reads_word_at w.next w.run) (reads_case _ w.means more)))

-- statements without others in them
module _ (level : Level) (depth : ℕ) where
  reads_select : (pick : Pick) (filters : List Filter) (set text rest : List ℕ) → AllByRecursion (Allows pick) filters → grammar.statement (Select pick filters set) text rest → Reading (statement level depth) text (Select pick filters set) rest
  reads_select pick filters set text rest such g = reads_named level depth (words.Kind pick) (kind_token pick g.front) (reads_selection pick filters set such (g.back).front (g.back).back)

  reads_recurse : (start : List ℕ) (how : Recursion) (set text rest : List ℕ) → grammar.statement (Recurse start how set) text rest → Reading (statement level depth) text (Recurse start how set) rest
  reads_recurse start how set text rest g = from_source g.front
    where
      from_source : spelling.source start text g.middle → Reading (statement level depth) text (Recurse start how set) rest
      from_source (inl named) = reads_set level depth start (set_token named) (reads_set_how level start how (recursion_token how (g.back).front (g.back).back) (reads_recursion start how set (g.back).back))
      from_source (inr default) =
          subst (λ (name : List ℕ). Reading (statement level depth) text (Recurse name how set) rest) (sym default.0)
          (reads_how level depth how (subst (λ (t : List ℕ). IsRecursion how t (g.back).middle) default.1 (recursion_token how (g.back).front (g.back).back)) (reads_recursion (codes "_") how set (g.back).back))

  reads_item_alone : (start set text rest : List ℕ) → grammar.statement (Item start set) text rest → Reading (statement level depth) text (Item start set) rest
  reads_item_alone start set text rest g = reads_set level depth start (set_token g.front) (into_first g.back
      (λ after s. reads_set_alone level start kinds.Arrow s (λ e. cc) refl (reads_item start set (from_token s.at) g.back))
      (λ after s. reads_set_alone level start kinds.Semicolon s (λ e. cc) refl (reads_item start set (from_token s.at) g.back)))

reads_out_statement : (depth : ℕ) (start : List ℕ) (mode : OutMode) (limit : Option ℕ) (text rest : List ℕ) → grammar.statement (Print start mode limit) text rest → Reading (statement levels.Top depth) text (Print start mode limit) rest
reads_out_statement depth start mode limit text rest g = from_source g.front
  where
    from_source : spelling.source start text g.middle → Reading (statement levels.Top depth) text (Print start mode limit) rest
    from_source (inl named) = reads_set levels.Top depth start (set_token named) (reads_set_word levels.Top start (print_token (g.back).front) (reads_print start _ mode limit ((g.back).back).front ((g.back).back).back))
    from_source (inr default) =
        let out = print_token (subst (λ (t : List ℕ). word "out" t (g.back).middle) default.1 (g.back).front) in
        subst (λ (name : List ℕ). Reading (statement levels.Top depth) text (Print name mode limit) rest) (sym default.0)
        (reads_named levels.Top depth words.Print out (reads_print (codes "_") _ mode limit ((g.back).back).front ((g.back).back).back))

-- rows as lists
abbrev pub list_of : Statements → List Statement
list_of End = []
list_of (Then s more) = s ∷ list_of more

pub row_again : (row : Statements) → row_of (list_of row) ≡ row
row_again End = refl
row_again (Then s more) = ap (λ (r : Statements). Then s r) (row_again more)

pub each_spelled : (row : Statements) (text rest : List ℕ) → grammar.row row text rest → each grammar.statement (list_of row) text rest
each_spelled End text rest g = g
each_spelled (Then s more) text rest g = both g.middle g.front (each_spelled more g.middle rest g.back)

each_inner : (depth : ℕ) (row : Statements) → AreInner depth row → AllByRecursion (IsInner depth) (list_of row)
each_inner depth End all = tt
each_inner depth (Then s more) all = (all.0, each_inner depth more all.1)

-- what stands after the first statement of a union is no `-`
record After_first (text : List ℕ) : Type 0 where
  next : Next
  after : List ℕ
  at : At text next after
  no_minus : next.kind ≡ kinds.Minus → ⊥
  no_arrow : next.kind ≡ kinds.Arrow → ⊥

after_first : (row : Statements) (text middle rest : List ℕ) → grammar.row row text middle → says ")" middle rest → After_first text
after_first End text middle rest g close = let s = token kinds.CloseParenthesis (subst (λ (t : List ℕ). says ")" t rest) g close) refl refl in
    record { next = s.next; after = rest; at = s.at; no_minus = other_kind s.is (λ e. cc); no_arrow = other_kind s.is (λ e. cc) }
after_first (Then s more) text middle rest g close = let f = first_token s text g.middle g.front in
    record { next = f.next; after = f.after; at = f.at; no_minus = not_first kinds.Minus f.begins (λ e. cc) (λ e. cc) (λ e. cc) refl; no_arrow = not_first kinds.Arrow f.begins (λ e. cc) (λ e. cc) (λ e. cc) refl }

pub shift_reading : {A : Type 0} {rule : Rule A} {start text rest : List ℕ} {value : A} → Shifts rule → Alike text start → Reading rule start value rest → Reading rule text value rest
shift_reading s like reading = record { reads = s.shift _ _ _ _ like reading.reads }

shifts_union : (inner : Rule Statement) (first : Statement) → Shifts (union inner first)
unfolding union
shifts_union inner first = shifts_then _ (shifts_gather (shifts_part inner) (first ∷ []))

-- unions and differences, where inner statements are read as they are spelled
module _ (depth : ℕ) (reads_inner : (s : Statement) → IsInner depth s → (text rest : List ℕ) → grammar.statement s text rest → Reading (statement levels.Inner depth) text s rest) where
  reads_part : (s : Statement) → IsInner depth s → (text rest : List ℕ) → grammar.statement s text rest → Reading (part (statement levels.Inner depth)) text (Some s) rest
  unfolding part
  reads_part s is text rest g = let f = first_token s text rest g in
      reads_then _ (reads_token (alike text) f.at) (reads_no _ (not_first kinds.CloseParenthesis f.begins (λ e. cc) (λ e. cc) (λ e. cc) refl)
      (reads_then _ (reads_from _ (shift_reading (shifts_statement levels.Inner depth) (from_token f.at) (reads_inner s is text rest g))) reads_give))

  reads_no_part : {text rest : List ℕ} → IsPunctuation kinds.CloseParenthesis text rest → Reading (part (statement levels.Inner depth)) text None rest
  unfolding part
  reads_no_part {text = text} s = reads_then _ (reads_token (alike text) s.at) (reads_yes _ s.is reads_give)

  reads_union : (first : Statement) (row : Statements) (set : List ℕ) {text middle closed rest : List ℕ} → AreInner depth row → grammar.row row text middle → says ")" middle closed → spelling.into set closed rest → Reading (union (statement levels.Inner depth) first) text (Union (Then first row) set) rest
  unfolding union
  reads_union first row set {text = text} {middle = middle} {closed = closed} all g close ends =
      reads_then _ (reads_gather (part (statement levels.Inner depth)) reads_part (first ∷ []) (list_of row) (each_inner depth row all) (each_spelled row text middle g) (reads_no_part (token kinds.CloseParenthesis close refl refl)))
      (reads_then _ (reads_into set (alike closed) ends) (reads_as (ap (λ (r : Statements). Union (Then first r) set) (sym (row_again row)))))

  reads_difference : (left right : Statement) (set : List ℕ) {text middle closed rest : List ℕ} → IsInner depth right → grammar.statement right text middle → says ")" middle closed → spelling.into set closed rest → Reading (difference (statement levels.Inner depth) left) text (Minus left right set) rest
  unfolding difference
  reads_difference left right set {text = text} {middle = middle} {closed = closed} is g close ends =
      reads_then _ (reads_inner right is text middle g) (reads_then _ (reads_punctuation (alike middle) (token kinds.CloseParenthesis close refl refl)) (reads_then _ (reads_into set (alike closed) ends) reads_give))

  reads_union_block : (row : Statements) (set : List ℕ) {text middle closed rest : List ℕ} → AreInner depth row → ¬ (row ≡ End) → grammar.row row text middle → says ")" middle closed → spelling.into set closed rest → Reading (block (statement levels.Inner depth)) text (Union row set) rest
  unfolding block
  reads_union_block End set all some g close ends = absurd (some refl)
  reads_union_block (Then first row) set {text = text} {middle = middle} {closed = closed} all some g close ends =
      let next = after_first row g.middle middle closed g.back close in
      reads_then _ (reads_inner first all.0 text g.middle g.front) (reads_then _ (reads_token (alike g.middle) next.at) (reads_no _ next.no_minus (reads_no _ next.no_arrow
      (reads_from _ (shift_reading (shifts_union _ first) (from_token next.at) (reads_union first row set all.1 g.back close ends))))))

  reads_minus_block : (left right : Statement) (set : List ℕ) {text place after middle closed rest : List ℕ} → IsInner depth left → IsInner depth right → grammar.statement left text place → says "-" place after → grammar.statement right after middle → says ")" middle closed → spelling.into set closed rest → Reading (block (statement levels.Inner depth)) text (Minus left right set) rest
  unfolding block
  reads_minus_block left right set {text = text} {place = place} {after = after} {middle = middle} {rest = rest} is also g sign more close ends = let minus = minus_token sign (no_digit after (first_token right after middle more)) in elim minus.is [
    | inl kind ↦ reads_then _ (reads_inner left is text place g) (reads_then _ (reads_token (alike place) minus.at) (reads_yes _ kind
        (subst (λ (t : List ℕ). Reading (difference (statement levels.Inner depth) left) t (Minus left right set) rest) (minus.rest_is ∙ sym (ap (λ (k : TokenKind). drop (punctuation_len k) (minus.next).place) kind) ∙ sym (minus.at).rest_is)
        (reads_difference left right set also more close ends))))
    | inr kind ↦ reads_then _ (reads_inner left is text place g) (reads_then _ (reads_token (alike place) minus.at) (reads_no _ (other_kind kind (λ e. cc)) (reads_yes _ kind
        (reads_from _ (subst (λ (t : List ℕ). Reading (difference (statement levels.Inner depth) left) t (Minus left right set) rest) minus.rest_is (reads_difference left right set also more close ends))))))
  ]

-- what a statement keeps at a level
filters_kept : (level : Level) (depth : ℕ) (pick : Pick) (filters : List Filter) (set : List ℕ) → IsAt level depth (Select pick filters set) → AllByRecursion (Allows pick) filters
filters_kept levels.Top depth pick filters set is = is
filters_kept levels.Inner depth pick filters set is = is

parts_kept : (level : Level) (depth : ℕ) (row : Statements) (set : List ℕ) → IsAt level depth (Union row set) → IsInner depth (Union row set)
parts_kept levels.Top depth row set is = is
parts_kept levels.Inner depth row set is = is

sides_kept : (level : Level) (depth : ℕ) (left right : Statement) (set : List ℕ) → IsAt level depth (Minus left right set) → IsInner depth (Minus left right set)
sides_kept levels.Top depth left right set is = is
sides_kept levels.Inner depth left right set is = is

pub reads_statement : (level : Level) (depth : ℕ) (s : Statement) → IsAt level depth s → (text rest : List ℕ) → grammar.statement s text rest → Reading (statement level depth) text s rest
reads_statement level depth (Select pick filters set) is text rest g = reads_select level depth pick filters set text rest (filters_kept level depth pick filters set is) g
reads_statement level depth (Recurse start how set) is text rest g = reads_recurse level depth start how set text rest g
reads_statement level depth (Item start set) is text rest g = reads_item_alone level depth start set text rest g
reads_statement level zero (Union row set) is text rest g = let kept = parts_kept level zero row set is in let bad : zero ≡ suc kept.0 = kept.1 in absurd (cc)
reads_statement level (suc depth) (Union row set) is text rest g =
    let kept = parts_kept level (suc depth) row set is in
    let same : kept.0 ≡ depth = (let e : suc depth ≡ suc kept.0 = kept.1 in cc) in
    reads_block level depth (token kinds.OpenParenthesis (g.front).front refl refl) (reads_union_block depth (reads_statement levels.Inner depth) row set (subst (λ (d : ℕ). AreInner d row) same kept.2) kept.3 ((g.front).back).front ((g.front).back).back g.back)
reads_statement level zero (Minus left right set) is text rest g = let kept = sides_kept level zero left right set is in let bad : zero ≡ suc kept.0 = kept.1 in absurd (cc)
reads_statement level (suc depth) (Minus left right set) is text rest g =
    let kept = sides_kept level (suc depth) left right set is in
    let same : kept.0 ≡ depth = (let e : suc depth ≡ suc kept.0 = kept.1 in cc) in
    let body = ((g.front).back).front in
    reads_block level depth (token kinds.OpenParenthesis (g.front).front refl refl) (reads_minus_block depth (reads_statement levels.Inner depth) left right set (subst (λ (d : ℕ). IsInner d left) same kept.2) (subst (λ (d : ℕ). IsInner d right) same kept.3) body.front (body.back).front (body.back).back ((g.front).back).back g.back)
reads_statement levels.Top depth (Print start mode limit) is text rest g = reads_out_statement depth start mode limit text rest g
reads_statement levels.Inner depth (Print start mode limit) is text rest g = absurd is
