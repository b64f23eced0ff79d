-- Filters are spelled as rules read them.
use Rattle.std.proofs.Common.{◌≡◌, ℕ, ℤ, List, [], ◌∷◌, None, Some, true, refl, sym, ◌∙◌, ap, subst, inl, inr}
use Rattle.std.specs.Bool.{⊤}
use Rattle.std.specs.List.{AllByRecursion}
use Rattle.osm_model.specs.Boxes.{ExactBox}
use Rattle.osm_model.specs.Degrees.{Decimal}
use Rattle.ql_syntax.specs.Areas.{Corners, AreBox, box_of, area}
use Rattle.ql_syntax.specs.Filters.{Filter, InSet, HasKey, KeyIs, LacksKey, KeyIsNot, Ids, Within, Via}
use Rattle.ql_syntax.specs.Grammar as grammar
use Rattle.ql_syntax.specs.LawfulQueries.{Allows}
use Rattle.ql_syntax.specs.Numbers.{IsNumber}
use Rattle.ql_syntax.specs.Picks.{takes_boxes}
use Rattle.ql_syntax.specs.TokenRules.{Next, At, Word, Number, next_token, unexpected, run_here, word_at, number_here, number_at, a_number, begins_number, name_after, text_here}
use Rattle.ql_syntax.specs.Rules.{◌>>=◌, give, refuse, from, choose, by_case, gather}
use Rattle.ql_syntax.specs.Selections.{a_filter}
use Rattle.ql_syntax.specs.SelectorWords.{selector_word}
use Rattle.ql_syntax.specs.Selectors.{an_id, id_after, id_list, path_close, path_from, selector_named, word_selector, corner, box_after, number_selector, selector}
use Rattle.ql_syntax.specs.TokenKinds.{token_kind_at}
use Rattle.ql_syntax.specs.Spellings.{Both, each, says, word, tag_text, named_set}
use Rattle.ql_syntax.specs.Spellings as spelling
use Rattle.ql_syntax.specs.TagFilters as tags
use Rattle.ql_syntax.specs.TagFilters.{not_in_tag, tag_text_at, tag_close, tag_value, tag_rest, tag_filter}
use Rattle.ql_syntax.specs.WholeNumbers.{IsId, id_of}
use Rattle.ql_syntax.specs.Words.{IsRun}
use Rattle.ql_syntax.specs.declared.path.Path.{Path}
use Rattle.ql_syntax.specs.declared.pick.Pick.{Pick}
use Rattle.ql_syntax.specs.declared.selector_word.SelectorWord.{SelectorWord}
use Rattle.ql_syntax.specs.declared.selector_word.SelectorWord.TheVariants as words
use Rattle.ql_syntax.specs.declared.token_kind.TokenKind.{TokenKind}
use Rattle.ql_syntax.specs.declared.token_kind.TokenKind.TheVariants as kinds
use Rattle.ql_syntax.proofs.GatherSpellings.{Gathered, gather_sound, reads_gather}
use Rattle.ql_syntax.proofs.TokenSpellings.{IsPunctuation, said_at, token, IsWordOf, IsSet, set_said, set_token, IsNumberOf, number_said, number_token, IsTagText, tag_said, tag_token, not_token}
use Rattle.ql_syntax.proofs.WordSpellings.{selector_is, ids_token, path_token}
use Rattle.ql_syntax.proofs.KeyStarts.{no_quote, no_run, quote_or_run}
use Rattle.ql_syntax.proofs.SpellingLemmas.{Alike, alike, alike_by, alike_at, alike_back, alike_on, from_token, at_rest, both, spelled_to, other_kind, Reading, reads_then, reads_give, reads_as, reads_yes, reads_no, reads_from, reads_case, reads_token, pass_sound, reads_punctuation, reads_name_after}

-- numbers
pub number_at_split : {text middle rest : List ℕ} (next : Next) (found : Number) → At text next middle → begins_number next.kind ≡ true → (number_at next).reads middle found rest → IsNumberOf (λ (d : Decimal). d ≡ found.number) text rest
unfolding number_at ◌>>=◌ from give number_here
number_at_split {middle = middle} next found at begins r =
    record { next = next; place = middle; number = r.front; at = at; begins = begins; spelled = subst (λ (s : List ℕ). IsNumber next.place r.front s) (sym r.back_reads.1) r.front_reads; means = sym (ap (λ (n : Number). n.number) r.back_reads.0) }

pub number_split : {start text rest : List ℕ} (found : Number) → Alike text start → a_number.reads start found rest → IsNumberOf (λ (d : Decimal). d ≡ found.number) text rest
unfolding a_number ◌>>=◌ choose next_token unexpected refuse
number_split found like r = elim r.back_reads [
  | inl it ↦ number_at_split r.front found (alike_at like r.front_reads) it.0 it.1
  | inr other ↦ absurd other.1
]

-- words
pub word_split : {middle rest : List ℕ} (next : Next) (found : Word) → (word_at next).reads middle found rest → IsRun middle found.word rest
unfolding word_at ◌>>=◌ give run_here
word_split {middle = middle} {rest = rest} next found r =
    subst (λ (w : List ℕ). IsRun middle w rest) (sym (ap (λ (w : Word). w.word) r.back_reads.0)) (subst (λ (s : List ℕ). IsRun middle r.front s) (sym r.back_reads.1) r.front_reads)

pub means_word : {P Q : List ℕ → Type 0} {text rest : List ℕ} → ((w : List ℕ) → P w → Q w) → IsWordOf P text rest → IsWordOf Q text rest
means_word more w = record { next = w.next; place = w.place; word = w.word; at = w.at; is = w.is; run = w.run; means = more w.word w.means }

pub number_sound : {start text rest : List ℕ} {found : Number} → Alike text start → Reading a_number start found rest → IsNumberOf (λ (d : Decimal). d ≡ found.number) text rest
number_sound {found = found} like reading = number_split found like reading.reads

pub means : {P Q : Decimal → Type 0} {text rest : List ℕ} → ((d : Decimal) → P d → Q d) → IsNumberOf P text rest → IsNumberOf Q text rest
means more n = record { next = n.next; place = n.place; number = n.number; at = n.at; begins = n.begins; spelled = n.spelled; means = more n.number n.means }

pub reads_number_at : {text rest : List ℕ} {number : Decimal} (next : Next) → IsNumber next.place number rest → Reading (number_at next) text (record { number = number; place = next.place }) rest
unfolding number_at number_here
reads_number_at {text = text} next spelled = reads_then _ (reads_from text (record { reads = spelled })) reads_give

pub reads_number : {start text rest : List ℕ} {Means : Decimal → Type 0} → Alike start text → (n : IsNumberOf Means text rest) → Reading a_number start (record { number = n.number; place = (n.next).place }) rest
unfolding a_number
reads_number like n = reads_then _ (reads_token like n.at) (reads_yes _ n.begins (reads_number_at n.next n.spelled))

-- ids
id_split : {text rest : List ℕ} (value : ℤ) → an_id.reads text value rest → grammar.id value text rest
unfolding an_id ◌>>=◌ id_of
id_split {text = text} value r = spelled_to (grammar.id value) r.back_reads.1 (number_said (means (λ (d : Decimal) e. subst (λ (n : Decimal). IsId n value) (sym e) r.back_reads.0) (number_split r.front (alike text) r.front_reads)))

reads_value : (place : List ℕ) {text : List ℕ} {number : Decimal} {value : ℤ} → IsId number value → Reading (id_of number place) text value text
unfolding id_of
reads_value place is = record { reads = (is, refl) }

reads_id : {text rest : List ℕ} (value : ℤ) → grammar.id value text rest → Reading an_id text value rest
unfolding an_id
reads_id {text = text} value n = let found = number_token n in reads_then _ (reads_number (alike text) found) (reads_value _ found.means)

one_id : (value : ℤ) (text rest : List ℕ) → id_after.reads text (Some value) rest → grammar.other_id value text rest
unfolding id_after ◌>>=◌ choose give next_token unexpected refuse
one_id value text rest r = elim r.back_reads [
  | inl it ↦ (let found = it.1 in let is : value ≡ found.front = (let e = found.back_reads.0 in cc) in
      both r.middle (said_at r.front_reads it.0)
      (spelled_to (grammar.id value) found.back_reads.1 (subst (λ (v : ℤ). grammar.id v r.middle found.middle) (sym is) (id_split found.front found.front_reads))))
  | inr it ↦ elim it.1 [ inl end ↦ (let bad : Some value ≡ None = end.1.0 in absurd (cc)) | inr other ↦ absurd other.1 ]
]

no_id : (text rest : List ℕ) → id_after.reads text None rest → says ")" text rest
unfolding id_after ◌>>=◌ choose give next_token unexpected refuse
no_id text rest r = elim r.back_reads [
  | inl it ↦ (let found = it.1 in let bad : None ≡ Some found.front = found.back_reads.0 in absurd (cc))
  | inr it ↦ elim it.1 [ inl end ↦ said_at (at_rest end.1.1 r.front_reads) end.0 | inr other ↦ absurd other.1 ]
]

reads_one_id : (value : ℤ) → ⊤ → (text rest : List ℕ) → grammar.other_id value text rest → Reading id_after text (Some value) rest
unfolding id_after
reads_one_id value is text rest b = let comma = token kinds.Comma b.front refl refl in reads_then _ (reads_token (alike text) comma.at) (reads_yes _ comma.is (reads_then _ (reads_id value b.back) reads_give))

reads_no_id : (text rest : List ℕ) → IsPunctuation kinds.CloseParenthesis text rest → Reading id_after text None rest
unfolding id_after
reads_no_id text rest s = reads_then _ (reads_token (alike text) s.at) (reads_no _ (other_kind s.is (λ e. cc)) (reads_yes _ s.is reads_give))

all_such : {A : Type 0} (list : List A) → AllByRecursion (λ (a : A). ⊤) list
all_such [] = tt
all_such (a ∷ list) = (tt, all_such list)

-- keys and values
text_at_split : {text rest : List ℕ} (next : Next) (middle value : List ℕ) → At text next middle → (tag_text_at next).reads middle value rest → tag_text value text rest
unfolding tag_text_at choose from text_here run_here not_in_tag refuse
text_at_split next middle value at reads = tag_said (elim reads [
  | inl quote ↦ record { next = next; place = middle; at = at; spelled = inl quote }
  | inr it ↦ elim it.1 [ inl run ↦ record { next = next; place = middle; at = at; spelled = inr run } | inr other ↦ absurd other.1 ]
])

reads_text_at : {value text rest : List ℕ} → (t : IsTagText value text rest) → Reading (tag_text_at t.next) t.place value rest
unfolding tag_text_at text_here run_here
reads_text_at t = elim t.spelled [
  | inl quote ↦ reads_yes _ quote.0 (reads_from _ (record { reads = quote.1 }))
  | inr run ↦ reads_no _ (quote_or_run (t.next).place run.0) (reads_yes _ run.0 (reads_from _ (record { reads = run.1 })))
]

tag_text_split : {text rest : List ℕ} (value : List ℕ) → tags.tag_text.reads text value rest → tag_text value text rest
unfolding tags.tag_text ◌>>=◌ next_token
tag_text_split value r = text_at_split r.front r.middle value r.front_reads r.back_reads

close_split : {text rest : List ℕ} (value : Unit {0}) → tag_close.reads text value rest → says "]" text rest
unfolding tag_close ◌>>=◌ choose give next_token not_in_tag refuse
close_split value r = elim r.back_reads [
  | inl it ↦ said_at (at_rest it.1.1 r.front_reads) it.0
  | inr other ↦ absurd other.1
]

value_split : {text rest : List ℕ} (value : List ℕ) → tag_value.reads text value rest → Both (tag_text value) (says "]") text rest
unfolding tag_value ◌>>=◌ give
value_split {text = text} value r = let close = r.back_reads in let is = close.back_reads in
    both r.middle (subst (λ (v : List ℕ). tag_text v text r.middle) (sym is.0) (tag_text_split r.front r.front_reads)) (spelled_to (says "]") is.1 (close_split close.front close.front_reads))

reads_tag_text : {text rest : List ℕ} (value : List ℕ) → IsTagText value text rest → Reading tags.tag_text text value rest
unfolding tags.tag_text
reads_tag_text {text = text} value t = reads_then _ (reads_token (alike text) t.at) (reads_text_at t)

reads_close : {text rest : List ℕ} → IsPunctuation kinds.CloseBracket text rest → Reading tag_close text tt rest
unfolding tag_close
reads_close {text = text} s = reads_then _ (reads_token (alike text) s.at) (reads_yes _ s.is reads_give)

reads_tag_value : {text middle rest : List ℕ} (value : List ℕ) → IsTagText value text middle → IsPunctuation kinds.CloseBracket middle rest → Reading tag_value text value rest
unfolding tag_value
reads_tag_value value t s = reads_then _ (reads_tag_text value t) (reads_then _ (reads_close s) reads_give)

-- filters by tags
module _ (text rest : List ℕ) where
  -- a filter, where this is the same one
  as_filter : {f g : Filter} → f ≡ g → grammar.filter g text rest → grammar.filter f text rest
  as_filter is it = subst (λ (h : Filter). grammar.filter h text rest) (sym is) it

  tag_rest_split : {middle place : List ℕ} (key : List ℕ) (f : Filter) → says "[" text middle → tag_text key middle place → (tag_rest key).reads place f rest → grammar.filter f text rest
  unfolding tag_rest ◌>>=◌ choose give next_token not_in_tag refuse
  tag_rest_split {middle = middle} {place = place} key f opened key_is r = elim r.back_reads [
    | inl it ↦ as_filter it.1.0 (both middle opened (both place key_is (said_at (at_rest it.1.1 r.front_reads) it.0)))
    | inr it ↦ elim it.1 [
      | inl it ↦ (let found = it.1 in let is = found.back_reads in let b = value_split found.front found.front_reads in
          as_filter is.0 (both middle opened (both b.middle (both place key_is (both r.middle (said_at r.front_reads it.0) b.front)) (spelled_to (says "]") is.1 b.back))))
      | inr it ↦ elim it.1 [
        | inl it ↦ (let found = it.1 in let is = found.back_reads in let b = value_split found.front found.front_reads in
            as_filter is.0 (both middle opened (both b.middle (both place key_is (both r.middle (said_at r.front_reads it.0) b.front)) (spelled_to (says "]") is.1 b.back))))
        | inr other ↦ absurd other.1
      ]
    ]
  ]

  tag_filter_split : {middle : List ℕ} (f : Filter) → says "[" text middle → tag_filter.reads middle f rest → grammar.filter f text rest
  unfolding tag_filter ◌>>=◌ choose give next_token
  tag_filter_split {middle = middle} f opened r = elim r.back_reads [
    | inl it ↦ (let found = it.1 in let is = found.back_reads in let b = value_split found.front found.front_reads in
        as_filter is.0 (both middle opened (both b.middle (both r.middle (said_at r.front_reads it.0) b.front) (spelled_to (says "]") is.1 b.back))))
    | inr it ↦ (let key = it.1 in tag_rest_split key.front f opened (text_at_split r.front r.middle key.front r.front_reads key.front_reads) key.back_reads)
  ]

-- a key begins with no `!`
no_bang : {key text rest : List ℕ} (t : IsTagText key text rest) → (t.next).kind ≡ kinds.Not → ⊥
no_bang t is = let kind : token_kind_at (t.next).place ≡ kinds.Not = sym (t.at).kind_is ∙ is in elim t.spelled [
  | inl quote ↦ no_quote (t.next).place kind quote.0
  | inr run ↦ no_run (t.next).place kind run.0
]

-- what follows `[`
reads_keyed : {middle place rest : List ℕ} (key : List ℕ) (f : Filter) → IsTagText key middle place → Reading (tag_rest key) place f rest → Reading tag_filter middle f rest
unfolding tag_filter
reads_keyed {middle = middle} key f t more = reads_then _ (reads_token (alike middle) t.at) (reads_no _ (no_bang t) (reads_then _ (reads_text_at t) more))

reads_has_key : {place rest : List ℕ} (key : List ℕ) → IsPunctuation kinds.CloseBracket place rest → Reading (tag_rest key) place (HasKey key) rest
unfolding tag_rest
reads_has_key {place = place} key s = reads_then _ (reads_token (alike place) s.at) (reads_yes _ s.is reads_give)

reads_key_is : {place middle last rest : List ℕ} (key value : List ℕ) → IsPunctuation kinds.Equal place middle → IsTagText value middle last → IsPunctuation kinds.CloseBracket last rest → Reading (tag_rest key) place (KeyIs key value) rest
unfolding tag_rest
reads_key_is {place = place} key value s v c = reads_then _ (reads_token (alike place) s.at) (reads_no _ (other_kind s.is (λ e. cc)) (reads_yes _ s.is (reads_then _ (reads_tag_value value v c) reads_give)))

reads_key_is_not : {place middle last rest : List ℕ} (key value : List ℕ) → IsPunctuation kinds.NotEqual place middle → IsTagText value middle last → IsPunctuation kinds.CloseBracket last rest → Reading (tag_rest key) place (KeyIsNot key value) rest
unfolding tag_rest
reads_key_is_not {place = place} key value s v c = reads_then _ (reads_token (alike place) s.at) (reads_no _ (other_kind s.is (λ e. cc)) (reads_no _ (other_kind s.is (λ e. cc)) (reads_yes _ s.is (reads_then _ (reads_tag_value value v c) reads_give))))

reads_lacks_key : {middle place last rest : List ℕ} (key : List ℕ) → IsPunctuation kinds.Not middle place → IsTagText key place last → IsPunctuation kinds.CloseBracket last rest → Reading tag_filter middle (LacksKey key) rest
unfolding tag_filter
reads_lacks_key {middle = middle} key s k c = reads_then _ (reads_token (alike middle) s.at) (reads_yes _ s.is (reads_then _ (reads_tag_value key k c) reads_give))

-- the `)` after a path
close_to : {start place rest : List ℕ} → Alike place start → (value : Unit {0}) → path_close.reads start value rest → says ")" place rest
unfolding path_close ◌>>=◌ choose give next_token unexpected refuse
close_to like value r = elim r.back_reads [
  | inl it ↦ said_at (at_rest it.1.1 (alike_at like r.front_reads)) it.0
  | inr it ↦ elim it.1 [ inl other ↦ absurd other.1 | inr other ↦ absurd other.1 ]
]

-- what stands in parentheses
module _ (text rest : List ℕ) {opened : List ℕ} (kind : says "(" text opened) where
  id_list_split : {after : List ℕ} (f : Filter) → word "id" opened after → id_list.reads after f rest → grammar.filter f text rest
  unfolding id_list ◌>>=◌ give
  id_list_split {after = after} f named r =
      let first = r.back_reads in
      let list = first.back_reads in
      let g = gather_sound id_after one_id no_id ((first.front) ∷ []) list.front first.middle list.middle list.front_reads in
      as_filter text rest (list.back_reads.0 ∙ ap (λ (l : List ℤ). Ids l) g.is) (both opened kind
      (both g.middle (inr (both after named (both r.middle (pass_sound kinds.Colon (alike _) (record { reads = r.front_reads })) (both first.middle (id_split first.front first.front_reads) g.front))))
      (spelled_to (says ")") list.back_reads.1 g.back)))

  path_split : (after : List ℕ) (f : Filter) (path : Path) → grammar.path path opened after → (path_from path).reads after f rest → grammar.filter f text rest
  unfolding path_from ◌>>=◌ choose give from next_token name_after
  path_split after f path along r = elim r.back_reads [
    | inl it ↦ (let named = it.1 in let close = named.back_reads in let is = close.back_reads in
        as_filter text rest is.0 (both opened kind (both named.middle
        (both after along (inl (set_said (record { next = r.front; place = r.middle; at = r.front_reads; is = it.0; name_is = named.front_reads }))))
        (spelled_to (says ")") is.1 (close_to (alike named.middle) close.front close.front_reads)))))
    | inr it ↦ (let close = it.1 in let is = close.back_reads in
        as_filter text rest is.0 (both opened kind (both after
        (both after along (inr (refl, refl)))
        (spelled_to (says ")") is.1 (close_to (alike_back (from_token r.front_reads)) close.front close.front_reads)))))
  ]

corner_split : {text rest : List ℕ} (found : Number) → corner.reads text found rest → Both (says ",") (grammar.corner found.number) text rest
unfolding corner ◌>>=◌
corner_split found r = both r.middle (pass_sound kinds.Comma (alike _) (record { reads = r.front_reads })) (number_said (number_split found (alike _) r.back_reads))

module _ (text rest : List ℕ) {opened : List ℕ} (kind : says "(" text opened) where
  box_split : {after place : List ℕ} (f : Filter) (south : Number) → grammar.corner south.number opened after → says "," after place → (box_after south).reads place f rest → grammar.filter f text rest
  unfolding box_after ◌>>=◌ give area
  box_split {after = after} {place = place} f south first comma west =
      let north = west.back_reads in
      let east = north.back_reads in
      let close = east.back_reads in
      let made = close.back_reads in
      let box = made.front_reads in
      let all : Corners = record { south = south.number; west = (west.front).number; north = (north.front).number; east = (east.front).number } in
      let n = corner_split north.front north.front_reads in
      let e = corner_split east.front east.front_reads in
      as_filter text rest made.back_reads.0 (both opened kind (both east.middle (
        all,
        box.0,
        box.1,
        both after first (both place comma (both west.middle (number_said (number_split west.front (alike place) west.front_reads))
            (both n.middle n.front (both north.middle n.back (both e.middle e.front e.back))))),
      )
      (spelled_to (says ")") (made.back_reads.1 ∙ box.2) (pass_sound kinds.CloseParenthesis (alike east.middle) (record { reads = close.front_reads })))))

  number_selector_split : {after : List ℕ} (pick : Pick) (f : Filter) (number : Number) → IsNumberOf (λ (d : Decimal). d ≡ number.number) opened after → (number_selector pick number).reads after f rest → grammar.filter f text rest
  unfolding number_selector ◌>>=◌ choose give next_token unexpected refuse id_of
  number_selector_split {after = after} pick f number first r = elim r.back_reads [
    | inl comma ↦ elim comma.1 [
      | inl it ↦ box_split f number (number_said first) (said_at r.front_reads comma.0) it.1
      | inr other ↦ absurd other.1
    ]
    | inr it ↦ elim it.1 [
      | inl it ↦ (let id = it.1 in
          as_filter text rest id.back_reads.0 (both opened kind (both after
          (inl (both opened (refl, refl) (number_said (means (λ (d : Decimal) e. subst (λ (n : Decimal). IsId n id.front) (sym e) id.front_reads.0) first))))
          (said_at (at_rest (id.back_reads.1 ∙ id.front_reads.1) r.front_reads) it.0))))
      | inr other ↦ absurd other.1
    ]
  ]

  named_split : {after : List ℕ} (pick : Pick) (f : Filter) (place word : List ℕ) (case : SelectorWord) → selector_word pick word ≡ case → IsWordOf (λ (w : List ℕ). w ≡ word) opened after → (selector_named place case).reads after f rest → grammar.filter f text rest
  unfolding refuse
  named_split pick f place word words.Ids is spelled r = id_list_split text rest kind f (selector_is word spelled pick words.Ids is) r
  named_split pick f place word (words.Along path) is spelled r = path_split text rest kind _ f path (selector_is word spelled pick (words.Along path) is) r
  named_split pick f place word words.Unsupported is spelled r = absurd r
  named_split pick f place word words.Unknown is spelled r = absurd r

  selector_split : (pick : Pick) (f : Filter) → (selector pick).reads opened f rest → grammar.filter f text rest
  unfolding selector ◌>>=◌ choose next_token unexpected refuse word_selector by_case
  selector_split pick f r = elim r.back_reads [
    | inl it ↦ (let word = it.1 in let found = word_split r.front word.front word.front_reads in
        named_split pick f (word.front).place (word.front).word (selector_word pick (word.front).word) refl
        (record { next = r.front; place = r.middle; word = (word.front).word; at = r.front_reads; is = it.0; run = found; means = refl }) word.back_reads)
    | inr it ↦ elim it.1 [
      | inl it ↦ (let number = it.1 in number_selector_split pick f number.front (number_at_split r.front number.front r.front_reads it.0 number.front_reads) number.back_reads)
      | inr other ↦ absurd other.1
    ]
  ]

-- how what is spelled in parentheses is read
pub reads_word_at : {text rest : List ℕ} {word : List ℕ} (next : Next) → IsRun text word rest → Reading (word_at next) text (record { word = word; place = next.place }) rest
unfolding word_at run_here
reads_word_at {text = text} next run = reads_then _ (record { reads = run }) reads_give

reads_word_selector : (pick : Pick) (case : SelectorWord) {opened after rest : List ℕ} {f : Filter} → (w : IsWordOf (λ (word : List ℕ). selector_word pick word ≡ case) opened after) → Reading (selector_named (w.next).place case) after f rest → Reading (selector pick) opened f rest
unfolding selector word_selector
reads_word_selector pick case {opened = opened} w more =
    reads_then _ (reads_token (alike opened) w.at) (reads_yes _ w.is (reads_then _ (reads_word_at w.next w.run) (reads_case _ w.means more)))

pub word_is_no_number : (kind : TokenKind) → begins_number kind ≡ true → kind ≡ kinds.Word → ⊥
word_is_no_number kind begins is = let bad : begins_number kinds.Word ≡ true = subst (λ (s : TokenKind). begins_number s ≡ true) is begins in cc

reads_number_selector : (pick : Pick) {Means : Decimal → Type 0} {opened after rest : List ℕ} {f : Filter} → (n : IsNumberOf Means opened after) → Reading (number_selector pick (record { number = n.number; place = (n.next).place })) after f rest → Reading (selector pick) opened f rest
unfolding selector
reads_number_selector pick {opened = opened} n more =
    reads_then _ (reads_token (alike opened) n.at) (reads_no _ (word_is_no_number (n.next).kind n.begins) (reads_yes _ n.begins (reads_then _ (reads_number_at n.next n.spelled) more)))

reads_one : (pick : Pick) (place : List ℕ) (id : ℤ) (number : Decimal) {after rest : List ℕ} → IsId number id → IsPunctuation kinds.CloseParenthesis after rest → Reading (number_selector pick (record { number = number; place = place })) after (Ids (id ∷ [])) rest
unfolding number_selector
reads_one pick place id number {after = after} is close =
    reads_then _ (reads_token (alike after) close.at) (reads_no _ (other_kind close.is (λ e. cc)) (reads_yes _ close.is (reads_then _ (reads_value place is) reads_give)))

reads_id_list : (id : ℤ) (more : List ℤ) {after rest : List ℕ} → Both (says ":") (Both (grammar.id id) (each grammar.other_id more)) after rest → {end : List ℕ} → IsPunctuation kinds.CloseParenthesis rest end → Reading id_list after (Ids (id ∷ more)) end
unfolding id_list
reads_id_list id more {after = after} b close =
    reads_then _ (reads_punctuation (alike after) (token kinds.Colon b.front refl refl)) (reads_then _ (reads_id id (b.back).front) (reads_then _ (reads_gather id_after reads_one_id (id ∷ []) more (all_such more) (b.back).back (reads_no_id _ _ close)) reads_give))

reads_path_close : {start place rest : List ℕ} → Alike start place → IsPunctuation kinds.CloseParenthesis place rest → Reading path_close start tt rest
unfolding path_close
reads_path_close like close = reads_then _ (reads_token like close.at) (reads_yes _ close.is reads_give)

reads_path : (path : Path) (set : List ℕ) {after middle rest : List ℕ} → spelling.source set after middle → IsPunctuation kinds.CloseParenthesis middle rest → Reading (path_from path) after (Via path set) rest
unfolding path_from
reads_path path set {after = after} (inl dotted) close = let named = set_token dotted in reads_then _ (reads_token (alike after) named.at) (reads_yes _ named.is (reads_then _ (reads_name_after _ named.name_is) (reads_then _ (reads_path_close (alike _) close) reads_give)))
reads_path path set {after = after} {middle = middle} (inr default) close =
    let like : Alike after middle = alike_back (alike_by default.1) in
    reads_then _ (reads_token like close.at) (reads_no _ (other_kind close.is (λ e. cc))
    (reads_then _ (reads_from _ (reads_path_close (alike_on (from_token close.at) (alike middle)) close)) (reads_as (ap (λ (s : List ℕ). Via path s) default.0))))

reads_corner : {text middle rest : List ℕ} {value : Decimal} → IsPunctuation kinds.Comma text middle → (n : IsNumberOf (λ (d : Decimal). d ≡ value) middle rest) → Reading corner text (record { number = n.number; place = (n.next).place }) rest
unfolding corner
reads_corner {text = text} comma n = reads_then _ (reads_punctuation (alike text) comma) (reads_number (alike _) n)

-- corners of equal numbers
same_corners : {s t w x n o e f : Decimal} → s ≡ t → w ≡ x → n ≡ o → e ≡ f → (let c : Corners = record { south = s; west = w; north = n; east = e } in let d : Corners = record { south = t; west = x; north = o; east = f } in c ≡ d)
same_corners a b c d = cc

reads_area : {c all : Corners} (place : List ℕ) {text : List ℕ} → c ≡ all → AreBox all → Reading (area c place) text (box_of all) text
unfolding area
reads_area place e is = record { reads = (subst AreBox (sym e) is, ap box_of (sym e), refl) }

reads_within : (pick : Pick) (box : ExactBox) {opened middle rest : List ℕ} → takes_boxes pick ≡ true → grammar.box box opened middle → IsPunctuation kinds.CloseParenthesis middle rest → Reading (selector pick) opened (Within box) rest
unfolding number_selector box_after
reads_within pick box takes spelled close =
    let west = (spelled.3).back in
    let north = (west.back).back in
    let east = (north.back).back in
    let s = number_token (spelled.3).front in
    let w = number_token (west.back).front in
    let n = number_token (north.back).front in
    let e = number_token east.back in
    let comma = token kinds.Comma west.front refl refl in
    reads_number_selector pick s (reads_then _ (reads_token (alike _) comma.at) (reads_yes _ comma.is (reads_yes _ takes
    (reads_then _ (reads_number (alike _) w) (reads_then _ (reads_corner (token kinds.Comma north.front refl refl) n) (reads_then _ (reads_corner (token kinds.Comma east.front refl refl) e)
    (reads_then _ (reads_punctuation (alike _) close)
    (reads_then _ (reads_area _ (same_corners s.means w.means n.means e.means) spelled.1) (reads_as (ap (λ (b : ExactBox). Within b) spelled.2))))))))))

-- a filter in parentheses
reads_ids : (pick : Pick) (ids : List ℤ) {opened middle rest : List ℕ} → grammar.ids ids opened middle → IsPunctuation kinds.CloseParenthesis middle rest → Reading (selector pick) opened (Ids ids) rest
reads_ids pick [] spelled close = absurd spelled
reads_ids pick (id ∷ more) {opened = opened} {middle = middle} {rest = rest} (inl one) close =
    let e = (one.front).0 in
    let n = number_token (subst (λ (s : List ℕ). grammar.id id s middle) (one.front).1 one.back) in
    subst (λ (l : List ℤ). Reading (selector pick) opened (Ids (id ∷ l)) rest) (sym e) (reads_number_selector pick n (reads_one pick _ id n.number n.means close))
reads_ids pick (id ∷ more) (inr list) close = reads_word_selector pick words.Ids (ids_token pick list.front) (reads_id_list id more list.back close)

-- filters
one_filter : (pick : Pick) (f : Filter) (text rest : List ℕ) → (a_filter pick).reads text (Some f) rest → grammar.filter f text rest
unfolding a_filter ◌>>=◌ choose from give next_token name_after
one_filter pick f text rest r = elim r.back_reads [
  | inl it ↦ (let named = it.1 in let is : f ≡ InSet named.front = (let e = named.back_reads.0 in cc) in
      as_filter text rest is (spelled_to (named_set named.front) named.back_reads.1 (set_said (record { next = r.front; place = r.middle; at = r.front_reads; is = it.0; name_is = named.front_reads }))))
  | inr it ↦ elim it.1 [
    | inl it ↦ (let found = it.1 in let is : f ≡ found.front = (let e = found.back_reads.0 in cc) in
        as_filter text rest is (spelled_to (grammar.filter found.front) found.back_reads.1 (tag_filter_split text found.middle found.front (said_at r.front_reads it.0) found.front_reads)))
    | inr it ↦ elim it.1 [
      | inl it ↦ (let found = it.1 in let is : f ≡ found.front = (let e = found.back_reads.0 in cc) in
          as_filter text rest is (spelled_to (grammar.filter found.front) found.back_reads.1 (selector_split text found.middle (said_at r.front_reads it.0) pick found.front found.front_reads)))
      | inr it ↦ (let bad : Some f ≡ None = it.1.0 in absurd (cc))
    ]
  ]
]

-- no filter comes next, and blanks and comments have been passed
no_filter : (pick : Pick) (text rest : List ℕ) → (a_filter pick).reads text None rest → Alike text rest
unfolding a_filter ◌>>=◌ choose from give next_token
no_filter pick text rest r = elim r.back_reads [
  | inl it ↦ (let found = it.1 in let bad : None ≡ Some (InSet found.front) = found.back_reads.0 in absurd (cc))
  | inr it ↦ elim it.1 [
    | inl it ↦ (let found = it.1 in let bad : None ≡ Some found.front = found.back_reads.0 in absurd (cc))
    | inr it ↦ elim it.1 [
      | inl it ↦ (let found = it.1 in let bad : None ≡ Some found.front = found.back_reads.0 in absurd (cc))
      | inr it ↦ alike_back (alike_on (alike_by it.1.1) (from_token r.front_reads))
    ]
  ]
]

pub filters_sound : (pick : Pick) (all : List Filter) (text rest : List ℕ) → (gather (a_filter pick) []).reads text all rest → Gathered grammar.filter Alike [] all text rest
filters_sound pick all text rest r = gather_sound (a_filter pick) (one_filter pick) (no_filter pick) [] all text rest r

-- what stands in brackets
reads_bracket : (pick : Pick) (f : Filter) {text opened rest : List ℕ} → IsPunctuation kinds.OpenBracket text opened → Reading tag_filter opened f rest → Reading (a_filter pick) text (Some f) rest
unfolding a_filter
reads_bracket pick f {text = text} kind more = reads_then _ (reads_token (alike text) kind.at) (reads_no _ (other_kind kind.is (λ e. cc)) (reads_yes _ kind.is (reads_then _ more reads_give)))

reads_parenthesis : (pick : Pick) (f : Filter) {text opened rest : List ℕ} → IsPunctuation kinds.OpenParenthesis text opened → Reading (selector pick) opened f rest → Reading (a_filter pick) text (Some f) rest
unfolding a_filter
reads_parenthesis pick f {text = text} kind more =
    reads_then _ (reads_token (alike text) kind.at) (reads_no _ (other_kind kind.is (λ e. cc)) (reads_no _ (other_kind kind.is (λ e. cc)) (reads_yes _ kind.is (reads_then _ more reads_give))))

reads_in_set : (pick : Pick) (name : List ℕ) {text rest : List ℕ} → IsSet name text rest → Reading (a_filter pick) text (Some (InSet name)) rest
unfolding a_filter
reads_in_set pick name {text = text} s = reads_then _ (reads_token (alike text) s.at) (reads_yes _ s.is (reads_then _ (reads_name_after _ s.name_is) reads_give))

pub reads_filter : (pick : Pick) (f : Filter) → Allows pick f → (text rest : List ℕ) → grammar.filter f text rest → Reading (a_filter pick) text (Some f) rest
reads_filter pick (InSet name) such text rest s = reads_in_set pick name (set_token s)
reads_filter pick (HasKey key) such text rest s = reads_bracket pick (HasKey key) (token kinds.OpenBracket s.front refl refl) (reads_keyed key (HasKey key) (tag_token (s.back).front) (reads_has_key key (token kinds.CloseBracket (s.back).back refl refl)))
reads_filter pick (KeyIs key value) such text rest s = let body = (s.back).front in
    reads_bracket pick (KeyIs key value) (token kinds.OpenBracket s.front refl refl)
    (reads_keyed key (KeyIs key value) (tag_token body.front) (reads_key_is key value (token kinds.Equal (body.back).front refl refl) (tag_token (body.back).back) (token kinds.CloseBracket (s.back).back refl refl)))
reads_filter pick (LacksKey key) such text rest s = let body = (s.back).front in
    reads_bracket pick (LacksKey key) (token kinds.OpenBracket s.front refl refl) (reads_lacks_key key (not_token body.front body.back) (tag_token body.back) (token kinds.CloseBracket (s.back).back refl refl))
reads_filter pick (KeyIsNot key value) such text rest s = let body = (s.back).front in
    reads_bracket pick (KeyIsNot key value) (token kinds.OpenBracket s.front refl refl)
    (reads_keyed key (KeyIsNot key value) (tag_token body.front) (reads_key_is_not key value (token kinds.NotEqual (body.back).front refl refl) (tag_token (body.back).back) (token kinds.CloseBracket (s.back).back refl refl)))
reads_filter pick (Ids ids) such text rest s = reads_parenthesis pick (Ids ids) (token kinds.OpenParenthesis s.front refl refl) (reads_ids pick ids (s.back).front (token kinds.CloseParenthesis (s.back).back refl refl))
reads_filter pick (Within box) such text rest s = reads_parenthesis pick (Within box) (token kinds.OpenParenthesis s.front refl refl) (reads_within pick box such (s.back).front (token kinds.CloseParenthesis (s.back).back refl refl))
reads_filter pick (Via path set) such text rest s = let body = (s.back).front in
    reads_parenthesis pick (Via path set) (token kinds.OpenParenthesis s.front refl refl)
    (reads_word_selector pick (words.Along path) (path_token pick path such body.front) (reads_path path set body.back (token kinds.CloseParenthesis (s.back).back refl refl)))

pub reads_no_filter : (pick : Pick) {kind : TokenKind} {text rest : List ℕ} → (s : IsPunctuation kind text rest) → (kind ≡ kinds.Dot → ⊥) → (kind ≡ kinds.OpenBracket → ⊥) → (kind ≡ kinds.OpenParenthesis → ⊥) → Reading (a_filter pick) text None (s.next).place
unfolding a_filter
reads_no_filter pick {text = text} s no_dot no_bracket no_parenthesis =
    reads_then _ (reads_token (alike text) s.at) (reads_no _ (other_kind s.is no_dot) (reads_no _ (other_kind s.is no_bracket) (reads_no _ (other_kind s.is no_parenthesis) (reads_from _ reads_give))))
