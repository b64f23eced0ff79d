-- What stands after `out` is spelled as rules read it.
use Rattle.std.proofs.Common.{◌≡◌, ℕ, List, Option, None, Some, Bool, true, false, refl, sym, ◌∙◌, subst, inl, inr}
use Rattle.std.specs.Option.{is_some, unwrap_or}
use Rattle.osm_model.specs.declared.out_mode.OutMode.{OutMode}
use Rattle.osm_model.specs.declared.out_mode.OutMode.TheVariants as modes
use Rattle.osm_model.specs.Degrees.{Decimal}
use Rattle.ql_syntax.specs.Grammar as grammar
use Rattle.ql_syntax.specs.OutWords.{out_word}
use Rattle.ql_syntax.specs.Outs.{once, out_word_at, with_word, with_number, out_round, out_options}
use Rattle.ql_syntax.specs.TokenRules.{Number, next_token, unexpected, begins_number}
use Rattle.ql_syntax.specs.Rules.{Rule, ◌>>=◌, give, refuse, choose, by_case, repeat, More, Done, RoundsRead, Last}
use Rattle.ql_syntax.specs.Rules as rounds
use Rattle.ql_syntax.specs.Spellings.{Spelling, Both, ◌&◌, when, nothing, in_any_order, says}
use Rattle.ql_syntax.specs.WholeNumbers.{IsCount, count_of}
use Rattle.ql_syntax.specs.declared.out_options.OutOptions.{OutOptions}
use Rattle.ql_syntax.specs.declared.out_word.OutWord.{OutWord}
use Rattle.ql_syntax.specs.declared.out_word.OutWord.TheVariants as words
use Rattle.ql_syntax.specs.declared.token_kind.TokenKind.{TokenKind}
use Rattle.ql_syntax.specs.declared.token_kind.TokenKind.TheVariants as kinds
use Rattle.ql_syntax.proofs.FilterSpellings.{means, number_at_split, word_split, reads_word_at, reads_number_at, word_is_no_number}
use Rattle.ql_syntax.proofs.SpellingLemmas.{alike, at_rest, both, spelled_to, other_kind, Reading, reads_then, reads_give, reads_yes, reads_no, reads_case, reads_token}
use Rattle.ql_syntax.proofs.TokenSpellings.{IsPunctuation, said_at, token, IsWordOf, IsNumberOf, number_said, number_token}
use Rattle.ql_syntax.proofs.WordSpellings.{out_spelled, out_is, mode_token, asc_token, qt_token}

-- of three that stand in any order one comes first, and stands no more after that
module _ {a none : Spelling} {text middle rest : List ℕ} (front : (here after : List ℕ) → none here after → a text middle) (gone : (here after : List ℕ) → none here after → after ≡ here) where
  drop_front : {more : Spelling} → Both none more middle rest → Both a more text rest
  drop_front {more = more} it = both middle (front middle it.middle it.front) (subst (λ (s : List ℕ). more s rest) (gone middle it.middle it.front) it.back)

  drop_second : {first last : Spelling} → Both first (Both none last) middle rest → Both a (Both first last) text rest
  drop_second {first = first} {last = last} it =
      let more = it.back in
      both middle (front it.middle more.middle more.front) (both it.middle it.front (subst (λ (s : List ℕ). last s rest) (gone it.middle more.middle more.front) more.back))

  drop_last : {first second : Spelling} → Both first (Both second none) middle rest → Both a (Both first second) text rest
  drop_last {first = first} {second = second} it =
      let more = it.back in
      both middle (front more.middle rest more.back) (both it.middle it.front (subst (λ (s : List ℕ). second it.middle s) (sym (gone more.middle rest more.back)) more.front))

  module _ {b c : Spelling} where
    first_of_three : in_any_order none b c middle rest → in_any_order a b c text rest
    first_of_three (inl it) = inl (drop_front it)
    first_of_three (inr (inl it)) = inr (inl (drop_front it))
    first_of_three (inr (inr (inl it))) = inl (drop_second it)
    first_of_three (inr (inr (inr (inl it)))) = inl (drop_last it)
    first_of_three (inr (inr (inr (inr (inl it))))) = inr (inl (drop_second it))
    first_of_three (inr (inr (inr (inr (inr it))))) = inr (inl (drop_last it))

    second_of_three : in_any_order b none c middle rest → in_any_order b a c text rest
    second_of_three (inl it) = inr (inr (inl (drop_second it)))
    second_of_three (inr (inl it)) = inr (inr (inl (drop_last it)))
    second_of_three (inr (inr (inl it))) = inr (inr (inl (drop_front it)))
    second_of_three (inr (inr (inr (inl it)))) = inr (inr (inr (inl (drop_front it))))
    second_of_three (inr (inr (inr (inr (inl it))))) = inr (inr (inr (inl (drop_last it))))
    second_of_three (inr (inr (inr (inr (inr it))))) = inr (inr (inr (inl (drop_second it))))

    third_of_three : in_any_order b c none middle rest → in_any_order b c a text rest
    third_of_three (inl it) = inr (inr (inr (inr (inl (drop_last it)))))
    third_of_three (inr (inl it)) = inr (inr (inr (inr (inl (drop_second it)))))
    third_of_three (inr (inr (inl it))) = inr (inr (inr (inr (inr (drop_last it)))))
    third_of_three (inr (inr (inr (inl it)))) = inr (inr (inr (inr (inr (drop_second it)))))
    third_of_three (inr (inr (inr (inr (inl it))))) = inr (inr (inr (inr (inl (drop_front it)))))
    third_of_three (inr (inr (inr (inr (inr it))))) = inr (inr (inr (inr (inr (drop_front it)))))

-- what may still stand after what was seen
abbrev Mode_left : Option OutMode → OutMode → Spelling
Mode_left None mode = grammar.out_mode mode
Mode_left (Some seen) mode = when (mode ≡ seen)

abbrev Order_left : Bool → Spelling
Order_left true = nothing
Order_left false = grammar.out_order

abbrev Limit_left : Option ℕ → Option ℕ → Spelling
Limit_left None most = grammar.out_limit most
Limit_left (Some seen) most = when (most ≡ Some seen)

abbrev Left : Option OutMode → Bool → Option ℕ → OutOptions → Spelling
Left mode ordered most found = in_any_order (Mode_left mode (unwrap_or found.mode modes.Body)) (Order_left ordered) (Limit_left most found.limit) & says ";"

abbrev After : OutOptions → OutOptions → Spelling
After seen found = Left seen.mode seen.ordered seen.limit found

-- nothing more
mode_done : (o : Option OutMode) (text : List ℕ) → Mode_left o (unwrap_or o modes.Body) text text
mode_done None text = inr (refl, refl)
mode_done (Some mode) text = (refl, refl)

order_done : (b : Bool) (text : List ℕ) → Order_left b text text
order_done true text = refl
order_done false text = inr (inr refl)

limit_done : (o : Option ℕ) (text : List ℕ) → Limit_left o o text text
limit_done None text = refl
limit_done (Some most) text = (refl, refl)

-- of what may stand once none stood before
once_is : {A B : Type 0} (o : Option A) (place text rest : List ℕ) (value found : B) → (once (is_some o) place value).reads text found rest → (o ≡ None) × (found ≡ value) × (rest ≡ text)
unfolding give refuse
once_is None place text rest value found reads = (refl, reads.0, reads.1)
once_is (Some a) place text rest value found reads = absurd reads

ordered_is : {B : Type 0} (b : Bool) (place text rest : List ℕ) (value found : B) → (once b place value).reads text found rest → (b ≡ false) × (found ≡ value) × (rest ≡ text)
unfolding give refuse
ordered_is false place text rest value found reads = (refl, reads.0, reads.1)
ordered_is true place text rest value found reads = absurd reads

same_reads : {A : Type 0} (rule : Rule A) {text rest same : List ℕ} {value found : A} → found ≡ value → same ≡ rest → rule.reads text value rest → rule.reads text found same
same_reads rule {text = text} {rest = rest} {found = found} is at reads = subst (λ (s : List ℕ). rule.reads text found s) (sym at) (subst (λ (v : _). rule.reads text v rest) (sym is) reads)

-- one option more in front
module _ (seen next found : OutOptions) (text middle rest : List ℕ) (more : After next found middle rest) where
  word_leads : (place w begin : List ℕ) (case : OutWord) → out_word w ≡ case → IsWordOf (λ (v : List ℕ). v ≡ w) text begin → (out_word_at seen place case).reads begin next middle → After seen found text rest
  unfolding refuse
  word_leads place w begin (words.Mode mode) is spelled r =
      let o = once_is seen.mode place begin middle _ next r in
      let said = spelled_to (grammar.mode_word mode) o.2 (out_is w spelled (words.Mode mode) is) in
      let left : Left (Some mode) seen.ordered seen.limit found middle rest = subst (λ (x : OutOptions). After x found middle rest) o.1 more in
      subst (λ (x : Option OutMode). Left x seen.ordered seen.limit found text rest) (sym o.0)
      (both left.middle (first_of_three (λ here after none. inl (subst (λ (m : OutMode). grammar.mode_word m text middle) (sym none.0) said)) (λ here after none. none.1) left.front) left.back)
  word_leads place w begin words.Order is spelled r =
      let o = ordered_is seen.ordered place begin middle _ next r in
      let said = spelled_to (out_spelled words.Order) o.2 (out_is w spelled words.Order is) in
      let left : Left seen.mode true seen.limit found middle rest = subst (λ (x : OutOptions). After x found middle rest) o.1 more in
      subst (λ (x : Bool). Left seen.mode x seen.limit found text rest) (sym o.0)
      (both left.middle (second_of_three (λ here after none. an_order said) (λ here after none. none) left.front) left.back)
    where
      an_order : out_spelled words.Order text middle → grammar.out_order text middle
      an_order (inl asc) = inl asc
      an_order (inr qt) = inr (inl qt)
  word_leads place w begin words.Unsupported is spelled r = absurd r
  word_leads place w begin words.Unknown is spelled r = absurd r

  number_leads : (number : Number) (begin : List ℕ) → IsNumberOf (λ (d : Decimal). d ≡ number.number) text begin → (with_number seen number).reads begin next middle → After seen found text rest
  unfolding with_number ◌>>=◌ give count_of
  number_leads number begin spelled r =
      let o = once_is seen.limit number.place begin r.middle seen r.front r.front_reads in
      let count = r.back_reads in
      let at : middle ≡ begin = count.back_reads.1 ∙ count.front_reads.1 ∙ o.2 in
      let said = spelled_to (grammar.out_limit (Some count.front)) at (number_said (means (λ (d : Decimal) same. subst (λ (n : Decimal). IsCount n count.front) (sym same) count.front_reads.0) spelled)) in
      let left : Left seen.mode seen.ordered (Some count.front) found middle rest = subst (λ (x : OutOptions). After x found middle rest) count.back_reads.0 more in
      subst (λ (x : Option ℕ). Left seen.mode seen.ordered x found text rest) (sym o.0)
      (both left.middle (third_of_three (λ here after none. subst (λ (n : Option ℕ). grammar.out_limit n text middle) (sym none.0) said) (λ here after none. none.1) left.front) left.back)

-- a round that is followed by others, and the last
next_round : (seen next found : OutOptions) (text middle rest : List ℕ) → (out_round seen).reads text (More next) middle → After next found middle rest → After seen found text rest
unfolding out_round ◌>>=◌ choose give refuse next_token unexpected with_word by_case
next_round seen next found text middle rest r more = elim r.back_reads [
  | inl it ↦ (let word = it.1 in let with = word.back_reads in let is : next ≡ with.front = (let e = with.back_reads.0 in cc) in
      word_leads seen next found text middle rest more (word.front).place (word.front).word word.middle (out_word (word.front).word) refl
      (record { next = r.front; place = r.middle; word = (word.front).word; at = r.front_reads; is = it.0; run = word_split r.front word.front word.front_reads; means = refl })
      (same_reads (out_word_at seen (word.front).place (out_word (word.front).word)) is with.back_reads.1 with.front_reads))
  | inr it ↦ elim it.1 [
    | inl it ↦ (let number = it.1 in let with = number.back_reads in let is : next ≡ with.front = (let e = with.back_reads.0 in cc) in
        number_leads seen next found text middle rest more number.front number.middle (number_at_split r.front number.front r.front_reads it.0 number.front_reads)
        (same_reads (with_number seen number.front) is with.back_reads.1 with.front_reads))
    | inr it ↦ elim it.1 [
      | inl other ↦ absurd other.1
      | inr it ↦ elim it.1 [ inl end ↦ (let bad : More next ≡ Done seen = end.1.0 in absurd (cc)) | inr other ↦ absurd other.1 ]
    ]
  ]
]

last_round : (seen found : OutOptions) (text rest : List ℕ) → (out_round seen).reads text (Done found) rest → After seen found text rest
unfolding out_round ◌>>=◌ choose give refuse next_token unexpected
last_round seen found text rest r = elim r.back_reads [
  | inl it ↦ (let word = it.1 in let with = word.back_reads in let bad : Done found ≡ More with.front = with.back_reads.0 in absurd (cc))
  | inr it ↦ elim it.1 [
    | inl it ↦ (let number = it.1 in let with = number.back_reads in let bad : Done found ≡ More with.front = with.back_reads.0 in absurd (cc))
    | inr it ↦ elim it.1 [
      | inl other ↦ absurd other.1
      | inr it ↦ elim it.1 [
        | inl end ↦ (let is : found ≡ seen = (let e = end.1.0 in cc) in
            subst (λ (x : OutOptions). After seen x text rest) (sym is)
            (both text (inl (both text (mode_done seen.mode text) (both text (order_done seen.ordered text) (limit_done seen.limit text)))) (said_at (at_rest end.1.1 r.front_reads) end.0)))
        | inr other ↦ absurd other.1
      ]
    ]
  ]
]

rounds_sound : (found : OutOptions) (rest : List ℕ) (seen : OutOptions) (text : List ℕ) → RoundsRead out_round found rest seen text → After seen found text rest
rounds_sound found rest _ _ (Last seen text r) = last_round seen found text rest r
rounds_sound found rest _ _ (rounds.Next seen next text middle r more) = next_round seen next found text middle rest r (rounds_sound found rest next middle more)

abbrev state : Option OutMode → Bool → Option ℕ → OutOptions
state mode ordered most = record { mode = mode; ordered = ordered; limit = most }

pub out_sound : (found : OutOptions) (text rest : List ℕ) → out_options.reads text found rest → Both (grammar.out_options (unwrap_or found.mode modes.Body) found.limit) (says ";") text rest
unfolding out_options repeat
out_sound found text rest r = rounds_sound found rest (state None false None) text r

-- how what is spelled is read
pub reads_count : (place : List ℕ) {text : List ℕ} {number : Decimal} {value : ℕ} → IsCount number value → Reading (count_of number place) text value text
unfolding count_of
reads_count place is = record { reads = (is, refl) }

word_option : (seen next : OutOptions) (case : OutWord) {text rest : List ℕ} → (w : IsWordOf (λ (word : List ℕ). out_word word ≡ case) text rest) → Reading (out_word_at seen (w.next).place case) rest next rest → Reading (out_round seen) text (More next) rest
unfolding out_round with_word
word_option seen next case {text = text} w more = reads_then _ (reads_token (alike text) w.at) (reads_yes _ w.is (reads_then _ (reads_word_at w.next w.run) (reads_then _ (reads_case _ w.means more) reads_give)))

number_option : (mode : Option OutMode) (ordered : Bool) (most : ℕ) {text rest : List ℕ} → IsNumberOf (λ (d : Decimal). IsCount d most) text rest → Reading (out_round (state mode ordered None)) text (More (state mode ordered (Some most))) rest
unfolding out_round with_number
number_option mode ordered most {text = text} n =
    reads_then _ (reads_token (alike text) n.at) (reads_no _ (word_is_no_number (n.next).kind n.begins) (reads_yes _ n.begins
    (reads_then _ (reads_number_at n.next n.spelled) (reads_then _ (reads_then _ reads_give (reads_then _ (reads_count _ n.means) reads_give)) reads_give))))

end_option : (seen : OutOptions) {text rest : List ℕ} → IsPunctuation kinds.Semicolon text rest → Reading (out_round seen) text (Done seen) rest
unfolding out_round
end_option seen {text = text} s = reads_then _ (reads_token (alike text) s.at)
    (reads_no _ (other_kind s.is (λ e. cc)) (reads_no _ (λ begins. (let bad : begins_number kinds.Semicolon ≡ true = subst (λ (x : TokenKind). begins_number x ≡ true) s.is begins in cc)) (reads_no _ (other_kind s.is (λ e. cc)) (reads_yes _ s.is reads_give))))

-- the options from a state on, and the `;`
pub record Outs (mode : OutMode) (most : Option ℕ) (seen : OutOptions) (text rest : List ℕ) : Type 0 where
  pub found : OutOptions
  pub mode_is : unwrap_or found.mode modes.Body ≡ mode
  pub most_is : found.limit ≡ most
  pub rounds : RoundsRead out_round found rest seen text

module _ (mode : OutMode) (most : Option ℕ) where
  one_more : (seen next : OutOptions) {text middle rest : List ℕ} → Reading (out_round seen) text (More next) middle → Outs mode most next middle rest → Outs mode most seen text rest
  one_more seen next {text = text} {middle = middle} round o = record { found = o.found; mode_is = o.mode_is; most_is = o.most_is; rounds = rounds.Next seen next text middle round.reads o.rounds }

  none_more : (seen : Option OutMode) (ordered : Bool) {text rest : List ℕ} → unwrap_or seen modes.Body ≡ mode → says ";" text rest → Outs mode most (state seen ordered most) text rest
  none_more seen ordered {text = text} is end = record { found = state seen ordered most; mode_is = is; most_is = refl; rounds = Last (state seen ordered most) text (end_option (state seen ordered most) (token kinds.Semicolon end refl refl)).reads }

  then_mode : (ordered : Bool) (limit : Option ℕ) {text middle rest : List ℕ} → grammar.out_mode mode text middle → ((seen : Option OutMode) → unwrap_or seen modes.Body ≡ mode → Outs mode most (state seen ordered limit) middle rest) → Outs mode most (state None ordered limit) text rest
  then_mode ordered limit (inl w) more = one_more (state None ordered limit) (state (Some mode) ordered limit) (word_option (state None ordered limit) (state (Some mode) ordered limit) (words.Mode mode) (mode_token mode w) reads_give) (more (Some mode) refl)
  then_mode ordered limit {rest = rest} (inr default) more = subst (λ (t : List ℕ). Outs mode most (state None ordered limit) t rest) default.1 (more None (sym default.0))

  then_order : (seen : Option OutMode) (limit : Option ℕ) {text middle rest : List ℕ} → grammar.out_order text middle → ((ordered : Bool) → Outs mode most (state seen ordered limit) middle rest) → Outs mode most (state seen false limit) text rest
  then_order seen limit (inl asc) more = one_more (state seen false limit) (state seen true limit) (word_option (state seen false limit) (state seen true limit) words.Order (asc_token asc) reads_give) (more true)
  then_order seen limit (inr (inl qt)) more = one_more (state seen false limit) (state seen true limit) (word_option (state seen false limit) (state seen true limit) words.Order (qt_token qt) reads_give) (more true)
  then_order seen limit {rest = rest} (inr (inr none)) more = subst (λ (t : List ℕ). Outs mode most (state seen false limit) t rest) none (more false)

then_limit : (mode : OutMode) (most : Option ℕ) (seen : Option OutMode) (ordered : Bool) {text middle rest : List ℕ} → grammar.out_limit most text middle → Outs mode most (state seen ordered most) middle rest → Outs mode most (state seen ordered None) text rest
then_limit mode None seen ordered {rest = rest} none more = subst (λ (t : List ℕ). Outs mode None (state seen ordered None) t rest) none more
then_limit mode (Some most) seen ordered n more = one_more mode (Some most) (state seen ordered None) (state seen ordered (Some most)) (number_option seen ordered most (number_token n)) more

module _ (mode : OutMode) (most : Option ℕ) where
  in_order : {text middle rest : List ℕ} → grammar.out_options mode most text middle → says ";" middle rest → Outs mode most (state None false None) text rest
  in_order (inl it) end = then_mode mode most false None it.front (λ m is. then_order mode most m None (it.back).front (λ b. then_limit mode most m b (it.back).back (none_more mode most m b is end)))
  in_order (inr (inl it)) end = then_mode mode most false None it.front (λ m is. then_limit mode most m false (it.back).front (then_order mode most m most (it.back).back (λ b. none_more mode most m b is end)))
  in_order (inr (inr (inl it))) end = then_order mode most None None it.front (λ b. then_mode mode most b None (it.back).front (λ m is. then_limit mode most m b (it.back).back (none_more mode most m b is end)))
  in_order (inr (inr (inr (inl it)))) end = then_order mode most None None it.front (λ b. then_limit mode most None b (it.back).front (then_mode mode most b most (it.back).back (λ m is. none_more mode most m b is end)))
  in_order (inr (inr (inr (inr (inl it))))) end = then_limit mode most None false it.front (then_mode mode most false most (it.back).front (λ m is. then_order mode most m most (it.back).back (λ b. none_more mode most m b is end)))
  in_order (inr (inr (inr (inr (inr it))))) end = then_limit mode most None false it.front (then_order mode most None most (it.back).front (λ b. then_mode mode most b most (it.back).back (λ m is. none_more mode most m b is end)))

  pub reads_out : {text middle rest : List ℕ} → grammar.out_options mode most text middle → says ";" middle rest → Outs mode most (state None false None) text rest
  reads_out spelled end = in_order spelled end

pub out_reading : {mode : OutMode} {most : Option ℕ} {text rest : List ℕ} → (o : Outs mode most (state None false None) text rest) → Reading out_options text o.found rest
unfolding out_options repeat
out_reading o = record { reads = o.rounds }
