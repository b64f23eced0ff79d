-- Tokens are spelled as rules read them.
use Rattle.std.proofs.Common.{◌≡◌, ℕ, List, [], ◌∷◌, Bool, true, false, cond, ◌==◌, ◌&&◌, refl, sym, ◌∙◌, ap, subst, inl, inr}
use Rattle.ql_syntax.specs.Gaps.{gap, is_blank, Where, Between, InLine, InBlock, GapEnd, After}
use Rattle.ql_syntax.specs.TokenRules.{Next, At, next_token, unexpected, pass, name_after, a_name, into}
use Rattle.ql_syntax.specs.Rules.{Rule, ◌>>=◌, give, refuse, from, choose, by_case}
use Rattle.ql_syntax.specs.Spellings as spelling
use Rattle.ql_syntax.specs.Spellings.{Spelling, Both, AfterGap, BeginsWith, named_set, says}
use Rattle.ql_syntax.proofs.TokenSpellings.{IsPunctuation, said_at, token, text_of, IsSet, set_said, set_token}
use Rattle.ql_syntax.specs.Words.{IsName}
use Rattle.ql_syntax.specs.declared.token_kind.TokenKind.{TokenKind}
use Rattle.ql_syntax.specs.declared.token_kind.TokenKind.TheVariants as kinds

of_two : (P : Type 0) (b : Bool) (x y : GapEnd) (place : List ℕ) → (x ≡ After place → P) → (y ≡ After place → P) → cond b x y ≡ After place → P
of_two P true x y place f g e = f e
of_two P false x y place f g e = g e

-- what is left after a gap begins with none
at_end : (place : List ℕ) → After [] ≡ After place → gap Between place ≡ After place
at_end place e = let same : [] ≡ place = cc in subst (λ (s : List ℕ). gap Between s ≡ After s) same refl

at_place : (s place : List ℕ) → gap Between s ≡ After place → After s ≡ After place → gap Between place ≡ After place
at_place s place e is = let same : s ≡ place = cc in subst (λ (t : List ℕ). gap Between t ≡ After place) same e

no_gap : (w : Where) (text place : List ℕ) → gap w text ≡ After place → gap Between place ≡ After place
no_gap Between [] place e = at_end place e
no_gap Between (a ∷ []) place e = of_two _ (is_blank a) (After []) (After (a ∷ [])) place (λ h. at_end place h) (λ h. at_place (a ∷ []) place e h) e
no_gap Between (a ∷ b ∷ s) place e =
    of_two _ (is_blank a) _ _ place (λ h. no_gap Between (b ∷ s) place h)
    (λ h. of_two _ (a == 47 && b == 47) _ _ place (λ h. no_gap InLine s place h)
    (λ h. of_two _ (a == 47 && b == 42) (gap (InBlock (a ∷ b ∷ s)) s) (After (a ∷ b ∷ s)) place (λ h. no_gap (InBlock (a ∷ b ∷ s)) s place h) (λ h. at_place (a ∷ b ∷ s) place e h) h) h) e
no_gap InLine [] place e = at_end place e
no_gap InLine (a ∷ s) place e = of_two _ (a == 10) (gap Between s) (gap InLine s) place (λ h. no_gap Between s place h) (λ h. no_gap InLine s place h) e
no_gap (InBlock c) [] place e = absurd (cc)
no_gap (InBlock c) (a ∷ []) place e = absurd (cc)
no_gap (InBlock c) (a ∷ b ∷ s) place e = of_two _ (a == 42 && b == 47) (gap Between s) (gap (InBlock c) (b ∷ s)) place (λ h. no_gap Between s place h) (λ h. no_gap (InBlock c) (b ∷ s) place h) e

-- two texts are alike after blanks and comments
pub record Alike (start text : List ℕ) : Type 0 where
  pub same : gap Between start ≡ gap Between text

pub alike : (text : List ℕ) → Alike text text
alike text = record { same = refl }

pub alike_by : {start text : List ℕ} → start ≡ text → Alike start text
alike_by is = record { same = ap (λ (s : List ℕ). gap Between s) is }

pub alike_on : {start middle text : List ℕ} → Alike start middle → Alike middle text → Alike start text
alike_on one other = record { same = one.same ∙ other.same }

pub alike_back : {start text : List ℕ} → Alike start text → Alike text start
alike_back one = record { same = sym one.same }

pub alike_at : {start text rest : List ℕ} {next : Next} → Alike start text → At text next rest → At start next rest
alike_at like at = record { after_gap = like.same ∙ at.after_gap; kind_is = at.kind_is; rest_is = at.rest_is }

-- the text from a token on
pub from_token : {text rest : List ℕ} {next : Next} → At text next rest → Alike next.place text
from_token {text = text} {next = next} at = record { same = no_gap Between text next.place at.after_gap ∙ sym at.after_gap }

pub at_rest : {text rest same : List ℕ} {next : Next} → same ≡ rest → At text next rest → At text next same
at_rest {text = text} {next = next} is at = subst (λ (s : List ℕ). At text next s) (sym is) at

-- one spelling after the other
pub both : {first second : Spelling} {text rest : List ℕ} (middle : List ℕ) → first text middle → second middle rest → Both first second text rest
both middle front back = record { middle = middle; front = front; back = back }

pub spelled_to : (spelled : Spelling) {text rest same : List ℕ} → same ≡ rest → spelled text rest → spelled text same
spelled_to spelled {text = text} is it = subst (λ (s : List ℕ). spelled text s) (sym is) it

-- another sign than this
pub other_kind : {kind this that : TokenKind} → kind ≡ this → (this ≡ that → ⊥) → kind ≡ that → ⊥
other_kind is differ also = differ (sym is ∙ also)

-- how rules read
pub record Reading {A : Type 0} (rule : Rule A) (text : List ℕ) (value : A) (rest : List ℕ) : Type 0 where
  pub reads : rule.reads text value rest

pub reads_then : {A B : Type 0} {first : Rule A} (second : A → Rule B) {text middle rest : List ℕ} {a : A} {value : B} → Reading first text a middle → Reading (second a) middle value rest → Reading (first >>= second) text value rest
unfolding ◌>>=◌
reads_then second {middle = middle} {a = a} front back = record { reads = record { front = a; middle = middle; front_reads = front.reads; back_reads = back.reads } }

pub reads_give : {A : Type 0} {value : A} {text : List ℕ} → Reading (give value) text value text
unfolding give
reads_give = record { reads = (refl, refl) }

pub reads_as : {A : Type 0} {value same : A} {text : List ℕ} → same ≡ value → Reading (give value) text same text
unfolding give
reads_as is = record { reads = (is, refl) }

pub reads_yes : {A : Type 0} {holds : Type 0} {first : Rule A} (other : Rule A) {text rest : List ℕ} {value : A} → holds → Reading first text value rest → Reading (choose holds first other) text value rest
unfolding choose
reads_yes other is reading = record { reads = inl (is, reading.reads) }

pub reads_no : {A : Type 0} {holds : Type 0} (first : Rule A) {other : Rule A} {text rest : List ℕ} {value : A} → (holds → ⊥) → Reading other text value rest → Reading (choose holds first other) text value rest
unfolding choose
reads_no first not reading = record { reads = inr (not, reading.reads) }

pub reads_from : {A : Type 0} {rule : Rule A} {start : List ℕ} (text : List ℕ) {rest : List ℕ} {value : A} → Reading rule start value rest → Reading (from start rule) text value rest
unfolding from
reads_from text reading = record { reads = reading.reads }

pub reads_case : {K A : Type 0} {actual case : K} (rule : K → Rule A) {text rest : List ℕ} {value : A} → actual ≡ case → Reading (rule case) text value rest → Reading (by_case actual rule) text value rest
unfolding by_case
reads_case rule {text = text} {rest = rest} {value = value} is reading = record { reads = subst (λ (k : _). (rule k).reads text value rest) (sym is) reading.reads }

pub reads_token : {start text rest : List ℕ} {next : Next} → Alike start text → At text next rest → Reading next_token start next rest
unfolding next_token
reads_token like at = record { reads = alike_at like at }

-- punctuation
pub pass_sound : {start text rest : List ℕ} {value : Unit {0}} (kind : TokenKind) → Alike text start → Reading (pass kind) start value rest → AfterGap (BeginsWith (text_of kind)) text rest
unfolding pass ◌>>=◌ choose give next_token unexpected refuse
pass_sound kind like reading = let r = reading.reads in elim r.back_reads [
  | inl it ↦ said_at (at_rest it.1.1 (alike_at like r.front_reads)) it.0
  | inr other ↦ absurd other.1
]

pub reads_punctuation : {start text rest : List ℕ} {kind : TokenKind} → Alike start text → IsPunctuation kind text rest → Reading (pass kind) start tt rest
unfolding pass
reads_punctuation like spelled = reads_then _ (reads_token like spelled.at) (reads_yes _ spelled.is reads_give)

-- the name of a set
pub name_sound : {start text name rest : List ℕ} → Alike text start → Reading a_name start name rest → named_set name text rest
unfolding a_name ◌>>=◌ choose next_token name_after unexpected refuse
name_sound like reading = let r = reading.reads in elim r.back_reads [
  | inl it ↦ set_said (record { next = r.front; place = r.middle; at = alike_at like r.front_reads; is = it.0; name_is = it.1 })
  | inr other ↦ absurd other.1
]

pub reads_name_after : {name rest place : List ℕ} (next : Next) → IsName place name rest → Reading (name_after next) place name rest
unfolding name_after
reads_name_after next is = record { reads = is }

pub reads_name : {start text name rest : List ℕ} → Alike start text → IsSet name text rest → Reading a_name start name rest
unfolding a_name
reads_name like spelled = reads_then _ (reads_token like spelled.at) (reads_yes _ spelled.is (reads_name_after _ spelled.name_is))

-- the set that a statement writes to
into_split : {start text set rest : List ℕ} → Alike text start → into.reads start set rest → spelling.into set text rest
unfolding into ◌>>=◌ choose give next_token unexpected refuse
into_split {text = text} {set = set} {rest = rest} like r = elim r.back_reads [
  | inl it ↦ (let named = it.1 in let closed = named.back_reads in let is = closed.back_reads in
      inl (both r.middle (said_at (alike_at like r.front_reads) it.0)
      (both named.middle (subst (λ (name : List ℕ). named_set name r.middle named.middle) (sym is.0) (name_sound (alike _) (record { reads = named.front_reads })))
      (spelled_to (says ";") is.1 (pass_sound kinds.Semicolon (alike _) (record { reads = closed.front_reads }))))))
  | inr it ↦ elim it.1 [
    | inl end ↦ inr (both text (end.1.0, refl) (said_at (at_rest end.1.1 (alike_at like r.front_reads)) end.0))
    | inr other ↦ absurd other.1
  ]
]

pub into_sound : {start text set rest : List ℕ} → Alike text start → Reading into start set rest → spelling.into set text rest
into_sound like reading = into_split like reading.reads

pub reads_into : {start text : List ℕ} (set : List ℕ) {rest : List ℕ} → Alike start text → spelling.into set text rest → Reading into start set rest
unfolding into
reads_into set like (inl named) =
    let arrow = token kinds.Arrow named.front refl refl in
    let rest = named.back in
    reads_then _ (reads_token like arrow.at) (reads_yes _ arrow.is
    (reads_then _ (reads_name (alike _) (set_token rest.front)) (reads_then _ (reads_punctuation (alike _) (token kinds.Semicolon rest.back refl refl)) reads_give)))
reads_into set like (inr default) =
    let end = token kinds.Semicolon default.back refl refl in
    reads_then _ (reads_token (alike_on like (alike_back (alike_by (default.front).1))) end.at)
    (reads_no _ (other_kind end.is (λ e. cc)) (reads_yes _ end.is (reads_as (default.front).0)))

-- rules that begin with a token read alike texts alike
pub record Shifts {A : Type 0} (rule : Rule A) : Type 0 where
  pub shift : (start text : List ℕ) (value : A) (rest : List ℕ) → Alike text start → rule.reads start value rest → rule.reads text value rest

pub shifts_token : Shifts next_token
unfolding next_token
shifts_token = record { shift = λ start text value rest like reads. alike_at like reads }

pub shifts_then : {A B : Type 0} {first : Rule A} (second : A → Rule B) → Shifts first → Shifts (first >>= second)
unfolding ◌>>=◌
shifts_then second f = record { shift = λ start text value rest like r. record { front = r.front; middle = r.middle; front_reads = f.shift start text r.front r.middle like r.front_reads; back_reads = r.back_reads } }

-- what the set begins with that a statement writes to
pub into_first : {P : Type 0} {set text rest : List ℕ} → spelling.into set text rest → ((after : List ℕ) → IsPunctuation kinds.Arrow text after → P) → ((after : List ℕ) → IsPunctuation kinds.Semicolon text after → P) → P
into_first {text = text} {rest = rest} (inl named) arrow semicolon = arrow named.middle (token kinds.Arrow named.front refl refl)
into_first {text = text} {rest = rest} (inr default) arrow semicolon = semicolon rest (token kinds.Semicolon (subst (λ (s : List ℕ). says ";" s rest) (default.front).1 default.back) refl refl)
