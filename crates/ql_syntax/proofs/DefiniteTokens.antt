-- Tokens have one outcome at most.
use Rattle.std.proofs.Common.{◌≡◌, ℕ, pos, List, drop, sym, ◌∙◌, ap}
use Rattle.osm_model.specs.Degrees.{Decimal}
use Rattle.ql_syntax.specs.Areas.{Corners, area}
use Rattle.ql_syntax.specs.Gaps.{After, Open}
use Rattle.ql_syntax.specs.TokenRules.{Next, At, next_token, pass, run_here, word_at, a_word, number_here, number_at, a_number, text_here, name_after, a_name, into}
use Rattle.ql_syntax.specs.TokenKinds.{token_kind_at, punctuation_len}
use Rattle.ql_syntax.specs.WholeNumbers.{id_of, count_of}
use Rattle.ql_syntax.specs.declared.token_kind.TokenKind.{TokenKind}
use Rattle.ql_syntax.specs.declared.token_kind.TokenKind.TheVariants as kinds
use Rattle.ql_syntax.proofs.DefiniteLemmas.{Definite, definite_give, definite_unexpected, definite_from, definite_choose, definite_then}
use Rattle.ql_syntax.proofs.QuotedLaws.{one_text, text_or_not, one_no_text}
use Rattle.ql_syntax.proofs.TokenLaws.{one_run, one_name, name_or_not, one_no_name, one_number, number_or_not, one_no_number}

one_place : (text : List ℕ) (v w : Next) (r s : List ℕ) → At text v r → At text w s → (v ≡ w) × (r ≡ s)
one_place text v w r s x y =
    let ends : After v.place ≡ After w.place = sym x.after_gap ∙ y.after_gap in
    let place : v.place ≡ w.place = cc in
    let kind : v.kind ≡ w.kind = x.kind_is ∙ ap token_kind_at place ∙ sym y.kind_is in
    let rest : r ≡ s = x.rest_is ∙ ap (λ (n : ℕ). drop n v.place) (ap punctuation_len kind) ∙ ap (λ (z : List ℕ). drop (punctuation_len w.kind) z) place ∙ sym y.rest_is in
    (ap (λ (k : TokenKind). let n : Next = record { kind = k; place = v.place } in n) kind ∙ ap (λ (z : List ℕ). let n : Next = record { kind = w.kind; place = z } in n) place, rest)

pub definite_token : Definite next_token
unfolding next_token
definite_token = record {
  one = one_place;
  never = λ text v r c p x y. (let bad : After v.place ≡ Open p = sym x.after_gap ∙ y.1 in cc);
  fault = λ text c d p q x y. (x.0 ∙ sym y.0, (let same : Open p ≡ Open q = sym x.1 ∙ y.1 in cc));
}

pub definite_run : Definite run_here
unfolding run_here
definite_run = record { one = λ text v w r s x y. one_run text v w r s x y; never = λ text v r c p x y. y; fault = λ text c d p q x y. absurd x }

pub definite_name_after : (dot : Next) → Definite (name_after dot)
unfolding name_after
definite_name_after dot = record {
  one = λ text v w r s x y. one_name text v w r s x y;
  never = λ text v r c p x y. name_or_not dot.place text v r c p x y;
  fault = λ text c d p q x y. one_no_name dot.place text c d p q x y;
}

definite_number_here : Definite number_here
unfolding number_here
definite_number_here = record {
  one = λ text v w r s x y. one_number text v w r s x y;
  never = λ text v r c p x y. number_or_not text v r c p x y;
  fault = λ text c d p q x y. one_no_number text c d p q x y;
}

pub definite_text : Definite text_here
unfolding text_here
definite_text = record {
  one = λ text v w r s x y. one_text text v w r s x y;
  never = λ text v r c p x y. text_or_not text v r c p x y;
  fault = λ text c d p q x y. one_no_text text c d p q x y;
}

pub definite_pass : (kind : TokenKind) → Definite (pass kind)
unfolding pass
definite_pass kind = definite_then _ definite_token (λ next. definite_choose _ (definite_give tt) (definite_unexpected next))

pub definite_word_at : (next : Next) → Definite (word_at next)
unfolding word_at
definite_word_at next = definite_then _ definite_run (λ word. definite_give _)

pub definite_word : Definite a_word
unfolding a_word
definite_word = definite_then _ definite_token (λ next. definite_choose _ (definite_word_at next) (definite_unexpected next))

pub definite_number_at : (next : Next) → Definite (number_at next)
unfolding number_at
definite_number_at next = definite_then _ (definite_from next.place definite_number_here) (λ number. definite_give _)

pub definite_number : Definite a_number
unfolding a_number
definite_number = definite_then _ definite_token (λ next. definite_choose _ (definite_number_at next) (definite_unexpected next))

pub definite_name : Definite a_name
unfolding a_name
definite_name = definite_then _ definite_token (λ next. definite_choose _ (definite_name_after next) (definite_unexpected next))

pub definite_into : Definite into
unfolding into
definite_into = definite_then _ definite_token (λ next. definite_choose _ (definite_then _ definite_name (λ name. definite_then _ (definite_pass kinds.Semicolon) (λ end. definite_give _)))
    (definite_choose _ (definite_give _) (definite_unexpected next)))

-- the value of a number
pub definite_id : (number : Decimal) (place : List ℕ) → Definite (id_of number place)
unfolding id_of
definite_id number place = record {
  one = λ text v w r s x y. (sym ((x.0).0).value_is ∙ ((y.0).0).value_is, x.1 ∙ sym y.1);
  never = λ text v r c p x y. y.0 v x.0;
  fault = λ text c d p q x y. (x.1 ∙ sym y.1, x.2 ∙ sym y.2);
}

same_count : (v w : ℕ) → pos v ≡ pos w → v ≡ w
same_count v w e = cc

pub definite_count : (number : Decimal) (place : List ℕ) → Definite (count_of number place)
unfolding count_of
definite_count number place = record {
  one = λ text v w r s x y. (same_count v w (sym ((x.0).0).value_is ∙ ((y.0).0).value_is), x.1 ∙ sym y.1);
  never = λ text v r c p x y. y.0 v x.0;
  fault = λ text c d p q x y. (x.1 ∙ sym y.1, x.2 ∙ sym y.2);
}

pub definite_area : (corners : Corners) (place : List ℕ) → Definite (area corners place)
unfolding area
definite_area corners place = record {
  one = λ text v w r s x y. (x.1 ∙ sym y.1, x.2 ∙ sym y.2);
  never = λ text v r c p x y. y.0 x.0;
  fault = λ text c d p q x y. (x.1 ∙ sym y.1, x.2 ∙ sym y.2);
}
