-- At a place stands one token at most, or one fault.
use Rattle.std.proofs.Common.{◌≡◌, ℕ, ◌<◌, ◌&&◌, List, [], ◌∷◌, ◌++◌, Bool, true, false, Option, Some, None, refl, sym, ◌∙◌, ap, subst, arith, append_assoc, lit≤}
use Rattle.std.specs.Char.{digit_value}
use Rattle.std.specs.List.{list_all}
use Rattle.byte_io.specs.Digits.{BeginsOtherwise}
use Rattle.osm_model.specs.Degrees.{Decimal, IsDigits, IsFraction, sign, point}
use Rattle.osm_model.proofs.shared.Digits.{same_front}
use Rattle.ql_syntax.specs.declared.cause.QlCause.{QlCause}
use Rattle.ql_syntax.specs.Words.{IsRun, IsWord, IsName, IsNoName, begins_with, is_run_byte, is_word_start}
use Rattle.ql_syntax.specs.Numbers.{IsNumber, IsNoNumber, IsMisfit, is_minus}

pub passes : (p q : Bool) → (p && q) ≡ true → p ≡ true
passes true q e = refl
passes false q e = cc

pub further : (p q : Bool) → (p && q) ≡ true → q ≡ true
further true q e = e
further false q e = cc

ends : (test : ℕ → Bool) (x : ℕ) (xs ys : List ℕ) → test x ≡ true → begins_with test ys ≡ false → x ∷ xs ≡ ys → ⊥
ends test x xs [] p q e = cc
ends test x xs (y ∷ ys) p q e = let same : x ≡ y = cc in let bad : true ≡ false = sym p ∙ ap test same ∙ q in cc

-- two parts of a list, of which the first passes a test and the second begins otherwise
same_span : (test : ℕ → Bool) (v w s t : List ℕ) → list_all test v ≡ true → list_all test w ≡ true → begins_with test s ≡ false → begins_with test t ≡ false
    → v ++ s ≡ w ++ t → (v ≡ w) × (s ≡ t)
same_span test [] [] s t a b c d e = (refl, e)
same_span test (x ∷ v) [] s t a b c d e = absurd (ends test x (v ++ s) t (passes (test x) (list_all test v) a) d e)
same_span test [] (y ∷ w) s t a b c d e = absurd (ends test y (w ++ t) s (passes (test y) (list_all test w) b) c (sym e))
same_span test (x ∷ v) (y ∷ w) s t a b c d e =
    let head : x ≡ y = cc in
    let tail : v ++ s ≡ w ++ t = cc in
    let r = same_span test v w s t (further (test x) (list_all test v) a) (further (test y) (list_all test w) b) c d tail in
    (ap (λ (z : ℕ). z ∷ v) head ∙ ap (λ (z : List ℕ). y ∷ z) r.0, r.1)

-- a run is the longest one
pub one_run : (text run other rest left : List ℕ) → IsRun text run rest → IsRun text other left → (run ≡ other) × (rest ≡ left)
one_run text run other rest left h k = same_span is_run_byte run other rest left h.bytes k.bytes h.longest k.longest (sym h.parts ∙ k.parts)

pub one_name : (after name other rest left : List ℕ) → IsName after name rest → IsName after other left → (name ≡ other) × (rest ≡ left)
one_name after name other rest left h k = one_run after name other rest left h.run k.run

word_starts : (text word rest : List ℕ) → IsWord text word rest → begins_with is_word_start text ≡ true
word_starts text [] rest w = absurd (let e = w.start in cc)
word_starts text (b ∷ word) rest w = ap (λ (s : List ℕ). begins_with is_word_start s) w.run.parts ∙ w.start

pub name_or_not : (dot after name rest : List ℕ) (cause : QlCause) (at : List ℕ) → IsName after name rest → IsNoName dot after cause at → ⊥
name_or_not dot after name rest cause at h k = let bad : true ≡ false = sym (word_starts after name rest h) ∙ k.0 in cc

-- digits don't begin with a sign, nor with what begins otherwise
no_minus : (digits rest more : List ℕ) → IsDigits digits → 45 ∷ rest ≡ digits ++ more → ⊥
no_minus [] rest more d e = d.0 refl
no_minus (x ∷ xs) rest more d e = let same : 45 ≡ x = cc in let small : digit_value x < 10 = d.1.0 in let big : digit_value 45 ≡ digit_value x = ap digit_value same in let it : digit_value 45 ≡ 36 = refl in omega arith

no_digit_first : (digits more other : List ℕ) → IsDigits digits → BeginsOtherwise other → digits ++ more ≡ other → ⊥
no_digit_first [] more other d o e = d.0 refl
no_digit_first (x ∷ xs) more [] d o e = cc
no_digit_first (x ∷ xs) more (y ∷ other) d o e = let same : x ≡ y = cc in let big : digit_value x ≡ digit_value y = ap digit_value same in let small : digit_value x < 10 = d.1.0 in omega (arith, o)

same_signed : (m n : Bool) (v w x y : List ℕ) → IsDigits v → IsDigits w → BeginsOtherwise x → BeginsOtherwise y → sign m ++ (v ++ x) ≡ sign n ++ (w ++ y) → (m ≡ n) × (v ≡ w) × (x ≡ y)
same_signed false false v w x y dv dw ox oy e = let r = same_front v w x y dv.1 dw.1 ox oy e in (refl, r.0, r.1)
same_signed true true v w x y dv dw ox oy e = let tail : v ++ x ≡ w ++ y = cc in let r = same_front v w x y dv.1 dw.1 ox oy tail in (refl, r.0, r.1)
same_signed true false v w x y dv dw ox oy e = absurd (no_minus w (v ++ x) y dw e)
same_signed false true v w x y dv dw ox oy e = absurd (no_minus v (w ++ y) x dv (sym e))

after_whole : (f : Option (List ℕ)) (rest : List ℕ) → BeginsOtherwise rest → BeginsOtherwise (point f ++ rest)
after_whole None rest other = other
after_whole (Some digits) rest other = lit≤ tt

same_point : (f g : Option (List ℕ)) (s t : List ℕ) → IsFraction f → IsFraction g → BeginsOtherwise s → BeginsOtherwise t
    → (f ≡ None → (after : List ℕ) → s ≡ 46 ∷ after → BeginsOtherwise after) → (g ≡ None → (after : List ℕ) → t ≡ 46 ∷ after → BeginsOtherwise after) → point f ++ s ≡ point g ++ t → (f ≡ g) × (s ≡ t)
same_point None None s t a b os ot ps pt e = (refl, e)
same_point None (Some b) s t x y os ot ps pt e = absurd (no_digit_first b t (b ++ t) y (ps refl (b ++ t) e) refl)
same_point (Some a) None s t x y os ot ps pt e = absurd (no_digit_first a s (a ++ s) x (pt refl (a ++ s) (sym e)) refl)
same_point (Some a) (Some b) s t x y os ot ps pt e =
    let tail : a ++ s ≡ b ++ t = cc in
    let r = same_front a b s t x.1 y.1 os ot tail in
    (ap (λ (z : List ℕ). Some z) r.0, r.1)

parts_of : (text : List ℕ) (d : Decimal) (rest : List ℕ) → IsNumber text d rest → text ≡ sign d.negative ++ (d.whole ++ (point d.fraction ++ rest))
parts_of text d rest h = h.parts ∙ append_assoc (sign d.negative) (d.whole ++ point d.fraction) rest ∙ ap (λ (x : List ℕ). sign d.negative ++ x) (append_assoc d.whole (point d.fraction) rest)

pub one_number : (text : List ℕ) (d e : Decimal) (s t : List ℕ) → IsNumber text d s → IsNumber text e t → (d ≡ e) × (s ≡ t)
one_number text d e s t h k =
    let r = same_signed d.negative e.negative d.whole e.whole (point d.fraction ++ s) (point e.fraction ++ t) h.decimal.whole k.decimal.whole
    (after_whole d.fraction s h.longest) (after_whole e.fraction t k.longest) (sym (parts_of text d s h) ∙ parts_of text e t k) in
    let q = same_point d.fraction e.fraction s t h.decimal.fraction k.decimal.fraction h.longest k.longest h.lone_point k.lone_point r.2 in
    let f : Bool → Decimal = λ x. record { negative = x; whole = d.whole; fraction = d.fraction } in
    let g : List ℕ → Decimal = λ x. record { negative = e.negative; whole = x; fraction = d.fraction } in
    let l : Option (List ℕ) → Decimal = λ x. record { negative = e.negative; whole = e.whole; fraction = x } in
    (ap f r.0 ∙ (ap g r.1 ∙ ap l q.0), q.1)

no_digit_here : (m n : Bool) (v x place : List ℕ) → IsDigits v → BeginsOtherwise place → (n ≡ false → begins_with is_minus place ≡ false) → sign m ++ (v ++ x) ≡ sign n ++ place → ⊥
no_digit_here true true v x place d o none e = let tail : v ++ x ≡ place = cc in no_digit_first v x place d o tail
no_digit_here false false v x place d o none e = no_digit_first v x place d o e
no_digit_here true false v x place d o none e = let bad : false ≡ true = sym (none refl) ∙ ap (λ (s : List ℕ). begins_with is_minus s) (sym e) in cc
no_digit_here false true v x place d o none e = no_minus v place x d (sym e)

pub number_or_not : (text : List ℕ) (d : Decimal) (rest : List ℕ) (cause : QlCause) (at : List ℕ) → IsNumber text d rest → IsNoNumber text cause at → ⊥
number_or_not text d rest cause at h k =
    no_digit_here d.negative k.negative d.whole (point d.fraction ++ rest) at h.decimal.whole k.no_digit k.no_minus (sym (parts_of text d rest h) ∙ k.parts)

-- one fault at most
pub one_no_name : (dot after : List ℕ) (c d : QlCause) (p q : List ℕ) → IsNoName dot after c p → IsNoName dot after d q → (c ≡ d) × (p ≡ q)
one_no_name dot [] c d p q h k = (h.1.0 ∙ sym k.1.0, h.1.1 ∙ sym k.1.1)
one_no_name dot (b ∷ after) c d p q h k = (h.1.0 ∙ sym k.1.0, h.1.1 ∙ sym k.1.1)

same_misfit : (place : List ℕ) (c d : QlCause) → IsMisfit place c → IsMisfit place d → c ≡ d
same_misfit [] c d h k = h ∙ sym k
same_misfit (b ∷ place) c d h k = h ∙ sym k

after_sign : (m n : Bool) (p q : List ℕ) → (m ≡ false → begins_with is_minus p ≡ false) → (n ≡ false → begins_with is_minus q ≡ false) → sign m ++ p ≡ sign n ++ q → p ≡ q
after_sign true true p q mp nq e = cc
after_sign false false p q mp nq e = e
after_sign true false p q mp nq e = let bad : false ≡ true = sym (nq refl) ∙ ap (λ (s : List ℕ). begins_with is_minus s) (sym e) in cc
after_sign false true p q mp nq e = let bad : false ≡ true = sym (mp refl) ∙ ap (λ (s : List ℕ). begins_with is_minus s) e in cc

pub one_no_number : (text : List ℕ) (c d : QlCause) (p q : List ℕ) → IsNoNumber text c p → IsNoNumber text d q → (c ≡ d) × (p ≡ q)
one_no_number text c d p q h k =
    let same = after_sign h.negative k.negative p q h.no_minus k.no_minus (sym h.parts ∙ k.parts) in
    (same_misfit p c d h.misfit (subst (λ (s : List ℕ). IsMisfit s d) (sym same) k.misfit), same)
