-- A line feed after the last token of JSON changes nothing.
use Rattle.std.proofs.Common.{◌≡◌, ℕ, Bool, true, false, cond, ◌&&◌, List, [], ◌∷◌, ◌++◌, map, inl, inr, refl, sym, ap, ap₂, ◌∙◌, append_assoc}
use Rattle.json.specs.Lex.{Lexeme, between, colon, comma, fresh, lex, punctuate, string_token, token, tokens}
use Rattle.json.specs.Print.{ArePrintable, IsPrintable, begins, ends, escape, quoted, separator, token_text}
use Rattle.json.specs.Spaced.{AreGaps, IsGap, print_spaced}
use Rattle.json.specs.Token.{Token, bad, begin_array, begin_object, boolean, end_array, end_object, key, null, number, string}
use Rattle.json.specs.Word.{ends_word, word}
use Rattle.json.proofs.Printed.Numbers.{in_word-ended, lex-number}
use Rattle.json.proofs.Printed.Strings.{content-escape, lex-escape}

abbrev token_lexemes : Token → List Lexeme
token_lexemes begin_object = token begin_object ∷ []
token_lexemes end_object = token end_object ∷ []
token_lexemes begin_array = token begin_array ∷ []
token_lexemes end_array = token end_array ∷ []
token_lexemes (key s) = token (string s) ∷ colon ∷ []
token_lexemes (string s) = token (string s) ∷ []
token_lexemes (number s) = token (number s) ∷ []
token_lexemes (boolean b) = token (boolean b) ∷ []
token_lexemes null = token null ∷ []
token_lexemes bad = []

lex-quoted : (s r : List ℕ) → lex between (quoted s ++ r) ≡ token (string s) ∷ lex between r
unfolding lex
lex-quoted s r =
    let e = append_assoc (escape s) (34 ∷ []) r in
    ap (λ l. lex between (34 ∷ l)) e ∙ ap₂ (λ o l. token (string_token o) ∷ l) (content-escape s r) (lex-escape s r)

lex-token_text : (t : Token) (r : List ℕ) → IsPrintable t → (ends t ≡ true → ends_word r ≡ true) → lex between (token_text t ++ r) ≡ token_lexemes t ++ lex between r
unfolding lex word
lex-token_text begin_object r h ended = refl
lex-token_text end_object r h ended = refl
lex-token_text begin_array r h ended = refl
lex-token_text end_array r h ended = refl
lex-token_text (key s) r h ended = ap (lex between) (append_assoc (quoted s) (58 ∷ []) r) ∙ lex-quoted s (58 ∷ r)
lex-token_text (string s) r h ended = lex-quoted s r
lex-token_text (number s) r h ended = lex-number s r h (ended refl)
lex-token_text (boolean true) r h ended = ap₂ (λ b l. token (cond b (boolean true) bad) ∷ l) (ended refl) (in_word-ended r (ended refl))
lex-token_text (boolean false) r h ended = ap₂ (λ b l. token (cond b (boolean false) bad) ∷ l) (ended refl) (in_word-ended r (ended refl))
lex-token_text null r h ended = ap₂ (λ b l. token (cond b null bad) ∷ l) (ended refl) (in_word-ended r (ended refl))
lex-token_text bad r h ended = absurd h

lex-separator : (b : Bool) (r : List ℕ) → lex between (cond b (44 ∷ []) [] ++ r) ≡ cond b (comma ∷ []) [] ++ lex between r
unfolding lex
lex-separator true r = refl
lex-separator false r = refl

lex-gap : (g r : List ℕ) → IsGap g → lex between (g ++ r) ≡ lex between r
unfolding lex
lex-gap [] r h = refl
lex-gap (x ∷ g) r (inl e, h) = rw e (lex-gap g r h)
lex-gap (x ∷ g) r (inr e, h) = rw e (lex-gap g r h)

gap_ends : (g r : List ℕ) → IsGap g → ends_word r ≡ true → ends_word (g ++ r) ≡ true
gap_ends [] r h e = e
gap_ends (x ∷ g) r (inl is, h) e = rw is
gap_ends (x ∷ g) r (inr is, h) e = rw is

spaced_ends : (ps : List (List ℕ × Token)) → AreGaps ps → ends_word (print_spaced true ps) ≡ true
unfolding print_spaced
spaced_ends [] h = refl
spaced_ends ((g, begin_object) ∷ ps) h = refl
spaced_ends ((g, end_object) ∷ ps) h = gap_ends g _ h.0 refl
spaced_ends ((g, begin_array) ∷ ps) h = refl
spaced_ends ((g, end_array) ∷ ps) h = gap_ends g _ h.0 refl
spaced_ends ((g, key s) ∷ ps) h = refl
spaced_ends ((g, string s) ∷ ps) h = refl
spaced_ends ((g, number s) ∷ ps) h = refl
spaced_ends ((g, boolean b) ∷ ps) h = refl
spaced_ends ((g, null) ∷ ps) h = refl
spaced_ends ((g, bad) ∷ ps) h = refl

-- a line feed ends a word too
more_ends : (r : List ℕ) → ends_word r ≡ true → ends_word (r ++ 10 ∷ []) ≡ true
more_ends [] h = refl
more_ends (x ∷ r) h = h

one_token : (c : Bool) (p : List ℕ × Token) (r : List ℕ) → IsGap p.0 → IsPrintable p.1 → (ends p.1 ≡ true → ends_word r ≡ true)
    → lex between (separator c p.1 ++ (p.0 ++ (token_text p.1 ++ r))) ≡ cond (c && begins p.1) (comma ∷ []) [] ++ (token_lexemes p.1 ++ lex between r)
one_token c p r gap printable ended =
    lex-separator (c && begins p.1) (p.0 ++ (token_text p.1 ++ r))
    ∙ ap (λ ls. cond (c && begins p.1) (comma ∷ []) [] ++ ls) (lex-gap p.0 (token_text p.1 ++ r) gap ∙ lex-token_text p.1 r printable ended)

lex-trailing : (c : Bool) (ps : List (List ℕ × Token)) → AreGaps ps → ArePrintable (map (λ p. p.1) ps) → lex between (print_spaced c ps ++ 10 ∷ []) ≡ lex between (print_spaced c ps)
unfolding lex print_spaced ArePrintable
lex-trailing c [] gaps printable = refl
lex-trailing c (p ∷ ps) gaps printable =
    let t = p.1 in
    let rest = print_spaced (ends t) ps in
    let ended : ends t ≡ true → ends_word rest ≡ true = λ e. ap (λ b. ends_word (print_spaced b ps)) e ∙ spaced_ends ps gaps.1 in
    ap (lex between)
    (append_assoc (separator c t) (p.0 ++ (token_text t ++ rest)) (10 ∷ [])
    ∙ ap (λ l. separator c t ++ l) (append_assoc p.0 (token_text t ++ rest) (10 ∷ []) ∙ ap (λ l. p.0 ++ l) (append_assoc (token_text t) rest (10 ∷ []))))
    ∙ (one_token c p (rest ++ 10 ∷ []) gaps.0 printable.0 (λ e. more_ends rest (ended e))
    ∙ (ap (λ ls. cond (c && begins t) (comma ∷ []) [] ++ (token_lexemes t ++ ls)) (lex-trailing (ends t) ps gaps.1 printable.1)
    ∙ sym (one_token c p rest gaps.0 printable.0 ended)))

pub tokens-trailing : (ps : List (List ℕ × Token)) → AreGaps ps → ArePrintable (map (λ p. p.1) ps) → tokens (print_spaced false ps ++ 10 ∷ []) ≡ tokens (print_spaced false ps)
tokens-trailing ps gaps printable = ap (punctuate fresh) (lex-trailing false ps gaps printable)
