-- What the bytes of a connection ask doesn't depend on how they are cut.
use Rattle.std.proofs.Common.{◌≡◌, ◌∙◌, ◌≤◌, ℕ, Bool, true, false, List, [], ◌∷◌, ◌++◌, ap, sym, refl, arith, length, drop, append_assoc, append-nil, length-append}
use Rattle.std.specs.Prelude.{Option, Some, None, zero, suc, if◌then◌else◌}
use Rattle.std.proofs.lemmas.List.{length-drop, drop-append-le}
use Rattle.http_messages.specs.HeadEnds.{skip_breaks}
use Rattle.osm_gate.specs.Connections.{Requests, closed_rest, ends_with, requests_in, requests_from, requests_next, requests_within, open_rest, joined_requests}
use Rattle.http_messages.specs.Requests.{Decided, Request, first_request}
use Rattle.http_messages.proofs.shared.BreakLemmas.{skip-append, skip-fits, skip-some, skip-twice}
use Rattle.http_messages.proofs.shared.RequestLemmas.{request-progresses, request-stays}

joined_requests-twice : (x y : List Request) (s : Requests) → joined_requests x (joined_requests y s) ≡ joined_requests (x ++ y) s
joined_requests-twice x y s = ap (λ (z : List Request). let r : Requests = record { complete = z; rest = s.rest } in r) (sym (append_assoc x y s.complete))

-- a request that ends the connection, and one that doesn't
abbrev pub chosen_of : Bool → List Request → Requests → Requests
chosen_of closes answer s = if closes then record { complete = answer; rest = closed_rest } else joined_requests answer s

pub enough : (n m : ℕ) (bytes : List ℕ) → length bytes ≤ n → length bytes ≤ m → requests_within n bytes ≡ requests_within m bytes
enough zero zero bytes hn hm = refl
enough zero (suc m) bytes hn hm = go (first_request (skip_breaks bytes)) refl
  where
    go : (o : Option Decided) → first_request (skip_breaks bytes) ≡ o → requests_within 0 bytes ≡ requests_from (requests_within m) (skip_breaks bytes) o
    go None e = refl
    go (Some t) e = let p = request-progresses (skip_breaks bytes) t e in absurd (omega (arith, p.0, p.1, hn, skip-fits bytes))
enough (suc n) zero bytes hn hm = go (first_request (skip_breaks bytes)) refl
  where
    go : (o : Option Decided) → first_request (skip_breaks bytes) ≡ o → requests_from (requests_within n) (skip_breaks bytes) o ≡ requests_within 0 bytes
    go None e = refl
    go (Some t) e = let p = request-progresses (skip_breaks bytes) t e in absurd (omega (arith, p.0, p.1, hm, skip-fits bytes))
enough (suc n) (suc m) bytes hn hm = go (first_request (skip_breaks bytes)) refl (λ rest ln lm. enough n m rest ln lm)
  where
    go : (o : Option Decided) → first_request (skip_breaks bytes) ≡ o
        → ((rest : List ℕ) → length rest ≤ n → length rest ≤ m → requests_within n rest ≡ requests_within m rest)
        → requests_from (requests_within n) (skip_breaks bytes) o ≡ requests_from (requests_within m) (skip_breaks bytes) o
    go None e again = refl
    go (Some t) e again =
        let left = skip_breaks bytes in
        let p = request-progresses left t e in
        let shorter = length-drop t.used left in
        let fits = skip-fits bytes in
        ap (λ (s : Requests). if (ends_with t.request) then record { complete = (t.request ∷ []); rest = closed_rest } else joined_requests (t.request ∷ []) s)
        (again (drop t.used left) (omega (arith, shorter, p.0, p.1, hn, fits)) (omega (arith, shorter, p.0, p.1, hm, fits)))

-- CR and LF before the bytes change nothing
within-skip : (n : ℕ) (bytes : List ℕ) → requests_within n bytes ≡ requests_within n (skip_breaks bytes)
within-skip zero bytes = ap (λ (t : List ℕ). let s : Requests = record { complete = []; rest = open_rest t } in s) (sym (skip-twice bytes))
within-skip (suc n) bytes = ap (λ (t : List ℕ). requests_from (requests_within n) t (first_request t)) (sym (skip-twice bytes))

pub requests_in-skip : (bytes : List ℕ) → requests_in bytes ≡ requests_in (skip_breaks bytes)
requests_in-skip bytes =
    within-skip (length bytes) bytes
    ∙ enough (length bytes) (length (skip_breaks bytes)) (skip_breaks bytes) (skip-fits bytes) (omega arith)

pub requests_in-skip-append : (a b : List ℕ) → requests_in (a ++ b) ≡ requests_in (skip_breaks a ++ b)
requests_in-skip-append a b = requests_in-skip (a ++ b) ∙ ap (requests_in) (skip-append a b) ∙ sym (requests_in-skip (skip_breaks a ++ b))

chosen : (closes : Bool) (answer : List Request) (x y : Requests) (b : List ℕ) → x ≡ joined_requests y.complete (requests_next y.rest b)
    → chosen_of closes answer x ≡ joined_requests (chosen_of closes answer y).complete (requests_next (chosen_of closes answer y).rest b)
chosen true answer x y b e = ap (λ (z : List Request). let r : Requests = record { complete = z; rest = closed_rest } in r) (sym (append-nil answer))
chosen false answer x y b e = ap (joined_requests answer) e ∙ joined_requests-twice answer y.complete (requests_next y.rest b)

-- what a and then b say is what a says, and then what its rest and b say
pub cut_within : (n : ℕ) (a b : List ℕ) → length a ≤ n
    → requests_in (a ++ b) ≡ joined_requests (requests_within n a).complete (requests_next (requests_within n a).rest b)
cut_within zero a b h = requests_in-skip-append a b
cut_within (suc n) a b h = go (first_request (skip_breaks a)) refl (λ rest lr. cut_within n rest b lr)
  where
    go : (o : Option Decided) → first_request (skip_breaks a) ≡ o
        → ((rest : List ℕ) → length rest ≤ n → requests_in (rest ++ b) ≡ joined_requests (requests_within n rest).complete (requests_next (requests_within n rest).rest b))
        → requests_in (a ++ b) ≡ joined_requests (requests_from (requests_within n) (skip_breaks a) o).complete (requests_next (requests_from (requests_within n) (skip_breaks a) o).rest b)
    go None e again = requests_in-skip-append a b
    go (Some t) e again =
        let all = length (a ++ b) in
        let start = skip_breaks a in
        let p = request-progresses start t e in
        let fits = skip-fits a in
        let left = drop t.used start in
        let first : skip_breaks (a ++ b) ≡ start ++ b = skip-some a b (omega (arith, p.0, p.1)) in
        let opened : requests_in (a ++ b) ≡ requests_from (requests_within all) (start ++ b) (Some t) = enough all (suc all) (a ++ b) (omega arith) (omega arith)
        ∙ ap (λ (s : List ℕ). requests_from (requests_within all) s (first_request s)) first
        ∙ ap (requests_from (requests_within all) (start ++ b)) (request-stays start b t e) in
        let later : requests_within all (drop t.used (start ++ b)) ≡ joined_requests (requests_within n left).complete (requests_next (requests_within n left).rest b) =
        ap (requests_within all) (drop-append-le t.used start b p.1)
        ∙ enough all (length (left ++ b)) (left ++ b) (omega (arith, length-append left b, length-append a b, length-drop t.used start, fits)) (omega arith)
        ∙ again left (omega (arith, length-drop t.used start, p.0, p.1, h, fits)) in
        opened ∙ chosen (ends_with t.request) (t.request ∷ []) (requests_within all (drop t.used (start ++ b))) (requests_within n left) b later

-- what bytes say that begin with a whole request
pub requests_in-some : (bytes : List ℕ) (t : Decided) → first_request (skip_breaks bytes) ≡ Some t
    → requests_in bytes ≡ chosen_of (ends_with t.request) (t.request ∷ []) (requests_in (drop t.used (skip_breaks bytes)))
requests_in-some bytes t e =
    let start = skip_breaks bytes in
    let p = request-progresses start t e in
    let left = drop t.used start in
    enough (length bytes) (suc (length bytes)) bytes (omega arith) (omega arith)
    ∙ ap (requests_from (requests_within (length bytes)) start) e
    ∙ ap (chosen_of (ends_with t.request) (t.request ∷ [])) (enough (length bytes) (length left) left (omega (arith, length-drop t.used start, skip-fits bytes)) (omega arith))

-- and that don't
pub requests_in-none : (bytes : List ℕ) → first_request (skip_breaks bytes) ≡ None → requests_in bytes ≡ record { complete = []; rest = open_rest (skip_breaks bytes) }
requests_in-none bytes e =
    enough (length bytes) (suc (length bytes)) bytes (omega arith) (omega arith)
    ∙ ap (requests_from (requests_within (length bytes)) (skip_breaks bytes)) e

-- the law: pieces may be cut anywhere
pub cut : (a b : List ℕ) → requests_in (a ++ b) ≡ joined_requests (requests_in a).complete (requests_next (requests_in a).rest b)
cut a b = cut_within (length a) a b (omega arith)

-- one more request, in a loop over the bytes
pub requests_in-more : (bytes rest : List ℕ) (answers : List Request) (t : Decided) → first_request (skip_breaks rest) ≡ Some t → (ends_with t.request) ≡ false
    → requests_in bytes ≡ joined_requests answers (requests_in rest)
    → requests_in bytes ≡ joined_requests (answers ++ (t.request ∷ [])) (requests_in (drop t.used (skip_breaks rest)))
requests_in-more bytes rest answers t first stays so_far =
    so_far
    ∙ ap (joined_requests answers) (requests_in-some rest t first)
    ∙ ap (λ (c : Bool). joined_requests answers (chosen_of c (t.request ∷ []) (requests_in (drop t.used (skip_breaks rest))))) stays
    ∙ joined_requests-twice answers (t.request ∷ []) (requests_in (drop t.used (skip_breaks rest)))

-- the last request, which ends the connection
pub requests_in-last : (bytes rest : List ℕ) (answers : List Request) (t : Decided) → first_request (skip_breaks rest) ≡ Some t → (ends_with t.request) ≡ true
    → requests_in bytes ≡ joined_requests answers (requests_in rest)
    → requests_in bytes ≡ record { complete = answers ++ (t.request ∷ []); rest = closed_rest }
requests_in-last bytes rest answers t first ends so_far =
    so_far
    ∙ ap (joined_requests answers) (requests_in-some rest t first)
    ∙ ap (λ (c : Bool). joined_requests answers (chosen_of c (t.request ∷ []) (requests_in (drop t.used (skip_breaks rest))))) ends

-- and no more
pub requests_in-stop : (bytes rest : List ℕ) (answers : List Request) → first_request (skip_breaks rest) ≡ None
    → requests_in bytes ≡ joined_requests answers (requests_in rest)
    → requests_in bytes ≡ record { complete = answers; rest = open_rest (skip_breaks rest) }
requests_in-stop bytes rest answers none so_far =
    so_far ∙ ap (joined_requests answers) (requests_in-none rest none)
    ∙ ap (λ (z : List Request). let r : Requests = record { complete = z; rest = open_rest (skip_breaks rest) } in r) (append-nil answers)
