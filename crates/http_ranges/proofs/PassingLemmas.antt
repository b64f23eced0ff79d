-- Taking bytes in several steps.
use Rattle.std.proofs.Common.{◌≡◌, ◌∙◌, ◌+◌, ℕ, List, [], ◌++◌, ap, sym, refl, subst, arith, length, take, drop, append_assoc, append-nil, length-append}
use Rattle.std.specs.Prelude.{Option}
use Rattle.std.proofs.lemmas.List.{take-append-drop}
use Rattle.http_ranges.specs.Heads.{IsJudged}
use Rattle.http_ranges.specs.internal.Passing.{Passes, TakesBody, TakesHead, TakesNext, TakesResponse}
use Rattle.http_ranges.specs.declared.byte_range.ByteRange.{ByteRange}
use Rattle.http_ranges.specs.declared.judging.Given.{Given}
use Rattle.http_ranges.specs.declared.judging.Judgement.{Judgement}
use Rattle.http_ranges.specs.declared.judging.Judgement.TheVariants as judgement

pub passes-same : (heard : List ℕ → Type 0) (rest : List ℕ) → Passes [] heard rest heard rest
passes-same heard rest front is = is

pub passes-then : (a b : List ℕ) (heard heard' heard'' : List ℕ → Type 0) (rest rest' rest'' : List ℕ)
    → Passes a heard rest heard' rest' → Passes b heard' rest' heard'' rest'' → Passes (a ++ b) heard rest heard'' rest''
passes-then a b heard heard' heard'' rest rest' rest'' first second front is =
    let between : heard' ((front ++ a) ++ rest') = subst heard' (sym (append_assoc front a rest')) (first front is) in
    let same : (front ++ a) ++ (b ++ rest'') ≡ front ++ ((a ++ b) ++ rest'') =
    append_assoc front a (b ++ rest'') ∙ ap (λ (t : List ℕ). front ++ t) (sym (append_assoc a b rest'')) in
    subst heard'' same (second (front ++ a) between)

-- nothing was taken first, or then
pub passes-after : (b : List ℕ) (heard heard' heard'' : List ℕ → Type 0) (rest rest' rest'' : List ℕ)
    → Passes [] heard rest heard' rest' → Passes b heard' rest' heard'' rest'' → Passes b heard rest heard'' rest''
passes-after b heard heard' heard'' rest rest' rest'' first second front is = second front (first front is)

pub passes-before : (a : List ℕ) (heard heard' heard'' : List ℕ → Type 0) (rest rest' rest'' : List ℕ)
    → Passes a heard rest heard' rest' → Passes [] heard' rest' heard'' rest'' → Passes a heard rest heard'' rest''
passes-before a heard heard' heard'' rest rest' rest'' first second =
    subst (λ (t : List ℕ). Passes t heard rest heard'' rest'') (append-nil a) (passes-then a [] heard heard' heard'' rest rest' rest'' first second)

-- the front is taken
pub passes-front : (n : ℕ) (heard : List ℕ → Type 0) (rest : List ℕ) → Passes (take n rest) heard rest heard (drop n rest)
passes-front n heard rest front is =
    subst (λ (t : List ℕ). heard (front ++ t)) (sym (take-append-drop n rest)) is

-- ---- a body, a response

pub body-none : (heard : List ℕ → Type 0) (rest old : List ℕ) → TakesBody 0 heard rest heard rest old old
body-none heard rest old = record {
  body = [];
  whole = refl;
  appended = sym (append-nil old);
  passes = passes-same heard rest;
}

pub body-more : (len n : ℕ) (heard heard' heard'' : List ℕ → Type 0) (rest rest' rest'' old new new' : List ℕ)
    → TakesBody len heard rest heard' rest' old new → Passes [] heard' rest' heard'' rest''
    → length (take n rest'') ≡ n → new' ≡ new ++ take n rest''
    → TakesBody (len + n) heard rest heard'' (drop n rest'') old new'
body-more len n heard heard' heard'' rest rest' rest'' old new new' before pulled long more = record {
  body = before.body ++ take n rest'';
  whole = omega (arith, length-append before.body (take n rest''), before.whole, long);
  appended = more ∙ (ap (λ (t : List ℕ). t ++ take n rest'') before.appended ∙ append_assoc old before.body (take n rest''));
  passes = passes-then before.body (take n rest'') heard heard'' heard'' rest rest'' (drop n rest'')
      (passes-before before.body heard heard' heard'' rest rest' rest'' before.passes pulled) (passes-front n heard'' rest'');
}

pub response-taken : (asked : ByteRange) (size : Option ℕ) (heard heard' heard'' : List ℕ → Type 0) (rest rest' rest'' old new : List ℕ) (given : Given)
    → TakesHead asked size heard rest heard' rest' given → TakesBody given.len heard' rest' heard'' rest'' old new
    → TakesResponse asked size heard rest heard'' rest'' old new given
response-taken asked size heard heard' heard'' rest rest' rest'' old new given h b = record {
  before = h.before;
  head = h.head;
  body = b.body;
  judged = h.judged;
  whole = b.whole;
  appended = b.appended;
  passes = passes-then (h.before ++ h.head) b.body heard heard' heard'' rest rest' rest'' h.passes b.passes;
}

-- ---- a head

pub next-taken : (asked : ByteRange) (size : Option ℕ) (heard heard' : List ℕ → Type 0) (rest rest' head : List ℕ) (len : ℕ) (j : Judgement)
    → Passes [] heard rest heard' rest' → head ≡ take len rest' → IsJudged head asked size j
    → TakesNext asked size heard rest heard' (drop len rest') j
next-taken asked size heard heard' rest rest' head len j pulled is judged = record {
  head = head;
  judged = judged;
  passes = subst (λ (t : List ℕ). Passes t heard rest heard' (drop len rest')) (sym is)
      (passes-after (take len rest') heard heard' heard' rest rest' (drop len rest') pulled (passes-front len heard' rest'));
}

pub head-taken : (asked : ByteRange) (size : Option ℕ) (before : List ℕ) (heard heard' heard'' : List ℕ → Type 0) (rest rest' rest'' : List ℕ) (j : Judgement) (given : Given)
    → Passes before heard rest heard' rest' → TakesNext asked size heard' rest' heard'' rest'' j → j ≡ judgement.Given given
    → TakesHead asked size heard rest heard'' rest'' given
head-taken asked size before heard heard' heard'' rest rest' rest'' j given passed next is = record {
  before = before;
  head = next.head;
  judged = subst (IsJudged next.head asked size) is next.judged;
  passes = passes-then before next.head heard heard' heard'' rest rest' rest'' passed next.passes;
}

pub interim-taken : (asked : ByteRange) (size : Option ℕ) (before : List ℕ) (heard heard' heard'' : List ℕ → Type 0) (rest rest' rest'' : List ℕ) (j : Judgement)
    → Passes before heard rest heard' rest' → TakesNext asked size heard' rest' heard'' rest'' j
    → (before' : List ℕ) × Passes before' heard rest heard'' rest''
interim-taken asked size before heard heard' heard'' rest rest' rest'' j passed next =
    (before ++ next.head, passes-then before next.head heard heard' heard'' rest rest' rest'' passed next.passes)
