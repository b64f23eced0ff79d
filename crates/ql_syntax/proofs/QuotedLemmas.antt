-- Steps through a text between quotes.
use Rattle.std.proofs.Common.{◌≡◌, ◌≢◌, ℕ, ◌<◌, inl, inr, List, [], ◌∷◌, ◌++◌, length, get_or, take, drop, refl, sym, ◌∙◌, ap, subst, arith, append_assoc, append-nil, length-append, true}
use Rattle.std.specs.List.{AllByRecursion, flat_map}
use Rattle.std.proofs.lemmas.List.{take-append-drop}
use Rattle.std.proofs.lemmas.List.Concat.{flat_map-append}
use Rattle.osm_model.proofs.shared.Each.{all_append}
use Rattle.ql_syntax.specs.internal.EscapeParts.{IsEscape}
use Rattle.ql_syntax.specs.internal.Places.{IsMemoryOr}
use Rattle.ql_syntax.specs.Words.{begins_with}
use Rattle.ql_syntax.specs.declared.syntax_error.SyntaxError.{SyntaxError}
use Rattle.ql_syntax.specs.QuotedTexts.{Piece, Literal, Escape, Code, IsPiece, Passes, IsQuoted, StopsInside, IsNotQuoted, is_quote, spelling, value}
use Rattle.ql_syntax.specs.internal.QuotedSteps.{IsLiteral, EndsLiterals, Takes, Closes}

-- a list that isn't empty begins with its first element
pub first_is : (s : List ℕ) (b : ℕ) → 0 < length s → get_or s 0 0 ≡ b → s ≡ b ∷ drop 1 s
first_is [] b some e = absurd (omega arith)
first_is (x ∷ s) b some e = ap (λ (y : ℕ). y ∷ s) e

pub passes_none : (quote : ℕ) (s : List ℕ) → Passes quote s s []
passes_none quote s = record { pieces = []; each = tt; parts = refl; bytes_are = refl }

pub passes_more : (quote : ℕ) (s t u v w : List ℕ) → Passes quote s t v → Passes quote t u w → Passes quote s u (v ++ w)
passes_more quote s t u v w p q = record {
  pieces = p.pieces ++ q.pieces;
  each = all_append (IsPiece quote) p.pieces q.pieces p.each q.each;
  parts = p.parts ∙ ap (λ (x : List ℕ). flat_map spelling p.pieces ++ x) q.parts ∙ sym (append_assoc (flat_map spelling p.pieces) (flat_map spelling q.pieces) u) ∙ ap (λ (x : List ℕ). x ++ u) (sym (flat_map-append spelling p.pieces q.pieces));
  bytes_are = ap (λ (x : List ℕ). x ++ w) p.bytes_are ∙ ap (λ (x : List ℕ). flat_map value p.pieces ++ x) q.bytes_are ∙ sym (flat_map-append value p.pieces q.pieces);
}

pub passes_one : (quote : ℕ) (s t bytes : List ℕ) (p : Piece) → IsPiece quote p → s ≡ spelling p ++ t → bytes ≡ value p → Passes quote s t bytes
passes_one quote s t bytes p is parts bytes_are = record {
  pieces = p ∷ [];
  each = (is, tt);
  parts = parts ∙ ap (λ (x : List ℕ). x ++ t) (sym (append-nil (spelling p)));
  bytes_are = bytes_are ∙ sym (append-nil (value p));
}

passes_run : (quote : ℕ) (run t : List ℕ) → AllByRecursion (IsLiteral quote) run → Passes quote (run ++ t) t run
passes_run quote [] t all = passes_none quote t
passes_run quote (b ∷ run) t all =
    passes_more quote (b ∷ (run ++ t)) (run ++ t) t (b ∷ []) run (passes_one quote (b ∷ (run ++ t)) (run ++ t) (b ∷ []) (Literal b) all.0 refl refl) (passes_run quote run t all.1)

-- bytes that stand for themselves were taken
pub takes_run : (quote n : ℕ) (place run rest old new : List ℕ) → run ≡ take n place → rest ≡ drop n place → run ≢ [] → AllByRecursion (IsLiteral quote) (take n place)
    → new ≡ old ++ run → Takes quote place rest old new
takes_run quote n place run rest old new front back some all added =
    let parts : place ≡ run ++ rest = sym (ap (λ (x : List ℕ). x ++ rest) front ∙ ap (λ (x : List ℕ). take n place ++ x) back ∙ take-append-drop n place) in
    record {
      bytes = run;
      passes = subst (λ (x : List ℕ). Passes quote x rest run) (sym parts) (passes_run quote run rest (subst (λ (x : List ℕ). AllByRecursion (IsLiteral quote) x) (sym front) all));
      added = added;
      shorter = omega (arith, ap (λ (x : List ℕ). length x) parts, length-append run rest, some_length run some);
    }
  where
    some_length : (xs : List ℕ) → xs ≢ [] → 0 < length xs
    some_length [] some = absurd (some refl)
    some_length (x ∷ xs) some = omega arith

pub spelling_shorter : (p : Piece) (rest s : List ℕ) → s ≡ spelling p ++ rest → length rest < length s
spelling_shorter (Literal b) rest s e = omega (arith, ap (λ (x : List ℕ). length x) e)
spelling_shorter (Escape l b) rest s e = omega (arith, ap (λ (x : List ℕ). length x) e)
spelling_shorter (Code digits c) rest s e = omega (arith, ap (λ (x : List ℕ). length x) e, length-append digits rest)

-- an escape was taken
pub takes_escape : (quote : ℕ) (place after rest bytes old new : List ℕ) → place ≡ 92 ∷ after → IsEscape after bytes rest → new ≡ old ++ bytes → Takes quote place rest old new
takes_escape quote place after rest bytes old new opens escape added = record {
  bytes = bytes;
  passes = passes_one quote place rest bytes escape.piece (escape.is_piece quote) (opens ∙ escape.spelled) escape.bytes_are;
  added = added;
  shorter = spelling_shorter escape.piece rest place (opens ∙ escape.spelled);
}

-- nothing stands for itself where no byte was counted
pub stops_here : (quote n : ℕ) (place front : List ℕ) → EndsLiterals quote (drop n place) → front ≡ take n place → front ≡ [] → EndsLiterals quote place
stops_here quote n place front stop front_is none =
    subst (λ (x : List ℕ). EndsLiterals quote x) (ap (λ (x : List ℕ). x ++ drop n place) (sym (sym front_is ∙ none)) ∙ take-append-drop n place) stop

-- the closing quote
pub closes_here : (quote : ℕ) (place old : List ℕ) → EndsLiterals quote place → place ≢ [] → get_or place 0 0 ≢ 92 → get_or place 0 0 ≢ 0 → Closes quote place old old
closes_here quote [] old stop some escape nul = absurd (some refl)
closes_here quote (b ∷ rest) old stop some escape nul = elim stop [
  | inl same ↦ record { rest = rest; closed = ap (λ (x : ℕ). x ∷ rest) same; kept = refl }
  | inr other ↦ absurd (elim other [ inl e ↦ escape e | inr e ↦ nul e ])
]

-- a text that begins with a quote
pub quote_opens : (s : List ℕ) → begins_with is_quote s ≡ true → (s ≡ get_or s 0 0 ∷ drop 1 s) × (is_quote (get_or s 0 0) ≡ true)
quote_opens [] e = absurd (cc)
quote_opens (b ∷ s) e = (refl, e)

pub not_quoted : (text place bytes : List ℕ) (stop : SyntaxError) → begins_with is_quote text ≡ true → Passes (get_or text 0 0) (drop 1 text) place bytes → IsMemoryOr (StopsInside text place) stop
    → IsMemoryOr (IsNotQuoted text) stop
not_quoted text place bytes stop quote passes (inl memory) = inl memory
not_quoted text place bytes stop quote passes (inr stops) =
    let opens = quote_opens text quote in
    inr (record { quote = get_or text 0 0; inside = drop 1 text; place = place; bytes = bytes; opens = opens.0; is_quote = opens.1; passes = passes; stops = stops })

pub quoted_passes : (quote : ℕ) (from place next old new : List ℕ) → Passes quote from place old → Takes quote place next old new → Passes quote from next new
quoted_passes quote from place next old new passes takes =
    subst (λ (x : List ℕ). Passes quote from next x) (sym takes.added) (passes_more quote from place next old takes.bytes passes takes.passes)

-- a text without escapes
pub literal_quoted : (text place run rest left bytes : List ℕ) (n : ℕ) → begins_with is_quote text ≡ true → place ≡ drop 1 text → run ≡ take n place → rest ≡ drop n place → AllByRecursion (IsLiteral (get_or text 0 0)) (take n place)
    → 0 < length rest → get_or rest 0 0 ≡ get_or text 0 0 → left ≡ drop 1 rest → bytes ≡ run → IsQuoted text bytes left
literal_quoted text place run rest left bytes n quote inside front back all some closes after same =
    let opens = quote_opens text quote in
    let parts : place ≡ run ++ rest = sym (ap (λ (x : List ℕ). x ++ rest) front ∙ ap (λ (x : List ℕ). take n place ++ x) back ∙ take-append-drop n place) in
    let closed : rest ≡ get_or text 0 0 ∷ left = first_is rest (get_or text 0 0) some closes ∙ ap (λ (x : List ℕ). get_or text 0 0 ∷ x) (sym after) in
    let passes = passes_run (get_or text 0 0) run rest (subst (λ (x : List ℕ). AllByRecursion (IsLiteral (get_or text 0 0)) x) (sym front) all) in
    record {
      quote = get_or text 0 0;
      inside = drop 1 text;
      opens = opens.0;
      is_quote = opens.1;
      passes = subst (λ (b : List ℕ). Passes (get_or text 0 0) (drop 1 text) (get_or text 0 0 ∷ left) b) (sym same)
          (subst (λ (s : List ℕ). Passes (get_or text 0 0) s (get_or text 0 0 ∷ left) run) (sym parts ∙ inside) (subst (λ (s : List ℕ). Passes (get_or text 0 0) (run ++ rest) s run) closed passes));
    }
