-- At a quote stands one text at most, or one fault.
use Rattle.std.proofs.Common.{◌≡◌, ℕ, ◌<◌, List, [], ◌∷◌, ◌++◌, length, true, false, Some, None, refl, sym, ◌∙◌, ap, subst, arith, append_assoc, length-append}
use Rattle.std.proofs.lemmas.List.{append-nil}
use Rattle.std.specs.Char.{digit_value}
use Rattle.std.specs.List.{AllByRecursion, flat_map}
use Rattle.std.specs.Str.Parse.{AllDigits, digits_value}
use Rattle.ql_syntax.specs.declared.cause.QlCause.{QlCause}
use Rattle.ql_syntax.specs.QuotedTexts.{Piece, Literal, Escape, Code, IsPiece, IsCode, IsQuoted, IsNotQuoted, Passes, StopsInside, AtEnd, InEscape, AtEscape, AtNul, IsCutEscape, IsBadEscape, Letter, NoDigit, NoCharacter, is_quote, escaped, spelling, value}

-- two lists of one length before the rest
same_len : (a b s t : List ℕ) → length a ≡ length b → a ++ s ≡ b ++ t → (a ≡ b) × (s ≡ t)
same_len [] [] s t l e = (refl, e)
same_len [] (y ∷ b) s t l e = absurd (omega arith)
same_len (x ∷ a) [] s t l e = absurd (omega arith)
same_len (x ∷ a) (y ∷ b) s t l e =
    let head : x ≡ y = cc in
    let tail : a ++ s ≡ b ++ t = cc in
    let r = same_len a b s t (omega arith) tail in
    (ap (λ (z : ℕ). z ∷ a) head ∙ ap (λ (z : List ℕ). y ∷ z) r.0, r.1)

no_code_letter : (letter b : ℕ) → escaped letter ≡ Some b → letter ≡ 117 → ⊥
no_code_letter letter b e is = let none : escaped letter ≡ None = ap escaped is in let bad : Some b ≡ None = sym e ∙ none in cc

-- the first pieces of one text
one_piece : (quote : ℕ) (p q : Piece) (s t : List ℕ) → IsPiece quote p → IsPiece quote q → spelling p ++ s ≡ spelling q ++ t → (p ≡ q) × (s ≡ t)
one_piece quote (Literal b) (Literal c) s t h k e = (let same : b ≡ c = cc in ap (λ (x : ℕ). Literal x) same, cc)
one_piece quote (Literal b) (Escape l c) s t h k e = absurd (h.1 (cc))
one_piece quote (Literal b) (Code ds c) s t h k e = absurd (h.1 (cc))
one_piece quote (Escape l b) (Literal c) s t h k e = absurd (k.1 (cc))
one_piece quote (Code ds b) (Literal c) s t h k e = absurd (k.1 (cc))
one_piece quote (Escape l b) (Escape m c) s t h k e =
    let letter : l ≡ m = cc in
    let byte : Some b ≡ Some c = sym h ∙ ap escaped letter ∙ k in
    let same : b ≡ c = cc in
    (ap (λ (x : ℕ). Escape x b) letter ∙ ap (λ (x : ℕ). Escape m x) same, cc)
one_piece quote (Escape l b) (Code ds c) s t h k e = absurd (no_code_letter l b h (cc))
one_piece quote (Code ds b) (Escape m c) s t h k e = absurd (no_code_letter m c k (cc))
one_piece quote (Code ds b) (Code es c) s t h k e =
    let tail : ds ++ s ≡ es ++ t = cc in
    let r = same_len ds es s t (h.four ∙ sym k.four) tail in
    let same : b ≡ c = sym h.names ∙ ap (λ (x : List ℕ). digits_value 16 x) r.0 ∙ k.names in
    (ap (λ (x : List ℕ). Code x b) r.0 ∙ ap (λ (x : ℕ). Code es x) same, r.1)

-- no piece stands at the place
abbrev Halts : ℕ → List ℕ → Type 0
Halts quote place = (p : Piece) (rest : List ℕ) → IsPiece quote p → place ≡ spelling p ++ rest → ⊥

-- pieces up to such a place
one_way : (quote : ℕ) (ps qs : List Piece) (s t : List ℕ) → AllByRecursion (IsPiece quote) ps → AllByRecursion (IsPiece quote) qs → Halts quote s → Halts quote t
    → flat_map spelling ps ++ s ≡ flat_map spelling qs ++ t → (ps ≡ qs) × (s ≡ t)
one_way quote [] [] s t a b hs ht e = (refl, e)
one_way quote [] (q ∷ qs) s t a b hs ht e = absurd (hs q (flat_map spelling qs ++ t) b.0 (e ∙ append_assoc (spelling q) (flat_map spelling qs) t))
one_way quote (p ∷ ps) [] s t a b hs ht e = absurd (ht p (flat_map spelling ps ++ s) a.0 (sym e ∙ append_assoc (spelling p) (flat_map spelling ps) s))
one_way quote (p ∷ ps) (q ∷ qs) s t a b hs ht e =
    let whole = sym (append_assoc (spelling p) (flat_map spelling ps) s) ∙ e ∙ append_assoc (spelling q) (flat_map spelling qs) t in
    let first = one_piece quote p q (flat_map spelling ps ++ s) (flat_map spelling qs ++ t) a.0 b.0 whole in
    let r = one_way quote ps qs s t a.1 b.1 hs ht first.1 in
    (ap (λ (x : Piece). x ∷ ps) first.0 ∙ ap (λ (x : List Piece). q ∷ x) r.0, r.1)

quote_not_escape : (quote : ℕ) → is_quote quote ≡ true → quote ≡ 92 → ⊥
quote_not_escape quote is e = let bad : true ≡ false = sym is ∙ ap is_quote e in cc

quote_halts : (quote : ℕ) (rest : List ℕ) → is_quote quote ≡ true → Halts quote (quote ∷ rest)
quote_halts quote rest is (Literal b) more h e = h.0 (cc)
quote_halts quote rest is (Escape l b) more h e = quote_not_escape quote is (cc)
quote_halts quote rest is (Code ds b) more h e = quote_not_escape quote is (cc)

same_passes : (quote : ℕ) (from s t v w : List ℕ) → Passes quote from s v → Passes quote from t w → Halts quote s → Halts quote t → (v ≡ w) × (s ≡ t)
same_passes quote from s t v w h k hs ht =
    let r = one_way quote h.pieces k.pieces s t h.each k.each hs ht (sym h.parts ∙ k.parts) in
    (h.bytes_are ∙ ap (λ (ps : List Piece). flat_map value ps) r.0 ∙ sym k.bytes_are, r.1)

same_quote : (text inside other : List ℕ) (quote mark : ℕ) → text ≡ quote ∷ inside → text ≡ mark ∷ other → (quote ≡ mark) × (inside ≡ other)
same_quote text inside other quote mark e f = let g : quote ∷ inside ≡ mark ∷ other = sym e ∙ f in (cc, cc)

-- the pieces of a second text, counted from the first's quote
moved : (text : List ℕ) (quote mark : ℕ) (inside other to v : List ℕ) → text ≡ quote ∷ inside → text ≡ mark ∷ other → Passes mark other to v → Passes quote inside to v
moved text quote mark inside other to v e f passes =
    let same = same_quote text inside other quote mark e f in
    subst (λ (q : ℕ). Passes q inside to v) (sym same.0) (subst (λ (s : List ℕ). Passes mark s to v) (sym same.1) passes)

pub one_text : (text v w rest left : List ℕ) → IsQuoted text v rest → IsQuoted text w left → (v ≡ w) × (rest ≡ left)
one_text text v w rest left h k =
    let same = same_quote text h.inside k.inside h.quote k.quote h.opens k.opens in
    let again = moved text h.quote k.quote h.inside k.inside (k.quote ∷ left) w h.opens k.opens k.passes in
    let r = same_passes h.quote h.inside (h.quote ∷ rest) (k.quote ∷ left) v w h.passes again (quote_halts h.quote rest h.is_quote)
    (subst (λ (q : ℕ). Halts q (k.quote ∷ left)) (sym same.0) (quote_halts k.quote left k.is_quote)) in
    let ends : h.quote ∷ rest ≡ k.quote ∷ left = r.1 in
    (r.0, cc)

end_halts : (quote : ℕ) (place : List ℕ) → place ≡ [] → Halts quote place
end_halts quote place none (Literal b) more h e = let bad : b ∷ more ≡ [] = sym e ∙ none in cc
end_halts quote place none (Escape l b) more h e = let bad : 92 ∷ l ∷ more ≡ [] = sym e ∙ none in cc
end_halts quote place none (Code ds b) more h e = let bad : 92 ∷ 117 ∷ (ds ++ more) ≡ [] = sym e ∙ none in cc

nul_halts : (quote : ℕ) (place after : List ℕ) → place ≡ 0 ∷ after → Halts quote place
nul_halts quote place after nul (Literal b) more h e = let same : 0 ∷ after ≡ b ∷ more = sym nul ∙ e in h.2 (cc)
nul_halts quote place after nul (Escape l b) more h e = let bad : 0 ∷ after ≡ 92 ∷ l ∷ more = sym nul ∙ e in cc
nul_halts quote place after nul (Code ds b) more h e = let bad : 0 ∷ after ≡ 92 ∷ 117 ∷ (ds ++ more) = sym nul ∙ e in cc

-- an escape that is cut short isn't whole
cut_or_whole : (after : List ℕ) (l b : ℕ) (more : List ℕ) → IsCutEscape after → escaped l ≡ Some b → after ≡ l ∷ more → ⊥
cut_or_whole [] l b more cut e is = cc
cut_or_whole (letter ∷ digits) l b more cut e is = no_code_letter l b e (let same : letter ≡ l = cc in sym same ∙ cut.0)

cut_or_code : (after ds : List ℕ) (c : ℕ) (more : List ℕ) → IsCutEscape after → IsCode ds c → after ≡ 117 ∷ (ds ++ more) → ⊥
cut_or_code [] ds c more cut code is = cc
cut_or_code (letter ∷ digits) ds c more cut code is =
    let tail : digits ≡ ds ++ more = cc in
    let four = code.four in
    omega (arith, cut.1, ap (λ (x : List ℕ). length x) tail, length-append ds more)

-- a byte among digits is one
digit_among : (digits rest ds more : List ℕ) (b : ℕ) → digits ++ b ∷ rest ≡ ds ++ more → length digits < length ds → AllDigits 16 ds → digit_value b < 16
digit_among [] rest [] more b e few all = absurd (omega arith)
digit_among [] rest (d ∷ ds) more b e few all = let same : b ≡ d = cc in subst (λ (x : ℕ). digit_value x < 16) (sym same) all.0
digit_among (x ∷ digits) rest [] more b e few all = absurd (omega arith)
digit_among (x ∷ digits) rest (d ∷ ds) more b e few all = let tail : digits ++ b ∷ rest ≡ ds ++ more = cc in digit_among digits rest ds more b tail (omega arith) all.1

bad_or_whole : (after : List ℕ) (l b : ℕ) (more : List ℕ) → IsBadEscape after → escaped l ≡ Some b → after ≡ l ∷ more → ⊥
bad_or_whole after l b more (Letter letter rest is other none) e same =
    let head : letter ≡ l = let f : letter ∷ rest ≡ l ∷ more = sym is ∙ same in cc in
    let bad : None ≡ Some b = sym none ∙ ap escaped head ∙ e in
    cc
bad_or_whole after l b more (NoDigit digits rest d is few all other) e same = no_code_letter l b e (let f : 117 ∷ (digits ++ d ∷ rest) ≡ l ∷ more = sym is ∙ same in cc)
bad_or_whole after l b more (NoCharacter digits rest is four all none) e same = no_code_letter l b e (let f : 117 ∷ (digits ++ rest) ≡ l ∷ more = sym is ∙ same in cc)

bad_or_code : (after ds : List ℕ) (c : ℕ) (more : List ℕ) → IsBadEscape after → IsCode ds c → after ≡ 117 ∷ (ds ++ more) → ⊥
bad_or_code after ds c more (Letter letter rest is other none) code same = other (let f : letter ∷ rest ≡ 117 ∷ (ds ++ more) = sym is ∙ same in cc)
bad_or_code after ds c more (NoDigit digits rest d is few all other) code same =
    let tail : digits ++ d ∷ rest ≡ ds ++ more = (let f : 117 ∷ (digits ++ d ∷ rest) ≡ 117 ∷ (ds ++ more) = sym is ∙ same in cc) in
    let four = code.four in
    let small = digit_among digits rest ds more d tail (omega arith) code.hexadecimal in
    omega arith
bad_or_code after ds c more (NoCharacter digits rest is four all none) code same =
    let tail : digits ++ rest ≡ ds ++ more = (let f : 117 ∷ (digits ++ rest) ≡ 117 ∷ (ds ++ more) = sym is ∙ same in cc) in
    let r = same_len digits ds rest more (four ∙ sym code.four) tail in
    none c (subst (λ (x : List ℕ). IsCode x c) (sym r.0) code)

escape_halts : (quote : ℕ) (place after : List ℕ) → place ≡ 92 ∷ after
    → ((l b : ℕ) (more : List ℕ) → escaped l ≡ Some b → after ≡ l ∷ more → ⊥)
    → ((ds : List ℕ) (c : ℕ) (more : List ℕ) → IsCode ds c → after ≡ 117 ∷ (ds ++ more) → ⊥) → Halts quote place
escape_halts quote place after is letter code (Literal b) more h e = let same : 92 ∷ after ≡ b ∷ more = sym is ∙ e in h.1 (cc)
escape_halts quote place after is letter code (Escape l b) more h e = let same : 92 ∷ after ≡ 92 ∷ l ∷ more = sym is ∙ e in letter l b more h (cc)
escape_halts quote place after is letter code (Code ds c) more h e = let same : 92 ∷ after ≡ 92 ∷ 117 ∷ (ds ++ more) = sym is ∙ e in code ds c more h (cc)

stop_halts : (quote : ℕ) (text place : List ℕ) (cause : QlCause) (at : List ℕ) → StopsInside text place cause at → Halts quote place
stop_halts quote text place cause at (AtEnd none is at_is) = end_halts quote place none
stop_halts quote text place cause at (InEscape after opens cut is at_is) =
    escape_halts quote place after opens (λ l b more e same. cut_or_whole after l b more cut e same) (λ ds c more code same. cut_or_code after ds c more cut code same)
stop_halts quote text place cause at (AtEscape after opens bad is at_is) =
    escape_halts quote place after opens (λ l b more e same. bad_or_whole after l b more bad e same) (λ ds c more code same. bad_or_code after ds c more bad code same)
stop_halts quote text place cause at (AtNul after opens is at_is) = nul_halts quote place after opens

no_stop_at_quote : (quote : ℕ) (rest text place : List ℕ) (cause : QlCause) (at : List ℕ) → is_quote quote ≡ true → quote ∷ rest ≡ place → StopsInside text place cause at → ⊥
no_stop_at_quote quote rest text place cause at is e (AtEnd none cause_is at_is) = let bad : quote ∷ rest ≡ [] = e ∙ none in cc
no_stop_at_quote quote rest text place cause at is e (InEscape after opens cut cause_is at_is) = quote_not_escape quote is (let same : quote ∷ rest ≡ 92 ∷ after = e ∙ opens in cc)
no_stop_at_quote quote rest text place cause at is e (AtEscape after opens bad cause_is at_is) = quote_not_escape quote is (let same : quote ∷ rest ≡ 92 ∷ after = e ∙ opens in cc)
no_stop_at_quote quote rest text place cause at is e (AtNul after opens cause_is at_is) =
    let zero_is : quote ≡ 0 = (let same : quote ∷ rest ≡ 0 ∷ after = e ∙ opens in cc) in
    let bad : true ≡ false = sym is ∙ ap is_quote zero_is in
    cc

pub text_or_not : (text v rest : List ℕ) (cause : QlCause) (at : List ℕ) → IsQuoted text v rest → IsNotQuoted text cause at → ⊥
text_or_not text v rest cause at h k =
    let again = moved text h.quote k.quote h.inside k.inside k.place k.bytes h.opens k.opens k.passes in
    let r = same_passes h.quote h.inside (h.quote ∷ rest) k.place v k.bytes h.passes again (quote_halts h.quote rest h.is_quote) (stop_halts h.quote text k.place cause at k.stops) in
    no_stop_at_quote h.quote rest text k.place cause at h.is_quote r.1 k.stops

-- one fault at most
cut_or_bad : (after : List ℕ) → IsCutEscape after → IsBadEscape after → ⊥
cut_or_bad [] cut (Letter letter rest is other none) = cc
cut_or_bad [] cut (NoDigit digits rest b is few hexadecimal other) = cc
cut_or_bad [] cut (NoCharacter digits rest is four hexadecimal none) = cc
cut_or_bad (l ∷ ds) cut (Letter letter rest is other none) = let same : l ≡ letter = cc in other (sym same ∙ cut.0)
cut_or_bad (l ∷ ds) cut (NoDigit digits rest b is few hexadecimal other) =
    let tail : ds ≡ digits ++ b ∷ rest = cc in
    let n = ap (λ (x : List ℕ). length x) tail in
    let small = digit_among digits rest ds [] b (sym tail ∙ sym (append-nil ds)) (omega (arith, length-append digits (b ∷ rest))) cut.2 in
    omega arith
cut_or_bad (l ∷ ds) cut (NoCharacter digits rest is four hexadecimal none) =
    let tail : ds ≡ digits ++ rest = cc in
    let n = ap (λ (x : List ℕ). length x) tail in
    let few = cut.1 in
    omega (arith, length-append digits rest)

one_stop : (text place : List ℕ) (c d : QlCause) (p q : List ℕ) → StopsInside text place c p → StopsInside text place d q → (c ≡ d) × (p ≡ q)
one_stop text place c d p q (AtEnd none is at) (AtEnd nothing it spot) = (is ∙ sym it, at ∙ sym spot)
one_stop text place c d p q (AtEnd none is at) (InEscape after e cut it spot) = let bad : [] ≡ 92 ∷ after = sym none ∙ e in absurd (cc)
one_stop text place c d p q (AtEnd none is at) (AtEscape after e bad it spot) = let no : [] ≡ 92 ∷ after = sym none ∙ e in absurd (cc)
one_stop text place c d p q (AtEnd none is at) (AtNul after e it spot) = let bad : [] ≡ 0 ∷ after = sym none ∙ e in absurd (cc)
one_stop text place c d p q (InEscape after e cut is at) (AtEnd nothing it spot) = let bad : [] ≡ 92 ∷ after = sym nothing ∙ e in absurd (cc)
one_stop text place c d p q (InEscape after e cut is at) (InEscape more f short it spot) = (is ∙ sym it, at ∙ sym spot)
one_stop text place c d p q (InEscape after e cut is at) (AtEscape more f bad it spot) = let same : after ≡ more = cc in absurd (cut_or_bad more (subst IsCutEscape same cut) bad)
one_stop text place c d p q (InEscape after e cut is at) (AtNul more f it spot) = let no : 92 ∷ after ≡ 0 ∷ more = sym e ∙ f in absurd (cc)
one_stop text place c d p q (AtEscape after e bad is at) (AtEnd nothing it spot) = let no : [] ≡ 92 ∷ after = sym nothing ∙ e in absurd (cc)
one_stop text place c d p q (AtEscape after e bad is at) (InEscape more f short it spot) = let same : more ≡ after = cc in absurd (cut_or_bad after (subst IsCutEscape same short) bad)
one_stop text place c d p q (AtEscape after e bad is at) (AtEscape more f wrong it spot) = (is ∙ sym it, at ∙ sym spot)
one_stop text place c d p q (AtEscape after e bad is at) (AtNul more f it spot) = let no : 92 ∷ after ≡ 0 ∷ more = sym e ∙ f in absurd (cc)
one_stop text place c d p q (AtNul after e is at) (AtEnd nothing it spot) = let no : [] ≡ 0 ∷ after = sym nothing ∙ e in absurd (cc)
one_stop text place c d p q (AtNul after e is at) (InEscape more f short it spot) = let no : 92 ∷ more ≡ 0 ∷ after = sym f ∙ e in absurd (cc)
one_stop text place c d p q (AtNul after e is at) (AtEscape more f wrong it spot) = let no : 92 ∷ more ≡ 0 ∷ after = sym f ∙ e in absurd (cc)
one_stop text place c d p q (AtNul after e is at) (AtNul more f it spot) = (is ∙ sym it, at ∙ sym spot)

pub one_no_text : (text : List ℕ) (c d : QlCause) (p q : List ℕ) → IsNotQuoted text c p → IsNotQuoted text d q → (c ≡ d) × (p ≡ q)
one_no_text text c d p q h k =
    let again = moved text h.quote k.quote h.inside k.inside k.place k.bytes h.opens k.opens k.passes in
    let r = same_passes h.quote h.inside h.place k.place h.bytes k.bytes h.passes again (stop_halts h.quote text h.place c p h.stops) (stop_halts h.quote text k.place d q k.stops) in
    one_stop text h.place c d p q h.stops (subst (λ (s : List ℕ). StopsInside text s d q) (sym r.1) k.stops)
