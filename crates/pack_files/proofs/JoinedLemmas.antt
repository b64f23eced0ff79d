-- Where the bytes of a file are in several files as one.
use Rattle.std.proofs.Common.{◌≡◌, ◌≤◌, ◌<◌, ◌+◌, ◌-◌, ◌*◌, ◌^◌, ℕ, zero, suc, List, [], ◌∷◌, ◌++◌, length, get_or, slice_set, take, drop, replicate, refl, sym, ap, ◌∙◌, arith, append_assoc, length-append, length-drop}
use Rattle.std.proofs.Math.Seq.{drop-append-add}
use Rattle.std.proofs.lemmas.List.{append-nil, drop-append-le, length-replicate, length-set, take-append-le}
use Rattle.std.specs.Prelude.{OnOk, Result, Ok, Err}
use Rattle.node_pack.specs.Places.{at_place}
use Rattle.node_pack.specs.declared.place.Place.{Place}
use Rattle.pack_files.specs.Joined.{AllRead, AreRead, AreShort, filled, joined}

-- a file with what follows it up to the next one
filled_long : (file : List ℕ) → length file ≤ 2 ^ 48 → length (filled file) ≡ 2 ^ 48
filled_long file short = omega (arith, short, length-append file (replicate (2 ^ 48 - length file) 0), length-replicate {A = ℕ} (2 ^ 48 - length file) 0)

pub short_long : (contents : List (List ℕ)) → AreShort contents → length (joined contents) ≡ length contents * 2 ^ 48
short_long [] all = refl
short_long (bytes ∷ others) all = omega (arith, length-append (filled bytes) (joined others), filled_long bytes all.0, short_long others all.1)

pub joined_more : (contents : List (List ℕ)) (file : List ℕ) → joined (contents ++ file ∷ []) ≡ joined contents ++ filled file
joined_more [] file = append-nil (filled file)
joined_more (bytes ∷ others) file = ap (λ (l : List ℕ). filled bytes ++ l) (joined_more others file) ∙ sym (append_assoc (filled bytes) (joined others) (filled file))

-- what stands at a place before the end of the first bytes
pub at_front : (place : Place) (front rest : List ℕ) → place.at + place.len ≤ length front → at_place place (front ++ rest) ≡ at_place place front
at_front place front rest within =
    ap (take place.len) (drop-append-le place.at front rest (omega (arith, within)))
    ∙ take-append-le place.len (drop place.at front) rest (omega (arith, within, length-drop place.at front))

-- what follows of a result that is Ok
pub on_ok : {A E : Type 0} {P Q : Type 0} (r : Result A E) → OnOk r P → (P → Q) → OnOk r Q
on_ok (Ok a) p f = f p
on_ok (Err e) p f = tt

module _ {F : Type 0} (reads : F → List ℕ → Type 0) where
  -- there are as many files as contents
  pub as_many : (files : List F) (contents : List (List ℕ)) → AllRead reads files contents → length contents ≡ length files
  as_many [] [] all = refl
  as_many [] (bytes ∷ others) all = absurd all
  as_many (file ∷ files) [] all = absurd all
  as_many (file ∷ files) (bytes ∷ others) all = ap suc (as_many files others all.2)

  -- how long they are as one
  pub joined_long : (files : List F) (contents : List (List ℕ)) → AllRead reads files contents → length (joined contents) ≡ length files * 2 ^ 48
  joined_long [] [] all = refl
  joined_long [] (bytes ∷ others) all = absurd all
  joined_long (file ∷ files) [] all = absurd all
  joined_long (file ∷ files) (bytes ∷ others) all =
      omega (arith, length-append (filled bytes) (joined others), filled_long bytes all.1, joined_long files others all.2)

  -- a file of them reads its bytes
  pub one_reads : (files : List F) (contents : List (List ℕ)) (i : ℕ) (d : F) → AllRead reads files contents → i < length files → reads (get_or files i d) (get_or contents i [])
  one_reads [] contents i d all lt = absurd (omega (arith, lt))
  one_reads (file ∷ files) [] i d all lt = absurd all
  one_reads (file ∷ files) (bytes ∷ others) zero d all lt = all.0
  one_reads (file ∷ files) (bytes ∷ others) (suc i) d all lt = one_reads files others i d all.2 (omega (arith, lt))

  -- and they are at its offset
  pub at_file : (files : List F) (contents : List (List ℕ)) (i offset len : ℕ) → AllRead reads files contents → i < length files → offset + len ≤ length (get_or contents i [])
      → take len (drop (i * 2 ^ 48 + offset) (joined contents)) ≡ take len (drop offset (get_or contents i []))
  at_file [] contents i offset len all lt within = absurd (omega (arith, lt))
  at_file (file ∷ files) [] i offset len all lt within = absurd all
  at_file (file ∷ files) (bytes ∷ others) zero offset len all lt within =
      let rest = replicate (2 ^ 48 - length bytes) 0 ++ joined others in
      ap (λ (n : ℕ). take len (drop n (filled bytes ++ joined others))) (omega arith)
      ∙ ap (λ (l : List ℕ). take len (drop offset l)) (append_assoc bytes (replicate (2 ^ 48 - length bytes) 0) (joined others))
      ∙ ap (take len) (drop-append-le offset bytes rest (omega (arith, within)))
      ∙ take-append-le len (drop offset bytes) rest (omega (arith, within, length-drop offset bytes))
  at_file (file ∷ files) (bytes ∷ others) (suc i) offset len all lt within =
      let next : suc i * 2 ^ 48 + offset ≡ length (filled bytes) + (i * 2 ^ 48 + offset) = omega (arith, filled_long bytes all.1) in
      ap (λ (n : ℕ). take len (drop n (filled bytes ++ joined others))) next
      ∙ ap (take len) (drop-append-add (filled bytes) (joined others) (i * 2 ^ 48 + offset))
      ∙ at_file files others i offset len all.2 (omega (arith, lt)) within

  -- a file that reads the same may come into the place of one of them
  pub one_set : (files : List F) (contents : List (List ℕ)) (i : ℕ) (file : F) → AllRead reads files contents → i < length files → reads file (get_or contents i []) → AllRead reads (slice_set files i file) contents
  one_set [] contents i other all lt one = absurd (omega (arith, lt))
  one_set (file ∷ files) [] i other all lt one = absurd all
  one_set (file ∷ files) (bytes ∷ others) zero other all lt one = (one, all.1, all.2)
  one_set (file ∷ files) (bytes ∷ others) (suc i) other all lt one = (all.0, all.1, one_set files others i other all.2 (omega (arith, lt)) one)

  pub set_read : (files : List F) (contents : List (List ℕ)) (i : ℕ) (file : F) → AreRead reads files contents → i < length files → reads file (get_or contents i []) → AreRead reads (slice_set files i file) contents
  set_read files contents i file are lt one = record {
    all = one_set files contents i file are.all lt one;
    few = omega (arith, are.few, length-set files i file);
  }
