-- The readers of entries and links meet exactly the faults of items.
use Rattle.std.proofs.Common.{◌≡◌, ℕ, ◌<◌, ◌≤◌, ◌^◌, Bool, true, false, cond, ltb, ◌||◌, List, ◌++◌, ◌⊎◌, length, Result, Ok, Err, refl, sym, ap, subst, ◌∙◌, arith, inl, inr}
use Rattle.std.specs.Int.{Width, w16, w32, w64, to_be_bytes, byte_len}
use Rattle.std.proofs.lemmas.Bool.{cases_Bool, ltb-false, ltb-true}
use Rattle.tree_node.specs.declared.fault.NodeFault.{NodeFault}
use Rattle.tree_node.specs.declared.fault.NodeFault.TheVariants.{CutShort, BadCount}
use Rattle.tree_node.specs.Nodes.{AreBytes, Link, link}
use Rattle.tree_node.specs.Faults.{entry_form, link_form, HasWidths, HasNoItem}
use Rattle.tree_node.specs.Fronts.{◌>>=◌, number_at, bytes_at, entry_at, link_at}
use Rattle.tree_node.specs.internal.Reading.{entries_after, links_after}
use Rattle.tree_node.proofs.shared.FieldLemmas.{Takes, entry_takes, entry_again, link_takes, link_again, link_wide, number_takes, piece_takes, wide16, wide64, Takes-then}
use Rattle.tree_node.proofs.ItemFaults.{IsReader}

-- where a chain of steps failed
bind_err : {A B : Type 0} (r : Result A NodeFault) (f : A → Result B NodeFault) (e : NodeFault) → (r >>= f) ≡ Err e → (r ≡ Err e) ⊎ ((x : A) × (r ≡ Ok x) × (f x ≡ Err e))
bind_err (Ok x) f e p = inr (x, refl, p)
bind_err (Err d) f e p = inl cc

-- a test that failed
guard_err : {A : Type 0} (b : Bool) (d e : NodeFault) (x : A) → cond b (Err d) (Ok x) ≡ Err e → (b ≡ true) × (e ≡ d)
guard_err true d e x p = (refl, cc)
guard_err false d e x p = absurd cc

-- what was read was not refused
not_err : {A : Type 0} (x : A) (e : NodeFault) (r : Result A NodeFault) → r ≡ Ok x → r ≡ Err e → ⊥
not_err x e r p q = absurd cc

-- a number fails in one way
number_err : (w : Width) (bytes : List ℕ) (e : NodeFault) → number_at w bytes ≡ Err e → e ≡ CutShort
number_err w bytes e p = (guard_err (ltb (length bytes) (byte_len w)) CutShort e _ p).1

-- a piece of bytes fails in one way
piece_err : (n : ℕ) (bytes : List ℕ) (e : NodeFault) → bytes_at n bytes ≡ Err e → e ≡ CutShort
piece_err n bytes e p = (guard_err (ltb (length bytes) n) CutShort e _ p).1

-- an entry fails in one way
entry_err : (bytes : List ℕ) (e : NodeFault) → entry_at bytes ≡ Err e → e ≡ CutShort
unfolding entry_at
entry_err bytes e is =
    elim (bind_err (number_at w16 bytes) (λ n. bytes_at n.0 n.1 >>= λ key. number_at w32 key.1 >>= λ m. bytes_at m.0 m.1 >>= λ value. Ok (record { key = key.0; value = value.0 }, value.1)) e is) [
      | inl p ↦ number_err w16 bytes e p
      | inr (n, _, p) ↦ elim (bind_err (bytes_at n.0 n.1) (λ key. number_at w32 key.1 >>= λ m. bytes_at m.0 m.1 >>= λ value. Ok (record { key = key.0; value = value.0 }, value.1)) e p) [
        | inl q ↦ piece_err n.0 n.1 e q
        | inr (key, _, q) ↦ elim (bind_err (number_at w32 key.1) (λ m. bytes_at m.0 m.1 >>= λ value. Ok (record { key = key.0; value = value.0 }, value.1)) e q) [
          | inl r ↦ number_err w32 key.1 e r
          | inr (m, _, r) ↦ elim (bind_err (bytes_at m.0 m.1) (λ value. Ok (record { key = key.0; value = value.0 }, value.1)) e r) [
            | inl s ↦ piece_err m.0 m.1 e s
            | inr (value, _, s) ↦ absurd cc
          ]
        ]
      ]
    ]

-- the reader of entries, by its laws
pub entry_reader : IsReader entry_form entry_at entries_after
unfolding entries_after
entry_reader = record {
  takes = λ bytes x fits read. let took = entry_takes bytes x fits read in (took.0, took.1, tt);
  again = λ x rest shaped in_range. entry_again x rest shaped;
  far = λ x rest shaped not_in. absurd (not_in tt);
  fails = λ bytes e fits read. inl (
    entry_err bytes e read,
    λ x after shaped is. not_err (x, after) e (entry_at bytes) (ap entry_at is ∙ entry_again x after shaped) read,
  );
  none = λ low bytes. refl;
  some = λ n low bytes. refl;
}

-- one of two tests passed
pub or_true : (a b : Bool) → (a || b) ≡ true → (a ≡ true) ⊎ (b ≡ true)
or_true true b e = inl refl
or_true false b e = inr e

-- a number that the test refuses is out of range
out_of_range : (n : ℕ) → (ltb n 1 || ltb 1099511627776 n) ≡ true → ¬ ((1 ≤ n) × (n ≤ 2 ^ 40))
out_of_range n t in_range =
    elim (or_true (ltb n 1) (ltb 1099511627776 n) t) [
      | inl low ↦ let lt : n < 1 = ltb-true _ _ low in omega (arith, in_range.0)
      | inr high ↦ let lt : 1099511627776 < n = ltb-true _ _ high in omega (arith, in_range.1)
    ]

-- a number of entries as an inner node states it
abbrev InRange : ℕ → Type 0
InRange n = (1 ≤ n) × (n ≤ 2 ^ 40)

-- a number out of range is refused by the test
test_far : (n : ℕ) → ¬ InRange n → (ltb n 1 || ltb 1099511627776 n) ≡ true
test_far n not_in =
    elim (cases_Bool (ltb n 1)) [
      | inl low ↦ rw low refl
      | inr some ↦ elim (cases_Bool (ltb 1099511627776 n)) [
        | inl high ↦ rw (some, high) refl
        | inr few ↦ absurd (not_in (ltb-false _ _ some, ltb-false _ _ few))
      ]
    ]

-- a link fails in two ways
abbrev LinkFails : List ℕ → NodeFault → Type 0
LinkFails bytes e = (e ≡ CutShort) ⊎ ((e ≡ BadCount) × ((c : Link) × (rest : List ℕ) × (bytes ≡ link c ++ rest) × HasWidths c × ¬ InRange c.number))

-- the last step of reading a link
abbrev made_of : List ℕ → ℕ → List ℕ → Link
made_of key number child = record { greatest = key; number = number; child = child }

-- the test of the number
abbrev link_end : List ℕ × List ℕ → ℕ × List ℕ → List ℕ × List ℕ → Result (Link × List ℕ) NodeFault
link_end key number child = cond (ltb number.0 1 || ltb 1099511627776 number.0) (Err BadCount) (Ok (made_of key.0 number.0 child.0, child.1))

-- where reading a link fails, it is cut short or its number is out of range
link_err : (bytes : List ℕ) (e : NodeFault) → AreBytes bytes → link_at bytes ≡ Err e → LinkFails bytes e
unfolding link_at
link_err bytes e fits is =
    elim (bind_err (number_at w16 bytes) (λ n. bytes_at n.0 n.1 >>= λ key. number_at w64 key.1 >>= λ m. bytes_at 32 m.1 >>= λ child. link_end key m child) e is) [
      | inl p ↦ inl (number_err w16 bytes e p)
      | inr (n, pn, p) ↦ elim (bind_err (bytes_at n.0 n.1) (λ key. number_at w64 key.1 >>= λ m. bytes_at 32 m.1 >>= λ child. link_end key m child) e p) [
        | inl q ↦ inl (piece_err n.0 n.1 e q)
        | inr (key, pk, q) ↦ elim (bind_err (number_at w64 key.1) (λ m. bytes_at 32 m.1 >>= λ child. link_end key m child) e q) [
          | inl r ↦ inl (number_err w64 key.1 e r)
          | inr (m, pm, r) ↦ elim (bind_err (bytes_at 32 m.1) (λ child. link_end key m child) e r) [
            | inl s ↦ inl (piece_err 32 m.1 e s)
            | inr (child, pc, s) ↦
                let t0 = number_takes w16 (2 ^ 16) wide16 bytes n.0 n.1 fits pn in
                let t1 = piece_takes n.0 n.1 key.0 key.1 t0.0.rest_fits pk in
                let t2 = number_takes w64 (2 ^ 64) wide64 key.1 m.0 m.1 t1.0.rest_fits pm in
                let t3 = piece_takes 32 m.1 child.0 child.1 t2.0.rest_fits pc in
                let made : Link = record { greatest = key.0; number = m.0; child = child.0 } in
                let g = guard_err (ltb m.0 1 || ltb 1099511627776 m.0) BadCount e (made, child.1) s in
                let e23 = Takes-then key.1 (to_be_bytes w64 m.0) m.1 child.0 child.1 t2.0 t3.0 in
                let e123 = Takes-then n.1 key.0 key.1 (to_be_bytes w64 m.0 ++ child.0) child.1 t1.0 e23 in
                let e0123 = Takes-then bytes (to_be_bytes w16 n.0) n.1 (key.0 ++ (to_be_bytes w64 m.0 ++ child.0)) child.1 t0.0 e123 in
                let whole : Takes bytes (link made) child.1 = subst (λ (k : ℕ). Takes bytes (to_be_bytes w16 k ++ (key.0 ++ (to_be_bytes w64 m.0 ++ child.0))) child.1) (sym t1.1) e0123 in
                inr (g.1, (made, child.1, whole.parts, record { greatest = omega (arith, t0.1, t1.1); number = t2.1; child = t3.1 }, out_of_range m.0 g.0))
          ]
        ]
      ]
    ]

-- where a link is cut short, none stands there
no_link : (bytes : List ℕ) → link_at bytes ≡ Err CutShort → HasNoItem link_form bytes
no_link bytes read c after fits is = by (ltb c.number 1 || ltb 1099511627776 c.number) (sym (ap link_at is ∙ link_wide c after fits) ∙ read)
  where
    by : (b : Bool) → cond {A = Result (Link × List ℕ) NodeFault} b (Err BadCount) (Ok (c, after)) ≡ Err CutShort → ⊥
    by true p = absurd cc
    by false p = absurd cc

-- the reader of links, by its laws
pub link_reader : IsReader link_form link_at links_after
unfolding links_after
link_reader = record {
  takes = λ bytes x fits read. let took = link_takes bytes x fits read in
      (took.0, record { greatest = took.1.greatest; number = omega (arith, took.1.number); child = took.1.child }, (took.1.some, took.1.number));
  again = λ c rest shaped in_range. link_again c rest (record { greatest = shaped.greatest; some = in_range.0; number = in_range.1; child = shaped.child });
  far = λ c rest shaped not_in. link_wide c rest shaped ∙ rw (test_far c.number not_in) refl;
  fails = λ bytes e fits read.
      elim (link_err bytes e fits read) [
        | inl short ↦ inl (short, no_link bytes (read ∙ ap (λ (d : NodeFault). Err d) short))
        | inr far ↦ inr far
      ];
  none = λ low bytes. refl;
  some = λ n low bytes. refl;
}
