-- A field that is read is the field that was written, and what was written is read again.
use Rattle.std.proofs.Common.{◌≡◌, ℕ, ◌+◌, ◌^◌, ◌<◌, ◌≤◌, Bool, true, false, cond, ltb, List, ◌++◌, length, take, drop, Result, Ok, Err, refl, sym, ap, subst, ◌∙◌, append_assoc, arith, inl, inr, ◌||◌}
use Rattle.std.specs.Int.{Width, w16, w32, w64, byte_len, from_be_bytes, to_be_bytes}
use Rattle.std.proofs.lemmas.Bool.{cases_lt, ltb-false, le-ltb}
use Rattle.std.proofs.lemmas.List.{take_at, drop_at, take-append-drop, length-append, length-take, get_or-drop, get_or-take, get_or_past}
use Rattle.std.proofs.lemmas.Nat.{be_bytes_2, be_bytes_4, be_bytes_8, from_be_bytes-to_be_bytes_2, from_be_bytes-to_be_bytes_4, from_be_bytes-to_be_bytes_8}
use Rattle.tree_node.specs.declared.fault.NodeFault.{NodeFault}
use Rattle.tree_node.specs.declared.fault.NodeFault.TheVariants.{CutShort, BadCount}
use Rattle.tree_node.specs.Nodes.{AreBytes, Binding, Link, entry, link, FitsEntry, FitsLink}
use Rattle.tree_node.specs.Faults.{HasWidths}
use Rattle.tree_node.specs.Fronts.{◌>>=◌, number_at, bytes_at, entry_at, link_at}

-- what comes after some bytes is of bytes
pub AreBytes-drop : (n : ℕ) (bytes : List ℕ) → AreBytes bytes → AreBytes (drop n bytes)
AreBytes-drop n bytes h i = rw get_or-drop (h (n + i))

-- the first of some bytes are bytes
AreBytes-take : (n : ℕ) (bytes : List ℕ) → AreBytes bytes → AreBytes (take n bytes)
AreBytes-take n bytes h i =
    elim (cases_lt i n) [
      | inl lt ↦ rw (get_or-take n bytes i 0 lt) (h i)
      | inr le ↦ rw (get_or_past (take n bytes) i 0 (omega (arith, length-take n bytes))) (omega arith)
    ]

-- the value of a step that did not fail
pub bind_ok : {A B : Type 0} (r : Result A NodeFault) (f : A → Result B NodeFault) (y : B) → (r >>= f) ≡ Ok y → (x : A) × (r ≡ Ok x) × (f x ≡ Ok y)
bind_ok (Ok x) f y e = (x, refl, e)
bind_ok (Err d) f y e = absurd cc

-- a test that did not fail
pub guard_ok : {A : Type 0} (b : Bool) (d : NodeFault) (x y : A) → cond b (Err d) (Ok x) ≡ Ok y → (b ≡ false) × (x ≡ y)
guard_ok true d x y e = absurd cc
guard_ok false d x y e = (refl, cc)

-- a step that did not fail, whose faults are those of nodes
abbrev done : {A : Type 0} → A → Result A NodeFault
done x = Ok x

-- two equal results have equal values
pub ok_is : {A : Type 0} (x y : A) → done x ≡ done y → x ≡ y
ok_is x y e = cc

-- what a reader took from the front
pub record Takes (bytes text rest : List ℕ) : Type 0 where
  pub parts : bytes ≡ text ++ rest
  pub rest_fits : AreBytes rest

-- one reader after the other
pub Takes-then : (a x b y c : List ℕ) → Takes a x b → Takes b y c → Takes a (x ++ y) c
Takes-then a x b y c p q = record { parts = p.parts ∙ ap (λ (t : List ℕ). x ++ t) q.parts ∙ sym (append_assoc x y c); rest_fits = q.rest_fits }

-- ---- numbers

pub record IsWide (w : Width) (limit : ℕ) : Type 0 where
  pub len : (n : ℕ) → length (to_be_bytes w n) ≡ byte_len w
  pub back : (bytes : List ℕ) → length bytes ≡ byte_len w → AreBytes bytes → to_be_bytes w (from_be_bytes w bytes) ≡ bytes
  pub again : (n : ℕ) → n < limit → from_be_bytes w (to_be_bytes w n) ≡ n
  pub below : (bytes : List ℕ) → AreBytes bytes → from_be_bytes w bytes < limit

-- numbers of two bytes
pub wide16 : IsWide w16 (2 ^ 16)
wide16 = record {
  len = λ n. refl;
  back = λ bytes len fits. be_bytes_2 bytes _ len fits refl;
  again = λ n lt. from_be_bytes-to_be_bytes_2 n lt;
  below = λ bytes fits. omega (arith, fits 0, fits 1);
}

-- numbers of four bytes
pub wide32 : IsWide w32 (2 ^ 32)
wide32 = record {
  len = λ n. refl;
  back = λ bytes len fits. be_bytes_4 bytes _ len fits refl;
  again = λ n lt. from_be_bytes-to_be_bytes_4 n lt;
  below = λ bytes fits. omega (arith, fits 0, fits 1, fits 2, fits 3);
}

-- numbers of eight bytes
pub wide64 : IsWide w64 (2 ^ 64)
wide64 = record {
  len = λ n. refl;
  back = λ bytes len fits. be_bytes_8 bytes _ len fits refl;
  again = λ n lt. from_be_bytes-to_be_bytes_8 n lt;
  below = λ bytes fits. omega (arith, fits 0, fits 1, fits 2, fits 3, fits 4, fits 5, fits 6, fits 7);
}

-- a number that was read stands at the front
pub number_takes : (w : Width) (limit : ℕ) (wide : IsWide w limit) (bytes : List ℕ) (n : ℕ) (rest : List ℕ) → AreBytes bytes → number_at w bytes ≡ Ok (n, rest) → Takes bytes (to_be_bytes w n) rest × (n < limit)
number_takes w limit wide bytes n rest fits e =
    let g = guard_ok (ltb (length bytes) (byte_len w)) CutShort (from_be_bytes w (take (byte_len w) bytes), drop (byte_len w) bytes) (n, rest) e in
    let long : byte_len w ≤ length bytes = ltb-false _ _ g.0 in
    let n-is : from_be_bytes w (take (byte_len w) bytes) ≡ n = ap (λ (p : ℕ × List ℕ). p.0) g.1 in
    let rest-is : drop (byte_len w) bytes ≡ rest = ap (λ (p : ℕ × List ℕ). p.1) g.1 in
    let front : to_be_bytes w n ≡ take (byte_len w) bytes = rw (← n-is) (wide.back (take (byte_len w) bytes) (omega (arith, length-take (byte_len w) bytes)) (AreBytes-take (byte_len w) bytes fits)) in
    (record { parts = rw (front, ← rest-is) (sym (take-append-drop (byte_len w) bytes)); rest_fits = rw (← rest-is) (AreBytes-drop (byte_len w) bytes fits) }, rw (← n-is) (wide.below (take (byte_len w) bytes) (AreBytes-take (byte_len w) bytes fits)))

-- a number that was written is read
pub number_again : (w : Width) (limit : ℕ) (wide : IsWide w limit) (n : ℕ) (rest : List ℕ) → n < limit → number_at w (to_be_bytes w n ++ rest) ≡ Ok (n, rest)
number_again w limit wide n rest lt =
    let len = wide.len n in
    let long : ltb (length (to_be_bytes w n ++ rest)) (byte_len w) ≡ false = le-ltb _ _ (omega (arith, length-append (to_be_bytes w n) rest)) in
    rw (long, take_at (to_be_bytes w n) rest (byte_len w) len, drop_at (to_be_bytes w n) rest (byte_len w) len, wide.again n lt) refl

-- ---- pieces of a length

-- a piece that was read stands at the front
pub piece_takes : (n : ℕ) (bytes text rest : List ℕ) → AreBytes bytes → bytes_at n bytes ≡ Ok (text, rest) → Takes bytes text rest × (length text ≡ n)
piece_takes n bytes text rest fits e =
    let g = guard_ok (ltb (length bytes) n) CutShort (take n bytes, drop n bytes) (text, rest) e in
    let long : n ≤ length bytes = ltb-false _ _ g.0 in
    let len : length (take n bytes) ≡ n = omega (arith, length-take n bytes) in
    let whole : Takes bytes (take n bytes) (drop n bytes) = record { parts = sym (take-append-drop n bytes); rest_fits = AreBytes-drop n bytes fits } in
    subst (λ (p : List ℕ × List ℕ). Takes bytes p.0 p.1 × (length p.0 ≡ n)) g.1 (whole, len)

-- a piece that was written is read
pub piece_again : (text rest : List ℕ) (n : ℕ) → length text ≡ n → bytes_at n (text ++ rest) ≡ Ok (text, rest)
piece_again text rest n len =
    let long : ltb (length (text ++ rest)) n ≡ false = le-ltb _ _ (omega (arith, length-append text rest)) in
    rw (long, take_at text rest n len, drop_at text rest n len) refl

-- ---- entries

-- an entry that was read stands at the front, and its fields have their widths
pub entry_takes : (bytes : List ℕ) (x : Binding × List ℕ) → AreBytes bytes → entry_at bytes ≡ Ok x → Takes bytes (entry x.0) x.1 × FitsEntry x.0
unfolding entry_at
entry_takes bytes x fits e =
    let a = bind_ok (number_at w16 bytes) (λ n. bytes_at n.0 n.1 >>= λ key. number_at w32 key.1 >>= λ m. bytes_at m.0 m.1 >>= λ value. Ok (record { key = key.0; value = value.0 }, value.1)) x e in
    let b = bind_ok (bytes_at a.0.0 a.0.1) (λ key. number_at w32 key.1 >>= λ m. bytes_at m.0 m.1 >>= λ value. Ok (record { key = key.0; value = value.0 }, value.1)) x a.2 in
    let c = bind_ok (number_at w32 b.0.1) (λ m. bytes_at m.0 m.1 >>= λ value. Ok (record { key = b.0.0; value = value.0 }, value.1)) x b.2 in
    let d = bind_ok (bytes_at c.0.0 c.0.1) (λ value. Ok (record { key = b.0.0; value = value.0 }, value.1)) x c.2 in
    let t0 = number_takes w16 (2 ^ 16) wide16 bytes a.0.0 a.0.1 fits a.1 in
    let t1 = piece_takes a.0.0 a.0.1 b.0.0 b.0.1 t0.0.rest_fits b.1 in
    let t2 = number_takes w32 (2 ^ 32) wide32 b.0.1 c.0.0 c.0.1 t1.0.rest_fits c.1 in
    let t3 = piece_takes c.0.0 c.0.1 d.0.0 d.0.1 t2.0.rest_fits d.1 in
    let e23 = Takes-then b.0.1 (to_be_bytes w32 c.0.0) c.0.1 d.0.0 d.0.1 t2.0 t3.0 in
    let e123 = Takes-then a.0.1 b.0.0 b.0.1 (to_be_bytes w32 c.0.0 ++ d.0.0) d.0.1 t1.0 e23 in
    let e0123 = Takes-then bytes (to_be_bytes w16 a.0.0) a.0.1 (b.0.0 ++ (to_be_bytes w32 c.0.0 ++ d.0.0)) d.0.1 t0.0 e123 in
    let made : Binding × List ℕ = (record { key = b.0.0; value = d.0.0 }, d.0.1) in
    let whole : Takes bytes (entry made.0) made.1 = subst (λ (p : ℕ × ℕ). Takes bytes (to_be_bytes w16 p.0 ++ (b.0.0 ++ (to_be_bytes w32 p.1 ++ d.0.0))) d.0.1) (λ i. (sym t1.1 i, sym t3.1 i)) e0123 in
    subst (λ (y : Binding × List ℕ). Takes bytes (entry y.0) y.1 × FitsEntry y.0) (ok_is made x d.2) (whole, record { key = omega (arith, t0.1, t1.1); value = omega (arith, t2.1, t3.1) })

-- an entry that was written is read
pub entry_again : (e : Binding) (rest : List ℕ) → FitsEntry e → entry_at (entry e ++ rest) ≡ Ok (e, rest)
unfolding entry_at
entry_again e rest fits =
    let regrouped : entry e ++ rest ≡ to_be_bytes w16 (length e.key) ++ (e.key ++ (to_be_bytes w32 (length e.value) ++ (e.value ++ rest))) = simp append_assoc in
    ap entry_at regrouped ∙ rw (number_again w16 (2 ^ 16) wide16 (length e.key) (e.key ++ (to_be_bytes w32 (length e.value) ++ (e.value ++ rest))) fits.key, piece_again e.key (to_be_bytes w32 (length e.value) ++ (e.value ++ rest)) (length e.key) refl, number_again w32 (2 ^ 32) wide32 (length e.value) (e.value ++ rest) fits.value, piece_again e.value rest (length e.value) refl) refl

-- ---- links

-- neither of two tests passed
or_false : (a b : Bool) → (a || b) ≡ false → (a ≡ false) × (b ≡ false)
or_false true b e = absurd cc
or_false false b e = (refl, e)

-- a link that was read stands at the front, and its fields are in range
pub link_takes : (bytes : List ℕ) (x : Link × List ℕ) → AreBytes bytes → link_at bytes ≡ Ok x → Takes bytes (link x.0) x.1 × FitsLink x.0
unfolding link_at
link_takes bytes x fits e =
    let last = λ (key : List ℕ × List ℕ) (number : ℕ × List ℕ) (child : List ℕ × List ℕ). cond (ltb number.0 1 || ltb 1099511627776 number.0) (Err BadCount) (Ok (record { greatest = key.0; number = number.0; child = child.0 }, child.1)) in
    let a = bind_ok (number_at w16 bytes) (λ n. bytes_at n.0 n.1 >>= λ key. number_at w64 key.1 >>= λ m. bytes_at 32 m.1 >>= λ child. last key m child) x e in
    let b = bind_ok (bytes_at a.0.0 a.0.1) (λ key. number_at w64 key.1 >>= λ m. bytes_at 32 m.1 >>= λ child. last key m child) x a.2 in
    let c = bind_ok (number_at w64 b.0.1) (λ m. bytes_at 32 m.1 >>= λ child. last b.0 m child) x b.2 in
    let d = bind_ok (bytes_at 32 c.0.1) (λ child. last b.0 c.0 child) x c.2 in
    let t0 = number_takes w16 (2 ^ 16) wide16 bytes a.0.0 a.0.1 fits a.1 in
    let t1 = piece_takes a.0.0 a.0.1 b.0.0 b.0.1 t0.0.rest_fits b.1 in
    let t2 = number_takes w64 (2 ^ 64) wide64 b.0.1 c.0.0 c.0.1 t1.0.rest_fits c.1 in
    let t3 = piece_takes 32 c.0.1 d.0.0 d.0.1 t2.0.rest_fits d.1 in
    let made : Link × List ℕ = (record { greatest = b.0.0; number = c.0.0; child = d.0.0 }, d.0.1) in
    let g = guard_ok (ltb c.0.0 1 || ltb 1099511627776 c.0.0) BadCount made x d.2 in
    let bounds = or_false (ltb c.0.0 1) (ltb 1099511627776 c.0.0) g.0 in
    let low : 1 ≤ c.0.0 = ltb-false _ _ bounds.0 in
    let high : c.0.0 ≤ 1099511627776 = ltb-false _ _ bounds.1 in
    let e23 = Takes-then b.0.1 (to_be_bytes w64 c.0.0) c.0.1 d.0.0 d.0.1 t2.0 t3.0 in
    let e123 = Takes-then a.0.1 b.0.0 b.0.1 (to_be_bytes w64 c.0.0 ++ d.0.0) d.0.1 t1.0 e23 in
    let e0123 = Takes-then bytes (to_be_bytes w16 a.0.0) a.0.1 (b.0.0 ++ (to_be_bytes w64 c.0.0 ++ d.0.0)) d.0.1 t0.0 e123 in
    let whole : Takes bytes (link made.0) made.1 = subst (λ (n : ℕ). Takes bytes (to_be_bytes w16 n ++ (b.0.0 ++ (to_be_bytes w64 c.0.0 ++ d.0.0))) d.0.1) (sym t1.1) e0123 in
    subst (λ (y : Link × List ℕ). Takes bytes (link y.0) y.1 × FitsLink y.0) g.1 (whole, record { greatest = omega (arith, t0.1, t1.1); some = low; number = high; child = t3.1 })

-- a link whose fields have their widths is read, and then its number is looked at
pub link_wide : (c : Link) (rest : List ℕ) → HasWidths c → link_at (link c ++ rest) ≡ cond (ltb c.number 1 || ltb 1099511627776 c.number) (Err BadCount) (Ok (c, rest))
unfolding link_at
link_wide c rest fits =
    let regrouped : link c ++ rest ≡ to_be_bytes w16 (length c.greatest) ++ (c.greatest ++ (to_be_bytes w64 c.number ++ (c.child ++ rest))) = simp append_assoc in
    ap link_at regrouped ∙ rw (number_again w16 (2 ^ 16) wide16 (length c.greatest) (c.greatest ++ (to_be_bytes w64 c.number ++ (c.child ++ rest))) fits.greatest, piece_again c.greatest (to_be_bytes w64 c.number ++ (c.child ++ rest)) (length c.greatest) refl, number_again w64 (2 ^ 64) wide64 c.number (c.child ++ rest) fits.number, piece_again c.child rest 32 fits.child) refl

-- a link that was written is read
pub link_again : (c : Link) (rest : List ℕ) → FitsLink c → link_at (link c ++ rest) ≡ Ok (c, rest)
link_again c rest fits =
    let low : ltb c.number 1 ≡ false = le-ltb _ _ fits.some in
    let high : ltb 1099511627776 c.number ≡ false = le-ltb _ _ fits.number in
    link_wide c rest (record { greatest = fits.greatest; number = omega (arith, fits.number); child = fits.child }) ∙ rw (low, high) refl
