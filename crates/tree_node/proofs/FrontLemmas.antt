-- Which bytes begin with an item, by their length.
use Rattle.std.proofs.Common.{◌≡◌, ℕ, ◌+◌, ◌-◌, ◌≤◌, ◌<◌, Bool, true, false, cond, ltb, ◌||◌, List, length, take, drop, Result, Ok, Err, refl, ap, ◌∙◌, inl, inr, arith}
use Rattle.std.specs.Result.{IsOk}
use Rattle.std.specs.Int.{Width, w16, w32, w64, byte_len, from_be_bytes}
use Rattle.std.proofs.lemmas.Bool.{cases_lt, le-ltb, lt-ltb}
use Rattle.std.proofs.lemmas.List.{length-drop}
use Rattle.tree_node.specs.declared.fault.NodeFault.{NodeFault}
use Rattle.tree_node.specs.declared.fault.NodeFault.TheVariants.{BadCount, CutShort}
use Rattle.tree_node.specs.Nodes.{Link}
use Rattle.tree_node.specs.Fronts.{bytes_at, entry_at, link_at, number_at}
use Rattle.tree_node.specs.internal.Reading.{link_by}

number_ok : (w : Width) (bytes : List ℕ) → byte_len w ≤ length bytes → number_at w bytes ≡ Ok (from_be_bytes w (take (byte_len w) bytes), drop (byte_len w) bytes)
number_ok w bytes long = rw (le-ltb _ _ long) refl

number_cut : (w : Width) (bytes : List ℕ) → length bytes < byte_len w → number_at w bytes ≡ Err CutShort
number_cut w bytes short = rw (lt-ltb _ _ short) refl

piece_ok : (n : ℕ) (bytes : List ℕ) → n ≤ length bytes → bytes_at n bytes ≡ Ok (take n bytes, drop n bytes)
piece_ok n bytes long = rw (le-ltb _ _ long) refl

piece_cut : (n : ℕ) (bytes : List ℕ) → length bytes < n → bytes_at n bytes ≡ Err CutShort
piece_cut n bytes short = rw (lt-ltb _ _ short) refl

-- an error is no value
not_ok : {A : Type 0} (r : Result A NodeFault) → r ≡ Err CutShort → IsOk r → ⊥
not_ok (Ok x) e is = absurd cc
not_ok (Err d) e is = absurd cc

-- the length of the first key
abbrev pub key_len : List ℕ → ℕ
key_len bytes = from_be_bytes w16 (take 2 bytes)

-- what comes after the first key
abbrev pub after_key : List ℕ → List ℕ
after_key bytes = drop (key_len bytes) (drop 2 bytes)

-- the length of the first value
abbrev pub value_len : List ℕ → ℕ
value_len bytes = from_be_bytes w32 (take 4 (after_key bytes))

pub after_long : (bytes : List ℕ) → length (after_key bytes) ≡ length bytes - 2 - key_len bytes
after_long bytes = length-drop (key_len bytes) (drop 2 bytes) ∙ ap (λ n. n - key_len bytes) (length-drop 2 bytes)

module _ (bytes : List ℕ) where
  -- an entry whose key is cut short,
  pub entry_cut : length bytes < 6 + key_len bytes → entry_at bytes ≡ Err CutShort
  unfolding entry_at
  entry_cut lt =
      elim (cases_lt (length bytes) 2) [
        | inl short ↦ rw (number_cut w16 bytes short) refl
        | inr long ↦
            elim (cases_lt (length (drop 2 bytes)) (key_len bytes)) [
              | inl short ↦ rw (number_ok w16 bytes long, piece_cut (key_len bytes) (drop 2 bytes) short) refl
              | inr some ↦ rw (number_ok w16 bytes long, piece_ok (key_len bytes) (drop 2 bytes) some, number_cut w32 (after_key bytes) (omega (arith, after_long bytes))) refl
            ]
      ]

  -- or its value
  pub value_cut : 6 + key_len bytes ≤ length bytes → length (drop 4 (after_key bytes)) < value_len bytes → entry_at bytes ≡ Err CutShort
  unfolding entry_at
  value_cut long short =
      rw (number_ok w16 bytes (omega arith), piece_ok (key_len bytes) (drop 2 bytes) (omega (arith, length-drop 2 bytes)), number_ok w32 (after_key bytes) (omega (arith, after_long bytes)), piece_cut (value_len bytes) (drop 4 (after_key bytes)) short) refl

  -- an entry that is whole
  pub entry_whole : 6 + key_len bytes ≤ length bytes → value_len bytes ≤ length (drop 4 (after_key bytes))
      → entry_at bytes ≡ Ok (record { key = take (key_len bytes) (drop 2 bytes); value = take (value_len bytes) (drop 4 (after_key bytes)) }, drop (value_len bytes) (drop 4 (after_key bytes)))
  unfolding entry_at
  entry_whole long some =
      rw (number_ok w16 bytes (omega arith), piece_ok (key_len bytes) (drop 2 bytes) (omega (arith, length-drop 2 bytes)), number_ok w32 (after_key bytes) (omega (arith, after_long bytes)), piece_ok (value_len bytes) (drop 4 (after_key bytes)) some) refl

  -- bytes that begin with an entry are long enough for its key,
  pub entry_long : IsOk (entry_at bytes) → 6 + key_len bytes ≤ length bytes
  entry_long is =
      elim (cases_lt (length bytes) (6 + key_len bytes)) [
        | inl short ↦ absurd (not_ok (entry_at bytes) (entry_cut short) is)
        | inr long ↦ long
      ]

  -- and for its value
  pub value_long : IsOk (entry_at bytes) → value_len bytes ≤ length (drop 4 (after_key bytes))
  value_long is =
      elim (cases_lt (length (drop 4 (after_key bytes))) (value_len bytes)) [
        | inl short ↦ absurd (not_ok (entry_at bytes) (value_cut (entry_long is) short) is)
        | inr long ↦ long
      ]

  -- a link that is cut short
  pub link_cut : length bytes < 42 + key_len bytes → link_at bytes ≡ Err CutShort
  unfolding link_at
  link_cut lt =
      elim (cases_lt (length bytes) 2) [
        | inl short ↦ rw (number_cut w16 bytes short) refl
        | inr long ↦
            elim (cases_lt (length (drop 2 bytes)) (key_len bytes)) [
              | inl short ↦ rw (number_ok w16 bytes long, piece_cut (key_len bytes) (drop 2 bytes) short) refl
              | inr some ↦
                  elim (cases_lt (length (after_key bytes)) 8) [
                    | inl short ↦ rw (number_ok w16 bytes long, piece_ok (key_len bytes) (drop 2 bytes) some, number_cut w64 (after_key bytes) short) refl
                    | inr eight ↦ rw (number_ok w16 bytes long, piece_ok (key_len bytes) (drop 2 bytes) some, number_ok w64 (after_key bytes) eight, piece_cut 32 (drop 8 (after_key bytes)) (omega (arith, after_long bytes, length-drop 8 (after_key bytes)))) refl
                  ]
            ]
      ]

  -- one that is whole, where its number is looked at
  pub link_whole : 42 + key_len bytes ≤ length bytes
      → link_at bytes ≡ cond (ltb (link_by (key_len bytes) bytes).0.number 1 || ltb 1099511627776 (link_by (key_len bytes) bytes).0.number) (Err BadCount) (Ok (link_by (key_len bytes) bytes))
  unfolding link_at
  link_whole long =
      rw (number_ok w16 bytes (omega arith), piece_ok (key_len bytes) (drop 2 bytes) (omega (arith, length-drop 2 bytes)), number_ok w64 (after_key bytes) (omega (arith, after_long bytes)), piece_ok 32 (drop 8 (after_key bytes)) (omega (arith, after_long bytes, length-drop 8 (after_key bytes)))) refl

  -- bytes that begin with a link are long enough for it,
  pub link_long : IsOk (link_at bytes) → 42 + key_len bytes ≤ length bytes
  link_long is =
      elim (cases_lt (length bytes) (42 + key_len bytes)) [
        | inl short ↦ absurd (not_ok (link_at bytes) (link_cut short) is)
        | inr long ↦ long
      ]

  -- and it is this one
  pub link_first : IsOk (link_at bytes) → link_at bytes ≡ Ok (link_by (key_len bytes) bytes)
  link_first is = only (ltb (link_by (key_len bytes) bytes).0.number 1 || ltb 1099511627776 (link_by (key_len bytes) bytes).0.number) (link_at bytes) (link_whole (link_long is)) is
    where
      only : (b : Bool) (r : Result (Link × List ℕ) NodeFault) → r ≡ cond b (Err BadCount) (Ok (link_by (key_len bytes) bytes)) → IsOk r → r ≡ Ok (link_by (key_len bytes) bytes)
      only false r e is = e
      only true (Ok x) e is = absurd cc
      only true (Err d) e is = absurd cc
