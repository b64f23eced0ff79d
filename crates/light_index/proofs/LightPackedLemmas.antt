-- Packed entries: what is cut from the bytes is what was packed into them.
use Rattle.std.proofs.Common.{◌≡◌, ℕ, suc, ◌+◌, ◌<◌, ◌≤◌, List, [], ◌∷◌, ◌++◌, length, take, drop, get_or, refl, sym, ap, ◌∙◌, append_assoc, add-one, arith}
use Rattle.std.proofs.Math.Seq.{drop-cons}
use Rattle.std.proofs.lemmas.List.{length-drop}
use Rattle.tree_node.specs.Nodes.{Binding}
use Rattle.light_index.specs.declared.light_entry_list.LightSpan.{LightSpan}
use Rattle.light_index.specs.LightEntryLists.{cut, packed_len}

-- so many entries of a packed list have been lent, and the rest is packed in what is left
pub record IsLent (spans : List LightSpan) (bytes : List ℕ) (lent : List Binding) (k : ℕ) (rest : List ℕ) : Type 0 where
  pub whole : lent ++ cut (drop k spans) rest ≡ cut spans bytes
  pub long : length rest ≡ packed_len (drop k spans)

pub none_lent : (spans : List LightSpan) (bytes : List ℕ) → length bytes ≡ packed_len spans → IsLent spans bytes [] 0 bytes
none_lent spans bytes long = record { whole = refl; long = long }

module _ (spans : List LightSpan) (bytes : List ℕ) (lent : List Binding) (k : ℕ) (rest : List ℕ) (span : LightSpan) (is : IsLent spans bytes lent k rest) (inside : k < length spans) (here : span ≡ get_or spans k span) where
  ahead : drop k spans ≡ span ∷ drop (k + 1) spans
  ahead = rw (add-one) (drop-cons spans k span inside ∙ ap (λ (x : LightSpan). x ∷ drop (suc k) spans) (sym here))

  -- the next entry is in what is left
  pub room : span.key + span.value ≤ length rest
  room = let e = is.long in let f = ap packed_len ahead in omega (arith, e, f)

  pub one_more : IsLent spans bytes (lent ++ record { key = take span.key rest; value = take span.value (drop span.key rest) } ∷ []) (k + 1) (drop span.value (drop span.key rest))
  one_more = record {
    whole = append_assoc lent (record { key = take span.key rest; value = take span.value (drop span.key rest) } ∷ []) (cut (drop (k + 1) spans) (drop span.value (drop span.key rest))) ∙ (sym (ap (λ (xs : List LightSpan). lent ++ cut xs rest) ahead) ∙ is.whole);
    long = let e = is.long in let f = ap packed_len ahead in let l = length-drop span.key rest in let m = length-drop span.value (drop span.key rest) in omega (arith, e, f, l, m, room);
  }
