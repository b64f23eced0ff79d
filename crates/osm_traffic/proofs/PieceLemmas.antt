-- Where a piece is cut.
use Rattle.std.proofs.Common.{◌≡◌, ◌∙◌, ◌<◌, ◌≤◌, min, ℕ, List, ap, sym, subst, arith, length, take}
use Rattle.std.proofs.Math.Seq.{length-take-le, take-take}
use Rattle.osm_gate.specs.Pieces.{IsCut, cut_length}
use Rattle.osm_gate.proofs.shared.CutLemmas.{cut-fits, cut-is, cut-some}

-- ---- a piece that is given

module _ (bytes piece : List ℕ) (m n : ℕ) (least : m ≡ min (length bytes) (length piece)) (is : n ≡ cut_length (take m bytes)) where
  inside : m ≤ length bytes
  inside = omega arith

  front : length (take m bytes) ≡ m
  front = length-take-le m bytes inside

  within : n ≤ m
  within = let fits = cut-fits (take m bytes) in let long = front in omega arith

  pub given-bytes : n ≤ length bytes
  given-bytes = let fits = within in omega arith

  pub given-room : n ≤ length piece
  given-room = let fits = within in omega arith

  pub given-some : 0 < length bytes → 0 < length piece → 0 < n
  given-some some room =
      let long = front in
      let cut = cut-some (take m bytes) (omega arith) in
      omega arith

  pub given-length : n ≡ length (take n bytes)
  given-length = sym (length-take-le n bytes given-bytes)

  pub room-length : n ≡ length (take n piece)
  room-length = sym (length-take-le n piece given-room)

  pub given-cut : IsCut (take n bytes)
  given-cut = subst IsCut (ap (λ (k : ℕ). take k (take m bytes)) (sym is) ∙ take-take n m bytes within) (cut-is (take m bytes))
