-- A pack as the first file.
use Rattle.std.proofs.Common.{◌≡◌, ◌≤◌, ◌-◌, ◌^◌, ℕ, List, [], ◌∷◌, length, replicate, sym, ap, subst, ◌∙◌, arith, length-append}
use Rattle.std.specs.List.{AllByRecursion}
use Rattle.std.proofs.lemmas.List.{append-nil}
use Rattle.node_pack.specs.Known.{IsPlaced}
use Rattle.node_pack.specs.Packs.{IsPack, Kept, pack, place_in}
use Rattle.node_pack.specs.Placed.{HasNodesAt}
use Rattle.node_pack.specs.Places.{at_place}
use Rattle.node_pack.proofs.shared.PackPlaces.{are_placed, pack_long, packed}
use Rattle.pack_files.specs.Joined.{filled, joined}
use Rattle.pack_files.proofs.JoinedLemmas.{at_front}

module _ (root : List ℕ) (nodes : List Kept) (is : IsPack (pack root nodes) root nodes) where
  farther : (keys : List (List ℕ)) → AllByRecursion (IsPlaced (place_in nodes) (2 ^ 48)) keys → AllByRecursion (IsPlaced (place_in nodes) (2 ^ 64 - 1)) keys
  farther [] all = tt
  farther (key ∷ keys) all =
      let one = all.0 in
      (record { place = one.place; is = one.is; near = omega (arith, one.near); wide = one.wide; short = one.short }, farther keys all.1)

  pub first_short : length (pack root nodes) ≤ 2 ^ 48
  first_short = subst (λ (n : ℕ). n ≤ 2 ^ 48) (sym (pack_long root nodes is.wide)) is.short

  pub first_root : IsPlaced (place_in nodes) (2 ^ 64 - 1) root
  first_root = (farther (root ∷ []) (are_placed root nodes is (root ∷ []) (is.rooted, tt))).0

  -- its nodes stand at their places in files as one, where it is the only one
  pub first_at_places : HasNodesAt (joined (pack root nodes ∷ [])) (2 ^ 64 - 1) (place_in nodes) nodes
  first_at_places key place found =
      let has = packed root nodes is key place found in
      let file = pack root nodes in
      let zeros : List ℕ = replicate (2 ^ 48 - length (pack root nodes)) 0 in
      let alone : joined (pack root nodes ∷ []) ≡ filled (pack root nodes) = append-nil (filled (pack root nodes)) in
      record {
        kept = has.kept;
        is_in = has.is_in;
        has_digest = has.has_digest;
        children = has.children;
        placed = farther has.kept.children has.placed;
        short = has.short;
        stands = ap (at_place place) alone ∙ at_front place file zeros has.within ∙ has.stands;
        len = has.len;
        within = omega (arith, has.within, ap (λ (l : List ℕ). length l) alone, length-append file zeros);
      }
