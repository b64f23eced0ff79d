use Rattle.std.proofs.Common.{◌≡◌, ℕ, ◌<◌, ◌≤◌, List, ◌++◌, rules, length, take, sym, subst}
use Rattle.std.proofs.Math.Seq.{take-append-le}
use Rattle.std.specs.Prelude.{Option}
use Rattle.std.specs.Io.KnownBytes.{Consumes, IsAtEnd}
use Rattle.osm_commands.proofs.front_reader.read_piece.Goals as goal

-- what was read into the front of a piece was read into the piece
front-consumed : (a b : Option (List ℕ)) (part rest : List ℕ) (n : ℕ) → n ≤ length part → (0 < length (part ++ rest) → 0 < length part)
    → Consumes a b (take n part) → (n ≡ 0 → 0 < length part → IsAtEnd b)
    → Consumes a b (take n (part ++ rest)) × (n ≡ 0 → 0 < length (part ++ rest) → IsAtEnd b)
front-consumed a b part rest n fits room read end =
    (subst (Consumes a b) (sym (take-append-le n part rest fits)) read, λ zero some. end zero (room some))

pub returns-clause-bytes : goal.returns-clause-bytes
returns-clause-bytes g c =
    let read = c.in_ok-n.ensures in
    front-consumed _ _ _ _ _ read.bound.0 (λ some. search rules) read.bytes.0 read.bytes.1
