-- What chunks hold: the full ones, and then the last.
use Rattle.std.specs.Global.{Vec}
use Rattle.std.specs.List.{All, flat_map}
use Rattle.std.specs.Prelude.{◌≡◌, ◌<◌, ◌++◌, ℕ, List, [], ◌∷◌, length}

-- the bytes of all, one after the other
abbrev pub whole : List (Vec ℕ) → List ℕ → List ℕ
whole full last = flat_map (λ (chunk : Vec ℕ). chunk.items) full ++ last

-- none of them is empty
abbrev pub AreSome : List (Vec ℕ) → Type 0
AreSome full = All (λ (chunk : Vec ℕ). 0 < length chunk.items) full

-- this vector itself, and not a copy of it, is the last of them
abbrev pub IsLastOf : List (Vec ℕ) → Vec ℕ → Type 0
IsLastOf full chunk = (before : List (Vec ℕ)) × (full ≡ before ++ chunk ∷ [])
