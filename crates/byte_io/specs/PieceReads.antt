-- A reader's bytes, read piece by piece.
-- Source: this project.
use Rattle.std.specs.Prelude.{ℕ, List}

-- how many reads were made, and the bytes of the last one
pub record PieceRead : Type 0 where
  pub reads : ℕ
  pub last : List ℕ
