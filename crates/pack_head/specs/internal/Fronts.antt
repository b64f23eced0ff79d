-- What the first four lines of a head say.
-- Source: this project.
use Rattle.std.specs.Prelude.{◌<◌, ◌^◌}
use Rattle.pack_head.specs.Heads.{IsRoot}
use Rattle.pack_head.specs.declared.front.Front.{Front}

-- each number fits its bits, and the root its bytes
pub record IsFront (front : Front) : Type 0 where
  pub root : IsRoot front.root.0
  pub sequence : front.sequence < 2 ^ 64
  pub at : front.manifest.at < 2 ^ 64
  pub len : front.manifest.len < 2 ^ 32
