-- The lines that are left of a text.
use Rattle.std.proofs.Common.{◌≡◌, ℕ, List, [], Bool, true, false, not, Option, None, Some, refl}
use Rattle.std.specs.Borrow.{Bor}
use Rattle.std.specs.Option.{is_some}
use Rattle.std.specs.Prelude.{◌↔◌, IsTrue}
use Rattle.pack_head.proofs.PieceLemmas.{some_piece}
use Rattle.pack_head.specs.Heads.{line_feed}
use Rattle.pack_head.specs.internal.Left.{lines_of_rest}

pub none_left : (rest : Option (Bor (List ℕ))) (none : Bool) → is_some rest ≡ not none → IsTrue none ↔ (lines_of_rest rest ≡ [])
none_left None true is = (λ _. refl, λ _. refl)
none_left None false is = absurd (cc is)
none_left (Some text) true is = absurd (cc is)
none_left (Some text) false is = (λ h. absurd (cc h), λ e. absurd (some_piece line_feed text.now e))
