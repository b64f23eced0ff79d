-- What is left where memory was refused.
use Rattle.std.proofs.Common.{◌≡◌, ℕ, List, ◌++◌, ◌∙◌, Err, Ok, Result, ap, append_assoc}
use Rattle.std.specs.Prelude.{OnErr}
use Rattle.pack_head.specs.internal.Extending.{Extends}

-- where it is so whatever the result is
pub on_err : {A E : Type 0} (r : Result A E) (P : Type 0) → P → OnErr r P
on_err (Ok a) P is = tt
on_err (Err e) P is = is

pub extends_after : (old mid new part : List ℕ) → mid ≡ old ++ part → Extends mid new → Extends old new
extends_after old mid new part first (later, second) = (part ++ later, second ∙ ap (λ (t : List ℕ). t ++ later) first ∙ append_assoc old part later)

-- what was appended before is part of it
pub err_after : {A E : Type 0} (r : Result A E) (old mid new : List ℕ) → Extends old mid → OnErr r (Extends mid new) → OnErr r (Extends old new)
err_after (Ok a) old mid new first is = tt
err_after (Err e) old mid new (part, first) is = extends_after old mid new part first is
