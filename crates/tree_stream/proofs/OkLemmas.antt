-- What holds where a call succeeds.
use Rattle.std.proofs.Common.{Result, Ok, Err}
use Rattle.std.specs.Prelude.{IfOk, OnOk}

pub on_ok : {A E P Q : Type 0} (r : Result A E) → (P → Q) → OnOk r P → OnOk r Q
on_ok (Ok x) f h = f h
on_ok (Err e) f h = tt

pub on_ok_all : {A E P Q R S T : Type 0} (r : Result A E) → (P → Q → R → S → T) → OnOk r P → OnOk r Q → OnOk r R → OnOk r S → OnOk r T
on_ok_all (Ok x) f p q s t = f p q s t
on_ok_all (Err e) f p q s t = tt
