-- What is shown, from what is told.
use Rattle.std.proofs.Common.{◌≡◌, ℕ, List, [], Result, Ok, Err, ap, inl, inr, subst, sym}
use Rattle.std.specs.declared.alloc.AllocError.{AllocError}
use Rattle.std.specs.declared.alloc.Global.{Global}
use Rattle.std.specs.declared.vec.Vec.{Vec}
use Rattle.osm_check.specs.Telling.{IsTold}
use Rattle.osm_check.specs.declared.told.Told.TheVariants.{No}
use Rattle.osm_check.specs.declared.why.Why.{Why}
use Rattle.osm_check.specs.declared.why.Why.TheVariants as whys
use Rattle.mirror_answer.specs.Showing.{IsFaultOf, IsOfProof, IsRightly, Wanted}
use Rattle.mirror_answer.specs.internal.Reasons.{IsFaultFor, IsRefusedFor, IsShownFor}
use Rattle.mirror_answer.specs.declared.mirror_fault.MirrorFault.{MirrorFault}
use Rattle.mirror_answer.specs.declared.shown.Shown.{Shown}
use Rattle.mirror_answer.specs.declared.shown.Shown.TheVariants.{Answer, Refused, Unread}

-- ---- which text is shown

-- it is given, where memory doesn't run out
abbrev pub given : Shown → Result Shown AllocError
given shown = Ok shown

abbrev items_of : Result Shown AllocError → List ℕ
items_of (Ok (Answer text)) = text.items
items_of (Ok (Unread fault)) = []
items_of (Ok (Refused fault)) = []
items_of (Err error) = []

pub same_items : (first second : Vec ℕ Global) → given (Answer first) ≡ given (Answer second) → first.items ≡ second.items
same_items first second same = ap items_of same

-- ---- that it is right

fault_right : (w : Wanted) (named proof : List ℕ) (why : Why) (fault : MirrorFault) → IsOfProof why
    → IsTold w.query w.root w.form proof (No why) → IsFaultFor why w.root named fault → IsFaultOf w named proof fault
fault_right w named proof why fault of told (inl (same, is)) = subst (IsFaultOf w named proof) (sym is) (same, of, told)
fault_right w named proof why fault of told (inr (other, is)) = subst (IsFaultOf w named proof) (sym is) (other, (why, of, told))

refused_right : (w : Wanted) (named proof : List ℕ) (why : Why) (shown : Shown) → IsOfProof why
    → IsTold w.query w.root w.form proof (No why) → IsRefusedFor why w.root named shown → IsRightly w named proof shown
refused_right w named proof why shown of told (fault, is, same) =
    subst (IsRightly w named proof) (sym same) (fault_right w named proof why fault of told is)

pub shown_right : (w : Wanted) (named proof : List ℕ) (why : Why) (shown : Shown)
    → IsTold w.query w.root w.form proof (No why) → IsShownFor why w.root named shown → IsRightly w named proof shown
shown_right w named proof (whys.QueryRefused fault) shown told is = subst (IsRightly w named proof) (sym is) (told.1 [])
shown_right w named proof whys.ProofMalformed shown told is = refused_right w named proof whys.ProofMalformed shown tt told is
shown_right w named proof whys.ProofNotRising shown told is = refused_right w named proof whys.ProofNotRising shown tt told is
shown_right w named proof whys.NodeMissing shown told is = refused_right w named proof whys.NodeMissing shown tt told is
shown_right w named proof whys.NodeMalformed shown told is = refused_right w named proof whys.NodeMalformed shown tt told is
shown_right w named proof whys.NodesDisagree shown told is = refused_right w named proof whys.NodesDisagree shown tt told is
shown_right w named proof whys.EntriesDisagree shown told is = refused_right w named proof whys.EntriesDisagree shown tt told is
shown_right w named proof whys.NodeUnused shown told is = refused_right w named proof whys.NodeUnused shown tt told is
shown_right w named proof (whys.AnswerDiffers byte) shown told is = absurd told.0
