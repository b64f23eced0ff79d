-- What was written, one part after the other.
use Rattle.std.proofs.Common.{ℕ, List, [], ◌++◌, sym, subst, append_assoc}
use Rattle.std.proofs.lemmas.List.{append-nil}
use Rattle.tree_node.proofs.shared.OutcomeLaws.{Nodes}
use Rattle.ql_eval.specs.Written.{HasWritten}

pub written_none : {old : Nodes} → HasWritten old old []
written_none {old = old} = record { all = λ before is. subst old (sym (append-nil before)) is }

pub written_then : {old mid new : Nodes} {text more : List ℕ} → HasWritten old mid text → HasWritten mid new more → HasWritten old new (text ++ more)
written_then {new = new} {text = text} {more = more} first last = record { all = λ before is. subst new (append_assoc before text more) (last.all (before ++ text) (first.all before is)) }

-- nothing more was written
pub written_still : {old mid new : Nodes} {text : List ℕ} → HasWritten old mid text → ((before : List ℕ) → mid before → new before) → HasWritten old new text
written_still {text = text} first last = record { all = λ before is. last (before ++ text) (first.all before is) }

-- a refused write wrote nothing
pub written_nothing : {old new : Nodes} → ((before : List ℕ) → old before → new before) → HasWritten old new []
written_nothing {new = new} same = record { all = λ before is. subst new (sym (append-nil before)) (same before is) }
