-- Where the mark of a target stands.
use Rattle.std.proofs.Common.{◌≡◌, ◌<◌, ◌≤◌, ◌+◌, sym, refl, arith, List, ℕ, [], Bool, true, false, length}
use Rattle.std.specs.Prelude.{Some, None, position, ◌==◌, nat_lt, if◌then◌else◌}
use Rattle.std.specs.List.{position_or_len}
use Rattle.std.proofs.lemmas.Bool.Decides.{nat_tests}
use Rattle.std.proofs.lemmas.List.{take_all, drop_all}
use Rattle.http_messages.specs.Targets.{path_of, query_part}
use Rattle.http_messages.specs.declared.target.TheConstants.{QUESTION_MARK}

abbrev is_mark : ℕ → Bool
is_mark b = b == QUESTION_MARK

pub mark-some : (t : List ℕ) (k : ℕ) → position is_mark t ≡ Some k → (k ≡ position_or_len is_mark t) × (k < length t)
mark-some t k e = go (nat_lt (position_or_len is_mark t) (length t)) refl e
  where
    go : (c : Bool) → nat_lt (position_or_len is_mark t) (length t) ≡ c
        → (if c then Some (position_or_len is_mark t) else None) ≡ Some k → (k ≡ position_or_len is_mark t) × (k < length t)
    go true hit e =
        let same : position_or_len is_mark t ≡ k = cc in
        let inside : position_or_len is_mark t < length t = grind (arith, nat_tests) in
        (sym same, omega arith)
    go false miss e = cc

pub mark-none : (t : List ℕ) → position is_mark t ≡ None → length t ≤ position_or_len is_mark t
mark-none t e = go (nat_lt (position_or_len is_mark t) (length t)) refl e
  where
    go : (c : Bool) → nat_lt (position_or_len is_mark t) (length t) ≡ c
        → (if c then Some (position_or_len is_mark t) else None) ≡ None → length t ≤ position_or_len is_mark t
    go true hit e = cc
    go false miss e = grind (arith, nat_tests)

pub path-none : (t : List ℕ) → position is_mark t ≡ None → t ≡ path_of t
path-none t e = sym (take_all (position_or_len is_mark t) t (mark-none t e))

pub part-none : (t : List ℕ) → position is_mark t ≡ None → [] ≡ query_part t
part-none t e = let past = mark-none t e in sym (drop_all (position_or_len is_mark t + 1) t (omega arith))
