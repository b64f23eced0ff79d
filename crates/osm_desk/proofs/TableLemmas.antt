-- The code's table of gates, as the map of what is left of each connection.
use Rattle.std.proofs.Common.{◌≡◌, ◌∙◌, ℕ, List, ap, sym, refl, length, subst}
use Rattle.std.specs.BTreeMap as tree
use Rattle.std.specs.BTreeMap.{BTreeMap}
use Rattle.std.specs.FinMap.{from_entries, get, len}
use Rattle.std.specs.Ordering.{nat_cmp}
use Rattle.std.specs.Prelude.{Some, None, Result, Ok, Err, IfOk, OnErr, OnOk}
use Rattle.osm_gate.specs.Connections.{Rest, closed_rest, requests_next}
use Rattle.osm_keys.specs.Publications.{Publication}
use Rattle.osm_desk.specs.Contents.{Contents}
use Rattle.osm_desk.specs.OneConnection.{rest_if, rest_of, with_rest, without}
use Rattle.osm_desk.proofs.MapLemmas.{get-put_same, get-view, len-view, removed-put, view-insert, view-kept, view-remove}

abbrev pub view_of : {M : Type 0} → M → BTreeMap ℕ Rest → Contents M
view_of mirror m = record { mirror = mirror; connections = from_entries m.entries }

module _ {M : Type 0} (d : Contents M) (mirror : M) (m : BTreeMap ℕ Rest) (is : view_of mirror m ≡ d) (n : ℕ) where
  pub found : get d.connections n ≡ tree.get_by (nat_cmp n) m
  found = ap (λ (d : Contents M). get d.connections n) (sym is) ∙ get-view n m.entries

  pub size : tree.IsOrdered nat_cmp m → len d.connections ≡ length m.entries
  size o = ap (λ (d : Contents M). len d.connections) (sym is) ∙ len-view m o

  pub put : (r : Rest) (m' : BTreeMap ℕ Rest) → tree.UpdatesBy nat_cmp (nat_cmp n) m m' (Some r) → view_of mirror m' ≡ with_rest d n r
  put r m' u =
      ap (λ c. let d : Contents M = record { mirror = mirror; connections = c } in d) (view-insert m m' n r u)
      ∙ ap (λ (d : Contents M). with_rest d n r) is

  pub taken : (m' : BTreeMap ℕ Rest) → tree.UpdatesBy nat_cmp (nat_cmp n) m m' None → view_of mirror m' ≡ without d n
  taken m' u =
      ap (λ c. let d : Contents M = record { mirror = mirror; connections = c } in d) (view-remove m m' n u)
      ∙ ap (λ (d : Contents M). without d n) is

  -- a piece was taken, or not, and the mirror is the same
  module _ (r r' : Rest) (m' : BTreeMap ℕ Rest) (some : tree.get_by (nat_cmp n) m ≡ Some r) (written : tree.WritesThrough nat_cmp (nat_cmp n) m r' m') (mirror' : M) (same : mirror' ≡ mirror) where
    pub rest_is : rest_of d n ≡ r
    rest_is = ap rest_if (found ∙ some)

    put_in : view_of mirror' m' ≡ with_rest d n r'
    put_in = ap (λ (mirror : M). view_of mirror m') same ∙ put r' m' (written.3 (rw some refl))

    pub others_in : without (view_of mirror' m') n ≡ without d n
    others_in = ap (λ (d : Contents M). without d n) put_in ∙ ap (λ c. let d : Contents M = record { mirror = d.mirror; connections = c } in d) (removed-put d.connections n r')

    pub left_in : (piece : List ℕ) → r' ≡ (requests_next r piece).rest → rest_of (view_of mirror' m') n ≡ (requests_next (rest_of d n) piece).rest
    left_in piece next =
        ap (λ (d : Contents M). rest_of d n) put_in
        ∙ ap rest_if (get-put_same d.connections n r')
        ∙ next
        ∙ ap (λ (r : Rest). (requests_next r piece).rest) (sym rest_is)

    pub heard_in : (piece : List ℕ) → r' ≡ (requests_next r piece).rest → view_of mirror' m' ≡ with_rest d n (requests_next (rest_of d n) piece).rest
    heard_in piece next =
        put_in
        ∙ ap (with_rest d n) (next ∙ ap (λ (r : Rest). (requests_next r piece).rest) (sym rest_is))

    pub kept_in : r' ≡ r → view_of mirror' m' ≡ d
    kept_in unchanged =
        ap (λ (mirror : M). view_of mirror m') same
        ∙ ap (λ c. let d : Contents M = record { mirror = mirror; connections = c } in d)
        (view-kept m m' n r some (subst (λ r. tree.WritesThrough nat_cmp (nat_cmp n) m r m') unchanged written))
        ∙ is

-- a connection that isn't open takes nothing
pub closed_rest_in : {M : Type 0} → (d : Contents M) (n : ℕ) (piece : List ℕ) → get d.connections n ≡ None → rest_of d n ≡ (requests_next (rest_of d n) piece).rest
closed_rest_in d n piece none =
    let is : rest_of d n ≡ closed_rest = ap rest_if none in
    is ∙ ap (λ (r : Rest). (requests_next r piece).rest) (sym is)

pub held_inside : {M : Type 0} → (holds : M → Publication → Type 0) (d : Contents M) (mirror : M) (m : BTreeMap ℕ Rest) (p : Publication) → view_of mirror m ≡ d → holds d.mirror p → holds mirror p
held_inside {M} holds d mirror m p is held = subst (λ (s : M). holds s p) (sym (ap (λ (d : Contents M). d.mirror) is)) held

pub on_ok : {A E : Type 0} {P Q : Type 0} (result : Result A E) → IfOk result (λ _. P) → (P → Q) → OnOk result Q
on_ok (Ok value) is then = then is
on_ok (Err error) is then = tt

pub on_err : {A E : Type 0} {P Q : Type 0} (result : Result A E) → OnErr result P → (P → Q) → OnErr result Q
on_err (Ok value) is then = tt
on_err (Err error) is then = then is
