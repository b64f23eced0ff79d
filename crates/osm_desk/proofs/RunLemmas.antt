-- What each connection got in a run of the code.
use Rattle.std.proofs.Common.{◌≡◌, ℕ, Bool, true, false, List, [], ◌∷◌, ◌++◌, sym, refl, subst}
use Rattle.std.specs.FinMap.{get, insert, len}
use Rattle.std.specs.Prelude.{◌==◌, Option, Some, None, Result, Ok, Err, if◌then◌else◌, nat_lt}
use Rattle.osm_gate.specs.Connections.{RespondsOn, Rest, open_rest}
use Rattle.osm_gate.specs.Terms.{Terms}
use Rattle.osm_keys.specs.Publications.{Publication}
use Rattle.osm_index.specs.declared.apply_fault.ApplyFault.{ApplyFault}
use Rattle.osm_desk.specs.Completions.{FindsRoom, all_completions_in, completions_in, completions_of, of_number}
use Rattle.osm_desk.specs.Desks.{Completion, Desk, arrive_step, end_step, fresh_desk, open_step, publish_step, refuse, replies, silent_step, step}
use Rattle.osm_desk.specs.Happenings.{Happening, arrived, ended, opened, published}
use Rattle.osm_desk.specs.Runs.{Done, IsRefusedBy, RanOn, RespondAllOn, lasting_happenings, stands, texts_got, texts_in}
use Rattle.osm_desk.specs.Stepping.{GivesOn, RespondEachOn}
use Rattle.osm_desk.specs.declared.desk_fault.DeskFault.{DeskFault}
use Rattle.osm_desk.specs.declared.desk_fault.DeskFault.TheVariants.{NoRoom}
use Rattle.osm_desk.specs.declared.limits.TheConstants.{CONNECTION_LIMIT}
use Rattle.osm_desk.proofs.CompletionLemmas.{all_completions_in-replies}

-- ---- a refused step changes nothing

open-leaves : (d : Desk) (n : ℕ) (o : Option Rest) (fault : DeskFault) → (open_step d n o).reply ≡ Err fault → (open_step d n o).desk ≡ d
open-leaves d n (Some r) fault = λ e. refl
open-leaves d n None fault = elim (nat_lt (len d.connections) CONNECTION_LIMIT) as (λ b. (if b then silent_step d.publication (insert d.connections n (open_rest [])) else refuse d NoRoom).reply ≡ Err fault
    → (if b then silent_step d.publication (insert d.connections n (open_rest [])) else refuse d NoRoom).desk ≡ d) [ true ↦ λ e. cc | false ↦ λ e. refl ]

arrive-leaves : (d : Desk) (n : ℕ) (piece : List ℕ) (o : Option Rest) (fault : DeskFault) → (arrive_step d n piece o).reply ≡ Err fault → (arrive_step d n piece o).desk ≡ d
arrive-leaves d n piece None fault e = refl
arrive-leaves d n piece (Some r) fault e = cc

end-leaves : (d : Desk) (n : ℕ) (o : Option Rest) (fault : DeskFault) → (end_step d n o).reply ≡ Err fault → (end_step d n o).desk ≡ d
end-leaves d n None fault e = refl
end-leaves d n (Some r) fault e = cc

publish-leaves : (d : Desk) (r : Result Publication ApplyFault) (fault : DeskFault) → (publish_step d r).reply ≡ Err fault → (publish_step d r).desk ≡ d
publish-leaves d (Err f) fault e = refl
publish-leaves d (Ok p) fault e = cc

pub refused-leaves : (d : Desk) (h : Happening) (fault : DeskFault) → (step d h).reply ≡ Err fault → (step d h).desk ≡ d
refused-leaves d (opened n) fault e = open-leaves d n (get d.connections n) fault e
refused-leaves d (arrived n piece) fault e = arrive-leaves d n piece (get d.connections n) fault e
refused-leaves d (ended n) fault e = end-leaves d n (get d.connections n) fault e
refused-leaves d (published made) fault e = publish-leaves d made fault e

-- ---- responses to all that is completed

module _ (terms : Terms) where
  all-append : (ts us : List Completion) (xs ys : List (List ℕ)) → RespondAllOn terms ts xs → RespondAllOn terms us ys → RespondAllOn terms (ts ++ us) (xs ++ ys)
  all-append [] us [] ys a b = b
  all-append [] us (x ∷ xs) ys a b = absurd a
  all-append (t ∷ ts) us [] ys a b = absurd a
  all-append (t ∷ ts) us (x ∷ xs) ys a b = (a.0, all-append ts us xs ys a.1 b)

  pick : (b : Bool) (t : Completion) (x : List ℕ) (ts : List Completion) (xs : List (List ℕ)) → RespondsOn terms t.publication t.requests x → RespondAllOn terms ts xs
      → RespondAllOn terms (if b then t ∷ ts else ts) (if b then x ∷ xs else xs)
  pick true t x ts xs one more = (one, more)
  pick false t x ts xs one more = more

  each-all : (c : ℕ) (ts : List (ℕ × Completion)) (answers : List (ℕ × List ℕ)) → RespondEachOn terms ts answers → RespondAllOn terms (of_number c ts) (texts_in c answers)
  each-all c [] [] r = tt
  each-all c [] (a ∷ answers) r = absurd r
  each-all c (t ∷ ts) [] r = absurd r
  each-all c (t ∷ ts) (a ∷ answers) r =
      subst (λ (n : ℕ). RespondAllOn terms (of_number c (t ∷ ts)) (if n == c then a.1 ∷ texts_in c answers else texts_in c answers)) (sym r.0)
      (pick (t.0 == c) t.1 a.1 (of_number c ts) (texts_in c answers) r.1 (each-all c ts answers r.2))

  gives-all : (c : ℕ) (reply : Result (List (ℕ × Completion)) DeskFault) (answers : List (ℕ × List ℕ)) → GivesOn terms reply answers → RespondAllOn terms (completions_in c reply) (texts_in c answers)
  gives-all c (Err fault) answers r = absurd r
  gives-all c (Ok ts) answers r = each-all c ts answers r

  refused-all : (c : ℕ) (d : Desk) (h : Happening) (fault : DeskFault) (hs : List Happening) (texts : List (List ℕ)) → IsRefusedBy d h fault
      → RespondAllOn terms (all_completions_in c (replies d hs)) texts
      → (b : Bool) → stands fault ≡ b → RespondAllOn terms (all_completions_in c (replies d (if b then h ∷ hs else hs))) texts
  refused-all c d h fault hs texts refusal later false is = later
  refused-all c d h fault hs texts refusal later true is =
      let reply = refusal is in
      let same = refused-leaves d h fault reply in
      subst (λ (r : Result (List (ℕ × Completion)) DeskFault). RespondAllOn terms (completions_in c r ++ all_completions_in c (replies (step d h).desk hs)) texts) (sym reply)
      (subst (λ (d : Desk). RespondAllOn terms (all_completions_in c (replies d hs)) texts) (sym same) later)

  ran-all : (c : ℕ) (run : List Done) (d : Desk) → RanOn terms d run → RespondAllOn terms (all_completions_in c (replies d (lasting_happenings run))) (texts_got c run)
  ran-all c [] d ran = tt
  ran-all c ((h, Ok answers) ∷ more) d ran =
      all-append (completions_in c (step d h).reply) (all_completions_in c (replies (step d h).desk (lasting_happenings more))) (texts_in c answers) (texts_got c more)
      (gives-all c (step d h).reply answers ran.0) (ran-all c more (step d h).desk ran.1)
  ran-all c ((h, Err fault) ∷ more) d ran =
      refused-all c d h fault (lasting_happenings more) (texts_got c more) ran.0 (ran-all c more d ran.1) (stands fault) refl

  pub run-completions : (c : ℕ) (run : List Done) (p : Publication) → RanOn terms (fresh_desk p) run → FindsRoom c (fresh_desk p) (lasting_happenings run) → RespondAllOn terms (completions_of c (lasting_happenings run) p) (texts_got c run)
  run-completions c run p ran room = subst (λ (ts : List Completion). RespondAllOn terms ts (texts_got c run)) (all_completions_in-replies c (lasting_happenings run) p room) (ran-all c run (fresh_desk p) ran)
