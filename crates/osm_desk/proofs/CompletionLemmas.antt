-- The completions of a connection, and those in what a desk replies.
use Rattle.std.proofs.Common.{◌≡◌, ◌∙◌, ◌<◌, ℕ, Bool, true, false, List, [], ◌∷◌, ◌++◌, ap, sym, refl, arith, length, drop, subst}
use Rattle.std.proofs.Math.Seq.{drop-append_seam}
use Rattle.std.proofs.lemmas.Bool.{eq-eqb, eqb-false, eqb-true, lt-ltb}
use Rattle.std.specs.FinMap.{get, get-empty, insert, len, remove}
use Rattle.std.specs.Ordering.{nat_cmp}
use Rattle.std.specs.Prelude.{◌==◌, Option, Some, None, Result, Ok, Err, if◌then◌else◌, nat_lt, option_map}
use Rattle.osm_gate.proofs.shared.Pieces.{pieces}
use Rattle.osm_gate.specs.Connections.{Requests, Rest, requests_in, requests_next, open_rest}
use Rattle.osm_keys.specs.Publications.{Publication}
use Rattle.osm_index.specs.declared.apply_fault.ApplyFault.{ApplyFault}
use Rattle.osm_desk.specs.Completions.{FindsRoom, MeetsRoom, all_completions_in, completions_from, completions_in, completions_with, in_force, life_opened, life_with, own_happenings, requests_completed}
use Rattle.osm_desk.specs.Desks.{Completion, Desk, Step, arrive_step, end_step, fresh_desk, open_step, publish_step, refuse, replies, silent_step, step}
use Rattle.osm_desk.specs.Happenings.{Happening, arrived, ended, opened, published}
use Rattle.osm_desk.specs.declared.desk_fault.DeskFault.TheVariants.{NoRoom}
use Rattle.osm_desk.specs.declared.limits.TheConstants.{CONNECTION_LIMIT}
use Rattle.osm_desk.proofs.MapLemmas.{get-put_other, get-put_same, get-removed_other, get-removed_same, len-removed_none}

-- ---- the events of the others

own_happenings-open : (c n : ℕ) (p : Publication) (life : Option (List ℕ)) (es : List Happening)
    → ((p : Publication) (life : Option (List ℕ)) → completions_from c p life es ≡ completions_from c p life (own_happenings c es))
    → (b : Bool) → (n == c) ≡ b
    → completions_from c p life (opened n ∷ es) ≡ completions_from c p life (own_happenings c (opened n ∷ es))
own_happenings-open c n p life es again true e =
    ap (λ b. completions_from c p (if b then life_opened life else life) es) e
    ∙ again p (life_opened life)
    ∙ sym (ap (λ b. completions_from c p (if b then life_opened life else life) (own_happenings c es)) e)
    ∙ sym (ap (λ b. completions_from c p life (if b then opened n ∷ own_happenings c es else own_happenings c es)) e)
own_happenings-open c n p life es again false e =
    ap (λ b. completions_from c p (if b then life_opened life else life) es) e
    ∙ again p life
    ∙ sym (ap (λ b. completions_from c p life (if b then opened n ∷ own_happenings c es else own_happenings c es)) e)

own_happenings-arrive : (c n : ℕ) (piece : List ℕ) (p : Publication) (life : Option (List ℕ)) (es : List Happening)
    → ((p : Publication) (life : Option (List ℕ)) → completions_from c p life es ≡ completions_from c p life (own_happenings c es))
    → (b : Bool) → (n == c) ≡ b
    → completions_from c p life (arrived n piece ∷ es) ≡ completions_from c p life (own_happenings c (arrived n piece ∷ es))
own_happenings-arrive c n piece p life es again true e = simp e (ap (completions_with p life piece) (again p (life_with life piece)))
own_happenings-arrive c n piece p life es again false e = simp e (again p life)

own_happenings-end : (c n : ℕ) (p : Publication) (life : Option (List ℕ)) (es : List Happening)
    → ((p : Publication) (life : Option (List ℕ)) → completions_from c p life es ≡ completions_from c p life (own_happenings c es))
    → (b : Bool) → (n == c) ≡ b
    → completions_from c p life (ended n ∷ es) ≡ completions_from c p life (own_happenings c (ended n ∷ es))
own_happenings-end c n p life es again true e =
    ap (λ b. completions_from c p (if b then None else life) es) e
    ∙ again p None
    ∙ sym (ap (λ b. completions_from c p (if b then None else life) (own_happenings c es)) e)
    ∙ sym (ap (λ b. completions_from c p life (if b then ended n ∷ own_happenings c es else own_happenings c es)) e)
own_happenings-end c n p life es again false e =
    ap (λ b. completions_from c p (if b then None else life) es) e
    ∙ again p life
    ∙ sym (ap (λ b. completions_from c p life (if b then ended n ∷ own_happenings c es else own_happenings c es)) e)

pub completions_from-own_happenings : (c : ℕ) (hs : List Happening) (p : Publication) (life : Option (List ℕ)) → completions_from c p life hs ≡ completions_from c p life (own_happenings c hs)
completions_from-own_happenings c [] p life = refl
completions_from-own_happenings c (opened n ∷ es) p life = own_happenings-open c n p life es (completions_from-own_happenings c es) (n == c) refl
completions_from-own_happenings c (arrived n piece ∷ es) p life = own_happenings-arrive c n piece p life es (completions_from-own_happenings c es) (n == c) refl
completions_from-own_happenings c (ended n ∷ es) p life = own_happenings-end c n p life es (completions_from-own_happenings c es) (n == c) refl
completions_from-own_happenings c (published made ∷ es) p life = completions_from-own_happenings c es (in_force p made) life

-- ---- what a desk gives

-- what is left of a life's bytes
abbrev rest_after : List ℕ → Rest
rest_after bytes = (requests_in bytes).rest

abbrev kept : Option (List ℕ) → Option Rest
kept life = option_map rest_after life

-- the requests that end in a piece are those that the rest hears with it
requests_completed-next : (bytes piece : List ℕ) → requests_completed bytes piece ≡ (requests_next (rest_after bytes) piece).complete
requests_completed-next bytes piece =
    ap (λ (s : Requests). drop (length (requests_in bytes).complete) s.complete) (pieces bytes piece)
    ∙ drop-append_seam (requests_in bytes).complete (requests_next (rest_after bytes) piece).complete

rest-next : (bytes piece : List ℕ) → rest_after (bytes ++ piece) ≡ (requests_next (rest_after bytes) piece).rest
rest-next bytes piece = ap (λ (s : Requests). s.rest) (pieces bytes piece)

-- a step gives c what it completes, and keeps what is left of its life
record MovesTo (c : ℕ) (d : Desk) (life : Option (List ℕ)) (e : Happening) (s : Step) : Type 0 where
  front : List Completion
  next : Option (List ℕ)
  gives : completions_in c s.reply ≡ front
  keeps : get s.desk.connections c ≡ kept next
  tells : (es : List Happening) → completions_from c d.publication life (e ∷ es) ≡ front ++ completions_from c s.desk.publication next es

-- a step that is no matter of c
record Quiet (c : ℕ) (d : Desk) (s : Step) : Type 0 where
  nothing : completions_in c s.reply ≡ []
  same : get s.desk.connections c ≡ get d.connections c
  same_publication : s.desk.publication ≡ d.publication

quiet-moves : (c : ℕ) (d : Desk) (life : Option (List ℕ)) (e : Happening) (s : Step) → get d.connections c ≡ kept life → Quiet c d s
    → ((es : List Happening) → completions_from c d.publication life (e ∷ es) ≡ completions_from c d.publication life es) → MovesTo c d life e s
quiet-moves c d life e s h q tells = record {
  front = [];
  next = life;
  gives = q.nothing;
  keeps = q.same ∙ h;
  tells = λ es. tells es ∙ ap (λ p. completions_from c p life es) (sym q.same_publication);
}

quiet-open : (c n : ℕ) (d : Desk) (apart : n ≡ c → ⊥) (o : Option Rest) → Quiet c d (open_step d n o)
quiet-open c n d apart (Some r) = record { nothing = refl; same = refl; same_publication = refl }
quiet-open c n d apart None = elim (nat_lt (len d.connections) CONNECTION_LIMIT) as (λ b. Quiet c d (if b then silent_step d.publication (insert d.connections n (open_rest [])) else refuse d NoRoom)) [
  | true ↦ record { nothing = refl; same = get-put_other d.connections n (open_rest []) c apart; same_publication = refl }
  | false ↦ record { nothing = refl; same = refl; same_publication = refl }
]

quiet-arrive : (c n : ℕ) (piece : List ℕ) (d : Desk) (apart : n ≡ c → ⊥) → (n == c) ≡ false → (o : Option Rest) → Quiet c d (arrive_step d n piece o)
quiet-arrive c n piece d apart e None = record { nothing = refl; same = refl; same_publication = refl }
quiet-arrive c n piece d apart e (Some r) = record {
  nothing = ap (λ b. if b then (let t : Completion = record { requests = (requests_next r piece).complete; publication = d.publication } in t) ∷ [] else []) e;
  same = get-put_other d.connections n (requests_next r piece).rest c apart;
  same_publication = refl;
}

quiet-end : (c n : ℕ) (d : Desk) (apart : n ≡ c → ⊥) (o : Option Rest) → Quiet c d (end_step d n o)
quiet-end c n d apart None = record { nothing = refl; same = refl; same_publication = refl }
quiet-end c n d apart (Some r) = record { nothing = refl; same = get-removed_other d.connections n c apart; same_publication = refl }

own : (c : ℕ) → (c == c) ≡ true
own c = eq-eqb c c refl

open-own : (c : ℕ) (d : Desk) (life : Option (List ℕ)) → get d.connections c ≡ kept life → len (remove d.connections c) < CONNECTION_LIMIT → MovesTo c d life (opened c) (step d (opened c))
open-own c d None h room =
    let few : len d.connections < CONNECTION_LIMIT = omega (arith, room, len-removed_none d.connections c h) in
    let is = ap (open_step d c) h
    ∙ ap (λ b. if b then silent_step d.publication (insert d.connections c (open_rest [])) else refuse d NoRoom) (lt-ltb (len d.connections) CONNECTION_LIMIT few) in
    subst (MovesTo c d None (opened c)) (sym is) (record {
      front = [];
      next = Some [];
      gives = refl;
      keeps = get-put_same d.connections c (open_rest []);
      tells = λ es. ap (λ b. completions_from c d.publication (if b then Some [] else None) es) (own c);
    })
open-own c d (Some bytes) h room =
    subst (MovesTo c d (Some bytes) (opened c)) (sym (ap (open_step d c) h)) (record {
      front = [];
      next = Some bytes;
      gives = refl;
      keeps = h;
      tells = λ es. ap (λ b. completions_from c d.publication (if b then Some bytes else Some bytes) es) (own c);
    })

arrive-own : (c : ℕ) (piece : List ℕ) (d : Desk) (life : Option (List ℕ)) → get d.connections c ≡ kept life → MovesTo c d life (arrived c piece) (step d (arrived c piece))
arrive-own c piece d None h =
    subst (MovesTo c d None (arrived c piece)) (sym (ap (arrive_step d c piece) h)) (record {
      front = [];
      next = None;
      gives = refl;
      keeps = h;
      tells = λ es. ap (λ b. if b then completions_from c d.publication None es else completions_from c d.publication None es) (own c);
    })
arrive-own c piece d (Some bytes) h =
    let completion : Completion = record { requests = (requests_next (rest_after bytes) piece).complete; publication = d.publication } in
    subst (MovesTo c d (Some bytes) (arrived c piece)) (sym (ap (arrive_step d c piece) h)) (record {
      front = completion ∷ [];
      next = Some (bytes ++ piece);
      gives = ap (λ b. if b then completion ∷ [] else []) (own c);
      keeps = get-put_same d.connections c (requests_next (rest_after bytes) piece).rest ∙ ap (λ (r : Rest). Some r) (sym (rest-next bytes piece));
      tells = λ es.
          ap (λ b. if b then completions_with d.publication (Some bytes) piece (completions_from c d.publication (Some (bytes ++ piece)) es) else completions_from c d.publication (Some bytes) es) (own c)
          ∙ ap (λ os. (let t : Completion = record { requests = os; publication = d.publication } in t) ∷ completions_from c d.publication (Some (bytes ++ piece)) es) (requests_completed-next bytes piece);
    })

end-own : (c : ℕ) (d : Desk) (life : Option (List ℕ)) → get d.connections c ≡ kept life → MovesTo c d life (ended c) (step d (ended c))
end-own c d None h =
    subst (MovesTo c d None (ended c)) (sym (ap (end_step d c) h)) (record {
      front = [];
      next = None;
      gives = refl;
      keeps = h;
      tells = λ es. ap (λ b. completions_from c d.publication (if b then None else None) es) (own c);
    })
end-own c d (Some bytes) h =
    subst (MovesTo c d (Some bytes) (ended c)) (sym (ap (end_step d c) h)) (record {
      front = [];
      next = None;
      gives = refl;
      keeps = get-removed_same d.connections c;
      tells = λ es. ap (λ b. completions_from c d.publication (if b then None else Some bytes) es) (own c);
    })

published-moves : (c : ℕ) (d : Desk) (life : Option (List ℕ)) (r : Result Publication ApplyFault) → get d.connections c ≡ kept life
    → (completions_in c (publish_step d r).reply ≡ []) × (get (publish_step d r).desk.connections c ≡ kept life) × (in_force d.publication r ≡ (publish_step d r).desk.publication)
published-moves c d life (Err fault) h = (refl, h, refl)
published-moves c d life (Ok new) h = (refl, h, refl)

by-number : (c n : ℕ) (d : Desk) (life : Option (List ℕ)) (e : ℕ → Happening)
    → (n ≡ c → MovesTo c d life (e c) (step d (e c)))
    → ((n ≡ c → ⊥) → (n == c) ≡ false → MovesTo c d life (e n) (step d (e n)))
    → (b : Bool) → (n == c) ≡ b → MovesTo c d life (e n) (step d (e n))
by-number c n d life e mine others true is =
    let same = eqb-true n c is in
    subst (λ k. MovesTo c d life (e k) (step d (e k))) (sym same) (mine same)
by-number c n d life e mine others false is = others (eqb-false n c is) is

moves : (c : ℕ) (d : Desk) (life : Option (List ℕ)) (e : Happening) → get d.connections c ≡ kept life → MeetsRoom c d e → MovesTo c d life e (step d e)
moves c d life (opened n) h room = by-number c n d life (λ k. opened k)
    (λ same. open-own c d life h (room same))
    (λ apart is. quiet-moves c d life (opened n) (step d (opened n)) h (quiet-open c n d apart (get d.connections n))
    (λ es. ap (λ b. completions_from c d.publication (if b then life_opened life else life) es) is))
    (n == c) refl
moves c d life (arrived n piece) h room = by-number c n d life (λ k. arrived k piece)
    (λ same. arrive-own c piece d life h)
    (λ apart is. quiet-moves c d life (arrived n piece) (step d (arrived n piece)) h (quiet-arrive c n piece d apart is (get d.connections n))
    (λ es. ap (λ b. if b then completions_with d.publication life piece (completions_from c d.publication (life_with life piece) es) else completions_from c d.publication life es) is))
    (n == c) refl
moves c d life (ended n) h room = by-number c n d life (λ k. ended k)
    (λ same. end-own c d life h)
    (λ apart is. quiet-moves c d life (ended n) (step d (ended n)) h (quiet-end c n d apart (get d.connections n))
    (λ es. ap (λ b. completions_from c d.publication (if b then None else life) es) is))
    (n == c) refl
moves c d life (published made) h room =
    let (nothing, keeps, now) = published-moves c d life made h in
    record {
      front = [];
      next = life;
      gives = nothing;
      keeps = keeps;
      tells = λ es. ap (λ p. completions_from c p life es) now;
    }

all_completions_in-replies_from : (c : ℕ) (hs : List Happening) (d : Desk) (life : Option (List ℕ)) → get d.connections c ≡ kept life → FindsRoom c d hs
    → all_completions_in c (replies d hs) ≡ completions_from c d.publication life hs
all_completions_in-replies_from c [] d life h room = refl
all_completions_in-replies_from c (e ∷ es) d life h room =
    let m = moves c d life e h room.0 in
    ap (λ front. front ++ all_completions_in c (replies (step d e).desk es)) m.gives
    ∙ ap (λ later. m.front ++ later) (all_completions_in-replies_from c es (step d e).desk m.next m.keeps room.1)
    ∙ sym (m.tells es)

pub all_completions_in-replies : (c : ℕ) (hs : List Happening) (p : Publication) → FindsRoom c (fresh_desk p) hs → all_completions_in c (replies (fresh_desk p) hs) ≡ completions_from c p None hs
all_completions_in-replies c hs p room = all_completions_in-replies_from c hs (fresh_desk p) None (get-empty nat_cmp c) room
