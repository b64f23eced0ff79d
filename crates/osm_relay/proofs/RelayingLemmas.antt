-- How the loop stands after each happening.
use Rattle.std.specs.List.{Contains, position, remove}
use Rattle.std.proofs.Common.{◌≡◌, ◌≢◌, ◌∙◌, ◌<◌, ◌+◌, ◌-◌, ◌^◌, ◌==◌, List, ℕ, [], ◌∷◌, ◌++◌, ap, sym, refl, subst, arith, length, take, drop, get_or, set, inl, inr, eq-eqb, eqb-true, ltb-true, length-append, length-set, get_or-set_same, get_or-set_other}
use Rattle.std.specs.Prelude.{Bool, true, false, Option, Some, Result, Ok, Err, IsErrAnd, zero, suc, if◌then◌else◌}
use Rattle.std.proofs.Math.Seq.{map-set_same}
use Rattle.std.proofs.lemmas.List.{get_or-map, length-map, map-append, nil_from_length}
use Rattle.std.proofs.lemmas.List.Elements.{All-append, All-drop, All-push, All-set, All-take}
use Rattle.std.proofs.lemmas.List.Quantifiers.{position-Some}
use Rattle.osm_relay.specs.Events.{Event, Ends, IsCause, IsDone, IsDue, IsNext, IsToldRightly, came, failed, is_called, is_invited, left, missed, noted, open_ones, room_at, waited, without}
use Rattle.osm_relay.specs.Relayed.{IsPromised, IsTakenAt, Standing}
use Rattle.osm_relay.specs.declared.limits.TheConstants.{CONVERSATION_LIMIT}
use Rattle.osm_relay.specs.declared.network.Room.{Room}
use Rattle.osm_relay.specs.declared.network.Room.TheVariants.{Closed, Free, Full}
use Rattle.osm_relay.specs.declared.relay_fault.RelayFault.{RelayFault}
use Rattle.osm_relay.specs.declared.relay_fault.RelayFault.TheVariants.{Endless, Memory}
use Rattle.osm_relay.specs.declared.terms.Terms.{Terms}
use Rattle.osm_relay.specs.internal.Relaying.{AreTrusted, IsRun, IsTrusted, Moves, Setting, Stands, Stops, Turns, numbers}

-- ---- the numbers of the conversations

-- the first of this number is taken away
removed_first : (n : ℕ) (xs : List Standing) (i : ℕ) (d : Standing) → i < length xs → (get_or xs i d).number ≡ n
    → ((k : ℕ) → k < i → ((get_or xs k d).number == n) ≡ false) → without n (numbers xs) ≡ numbers (remove xs i)
removed_first n [] i d short same first = absurd (omega arith)
removed_first n (x ∷ xs) zero d short same first = let e : (x.number == n) ≡ true = eq-eqb x.number n same in rw e refl
removed_first n (x ∷ xs) (suc i) d short same first =
    let e : (x.number == n) ≡ false = first 0 (omega arith) in
    let rest = removed_first n xs i d (omega arith) same (λ k h. first (suc k) (omega arith)) in
    rw e (ap (λ (t : List ℕ). x.number ∷ t) rest)

contains_number : (n : ℕ) (xs : List Standing) (i : ℕ) (d : Standing) → i < length xs → (get_or xs i d).number ≡ n → Contains (numbers xs) n
contains_number n xs i d short same =
    let f = λ (s : Standing). s.number in (i, omega (arith, length-map xs f), get_or-map f xs i d n short ∙ same)

-- what an index gives where there is something
pub old_at : (xs : List Standing) (i : ℕ) (old one : Standing) → i < length xs → old ≡ get_or xs i old → old ≡ get_or xs i one
old_at [] i old one short is = absurd (omega arith)
old_at (x ∷ xs) zero old one short is = is
old_at (x ∷ xs) (suc i) old one short is = old_at xs i old one (omega arith) is

-- ---- roots and budgets

trusted_rest : (trusts : List ℕ → Bool) (most : Option ℕ) (xs : List Standing) (i : ℕ) → AreTrusted trusts most xs → AreTrusted trusts most (remove xs i)
trusted_rest trusts most xs i is =
    let P : Standing → Type 0 = IsTrusted trusts most in All-append P (take i xs) (drop (suc i) xs) (All-take P i xs is) (All-drop P (suc i) xs is)

-- terms are those of a conversation
pub trusted_by : (trusts : List ℕ → Bool) (most : Option ℕ) (one : Standing) (terms : Terms) → one.terms ≡ terms → trusts terms.root.0 ≡ true → terms.most ≡ most
    → IsTrusted trusts most one
trusted_by trusts most one terms same told budget =
    let P : Terms → Type 0 = λ t. (trusts t.root.0 ≡ true) × (t.most ≡ most) in subst P (sym same) (told, budget)

-- ---- room

free_if : (a b : Bool) → Free ≡ (if a then (if b then Free else Full) else Closed) → (a ≡ true) × (b ≡ true)
free_if true true e = (refl, refl)
free_if true false e = absurd (cc)
free_if false b e = absurd (cc)

pub free_room : (wanted taken count : ℕ) → Free ≡ room_at wanted taken count → (taken < wanted) × (count < CONVERSATION_LIMIT)
free_room wanted taken count e =
    let f = free_if _ _ e in (ltb-true taken wanted f.0, ltb-true count CONVERSATION_LIMIT f.1)

-- ---- the loop

pub begins : (s : Setting) (log : Option (List Event)) → log ≡ Some s.base → Stands s [] 0 0 log []
begins s log is = record {
  logged = is;
  run = record { orderly = tt; told = tt };
  rounds_are = refl;
  taken_are = refl;
  open_are = refl;
  trusted = λ k d short. absurd (omega arith);
}

module _ (s : Setting) (before : List Event) (rounds taken : ℕ) (old : Option (List Event)) (there : List Standing) (is : Stands s before rounds taken old there) where
  count : length (open_ones before) ≡ length there
  count = ap length is.open_are ∙ length-map there (λ (one : Standing). one.number)

  pub done : taken ≡ s.wanted → length there ≡ 0 → IsDone s.wanted before
  done all none = (is.taken_are ∙ all, is.open_are ∙ ap numbers (nil_from_length there none))

  pub unfinished : (taken ≡ s.wanted → length there ≡ 0 → ⊥) → IsDone s.wanted before → ⊥
  unfinished more (all, none) = more (sym is.taken_are ∙ all) (sym count ∙ ap length none)

  pub endless : rounds ≡ 2 ^ 64 - 1 → (taken ≡ s.wanted → length there ≡ 0 → ⊥) → Ends s.wanted before (Err Endless)
  endless all more = (unfinished more, inr (refl, is.rounds_are ∙ all))

  module _ (new : Option (List Event)) where
    logs : (event : Event) → new ≡ noted event old → new ≡ Some ((event ∷ before) ++ s.base)
    logs event e = e ∙ ap (noted event) is.logged

    -- ---- waiting

    due : (room : Room) → is_invited before ≡ false → room ≡ room_at s.wanted taken (length there)
        → (taken ≡ s.wanted → length there ≡ 0 → ⊥) → IsDue s.wanted before room
    due room heeded room_is more = record { room_is = rw (is.taken_are, count) room_is; heeded = heeded; unfinished = unfinished more }

    pub waits_on : (room : Room) (told : _) → is_invited before ≡ false → room ≡ room_at s.wanted taken (length there)
        → (taken ≡ s.wanted → length there ≡ 0 → ⊥) → new ≡ noted (waited room told) old → Stands s (waited room told ∷ before) (rounds + 1) taken new there
    waits_on room told heeded room_is more e = record {
      logged = logs (waited room told) e;
      run = record { orderly = (due room heeded room_is more, is.run.orderly); told = is.run.told };
      rounds_are = omega (arith, is.rounds_are);
      taken_are = is.taken_are;
      open_are = is.open_are;
      trusted = is.trusted;
    }

    pub waits_in_vain : (room : Room) (fault : RelayFault) → is_invited before ≡ false → room ≡ room_at s.wanted taken (length there)
        → (taken ≡ s.wanted → length there ≡ 0 → ⊥) → new ≡ noted (waited room (Err fault)) old → Stops s new fault
    waits_in_vain room fault heeded room_is more e = record {
      events = waited room (Err fault) ∷ before;
      logged = logs (waited room (Err fault)) e;
      run = record { orderly = (due room heeded room_is more, is.run.orderly); told = is.run.told };
      unfinished = unfinished more;
      cause = refl;
    }

    -- ---- a client that comes

    module _ (invited : is_invited before ≡ true) (few : taken < s.wanted) (room : length there < CONVERSATION_LIMIT) where
      next : IsNext s.wanted taken before
      next = record { invited = invited; number = sym is.taken_are; few = omega (arith, is.taken_are); room = omega (arith, count) }

      pub one_more : (one : Standing) → one.number ≡ taken → IsTrusted s.trusts s.most one → new ≡ noted (came taken) old
          → Moves s rounds (taken + 1) new (there ++ one ∷ [])
      one_more one number trusted e = (
        came taken ∷ before,
        record {
          logged = logs (came taken) e;
          run = record { orderly = (next, is.run.orderly); told = is.run.told };
          rounds_are = is.rounds_are;
          taken_are = omega (arith, is.taken_are);
          open_are =
              ap (λ (t : List ℕ). t ++ taken ∷ []) is.open_are ∙ ap (λ (n : ℕ). numbers there ++ n ∷ []) (sym number)
              ∙ sym (map-append (λ (x : Standing). x.number) there (one ∷ []));
          trusted = All-push (IsTrusted s.trusts s.most) there one is.trusted trusted;
        },
        refl,
      )

      pub none_there : new ≡ noted (missed taken) old → Moves s rounds taken new there
      none_there e = (
        missed taken ∷ before,
        record {
          logged = logs (missed taken) e;
          run = record { orderly = (next, is.run.orderly); told = is.run.told };
          rounds_are = is.rounds_are;
          taken_are = is.taken_are;
          open_are = is.open_are;
          trusted = is.trusted;
        },
        refl,
      )

      pub refused : (fault : RelayFault) → new ≡ noted (failed taken fault) old → Stops s new fault
      refused fault e = record {
        events = failed taken fault ∷ before;
        logged = logs (failed taken fault) e;
        run = record { orderly = (next, is.run.orderly); told = is.run.told };
        unfinished = λ (all, none). omega (arith, all, is.taken_are);
        cause = refl;
      }

      pub no_memory : new ≡ noted (came taken) old → Stops s new Memory
      no_memory e = record {
        events = came taken ∷ before;
        logged = logs (came taken) e;
        run = record { orderly = (next, is.run.orderly); told = is.run.told };
        unfinished = λ (all, none). omega (arith, ap length none, length-append (open_ones before) (taken ∷ []));
        cause = refl;
      }

    -- ---- a conversation that goes on

    pub nothing_more : is_invited before ≡ false → new ≡ old → Moves s rounds taken new there
    nothing_more heeded e = (
      before,
      record { logged = e ∙ is.logged; run = is.run; rounds_are = is.rounds_are; taken_are = is.taken_are; open_are = is.open_are; trusted = is.trusted },
      heeded,
    )

    module _ (i : ℕ) (one : Standing) (short : i < length there) (terms : one.terms ≡ (get_or there i one).terms) (number : one.number ≡ (get_or there i one).number) where
      same_numbers : numbers (set there i one) ≡ numbers there
      same_numbers = map-set_same (λ (x : Standing). x.number) there i one one number

      trusted_here : IsTrusted s.trusts s.most one
      trusted_here = let was = is.trusted i one short in trusted_by s.trusts s.most one (get_or there i one).terms terms was.0 was.1

      trusted_there : AreTrusted s.trusts s.most (set there i one)
      trusted_there = All-set (IsTrusted s.trusts s.most) there i one trusted_here is.trusted

      pub goes_on : is_invited before ≡ false → new ≡ old → Moves s rounds taken new (set there i one)
      goes_on heeded e = (
        before,
        record {
          logged = e ∙ is.logged;
          run = is.run;
          rounds_are = is.rounds_are;
          taken_are = is.taken_are;
          open_are = is.open_are ∙ sym same_numbers;
          trusted = trusted_there;
        },
        heeded,
      )

      pub leaves : (n : ℕ) (whole : Bool) → is_called n before ≡ true → position (λ (x : Standing). x.number == n) there ≡ Some i → one.ending ≡ Some whole → IsPromised one
          → one.tells ≡ s.tells → new ≡ noted (left n whole one.client) old → Moves s rounds taken new (remove (set there i one) i)
      leaves n whole called at ending promised tells e =
          let first = position-Some (λ (x : Standing). x.number == n) there i one at in
          let same : (get_or there i one).number ≡ n = eqb-true _ _ first.1 in
          let told : s.tells ≡ true → IsToldRightly s.trusts s.most whole one.client =
          (λ yes. let (taken_so, asked) = promised (tells ∙ yes) in
          (one.terms, one.mirror, trusted_here.0, trusted_here.1, subst (λ (o : Option Bool). IsTakenAt o one.terms one.client one.mirror) ending taken_so, asked)) in (
            left n whole one.client ∷ before,
            record {
              logged = logs (left n whole one.client) e;
              run = record {
                orderly = (record { called = called; open_is = subst (λ (t : List ℕ). Contains t n) (sym is.open_are) (contains_number n there i one short same) }, is.run.orderly);
                told = (told, is.run.told);
              };
              rounds_are = is.rounds_are;
              taken_are = is.taken_are;
              open_are =
                  ap (without n) (is.open_are ∙ sym same_numbers)
                  ∙ removed_first n (set there i one) i one (rw length-set short)
                  (ap (λ (x : Standing). x.number) (get_or-set_same there i one one short) ∙ number ∙ same)
                  (λ k h. let ne : k ≢ i = omega arith in rw get_or-set_other (first.2 k h));
              trusted = trusted_rest s.trusts s.most (set there i one) i trusted_there;
            },
            refl,
          )

-- ---- handed on

pub stops_told : (s : Setting) (rounds taken : ℕ) (log : Option (List Event)) (there : List Standing) (result : Result Bool RelayFault) (fault : RelayFault)
    → IsErrAnd result (λ told. told ≡ fault) → Stops s log fault → Turns s rounds taken log there result
stops_told s rounds taken log there (Ok is_taken) fault told stops = absurd told
stops_told s rounds taken log there (Err other) fault told stops = subst (Stops s log) (sym told) stops

-- what the whole loop has to show
abbrev pub Shows : Setting → Option (List Event) → Result (Unit {0}) RelayFault → Type 0
Shows s log result = (events : List Event) × (log ≡ Some (events ++ s.base)) × IsRun s events × Ends s.wanted events result

pub shows_stop : (s : Setting) (log : Option (List Event)) (result : Result (Unit {0}) RelayFault) (fault : RelayFault)
    → IsErrAnd result (λ told. told ≡ fault) → Stops s log fault → Shows s log result
shows_stop s log (Ok ended) fault told stops = absurd told
shows_stop s log (Err other) fault told stops =
    (stops.events, stops.logged, stops.run, (stops.unfinished, inl (subst (λ (f : RelayFault). IsCause f stops.events) (sym told) stops.cause)))
