-- What the server did, as a run of the desk.
use Rattle.std.proofs.Common.{◌≡◌, ◌∙◌, ◌≤◌, ◌<◌, ◌-◌, ℕ, Bool, true, false, List, [], ◌∷◌, ◌++◌, ap, sym, refl, subst, append_assoc, arith}
use Rattle.std.proofs.lemmas.List.{append-nil}
use Rattle.std.specs.Cmp.{nat_cmp_total}
use Rattle.std.specs.FinMap.{get, insert, len, len-remove, remove}
use Rattle.std.specs.Prelude.{◌==◌, Option, Some, None, Result, Ok, Err, cond, is_some, if◌then◌else◌, nat_lt}
use Rattle.osm_desk.specs.Completions.{FindsRoom, MeetsRoom}
use Rattle.osm_desk.specs.Desks.{Completion, Connections, Desk, arrive_step, end_step, open_step, publish_step, refuse, silent_step, step}
use Rattle.osm_desk.specs.Happenings.{Happening, arrived, ended, opened, published}
use Rattle.osm_desk.specs.Runs.{Done, IsRefusedBy, RanOn, lasting_happenings, stands, texts_got, texts_in}
use Rattle.osm_desk.specs.Stepping.{GivesOn, RespondEachOn}
use Rattle.osm_gate.specs.Connections.{Rest, open_rest}
use Rattle.osm_gate.specs.Serving.{no_memory}
use Rattle.osm_gate.specs.Terms.{Terms}
use Rattle.osm_keys.specs.Publications.{Publication}
use Rattle.osm_index.specs.declared.apply_fault.ApplyFault.{ApplyFault}
use Rattle.osm_desk.specs.declared.desk_fault.DeskFault.{DeskFault}
use Rattle.osm_desk.specs.declared.desk_fault.DeskFault.TheVariants.{NoRoom}
use Rattle.osm_desk.specs.declared.limits.TheConstants.{CONNECTION_LIMIT}
use Rattle.osm_traffic.specs.Deeds.{Deed, HasRoom, IsHushed, Runs, Serves, desk_after, handed, in_order, is_fed, joined, last_word, lost, owed, parted, sent, starves, stepped, texts_for, waited}
use Rattle.osm_traffic.proofs.DeedLemmas.{other}
use Rattle.std.proofs.lemmas.Bool.{eqb-true}

-- ---- a refused step changes nothing

open-leaves : (d : Desk) (n : ℕ) (o : Option Rest) (fault : DeskFault) → (open_step d n o).reply ≡ Err fault → (open_step d n o).desk ≡ d
open-leaves d n (Some r) fault = λ e. refl
open-leaves d n None fault = elim (nat_lt (len d.connections) CONNECTION_LIMIT) as (λ b. (if b then silent_step d.publication (insert d.connections n (open_rest [])) else refuse d NoRoom).reply ≡ Err fault
    → (if b then silent_step d.publication (insert d.connections n (open_rest [])) else refuse d NoRoom).desk ≡ d) [ true ↦ λ e. cc | false ↦ λ e. refl ]

arrive-leaves : (d : Desk) (n : ℕ) (piece : List ℕ) (o : Option Rest) (fault : DeskFault) → (arrive_step d n piece o).reply ≡ Err fault → (arrive_step d n piece o).desk ≡ d
arrive-leaves d n piece None fault e = refl
arrive-leaves d n piece (Some r) fault e = cc

end-leaves : (d : Desk) (n : ℕ) (o : Option Rest) (fault : DeskFault) → (end_step d n o).reply ≡ Err fault → (end_step d n o).desk ≡ d
end-leaves d n None fault e = refl
end-leaves d n (Some r) fault e = cc

publish-leaves : (d : Desk) (r : Result Publication ApplyFault) (fault : DeskFault) → (publish_step d r).reply ≡ Err fault → (publish_step d r).desk ≡ d
publish-leaves d (Err f) fault e = refl
publish-leaves d (Ok p) fault e = cc

refused-leaves : (d : Desk) (h : Happening) (fault : DeskFault) → (step d h).reply ≡ Err fault → (step d h).desk ≡ d
refused-leaves d (opened n) fault e = open-leaves d n (get d.connections n) fault e
refused-leaves d (arrived n piece) fault e = arrive-leaves d n piece (get d.connections n) fault e
refused-leaves d (ended n) fault e = end-leaves d n (get d.connections n) fault e
refused-leaves d (published made) fault e = publish-leaves d made fault e

-- ---- one step more

after : Desk → List Done → Desk
after d [] = d
after d ((h, Ok answers) ∷ more) = after (step d h).desk more
after d ((h, Err fault) ∷ more) = after d more

IsStep : Terms → Desk → Happening → Result (List (ℕ × List ℕ)) DeskFault → Type 0
IsStep terms d h (Ok answers) = GivesOn terms (step d h).reply answers
IsStep terms d h (Err fault) = IsRefusedBy d h fault

next : Desk → Happening → Result (List (ℕ × List ℕ)) DeskFault → Desk
next d h (Ok answers) = (step d h).desk
next d h (Err fault) = d

after_more : (run : List Done) (d : Desk) (h : Happening) (r : Result (List (ℕ × List ℕ)) DeskFault) → after d (run ++ (h, r) ∷ []) ≡ next (after d run) h r
unfolding after next
after_more [] d h (Ok answers) = refl
after_more [] d h (Err fault) = refl
after_more ((k, Ok answers) ∷ run) d h r = after_more run (step d k).desk h r
after_more ((k, Err fault) ∷ run) d h r = after_more run d h r

ran_more : (terms : Terms) (run : List Done) (d : Desk) (h : Happening) (r : Result (List (ℕ × List ℕ)) DeskFault) → RanOn terms d run → IsStep terms (after d run) h r → RanOn terms d (run ++ (h, r) ∷ [])
unfolding after IsStep
ran_more terms [] d h (Ok answers) ran one = (one, tt)
ran_more terms [] d h (Err fault) ran one = (one, tt)
ran_more terms ((k, Ok answers) ∷ run) d h r ran one = (ran.0, ran_more terms run (step d k).desk h r ran.1 one)
ran_more terms ((k, Err fault) ∷ run) d h r ran one = (ran.0, ran_more terms run d h r ran.1 one)

after_deeds : (d : Desk) (deeds : List Deed) → after d (in_order deeds) ≡ desk_after d deeds
unfolding after next
after_deeds d [] = refl
after_deeds d (stepped h (Ok answers) ∷ before) = after_more (in_order before) d h (Ok answers) ∙ ap (λ (d : Desk). (step d h).desk) (after_deeds d before)
after_deeds d (stepped h (Err fault) ∷ before) = after_more (in_order before) d h (Err fault) ∙ after_deeds d before
after_deeds d (handed n bytes ∷ before) = after_deeds d before
after_deeds d (parted n whole ∷ before) = after_deeds d before
after_deeds d (lost n ∷ before) = after_deeds d before
after_deeds d (waited room ∷ before) = after_deeds d before

pub ran_in_order : (terms : Terms) (d : Desk) (deeds : List Deed) → Runs terms d deeds → RanOn terms d (in_order deeds)
unfolding IsStep
ran_in_order terms d [] runs = tt
ran_in_order terms d (stepped h (Ok answers) ∷ before) runs =
    ran_more terms (in_order before) d h (Ok answers) (ran_in_order terms d before runs.1) (subst (λ (d : Desk). GivesOn terms (step d h).reply answers) (sym (after_deeds d before)) runs.0)
ran_in_order terms d (stepped h (Err fault) ∷ before) runs =
    ran_more terms (in_order before) d h (Err fault) (ran_in_order terms d before runs.1) (subst (λ (d : Desk). IsRefusedBy d h fault) (sym (after_deeds d before)) runs.0)
ran_in_order terms d (handed n bytes ∷ before) runs = ran_in_order terms d before runs
ran_in_order terms d (parted n whole ∷ before) runs = ran_in_order terms d before runs
ran_in_order terms d (lost n ∷ before) runs = ran_in_order terms d before runs
ran_in_order terms d (waited room ∷ before) runs = ran_in_order terms d before runs

-- ---- room

HasRoomFor : Desk → Happening → Type 0
HasRoomFor d (opened n) = len d.connections < CONNECTION_LIMIT
HasRoomFor d (arrived n piece) = Unit {0}
HasRoomFor d (ended n) = Unit {0}
HasRoomFor d (published made) = Unit {0}

IsRoomy : Desk → List Done → Type 0
IsRoomy d [] = Unit {0}
IsRoomy d ((h, Ok answers) ∷ more) = HasRoomFor d h × IsRoomy (step d h).desk more
IsRoomy d ((h, Err fault) ∷ more) = HasRoomFor d h × IsRoomy d more

roomy_more : (run : List Done) (d : Desk) (h : Happening) (r : Result (List (ℕ × List ℕ)) DeskFault) → IsRoomy d run → HasRoomFor (after d run) h → IsRoomy d (run ++ (h, r) ∷ [])
unfolding after IsRoomy
roomy_more [] d h (Ok answers) roomy one = (one, tt)
roomy_more [] d h (Err fault) roomy one = (one, tt)
roomy_more ((k, Ok answers) ∷ run) d h r roomy one = (roomy.0, roomy_more run (step d k).desk h r roomy.1 one)
roomy_more ((k, Err fault) ∷ run) d h r roomy one = (roomy.0, roomy_more run d h r roomy.1 one)

roomy_one : (d : Desk) (h : Happening) (r : Result (List (ℕ × List ℕ)) DeskFault) (before : List Deed) → HasRoom d (stepped h r ∷ before) → HasRoomFor (desk_after d before) h × HasRoom d before
unfolding HasRoomFor
roomy_one d (opened n) r before room = (room.1, room.2)
roomy_one d (arrived n piece) r before room = (tt, room)
roomy_one d (ended n) r before room = (tt, room)
roomy_one d (published made) r before room = (tt, room)

roomy_in_order : (d : Desk) (deeds : List Deed) → HasRoom d deeds → IsRoomy d (in_order deeds)
unfolding IsRoomy
roomy_in_order d [] room = tt
roomy_in_order d (stepped h r ∷ before) room =
    let both = roomy_one d h r before room in
    roomy_more (in_order before) d h r (roomy_in_order d before both.1) (subst (λ (d : Desk). HasRoomFor d h) (sym (after_deeds d before)) both.0)
roomy_in_order d (handed n bytes ∷ before) room = roomy_in_order d before room
roomy_in_order d (parted n whole ∷ before) room = roomy_in_order d before room
roomy_in_order d (lost n ∷ before) room = roomy_in_order d before room
roomy_in_order d (waited free ∷ before) room = roomy_in_order d before room

no_more : (m : Connections) (c : ℕ) → len (remove m c) ≤ len m
no_more m c = subst (λ n. n ≤ len m) (sym (len-remove nat_cmp_total m c)) (elim (is_some (get m c)) as (λ b. cond b (len m - 1) (len m) ≤ len m) [ true ↦ omega arith | false ↦ omega arith ])

meets : (c : ℕ) (d : Desk) (h : Happening) → HasRoomFor d h → MeetsRoom c d h
unfolding HasRoomFor
meets c d (opened n) room = λ _. (let no = no_more d.connections c in omega (arith, no, room))
meets c d (arrived n piece) room = tt
meets c d (ended n) room = tt
meets c d (published made) room = tt

finds_if : (c : ℕ) (d : Desk) (h : Happening) (fault : DeskFault) (hs : List Happening) → IsRefusedBy d h fault → HasRoomFor d h → FindsRoom c d hs
    → (b : Bool) → stands fault ≡ b → FindsRoom c d (if b then h ∷ hs else hs)
finds_if c d h fault hs refused room later false is = later
finds_if c d h fault hs refused room later true is = (meets c d h room, subst (λ (d : Desk). FindsRoom c d hs) (sym (refused-leaves d h fault (refused is))) later)

finds : (terms : Terms) (c : ℕ) (run : List Done) (d : Desk) → RanOn terms d run → IsRoomy d run → FindsRoom c d (lasting_happenings run)
unfolding IsRoomy
finds terms c [] d ran roomy = tt
finds terms c ((h, Ok answers) ∷ more) d ran roomy = (meets c d h roomy.0, finds terms c more (step d h).desk ran.1 roomy.1)
finds terms c ((h, Err fault) ∷ more) d ran roomy = finds_if c d h fault (lasting_happenings more) ran.0 roomy.0 (finds terms c more d ran.1 roomy.1) (stands fault) refl

pub finds_in_order : (terms : Terms) (c : ℕ) (d : Desk) (deeds : List Deed) → Runs terms d deeds → HasRoom d deeds → FindsRoom c d (lasting_happenings (in_order deeds))
finds_in_order terms c d deeds ran room = finds terms c (in_order deeds) d (ran_in_order terms d deeds ran) (roomy_in_order d deeds room)

-- ---- what is owed

joined_append : (a b : List (List ℕ)) → joined (a ++ b) ≡ joined a ++ joined b
joined_append [] b = refl
joined_append (text ∷ a) b = ap (λ rest. text ++ rest) (joined_append a b) ∙ sym (append_assoc text (joined a) (joined b))

texts_got_append : (c : ℕ) (a b : List Done) → texts_got c (a ++ b) ≡ texts_got c a ++ texts_got c b
texts_got_append c [] b = refl
texts_got_append c ((h, Ok answers) ∷ a) b = ap (λ rest. texts_in c answers ++ rest) (texts_got_append c a b) ∙ sym (append_assoc (texts_in c answers) (texts_got c a) (texts_got c b))
texts_got_append c ((h, Err fault) ∷ a) b = texts_got_append c a b

texts_joined : (c : ℕ) (answers : List (ℕ × List ℕ)) → joined (texts_in c answers) ≡ texts_for c answers
texts_joined c [] = refl
texts_joined c (a ∷ answers) = elim (a.0 == c) as (λ b. joined (if b then a.1 ∷ texts_in c answers else texts_in c answers) ≡ (if b then a.1 ++ texts_for c answers else texts_for c answers)) [
  | true ↦ ap (λ rest. a.1 ++ rest) (texts_joined c answers)
  | false ↦ texts_joined c answers
]

nothing_for : (terms : Terms) (c : ℕ) (answers : List (ℕ × List ℕ)) → RespondEachOn terms [] answers → texts_for c answers ≡ []
nothing_for terms c [] r = refl
nothing_for terms c (a ∷ answers) r = absurd r

one_for : (terms : Terms) (c n : ℕ) (t : Completion) (answers : List (ℕ × List ℕ)) → (n ≡ c → ⊥) → RespondEachOn terms ((n, t) ∷ []) answers → texts_for c answers ≡ []
one_for terms c n t [] apart r = refl
one_for terms c n t (a ∷ answers) apart r =
    ap (λ (k : ℕ). if k == c then a.1 ++ texts_for c answers else texts_for c answers) r.0
    ∙ other n c (a.1 ++ texts_for c answers) (texts_for c answers) apart
    ∙ nothing_for terms c answers r.2

opened_for : (terms : Terms) (c : ℕ) (d : Desk) (n : ℕ) (o : Option Rest) (answers : List (ℕ × List ℕ)) → GivesOn terms (open_step d n o).reply answers → texts_for c answers ≡ []
opened_for terms c d n (Some r) answers gives = absurd gives
opened_for terms c d n None answers gives = elim (nat_lt (len d.connections) CONNECTION_LIMIT) as (λ b. GivesOn terms (if b then silent_step d.publication (insert d.connections n (open_rest [])) else refuse d NoRoom).reply answers → texts_for c answers ≡ [])
    [ true ↦ λ gives. nothing_for terms c answers gives | false ↦ λ gives. absurd gives ] gives

arrived_for : (terms : Terms) (c : ℕ) (d : Desk) (n : ℕ) (piece : List ℕ) (o : Option Rest) (answers : List (ℕ × List ℕ)) → (n ≡ c → ⊥) → GivesOn terms (arrive_step d n piece o).reply answers → texts_for c answers ≡ []
arrived_for terms c d n piece None answers apart gives = absurd gives
arrived_for terms c d n piece (Some r) answers apart gives = one_for terms c n _ answers apart gives

ended_for : (terms : Terms) (c : ℕ) (d : Desk) (n : ℕ) (o : Option Rest) (answers : List (ℕ × List ℕ)) → GivesOn terms (end_step d n o).reply answers → texts_for c answers ≡ []
ended_for terms c d n None answers gives = absurd gives
ended_for terms c d n (Some r) answers gives = nothing_for terms c answers gives

published_for : (terms : Terms) (c : ℕ) (d : Desk) (r : Result Publication ApplyFault) (answers : List (ℕ × List ℕ)) → GivesOn terms (publish_step d r).reply answers → texts_for c answers ≡ []
published_for terms c d (Err fault) answers gives = absurd gives
published_for terms c d (Ok p) answers gives = nothing_for terms c answers gives

-- a connection that isn't heard is given nothing
unheard : (terms : Terms) (c : ℕ) (d : Desk) (h : Happening) (answers : List (ℕ × List ℕ)) (before : List Deed) → is_fed c before ≡ false → IsHushed (stepped h (Ok answers) ∷ before) → GivesOn terms (step d h).reply answers → texts_for c answers ≡ []
unheard terms c d (opened n) answers before isnt hushed gives = opened_for terms c d n (get d.connections n) answers gives
unheard terms c d (arrived n piece) answers before isnt hushed gives =
    arrived_for terms c d n piece (get d.connections n) answers (λ (e : n ≡ c). let no = sym (subst (λ c. is_fed c before ≡ true) e hushed.0) ∙ isnt in cc) gives
unheard terms c d (ended n) answers before isnt hushed gives = ended_for terms c d n (get d.connections n) answers gives
unheard terms c d (published made) answers before isnt hushed gives = published_for terms c d made answers gives

hushed_before : (h : Happening) (r : Result (List (ℕ × List ℕ)) DeskFault) (before : List Deed) → IsHushed (stepped h r ∷ before) → IsHushed before
hushed_before (opened n) r before hushed = hushed.1
hushed_before (arrived n piece) r before hushed = hushed.1
hushed_before (ended n) r before hushed = hushed
hushed_before (published made) r before hushed = hushed

-- memory runs out for one that was heard
starved : (c : ℕ) (h : Happening) (r : Result (List (ℕ × List ℕ)) DeskFault) (before : List Deed) → starves c h ≡ true → IsHushed (stepped h r ∷ before) → is_fed c before ≡ true
starved c (opened n) r before is hushed = subst (λ c. is_fed c before ≡ true) (eqb-true n c is) hushed.0
starved c (arrived n piece) r before is hushed = subst (λ c. is_fed c before ≡ true) (eqb-true n c is) hushed.0
starved c (ended n) r before is hushed = cc
starved c (published made) r before is hushed = cc

ok_words : (c : ℕ) (all text joint : List ℕ) (b : Bool) → all ≡ joint ++ last_word b → (b ≡ false → text ≡ []) → all ++ text ≡ (joint ++ text) ++ last_word b
ok_words c all text joint true is none = ap (λ all. all ++ text) (is ∙ append-nil joint) ∙ sym (append-nil (joint ++ text))
ok_words c all text joint false is none =
    ap (λ text. all ++ text) (none refl) ∙ append-nil all ∙ is ∙ ap (λ joint. joint ++ no_memory) (sym (append-nil joint) ∙ ap (λ text. joint ++ text) (sym (none refl)))

err_words : (all joint : List ℕ) (fed starving : Bool) → all ≡ joint ++ last_word fed → (starving ≡ true → fed ≡ true) → all ++ (if starving then no_memory else []) ≡ joint ++ last_word (if starving then false else fed)
err_words all joint fed true is was = ap (λ all. all ++ no_memory) (is ∙ ap (λ b. joint ++ last_word b) (was refl) ∙ append-nil joint)
err_words all joint fed false is was = append-nil all ∙ is

joined_more : (c : ℕ) (run : List Done) (h : Happening) (answers : List (ℕ × List ℕ)) → joined (texts_got c (run ++ (h, Ok answers) ∷ [])) ≡ joined (texts_got c run) ++ texts_for c answers
joined_more c run h answers =
    ap joined (texts_got_append c run ((h, Ok answers) ∷ []))
    ∙ joined_append (texts_got c run) (texts_in c answers ++ [])
    ∙ ap (λ text. joined (texts_got c run) ++ text) (ap joined (append-nil (texts_in c answers)) ∙ texts_joined c answers)

pub owed_joined : (terms : Terms) (c : ℕ) (d : Desk) (deeds : List Deed) → Runs terms d deeds → IsHushed deeds → owed c deeds ≡ joined (texts_got c (in_order deeds)) ++ last_word (is_fed c deeds)
owed_joined terms c d [] runs hushed = refl
owed_joined terms c d (stepped h (Ok answers) ∷ before) runs hushed =
    ok_words c (owed c before) (texts_for c answers) (joined (texts_got c (in_order before))) (is_fed c before) (owed_joined terms c d before runs.1 (hushed_before h (Ok answers) before hushed))
    (λ isnt. unheard terms c (desk_after d before) h answers before isnt hushed runs.0)
    ∙ ap (λ joint. joint ++ last_word (is_fed c before)) (sym (joined_more c (in_order before) h answers))
owed_joined terms c d (stepped h (Err fault) ∷ before) runs hushed =
    err_words (owed c before) (joined (texts_got c (in_order before))) (is_fed c before) (starves c h) (owed_joined terms c d before runs.1 (hushed_before h (Err fault) before hushed))
    (λ is. starved c h (Err fault) before is hushed)
    ∙ ap (λ texts. joined texts ++ last_word (is_fed c (stepped h (Err fault) ∷ before))) (sym (texts_got_append c (in_order before) ((h, Err fault) ∷ []) ∙ append-nil (texts_got c (in_order before))))
owed_joined terms c d (handed n bytes ∷ before) runs hushed = owed_joined terms c d before runs hushed
owed_joined terms c d (parted n whole ∷ before) runs hushed = owed_joined terms c d before runs hushed
owed_joined terms c d (lost n ∷ before) runs hushed = owed_joined terms c d before runs hushed
owed_joined terms c d (waited room ∷ before) runs hushed = owed_joined terms c d before runs hushed

pub handed_own : (terms : Terms) (c wanted : ℕ) (d : Desk) (deeds : List Deed) → Serves terms wanted d deeds → (rest : List ℕ) × (sent c deeds ++ rest ≡ joined (texts_got c (in_order deeds)) ++ last_word (is_fed c deeds))
handed_own terms c wanted d deeds s = let (rest, is) = s.fronts c in (rest, is ∙ owed_joined terms c d deeds s.ran s.hushed)
