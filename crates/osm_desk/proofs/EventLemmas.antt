-- What connections are told by events, from what they complete by what happens.
use Rattle.std.proofs.Common.{◌≡◌, ◌∙◌, ◌↔◌, ℕ, Bool, true, false, List, [], ◌∷◌, ◌++◌, ap, sym, refl, subst}
use Rattle.std.specs.FinMap.{empty, get, insert, len}
use Rattle.std.specs.Global.{Vec}
use Rattle.std.specs.Prelude.{◌==◌, Option, Some, None, Result, Ok, Err, IfErr, IfOk, MatchBool, OnErr, if◌then◌else◌, nat_lt}
use Rattle.osm_gate.specs.Connections.{Rest, open_rest}
use Rattle.osm_keys.specs.Publications.{Publication}
use Rattle.osm_index.specs.Snapshots.{HoldsPublication, IsAsBefore}
use Rattle.osm_index.specs.declared.apply_fault.ApplyFault.{ApplyFault}
use Rattle.osm_index.specs.declared.snapshot.Snapshot.{Snapshot}
use Rattle.osm_gate.specs.Terms.{within}
use Rattle.osm_desk.specs.Completions.{FindsRoom, MeetsRoom, completions_from, completions_of, completions_with, in_force, life_opened, life_with}
use Rattle.osm_desk.specs.Contents.{Contents, desk_over}
use Rattle.osm_desk.specs.Desks.{Completion, Connections, Desk, arrive_step, end_step, fresh_desk, open_step, publish_step, refuse, silent_step, step}
use Rattle.osm_desk.specs.Events.{AreTurns, HasRoom, IsRoomFor, IsTold, IsToldFrom, IsToldPiece, IsTurn, Turn, answer_of, events_of, own_events, texts_to}
use Rattle.osm_desk.specs.Happenings.{Happening, arrived, ended, opened, published}
use Rattle.osm_desk.specs.Runs.{Done, Ran, RespondAll, lasting_happenings, stands, texts_got, texts_in}
use Rattle.osm_desk.specs.Stepping.{Gives, HasStepped, IsOf, IsRefusal, texts_of}
use Rattle.osm_desk.specs.declared.desk_fault.DeskFault.{DeskFault}
use Rattle.osm_desk.specs.declared.desk_fault.DeskFault.TheVariants.{AlreadyOpen, Memory, NoRoom, NotOpen, Refused}
use Rattle.osm_desk.specs.declared.event.Event.{Event}
use Rattle.osm_desk.specs.declared.event.Event.TheVariants.{Arrive, End, Open, Publish}
use Rattle.osm_desk.specs.declared.limits.TheConstants.{CONNECTION_LIMIT}
use Rattle.osm_desk.proofs.RunLemmas.{refused-leaves, run-completions}
use Rattle.osm_desk.proofs.shared.StillHeld.{still_held}

-- ---- what a call did is a turn

pub turn-of : (before after : Contents Snapshot) (event : Event) (result : Result (Vec (ℕ × Vec ℕ)) DeskFault)
    → ((p : Publication) → HoldsPublication before.mirror p → IfOk result (λ answers. HasStepped (desk_over before p) event (texts_of answers.items) after))
    → ((p : Publication) → HoldsPublication before.mirror p → IfErr result (IsRefusal (desk_over before p) event))
    → OnErr result ((after.connections ≡ before.connections) × IsAsBefore before.mirror after.mirror)
    → IsTurn before (record { event = event; answer = answer_of result; after = after })
turn-of before after event (Ok answers) steps refused unchanged = record { steps = steps; refused = λ p held. tt; unchanged = tt }
turn-of before after event (Err fault) steps refused unchanged = record { steps = λ p held. tt; refused = refused; unchanged = unchanged }

-- ---- events and happenings

-- what is in force after a happening
abbrev then_in_force : Publication → Happening → Publication
then_in_force p (opened n) = p
then_in_force p (arrived n piece) = p
then_in_force p (ended n) = p
then_in_force p (published made) = in_force p made

-- the events are these happenings, one after the other
abbrev AreOf : Publication → List Event → List Happening → Type 0
AreOf p [] [] = Unit {0}
AreOf p [] (h ∷ hs) = ⊥
AreOf p (event ∷ events) [] = ⊥
AreOf p (event ∷ events) (h ∷ hs) = IsOf p event h × AreOf (then_in_force p h) events hs

-- it is what a step leaves in force
open-publication : (d : Desk) (n : ℕ) (o : Option Rest) → (open_step d n o).desk.publication ≡ d.publication
open-publication d n (Some r) = refl
open-publication d n None = elim (nat_lt (len d.connections) CONNECTION_LIMIT)
    as (λ b. (if b then silent_step d.publication (insert d.connections n (open_rest [])) else refuse d NoRoom).desk.publication ≡ d.publication)
    [ true ↦ refl | false ↦ refl ]

arrive-publication : (d : Desk) (n : ℕ) (piece : List ℕ) (o : Option Rest) → (arrive_step d n piece o).desk.publication ≡ d.publication
arrive-publication d n piece None = refl
arrive-publication d n piece (Some r) = refl

end-publication : (d : Desk) (n : ℕ) (o : Option Rest) → (end_step d n o).desk.publication ≡ d.publication
end-publication d n None = refl
end-publication d n (Some r) = refl

publish-publication : (d : Desk) (made : Result Publication ApplyFault) → (publish_step d made).desk.publication ≡ in_force d.publication made
publish-publication d (Err fault) = refl
publish-publication d (Ok p) = refl

step-publication : (d : Desk) (h : Happening) → (step d h).desk.publication ≡ then_in_force d.publication h
step-publication d (opened n) = open-publication d n (get d.connections n)
step-publication d (arrived n piece) = arrive-publication d n piece (get d.connections n)
step-publication d (ended n) = end-publication d n (get d.connections n)
step-publication d (published made) = publish-publication d made

-- ---- what happenings tell, events tell

none-told : (texts : List (List ℕ)) → RespondAll [] texts → texts ≡ []
none-told [] all = refl
none-told (text ∷ texts) all = absurd all

piece-told : (c : ℕ) (p : Publication) (life : Option (List ℕ)) (piece : List ℕ) (later : List Completion) (Later : List (List ℕ) → Type 0) (texts : List (List ℕ))
    → ((texts : List (List ℕ)) → RespondAll later texts → Later texts) → RespondAll (completions_with p life piece later) texts → IsToldPiece p life piece Later texts
piece-told c p None piece later Later texts again all = again texts all
piece-told c p (Some bytes) piece later Later [] again all = absurd all
piece-told c p (Some bytes) piece later Later (text ∷ texts) again all = (all.0, again texts all.1)

arrive-told : (b : Bool) (mine others : List Completion) (Mine Others : Type 0) (texts : List (List ℕ)) → (RespondAll mine texts → Mine) → (RespondAll others texts → Others)
    → RespondAll (if b then mine else others) texts → MatchBool b Mine Others
arrive-told true mine others Mine Others texts one other all = one all
arrive-told false mine others Mine Others texts one other all = other all

told-events : (c : ℕ) (events : List Event) (hs : List Happening) (p : Publication) (life : Option (List ℕ)) (texts : List (List ℕ))
    → AreOf p events hs → RespondAll (completions_from c p life hs) texts → IsToldFrom c p life events texts
told-events c [] [] p life texts are all = none-told texts all
told-events c [] (h ∷ hs) p life texts are all = absurd are
told-events c (event ∷ events) [] p life texts are all = absurd are
told-events c (Open n ∷ events) (h ∷ hs) p life texts are all =
    told-events c events hs p (if n == c then life_opened life else life) texts
    (subst (λ (h : Happening). AreOf (then_in_force p h) events hs) are.0 are.1)
    (subst (λ (h : Happening). RespondAll (completions_from c p life (h ∷ hs)) texts) are.0 all)
told-events c (Arrive n piece ∷ events) (h ∷ hs) p life texts are all =
    let next = subst (λ (h : Happening). AreOf (then_in_force p h) events hs) are.0 are.1 in
    arrive-told (n == c) (completions_with p life piece.items (completions_from c p (life_with life piece.items) hs)) (completions_from c p life hs)
    (IsToldPiece p life piece.items (IsToldFrom c p (life_with life piece.items) events) texts) (IsToldFrom c p life events texts) texts
    (piece-told c p life piece.items (completions_from c p (life_with life piece.items) hs) (IsToldFrom c p (life_with life piece.items) events) texts
    (λ texts all. told-events c events hs p (life_with life piece.items) texts next all))
    (λ all. told-events c events hs p life texts next all)
    (subst (λ (h : Happening). RespondAll (completions_from c p life (h ∷ hs)) texts) are.0 all)
told-events c (End n ∷ events) (h ∷ hs) p life texts are all =
    told-events c events hs p (if n == c then None else life) texts
    (subst (λ (h : Happening). AreOf (then_in_force p h) events hs) are.0 are.1)
    (subst (λ (h : Happening). RespondAll (completions_from c p life (h ∷ hs)) texts) are.0 all)
told-events c (Publish changes ∷ events) (h ∷ hs) p life texts are all =
    let (made, is_made, is) = are.0 in (
      made,
      is_made,
      told-events c events hs (in_force p made) life texts
          (subst (λ (h : Happening). AreOf (then_in_force p h) events hs) is are.1)
          (subst (λ (h : Happening). RespondAll (completions_from c p life (h ∷ hs)) texts) is all),
    )

-- ---- a run of the code is a run over happenings

record Mirrors (c : ℕ) (d : Desk) (turns : List Turn) : Type 0 where
  run : List Done
  ran : Ran d run
  same : texts_got c run ≡ texts_to c turns
  are : AreOf d.publication (events_of turns) (lasting_happenings run)
  room : FindsRoom c d (lasting_happenings run)

-- a happening finds the room that its event finds
room-of : (c : ℕ) (d : Contents Snapshot) (p : Publication) (event : Event) (h : Happening) → IsOf p event h → IsRoomFor c d event → MeetsRoom c (desk_over d p) h
room-of c d p (Open n) h is room = subst (MeetsRoom c (desk_over d p)) (sym is) room
room-of c d p (Arrive n piece) h is room = subst (MeetsRoom c (desk_over d p)) (sym is) tt
room-of c d p (End n) h is room = subst (MeetsRoom c (desk_over d p)) (sym is) tt
room-of c d p (Publish changes) h (made, is_made, is) room = subst (MeetsRoom c (desk_over d p)) (sym is) tt

-- a step that gives answers
mirrors-ok : (c : ℕ) (d : Desk) (event : Event) (answers : List (ℕ × List ℕ)) (after : Contents Snapshot) (turns : List Turn) (h : Happening) → IsOf d.publication event h
    → Gives (step d h).reply answers → MeetsRoom c d h → Mirrors c (step d h).desk turns
    → Mirrors c d (record { event = event; answer = Ok answers; after = after } ∷ turns)
mirrors-ok c d event answers after turns h is gives room later = record {
  run = (h, Ok answers) ∷ later.run;
  ran = (gives, later.ran);
  same = ap (λ texts. texts_in c answers ++ texts) later.same;
  are = (is, subst (λ (p : Publication). AreOf p (events_of turns) (lasting_happenings later.run)) (step-publication d h) later.are);
  room = (room, later.room);
}

-- one that is refused, but not out of memory
mirrors-refused : (c : ℕ) (d : Desk) (event : Event) (fault : DeskFault) (after : Contents Snapshot) (turns : List Turn) (h : Happening) → stands fault ≡ true → IsOf d.publication event h
    → (step d h).reply ≡ Err fault → MeetsRoom c d h → Mirrors c d turns
    → Mirrors c d (record { event = event; answer = Err fault; after = after } ∷ turns)
mirrors-refused c d event fault after turns h real is reply room later =
    let left = refused-leaves d h fault reply in
    let next : AreOf (then_in_force d.publication h) (events_of turns) (lasting_happenings later.run) =
    subst (λ (p : Publication). AreOf p (events_of turns) (lasting_happenings later.run)) (sym (ap (λ (d : Desk). d.publication) left) ∙ step-publication d h) later.are in
    record {
      run = (h, Err fault) ∷ later.run;
      ran = ((λ _. reply), later.ran);
      same = later.same;
      are = rw (real) (is, next);
      room = rw (real) (room, subst (λ (d : Desk). FindsRoom c d (lasting_happenings later.run)) (sym left) later.room);
    }

mirrors-memory : (c : ℕ) (d : Desk) (event : Event) (after : Contents Snapshot) (turns : List Turn) → Mirrors c d turns
    → Mirrors c d (record { event = event; answer = Err Memory; after = after } ∷ turns)
mirrors-memory c d event after turns later = record {
  run = (ended 0, Err Memory) ∷ later.run;
  ran = ((λ real. cc), later.ran);
  same = later.same;
  are = later.are;
  room = later.room;
}

mirrors-err : (c : ℕ) (d : Desk) (before : Contents Snapshot) (event : Event) (fault : DeskFault) (after : Contents Snapshot) (turns : List Turn) → d ≡ desk_over before d.publication
    → IsRefusal d event fault → IsRoomFor c before event → Mirrors c d turns
    → Mirrors c d (record { event = event; answer = Err fault; after = after } ∷ turns)
mirrors-err c d before event AlreadyOpen after turns is (h, of, reply) room later =
    mirrors-refused c d event AlreadyOpen after turns h refl of reply (subst (λ (d : Desk). MeetsRoom c d h) (sym is) (room-of c before d.publication event h of room)) later
mirrors-err c d before event NotOpen after turns is (h, of, reply) room later =
    mirrors-refused c d event NotOpen after turns h refl of reply (subst (λ (d : Desk). MeetsRoom c d h) (sym is) (room-of c before d.publication event h of room)) later
mirrors-err c d before event NoRoom after turns is (h, of, reply) room later =
    mirrors-refused c d event NoRoom after turns h refl of reply (subst (λ (d : Desk). MeetsRoom c d h) (sym is) (room-of c before d.publication event h of room)) later
mirrors-err c d before event (Refused fault) after turns is (h, of, reply) room later =
    mirrors-refused c d event (Refused fault) after turns h refl of reply (subst (λ (d : Desk). MeetsRoom c d h) (sym is) (room-of c before d.publication event h of room)) later
mirrors-err c d before event Memory after turns is why room later = mirrors-memory c d event after turns later

abbrev with_connections : Publication → Connections → Desk
with_connections p connections = record { publication = p; connections = connections }

mirrors-step : (c : ℕ) (before : Contents Snapshot) (p : Publication) (event : Event) (answer : Result (List (ℕ × List ℕ)) DeskFault) (after : Contents Snapshot) (turns : List Turn)
    → HoldsPublication before.mirror p → IsTurn before (record { event = event; answer = answer; after = after }) → IsRoomFor c before event
    → ((q : Publication) → HoldsPublication after.mirror q → Mirrors c (desk_over after q) turns)
    → Mirrors c (desk_over before p) (record { event = event; answer = answer; after = after } ∷ turns)
mirrors-step c before p event (Ok answers) after turns held turn room again =
    let (h, of, gives, stands_for) = turn.steps p held in
    let next = (step (desk_over before p) h).desk in
    let later : Mirrors c next turns =
    subst (λ (connections : Connections). Mirrors c (with_connections next.publication connections) turns) stands_for.1 (again next.publication stands_for.0) in
    mirrors-ok c (desk_over before p) event answers after turns h of gives (room-of c before p event h of room) later
mirrors-step c before p event (Err fault) after turns held turn room again =
    let (connections, same) = turn.unchanged in
    let later : Mirrors c (desk_over before p) turns =
    subst (λ (connections : Connections). Mirrors c (with_connections p connections) turns) connections (again p (still_held before.mirror after.mirror p same held)) in
    mirrors-err c (desk_over before p) before event fault after turns refl (turn.refused p held) room later

mirrors : (c : ℕ) (turns : List Turn) (before : Contents Snapshot) (p : Publication) → HoldsPublication before.mirror p → AreTurns before turns → HasRoom c before turns
    → Mirrors c (desk_over before p) turns
mirrors c [] before p held are room = record { run = []; ran = tt; same = refl; are = tt; room = tt }
mirrors c (turn ∷ turns) before p held are room =
    mirrors-step c before p turn.event turn.answer turn.after turns held are.0 room.0 (λ q holds. mirrors c turns turn.after q holds are.1 room.1)

-- the law: what the code gives a connection is what the events tell it
pub turns-told : (c : ℕ) (before : Contents Snapshot) (turns : List Turn) (p : Publication) → before.connections ≡ empty → HoldsPublication before.mirror p
    → AreTurns before turns → HasRoom c before turns → IsTold c (events_of turns) p (texts_to c turns)
turns-told c before turns p none held are room =
    let mirror : Mirrors c (fresh_desk p) turns =
    subst (λ (connections : Connections). Mirrors c (with_connections p connections) turns) none (mirrors c turns before p held are room) in
    let all = run-completions (within None) c mirror.run p mirror.ran mirror.room in
    told-events c (events_of turns) (lasting_happenings mirror.run) p None (texts_to c turns) mirror.are
    (subst (λ texts. RespondAll (completions_of c (lasting_happenings mirror.run) p) texts) mirror.same all)

-- ---- the events of the others

abbrev Same : ℕ → List Event → List Event → Type 0
Same c some others = (p : Publication) (life : Option (List ℕ)) (texts : List (List ℕ)) → IsToldFrom c p life some texts ↔ IsToldFrom c p life others texts

own-open : (c n : ℕ) (events : List Event) → Same c events (own_events c events) → (b : Bool) → (n == c) ≡ b
    → Same c (Open n ∷ events) (if b then Open n ∷ own_events c events else own_events c events)
own-open c n events again true is = λ p life texts. again p (if n == c then life_opened life else life) texts
own-open c n events again false is = λ p life texts. rw is (again p life texts)

same-piece : (p : Publication) (life : Option (List ℕ)) (piece : List ℕ) (A B : List (List ℕ) → Type 0) → ((texts : List (List ℕ)) → A texts ↔ B texts)
    → (texts : List (List ℕ)) → IsToldPiece p life piece A texts ↔ IsToldPiece p life piece B texts
same-piece p None piece A B again texts = again texts
same-piece p (Some bytes) piece A B again [] = ((λ h. h), (λ h. h))
same-piece p (Some bytes) piece A B again (text ∷ texts) = ((λ h. (h.0, (again texts).0 h.1)), (λ h. (h.0, (again texts).1 h.1)))

same-match : (b : Bool) (A B C D : Type 0) → A ↔ B → C ↔ D → MatchBool b A C ↔ MatchBool b B D
same-match true A B C D one other = one
same-match false A B C D one other = other

own-arrive : (c n : ℕ) (piece : _) (events : List Event) → Same c events (own_events c events) → (b : Bool) → (n == c) ≡ b
    → Same c (Arrive n piece ∷ events) (if b then Arrive n piece ∷ own_events c events else own_events c events)
own-arrive c n piece events again true is = λ p life texts.
    same-match (n == c) _ _ _ _ (same-piece p life piece.items _ _ (λ texts. again p (life_with life piece.items) texts) texts) (again p life texts)
own-arrive c n piece events again false is = λ p life texts. rw is (again p life texts)

own-end : (c n : ℕ) (events : List Event) → Same c events (own_events c events) → (b : Bool) → (n == c) ≡ b
    → Same c (End n ∷ events) (if b then End n ∷ own_events c events else own_events c events)
own-end c n events again true is = λ p life texts. again p (if n == c then None else life) texts
own-end c n events again false is = λ p life texts. rw is (again p life texts)

pub own-told : (c : ℕ) (events : List Event) → Same c events (own_events c events)
own-told c [] = λ p life texts. ((λ h. h), (λ h. h))
own-told c (Open n ∷ events) = own-open c n events (own-told c events) (n == c) refl
own-told c (Arrive n piece ∷ events) = own-arrive c n piece events (own-told c events) (n == c) refl
own-told c (End n ∷ events) = own-end c n events (own-told c events) (n == c) refl
own-told c (Publish changes ∷ events) = λ p life texts. (
  λ (made, is, told). (made, is, (own-told c events (in_force p made) life texts).0 told),
  λ (made, is, told). (made, is, (own-told c events (in_force p made) life texts).1 told),
)
