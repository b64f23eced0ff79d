-- The parts of a step, over the definition of a step.
use Rattle.std.proofs.Common.{◌≡◌, ◌∙◌, ℕ, true, false, List, [], ◌∷◌, ap, sym, refl, subst, MutBor}
use Rattle.std.proofs.lemmas.Bool.{le-ltb, lt-ltb}
use Rattle.std.specs.FinMap.{get, insert, len, remove}
use Rattle.std.specs.Global.{Vec}
use Rattle.std.specs.Option.{option_copied_mut}
use Rattle.std.specs.Result.{IsErrAnd}
use Rattle.std.specs.Prelude.{Option, Some, None, Result, Ok, Err, IfErr, IfOk, IsSome, is_ok, is_some, if◌then◌else◌}
use Rattle.opl_codec.specs.declared.change.Change.{Change}
use Rattle.osm_gate.specs.Connections.{Responds, Rest, requests_next, open_rest}
use Rattle.osm_keys.specs.Publications.{Publication}
use Rattle.osm_index.specs.declared.apply_fault.ApplyFault.{ApplyFault}
use Rattle.osm_index.specs.declared.apply_fault.ApplyFault.TheVariants as refusals
use Rattle.osm_index.specs.Snapshots.{HoldsPublication, IsAsBefore}
use Rattle.osm_index.specs.declared.snapshot.Snapshot.{Snapshot}
use Rattle.osm_desk.specs.Contents.{Contents, StandsFor, desk_over}
use Rattle.osm_desk.specs.Desks.{Desk, Step, arrive_step, end_step, open_step, refuse, silent_step, step}
use Rattle.osm_desk.specs.Happenings.{Happening, arrived, ended, opened, published}
use Rattle.osm_desk.specs.Faults.{fault_of}
use Rattle.osm_desk.specs.Made.{IsMade, RefusesChanges}
use Rattle.osm_desk.specs.Stepping.{Gives, HasStepped, IsRefusal, texts_of}
use Rattle.osm_desk.specs.declared.desk_fault.DeskFault.{DeskFault}
use Rattle.osm_desk.specs.declared.desk_fault.DeskFault.TheVariants.{AlreadyOpen, Memory, NoRoom, NotOpen, Refused}
use Rattle.osm_desk.specs.declared.event.Event.{Event}
use Rattle.osm_desk.specs.declared.event.Event.TheVariants.{Arrive, End, Open, Publish}
use Rattle.osm_desk.specs.declared.limits.TheConstants.{CONNECTION_LIMIT}
use Rattle.osm_desk.proofs.MapLemmas.{removed-none}
use Rattle.osm_desk.specs.OneConnection.{IsFree, RefusesOpening, rest_if, rest_of, with_rest, without}
use Rattle.osm_desk.specs.internal.Serving.{HasArrived, RefusesPiece}

pub none_by : {A : Type 0} → (o : Option A) → is_some o ≡ false → o ≡ None
none_by None e = refl
none_by (Some x) e = cc

pub some_by : {A : Type 0} → (o : Option A) → is_some o ≡ true → (x : A) × (o ≡ Some x)
some_by None e = cc
some_by (Some x) e = (x, refl)

pub none_lent : (o : Option (MutBor Rest)) → ((x : MutBor Rest) → o ≡ Some x → ⊥) → option_copied_mut o ≡ None
none_lent None h = refl
none_lent (Some x) h = absurd (h x refl)

-- a step that is known
stepped : (d : Desk) (h : Happening) (s : Step) (answers : List (ℕ × List ℕ)) (new : Contents Snapshot) → step d h ≡ s → Gives s.reply answers → StandsFor HoldsPublication new s.desk
    → Gives (step d h).reply answers × StandsFor HoldsPublication new (step d h).desk
stepped d h s answers new is gives stands = subst (λ (s : Step). Gives s.reply answers × StandsFor HoldsPublication new s.desk) (sym is) (gives, stands)

held_in : (d new : Contents Snapshot) (p : Publication) → new.mirror ≡ d.mirror → HoldsPublication d.mirror p → HoldsPublication new.mirror p
held_in d new p same holds = subst (λ (s : Snapshot). HoldsPublication s p) (sym same) holds

module _ (d : Contents Snapshot) (n : ℕ) (p : Publication) where
  abbrev over : Desk
  over = desk_over d p

  -- ---- an opening

  opens : IsFree d n → step over (opened n) ≡ silent_step p (insert d.connections n (open_rest []))
  opens (none, room) =
      ap (open_step over n) none
      ∙ ap (λ b. if b then silent_step p (insert d.connections n (open_rest [])) else refuse over NoRoom) (lt-ltb (len d.connections) CONNECTION_LIMIT room)

  pub open_steps : (new : Contents Snapshot) → HoldsPublication d.mirror p → IsFree d n → new ≡ with_rest d n (open_rest []) → HasStepped over (Open n) [] new
  open_steps new holds free is =
      let both = stepped over (opened n) (silent_step p (insert d.connections n (open_rest []))) [] new (opens free) tt
      (held_in d new p (ap (λ (d : Contents Snapshot). d.mirror) is) holds, ap (λ (d : Contents Snapshot). d.connections) is) in
      (opened n, refl, both.0, both.1)

  pub open_refused : (fault : DeskFault) → RefusesOpening d n fault → IsRefusal over (Open n) fault
  open_refused AlreadyOpen some =
      let (r, is) = some_by (get d.connections n) some in
      (opened n, refl, ap (λ o. (open_step over n o).reply) is)
  open_refused NotOpen is = absurd is
  open_refused NoRoom (none, full) = (
    opened n,
    refl,
    ap (λ o. (open_step over n o).reply) none
        ∙ ap (λ b. (if b then silent_step p (insert d.connections n (open_rest [])) else refuse over NoRoom).reply) (le-ltb (len d.connections) CONNECTION_LIMIT full),
  )
  open_refused (Refused fault) is = absurd is
  open_refused Memory free = ap (λ (s : Step). is_ok s.reply) (opens free)

  -- ---- a piece

  pub arrive_steps : (piece text : List ℕ) (answers : List (ℕ × List ℕ)) (new : Contents Snapshot) → HoldsPublication d.mirror p → IsSome (get d.connections n)
      → Responds p (requests_next (rest_of d n) piece).complete text → answers ≡ (n, text) ∷ [] → new ≡ with_rest d n (requests_next (rest_of d n) piece).rest
      → HasArrived over n piece answers new
  arrive_steps piece text answers new holds some responds one is =
      let (r, found) = some_by (get d.connections n) some in
      let rest_is : rest_of d n ≡ r = ap rest_if found in
      let to_piece : Responds p (requests_next r piece).complete text = subst (λ (r : Rest). Responds p (requests_next r piece).complete text) rest_is responds in
      let gives : Gives (arrive_step over n piece (Some r)).reply answers = rw one (refl, to_piece, tt) in
      let left : new ≡ with_rest d n (requests_next r piece).rest = is ∙ ap (λ (r : Rest). with_rest d n (requests_next r piece).rest) rest_is in
      stepped over (arrived n piece) (arrive_step over n piece (Some r)) answers new (ap (arrive_step over n piece) found) gives
      (held_in d new p (ap (λ (d : Contents Snapshot). d.mirror) left) holds, ap (λ (d : Contents Snapshot). d.connections) left)

  pub arrive_refused : (piece : Vec ℕ) (fault : DeskFault) → RefusesPiece d n fault → IsRefusal over (Arrive n piece) fault
  arrive_refused piece AlreadyOpen is = absurd is
  arrive_refused piece NotOpen none = (arrived n piece.items, refl, ap (λ o. (arrive_step over n piece.items o).reply) none)
  arrive_refused piece NoRoom is = absurd is
  arrive_refused piece (Refused fault) is = absurd is
  arrive_refused piece Memory some =
      let (r, found) = some_by (get d.connections n) some in
      ap (λ o. is_ok (arrive_step over n piece.items o).reply) found

  -- ---- an end

  pub end_steps : (new : Contents Snapshot) → HoldsPublication d.mirror p → IsSome (get d.connections n) → new ≡ without d n → HasStepped over (End n) [] new
  end_steps new holds some is =
      let (r, found) = some_by (get d.connections n) some in
      let both = stepped over (ended n) (silent_step p (remove d.connections n)) [] new (ap (end_step over n) found) tt
      (held_in d new p (ap (λ (d : Contents Snapshot). d.mirror) is) holds, ap (λ (d : Contents Snapshot). d.connections) is) in
      (ended n, refl, both.0, both.1)

  pub end_refused : get d.connections n ≡ None → IsRefusal over (End n) NotOpen
  end_refused none = (ended n, refl, ap (λ o. (end_step over n o).reply) none)

-- a piece of a vector
pub arrived_steps : (d : Desk) (n : ℕ) (piece : Vec ℕ) (bytes : List ℕ) (answers : List (ℕ × List ℕ)) (new : Contents Snapshot) → bytes ≡ piece.items
    → HasArrived d n bytes answers new → HasStepped d (Arrive n piece) answers new
arrived_steps d n piece bytes answers new is both =
    let at = subst (λ (bytes : List ℕ). HasArrived d n bytes answers new) is both in
    (arrived n piece.items, refl, at.0, at.1)

-- an end of a connection that isn't open
pub ended_none : (d new : Contents Snapshot) (n : ℕ) → get d.connections n ≡ None → new ≡ without d n → (new.connections ≡ d.connections) × IsAsBefore d.mirror new.mirror
ended_none d new n none is =
    let same : new ≡ d = is ∙ ap (λ c. let d : Contents Snapshot = record { mirror = d.mirror; connections = c } in d) (removed-none d.connections n none) in
    subst (λ (new : Contents Snapshot). (new.connections ≡ d.connections) × IsAsBefore d.mirror new.mirror) (sym same)
    (refl, record { edition = refl; manifest = refl; root = refl; nodes = λ x. ((λ h. h), (λ h. h)) })

-- an event that gives nothing
pub quiet_steps : (d : Desk) (event same : Event) (items : List (ℕ × Vec ℕ)) (new left : Contents Snapshot) → event ≡ same → items ≡ [] → new ≡ left → HasStepped d same [] left
    → HasStepped d event (texts_of items) new
quiet_steps d event same items new left is none left_is steps = rw (is, none, left_is) steps

pub refused_by : {A E : Type 0} (P : E → Type 0) (result : Result A E) (fault : E) → IsErrAnd result (λ f. f ≡ fault) → P fault → IfErr result P
refused_by P (Ok value) fault is refused = absurd is
refused_by P (Err f) fault is refused = subst P (sym is) refused

pub if_ok : {A E : Type 0} {P Q : A → Type 0} → (result : Result A E) → IfOk result P → ((value : A) → P value → Q value) → IfOk result Q
if_ok (Ok value) is next = next value is
if_ok (Err error) is next = tt

pub if_err : {A E : Type 0} {P Q : E → Type 0} → (result : Result A E) → IfErr result P → ((error : E) → P error → Q error) → IfErr result Q
if_err (Ok value) is next = tt
if_err (Err error) is next = next error is

-- ---- a publication

module _ (d : Contents Snapshot) (p : Publication) where
  pub publish_steps : (changes : Vec Change) (new : Contents Snapshot) (q : Publication) → IsMade p changes.items (Ok q) → HoldsPublication new.mirror q → new.connections ≡ d.connections
      → HasStepped (desk_over d p) (Publish changes) [] new
  publish_steps changes new q made holds same = (published (Ok q), (Ok q, made, refl), tt, (holds, same))

  pub publish_refused : (changes : Vec Change) (fault : ApplyFault) → RefusesChanges p changes.items fault → IsRefusal (desk_over d p) (Publish changes) (fault_of fault)
  publish_refused changes refusals.Memory is = is
  publish_refused changes refusals.LastSequence is = (published (Err refusals.LastSequence), (Err refusals.LastSequence, is, refl), refl)
  publish_refused changes (refusals.ChangedTwice r) is = (published (Err (refusals.ChangedTwice r)), (Err (refusals.ChangedTwice r), is, refl), refl)
  publish_refused changes (refusals.NotThere r) is = (published (Err (refusals.NotThere r)), (Err (refusals.NotThere r), is, refl), refl)
  publish_refused changes refusals.TooMany is = (published (Err refusals.TooMany), (Err refusals.TooMany, is, refl), refl)
  publish_refused changes refusals.Clash is = (published (Err refusals.Clash), (Err refusals.Clash, is, refl), refl)
