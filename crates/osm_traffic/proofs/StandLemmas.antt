-- How the server stands after each deed.
use Rattle.std.proofs.Common.{⊎_elim, ◌≡◌, ◌∙◌, ◌≤◌, ◌<◌, ◌+◌, ◌-◌, ◌↔◌, inl, inr, ℕ, suc, Bool, true, false, List, [], ◌∷◌, ◌++◌, ap, sym, refl, subst, take, drop, length, append_assoc, arith, add-one}
use Rattle.std.proofs.lemmas.Bool.{cases_eq, cases_lt, lt-ltb}
use Rattle.std.proofs.lemmas.List.{append-nil, drop_all, take-append-drop}
use Rattle.std.specs.FinMap.{empty, get, insert, len, remove, get-empty, len-empty}
use Rattle.std.specs.Ordering.{nat_cmp}
use Rattle.std.specs.Prelude.{Option, Some, None, Result, Ok, Err, OnErr, IsSome, is_some, if◌then◌else◌, ◌==◌}
use Rattle.osm_desk.specs.Contents.{Contents, StandsFor}
use Rattle.osm_desk.specs.Desks.{Connections, Desk, Step, arrive_step, end_step, fresh_desk, open_step, refuse, silent_step, step}
use Rattle.osm_desk.specs.Happenings.{Happening, arrived, ended, opened, published}
use Rattle.osm_desk.specs.Runs.{IsRefusedBy}
use Rattle.osm_desk.specs.OneConnection.{IsFree, RefusesOpening, rest_if, rest_of, with_rest, without}
use Rattle.osm_desk.specs.Stepping.{GivesOn}
use Rattle.osm_gate.specs.Connections.{RespondsOn, Rest, requests_next, open_rest}
use Rattle.osm_gate.specs.Serving.{no_memory}
use Rattle.osm_keys.specs.Publications.{Publication}
use Rattle.osm_gate.specs.Terms.{Terms}
use Rattle.osm_desk.specs.declared.desk_fault.DeskFault.{DeskFault}
use Rattle.osm_desk.specs.declared.desk_fault.DeskFault.TheVariants.{AlreadyOpen, Memory, NoRoom, NotOpen, Refused}
use Rattle.osm_desk.specs.declared.limits.TheConstants.{CONNECTION_LIMIT}
use Rattle.osm_traffic.specs.Deeds.{Deed, IsPaced, Runs, Serves, desk_after, handed, is_fed, lost, open_count, owed, parted, sent, stepped, text_for, texts_for, waited}
use Rattle.osm_traffic.specs.declared.traffic.Writing.{Writing}
use Rattle.osm_traffic.specs.declared.traffic.Writing.TheVariants.{Took, Gone}
use Rattle.osm_traffic.specs.Entries as entries
use Rattle.osm_traffic.specs.declared.traffic.Room.{Room}
use Rattle.osm_traffic.specs.declared.traffic.Room.TheVariants.{Free}
use Rattle.osm_traffic.specs.Entries.{Entry, Writes, brought, came, left, left_by, noted, took}
use Rattle.osm_gate.specs.Pieces.{CompletesOne, IsCut}
use Rattle.osm_desk.specs.Published.{HasPublished, IsPublishedFrom}
use Rattle.osm_traffic.specs.internal.Standing.{IsOwed, Stands, Waiting}
use Rattle.osm_traffic.proofs.DeedLemmas.{other, quiet, same}
use Rattle.osm_traffic.proofs.MapLemmas.{get-put_other, get-put_same, get-removed_none, get-removed_other, get-removed_same, len-put_new, len-put_old, len-removed_some, removed-none}

pub owed_any : (o : Option (List ℕ)) (given all : List ℕ) → IsOwed o given all → (rest : List ℕ) × (given ++ rest ≡ all)
owed_any None given all is = is
owed_any (Some rest) given all is = (rest, is)

pub some_by : {A : Type 0} → (o : Option A) → is_some o ≡ true → (x : A) × (o ≡ Some x)
some_by None e = cc
some_by (Some x) e = (x, refl)

one_back : (n : ℕ) → suc n - 1 ≡ n
one_back n = omega arith

true_if : (b : Bool) → (b ≡ false → ⊥) → b ≡ true
true_if true isnt = refl
true_if false isnt = absurd (isnt refl)

-- a key that is known is one of before
apart : (outputs : Waiting) (taken n c : ℕ) (bytes : List ℕ) → ((c : ℕ) → taken ≤ c → get outputs c ≡ None) → get outputs n ≡ Some bytes → taken ≤ c → n ≡ c → ⊥
apart outputs taken n c bytes known some above is = let none = known n (subst (λ c. taken ≤ c) (sym is) above) in let no = sym some ∙ none in cc

module _ {M : Type 0} (holds : M → Publication → Type 0) (terms : Terms) (wanted : ℕ) (d : Desk) (base : List Entry) (deeds : List Deed) (log : Option (List Entry)) (outputs : Waiting) (contents : Contents M) (taken : ℕ) (s : Stands holds terms wanted d base deeds log outputs contents taken) where
  abbrev D : Desk
  D = desk_after d deeds

  same_connections : contents.connections ≡ D.connections
  same_connections = s.desk.1

  -- ---- a socket takes bytes

  module _ (n count : ℕ) (bytes : List ℕ) (some : get outputs n ≡ Some bytes) where
    owes_handed : (c : ℕ) → IsOwed (get (insert outputs n (drop count bytes)) c) (sent c (handed n (take count bytes) ∷ deeds)) (owed c deeds)
    owes_handed c = ⊎_elim
        (λ (e : n ≡ c). subst (λ c. IsOwed (get (insert outputs n (drop count bytes)) c) (sent c (handed n (take count bytes) ∷ deeds)) (owed c deeds)) e
        (rw (get-put_same outputs n (drop count bytes), same n (sent n deeds ++ take count bytes) (sent n deeds))
        (append_assoc (sent n deeds) (take count bytes) (drop count bytes) ∙ ap (λ bytes. sent n deeds ++ bytes) (take-append-drop count bytes)
        ∙ subst (λ o. IsOwed o (sent n deeds) (owed n deeds)) some (s.owes n))))
        (λ (e : n ≡ c → ⊥). rw (get-put_other outputs n (drop count bytes) c e, other n c (sent c deeds ++ take count bytes) (sent c deeds) e) (s.owes c))
        (cases_eq n c)

    pub hands : Stands holds terms wanted d base (handed n (take count bytes) ∷ deeds) (noted (took n (take count bytes)) log) (insert outputs n (drop count bytes)) contents taken
    hands = record {
      logged = ap (noted (took n (take count bytes))) s.logged;
      ran = s.ran;
      desk = s.desk;
      owes = owes_handed;
      known = λ c above. get-put_other outputs n (drop count bytes) c (apart outputs taken n c bytes s.known some above) ∙ s.known c above;
      fresh = λ c above. (other n c (sent c deeds ++ take count bytes) (sent c deeds) (apart outputs taken n c bytes s.known some above) ∙ (s.fresh c above).0, (s.fresh c above).1, (s.fresh c above).2);
      unopened = s.unopened;
      gone = s.gone;
      hushed = s.hushed;
      paced = s.paced;
      room = s.room;
      made = s.made;
      cut = s.cut;
      single = s.single;
      count = s.count;
      open_are = len-put_old outputs n (drop count bytes) bytes some ∙ s.open_are;
      makes_room = s.makes_room;
    }

  -- ---- a connection is let go

  abbrev ended_reply : Option Rest → Result (List (ℕ × List ℕ)) DeskFault
  ended_reply None = Err NotOpen
  ended_reply (Some r) = Ok []

  no_text : (c n : ℕ) (o : Option Rest) → text_for c (ended n) (ended_reply o) ≡ []
  no_text c n None = refl
  no_text c n (Some r) = refl

  fed_ended : (c n : ℕ) (o : Option Rest) → is_fed c (stepped (ended n) (ended_reply o) ∷ deeds) ≡ is_fed c deeds
  fed_ended c n None = refl
  fed_ended c n (Some r) = refl

  module _ (n : ℕ) where
    runs_ended : (o : Option Rest) → get D.connections n ≡ o → Runs terms d (stepped (ended n) (ended_reply o) ∷ deeds)
    runs_ended None is = ((λ _. ap (λ o. (end_step D n o).reply) is), s.ran)
    runs_ended (Some r) is = (subst (λ (t : Step). GivesOn terms t.reply []) (sym (ap (end_step D n) is)) tt, s.ran)

    desk_ended : (o : Option Rest) → get D.connections n ≡ o → StandsFor holds (without contents n) (desk_after d (stepped (ended n) (ended_reply o) ∷ deeds))
    desk_ended None is = (s.desk.0, ap (λ (all : Connections). remove all n) same_connections ∙ removed-none D.connections n is)
    desk_ended (Some r) is = subst (λ (t : Step). StandsFor holds (without contents n) t.desk) (sym (ap (end_step D n) is)) (s.desk.0, ap (λ (all : Connections). remove all n) same_connections)

    -- the desk forgets the connection
    pub forgets : Stands holds terms wanted d base (stepped (ended n) (ended_reply (get D.connections n)) ∷ deeds) log outputs (without contents n) taken
    forgets =
        let o = get D.connections n in
        record {
          logged = s.logged;
          ran = runs_ended o refl;
          desk = desk_ended o refl;
          owes = λ c. subst (λ all. IsOwed (get outputs c) (sent c deeds) all) (sym (quiet c (ended n) (ended_reply o) deeds (no_text c n o))) (s.owes c);
          known = s.known;
          fresh = λ c above. ((s.fresh c above).0, quiet c (ended n) (ended_reply o) deeds (no_text c n o) ∙ (s.fresh c above).1, fed_ended c n o ∙ (s.fresh c above).2);
          unopened = λ c above. get-removed_none contents.connections n c (s.unopened c above);
          gone = λ c isnt. get-removed_none contents.connections n c (s.gone c (sym (fed_ended c n o) ∙ isnt));
          hushed = s.hushed;
          paced = s.paced;
          room = s.room;
          made = s.made;
          cut = s.cut;
          single = s.single;
          count = s.count;
          open_are = s.open_are;
          makes_room = s.makes_room;
        }

  paced_parted : (n : ℕ) (whole : Bool) → (whole ≡ true → get outputs n ≡ Some []) → IsPaced (parted n whole ∷ deeds)
  paced_parted n false idle = s.paced
  paced_parted n true idle = (sym (append-nil (sent n deeds)) ∙ subst (λ o. IsOwed o (sent n deeds) (owed n deeds)) (idle refl) (s.owes n), s.paced)

  module _ (n : ℕ) (left_over : List ℕ) (some : get outputs n ≡ Some left_over) where
    owes_removed : (c : ℕ) → IsOwed (get (remove outputs n) c) (sent c deeds) (owed c deeds)
    owes_removed c = ⊎_elim
        (λ (e : n ≡ c). subst (λ c. IsOwed (get (remove outputs n) c) (sent c deeds) (owed c deeds)) e
        (rw (get-removed_same outputs n) (owed_any (get outputs n) (sent n deeds) (owed n deeds) (s.owes n))))
        (λ (e : n ≡ c → ⊥). rw (get-removed_other outputs n c e) (s.owes c))
        (cases_eq n c)

    known_removed : (c : ℕ) → taken ≤ c → get (remove outputs n) c ≡ None
    known_removed c above = get-removed_none outputs n c (s.known c above)

    one_less : len (remove outputs n) ≡ open_count deeds - 1
    one_less = len-removed_some outputs n left_over some ∙ ap (λ k. k - 1) s.open_are

    -- its socket is let go
    pub leaves : (whole : Bool) → (whole ≡ true → get outputs n ≡ Some []) → Stands holds terms wanted d base (parted n whole ∷ deeds) (noted (left n whole) log) (remove outputs n) contents taken
    leaves whole idle = record {
      logged = ap (noted (left n whole)) s.logged;
      ran = s.ran;
      desk = s.desk;
      owes = owes_removed;
      known = known_removed;
      fresh = s.fresh;
      unopened = s.unopened;
      gone = s.gone;
      hushed = s.hushed;
      paced = paced_parted n whole idle;
      room = s.room;
      made = s.made;
      cut = s.cut;
      single = s.single;
      count = s.count;
      open_are = one_less;
      makes_room = s.makes_room;
    }

    -- it has none
    pub loses : Stands holds terms wanted d base (lost n ∷ deeds) log (remove outputs n) contents taken
    loses = record {
      logged = s.logged;
      ran = s.ran;
      desk = s.desk;
      owes = owes_removed;
      known = known_removed;
      fresh = s.fresh;
      unopened = s.unopened;
      gone = s.gone;
      hushed = s.hushed;
      paced = s.paced;
      room = s.room;
      made = s.made;
      cut = s.cut;
      single = s.single;
      count = s.count;
      open_are = one_less;
      makes_room = s.makes_room;
    }

  -- ---- what is next is waited for

  pub waits : (room : Room) → ((room ≡ Free) ↔ ((taken < wanted) × (len outputs < CONNECTION_LIMIT) × (len contents.connections < CONNECTION_LIMIT)))
      → Stands holds terms wanted d base (waited room ∷ deeds) (noted (entries.waited room) log) outputs contents taken
  waits room free = record {
    logged = ap (noted (entries.waited room)) s.logged;
    ran = s.ran;
    desk = s.desk;
    owes = s.owes;
    known = s.known;
    fresh = s.fresh;
    unopened = s.unopened;
    gone = s.gone;
    hushed = s.hushed;
    paced = s.paced;
    room = s.room;
    made = s.made;
    cut = s.cut;
    single = s.single;
    count = s.count;
    open_are = s.open_are;
    makes_room = (
      (
        (λ is. let both = free.0 is in (
          subst (λ n. n < wanted) (sym s.count) both.0,
          subst (λ n. n < CONNECTION_LIMIT) s.open_are both.1,
          subst (λ (all : Connections). len all < CONNECTION_LIMIT) same_connections both.2,
        )),
        (λ (few, room, desk). free.1 (
          subst (λ n. n < wanted) s.count few,
          subst (λ n. n < CONNECTION_LIMIT) (sym s.open_are) room,
          subst (λ (all : Connections). len all < CONNECTION_LIMIT) (sym same_connections) desk,
        )),
      ),
      s.makes_room,
    );
  }

  -- ---- something is owed to a connection that had nothing coming

  module _ (n : ℕ) (h : Happening) (r : Result (List (ℕ × List ℕ)) DeskFault) (text : List ℕ) (its : text_for n h r ≡ text)
      (no_other : (c : ℕ) → (n ≡ c → ⊥) → text_for c h r ≡ []) (fed_same : (c : ℕ) → (n ≡ c → ⊥) → is_fed c (stepped h r ∷ deeds) ≡ is_fed c deeds) (was : (sent n deeds ≡ owed n deeds)) where
    owes_more : (c : ℕ) → IsOwed (get (insert outputs n text) c) (sent c deeds) (owed c deeds ++ text_for c h r)
    owes_more c = ⊎_elim
        (λ (e : n ≡ c). subst (λ c. IsOwed (get (insert outputs n text) c) (sent c deeds) (owed c deeds ++ text_for c h r)) e
        (rw (get-put_same outputs n text, its) (ap (λ given. given ++ text) was)))
        (λ (e : n ≡ c → ⊥). rw (get-put_other outputs n text c e)
        (subst (λ all. IsOwed (get outputs c) (sent c deeds) all) (sym (quiet c h r deeds (no_other c e))) (s.owes c)))
        (cases_eq n c)

    known_more : (limit : ℕ) → taken ≤ limit → n < limit → (c : ℕ) → limit ≤ c → get (insert outputs n text) c ≡ None
    known_more limit le lt c above =
        get-put_other outputs n text c (λ e. let no : limit ≤ n = subst (λ c. limit ≤ c) (sym e) above in omega arith)
        ∙ s.known c (omega arith)

    fresh_more : (limit : ℕ) → taken ≤ limit → n < limit → (c : ℕ) → limit ≤ c → (sent c deeds ≡ []) × (owed c deeds ++ text_for c h r ≡ []) × (is_fed c (stepped h r ∷ deeds) ≡ true)
    fresh_more limit le lt c above =
        let apart : n ≡ c → ⊥ = λ e. let no : limit ≤ n = subst (λ c. limit ≤ c) (sym e) above in omega arith in
        let below : taken ≤ c = omega arith in
        ((s.fresh c below).0, quiet c h r deeds (no_other c apart) ∙ (s.fresh c below).1, fed_same c apart ∙ (s.fresh c below).2)

  -- ---- a piece is heard

  module _ (n : ℕ) (piece : List ℕ) (idle : get outputs n ≡ Some []) (is_cut : IsCut piece) (is_single : CompletesOne (rest_of contents n) piece) where
    all_sent : sent n deeds ≡ owed n deeds
    all_sent = sym (append-nil (sent n deeds)) ∙ subst (λ o. IsOwed o (sent n deeds) (owed n deeds)) idle (s.owes n)

    below : n < taken
    below = ⊎_elim (λ (lt : n < taken). lt) (λ (above : taken ≤ n). let none = s.known n above in let no = sym idle ∙ none in cc) (cases_lt n taken)

    single_now : CompletesOne (rest_if (get D.connections n)) piece
    single_now = subst (λ (all : Connections). CompletesOne (rest_if (get all n)) piece) same_connections is_single

    to_one : (c : ℕ) (text : List ℕ) → (n ≡ c → ⊥) → texts_for c ((n, text) ∷ []) ≡ []
    to_one c text apart = other n c (text ++ []) [] apart

    -- one that is open is fed
    fed_now : IsSome (get contents.connections n) → is_fed n deeds ≡ true
    fed_now opens = true_if (is_fed n deeds) (λ isnt. let none = ap is_some (s.gone n isnt) in let no = sym opens ∙ none in cc)

    pub hears_ok : (contents' : Contents M) (text : List ℕ) → IsSome (get contents.connections n)
        → ((p : Publication) → holds contents.mirror p → RespondsOn terms p (requests_next (rest_of contents n) piece).complete text)
        → contents' ≡ with_rest contents n (requests_next (rest_of contents n) piece).rest
        → Stands holds terms wanted d base (stepped (arrived n piece) (Ok ((n, text) ∷ [])) ∷ deeds) (noted (brought n piece) log) (insert outputs n text) contents' taken
    hears_ok contents' text opens responds new =
        let (r, found) = some_by (get contents.connections n) opens in
        let rest_is : rest_of contents n ≡ r = ap (λ o. rest_if o) found in
        let at : get D.connections n ≡ Some r = ap (λ (all : Connections). get all n) (sym same_connections) ∙ found in
        let its : text_for n (arrived n piece) (Ok ((n, text) ∷ [])) ≡ text = same n (text ++ []) [] ∙ append-nil text in
        let gives : GivesOn terms (arrive_step D n piece (Some r)).reply ((n, text) ∷ []) = (refl, subst (λ (r : Rest). RespondsOn terms D.publication (requests_next r piece).complete text) rest_is (responds D.publication s.desk.0), tt) in
        let grown : contents'.connections ≡ insert contents.connections n (requests_next (rest_of contents n) piece).rest = ap (λ (c : Contents M). c.connections) new in
        let held : holds contents'.mirror D.publication = subst (λ (c : Contents M). holds c.mirror D.publication) (sym new) s.desk.0 in
        let joined : contents'.connections ≡ insert D.connections n (requests_next r piece).rest =
        ap (λ (c : Contents M). c.connections) new ∙ ap (λ (all : Connections). insert all n (requests_next (rest_of contents n) piece).rest) same_connections
        ∙ ap (λ (r : Rest). insert D.connections n (requests_next r piece).rest) rest_is in
        record {
          logged = ap (noted (brought n piece)) s.logged;
          ran = (subst (λ (t : Step). GivesOn terms t.reply ((n, text) ∷ [])) (sym (ap (arrive_step D n piece) at)) gives, s.ran);
          desk = subst (λ (t : Step). StandsFor holds contents' t.desk) (sym (ap (arrive_step D n piece) at)) (held, joined);
          owes = owes_more n (arrived n piece) (Ok ((n, text) ∷ [])) text its (λ c apart. to_one c text apart) (λ c apart. refl) all_sent;
          known = known_more n (arrived n piece) (Ok ((n, text) ∷ [])) text its (λ c apart. to_one c text apart) (λ c apart. refl) all_sent taken (omega arith) below;
          fresh = fresh_more n (arrived n piece) (Ok ((n, text) ∷ [])) text its (λ c apart. to_one c text apart) (λ c apart. refl) all_sent taken (omega arith) below;
          unopened = λ c above. ap (λ (all : Connections). get all c) grown
              ∙ get-put_other contents.connections n _ c (λ e. let no : taken ≤ n = subst (λ c. taken ≤ c) (sym e) above in let lt = below in omega arith) ∙ s.unopened c above;
          gone = λ c isnt. ap (λ (all : Connections). get all c) grown
              ∙ get-put_other contents.connections n _ c (λ e. let no = sym (fed_now opens) ∙ subst (λ c. is_fed c deeds ≡ false) (sym e) isnt in cc) ∙ s.gone c isnt;
          hushed = (fed_now opens, s.hushed);
          paced = (all_sent, s.paced);
          room = s.room;
          made = s.made;
          cut = (is_cut, s.cut);
          single = (single_now, s.single);
          count = s.count;
          open_are = len-put_old outputs n text [] idle ∙ s.open_are;
          makes_room = s.makes_room;
        }

    pub hears_err : (contents' : Contents M) → IsSome (get contents.connections n) → contents' ≡ without contents n
        → Stands holds terms wanted d base (stepped (ended n) (Ok []) ∷ stepped (arrived n piece) (Err Memory) ∷ deeds) (noted (brought n piece) log) (insert outputs n no_memory) contents' taken
    hears_err contents' opens new =
        let (r, found) = some_by (get contents.connections n) opens in
        let at : get D.connections n ≡ Some r = ap (λ (all : Connections). get all n) (sym same_connections) ∙ found in
        let its : text_for n (arrived n piece) (Err Memory) ≡ no_memory = same n no_memory [] in
        let shrunk : contents'.connections ≡ remove contents.connections n = ap (λ (c : Contents M). c.connections) new in
        let held : holds contents'.mirror D.publication = subst (λ (c : Contents M). holds c.mirror D.publication) (sym new) s.desk.0 in
        let joined : contents'.connections ≡ remove D.connections n = shrunk ∙ ap (λ (all : Connections). remove all n) same_connections in
        record {
          logged = ap (noted (brought n piece)) s.logged;
          ran = (subst (λ (t : Step). GivesOn terms t.reply []) (sym (ap (end_step D n) at)) tt, ((λ (no : false ≡ true). cc), s.ran));
          desk = subst (λ (t : Step). StandsFor holds contents' t.desk) (sym (ap (end_step D n) at)) (held, joined);
          owes = λ c. subst (λ all. IsOwed (get (insert outputs n no_memory) c) (sent c deeds) all) (sym (append-nil (owed c deeds ++ text_for c (arrived n piece) (Err Memory))))
              (owes_more n (arrived n piece) (Err Memory) no_memory its (λ c apart. other n c no_memory [] apart) (λ c apart. other n c false (is_fed c deeds) apart) all_sent c);
          known = known_more n (arrived n piece) (Err Memory) no_memory its (λ c apart. other n c no_memory [] apart) (λ c apart. other n c false (is_fed c deeds) apart) all_sent taken (omega arith) below;
          fresh = λ c above.
              let f = fresh_more n (arrived n piece) (Err Memory) no_memory its (λ c apart. other n c no_memory [] apart) (λ c apart. other n c false (is_fed c deeds) apart) all_sent taken (omega arith) below c above in
              (f.0, append-nil (owed c deeds ++ text_for c (arrived n piece) (Err Memory)) ∙ f.1, f.2);
          unopened = λ c above. ap (λ (all : Connections). get all c) shrunk ∙ get-removed_none contents.connections n c (s.unopened c above);
          gone = λ c isnt. ap (λ (all : Connections). get all c) shrunk ∙ ⊎_elim
              (λ (e : n ≡ c). subst (λ c. get (remove contents.connections n) c ≡ None) e (get-removed_same contents.connections n))
              (λ (e : n ≡ c → ⊥). get-removed_none contents.connections n c (s.gone c (sym (other n c false (is_fed c deeds) e) ∙ isnt)))
              (cases_eq n c);
          hushed = (fed_now opens, s.hushed);
          paced = (all_sent, s.paced);
          room = s.room;
          made = s.made;
          cut = (is_cut, s.cut);
          single = (single_now, s.single);
          count = s.count;
          open_are = len-put_old outputs n no_memory [] idle ∙ s.open_are;
          makes_room = s.makes_room;
        }

  -- ---- a connection comes

  module _ (room : len contents.connections < CONNECTION_LIMIT) where
    has_room : len D.connections < CONNECTION_LIMIT
    has_room = subst (λ (all : Connections). len all < CONNECTION_LIMIT) same_connections room

    fed_new : is_fed taken deeds ≡ true
    fed_new = (s.fresh taken (omega arith)).2

    gone_new : (c : ℕ) → (if taken == c then false else is_fed c deeds) ≡ false → get contents.connections c ≡ None
    gone_new c isnt = ⊎_elim
        (λ (e : taken ≡ c). subst (λ c. get contents.connections c ≡ None) e (s.unopened taken (omega arith)))
        (λ (e : taken ≡ c → ⊥). s.gone c (sym (other taken c false (is_fed c deeds) e) ∙ isnt))
        (cases_eq taken c)

    nothing : sent taken deeds ≡ owed taken deeds
    nothing = let both = s.fresh taken (omega arith) in both.0 ∙ sym (both.1)

    pub opens_ok : (contents' : Contents M) → IsFree contents taken → contents' ≡ with_rest contents taken (open_rest [])
        → Stands holds terms wanted d base (stepped (opened taken) (Ok []) ∷ deeds) (noted (came taken) log) (insert outputs taken []) contents' (taken + 1)
    opens_ok contents' free new =
        let none : get D.connections taken ≡ None = ap (λ (all : Connections). get all taken) (sym same_connections) ∙ free.0 in
        let is_opened : step D (opened taken) ≡ silent_step D.publication (insert D.connections taken (open_rest [])) =
        ap (open_step D taken) none
        ∙ ap (λ b. if b then silent_step D.publication (insert D.connections taken (open_rest [])) else refuse D NoRoom) (lt-ltb (len D.connections) CONNECTION_LIMIT has_room) in
        let grown : contents'.connections ≡ insert contents.connections taken (open_rest []) = ap (λ (c : Contents M). c.connections) new in
        let held : holds contents'.mirror D.publication = subst (λ (c : Contents M). holds c.mirror D.publication) (sym new) s.desk.0 in
        let joined : contents'.connections ≡ insert D.connections taken (open_rest []) =
        ap (λ (c : Contents M). c.connections) new ∙ ap (λ (all : Connections). insert all taken (open_rest [])) same_connections in
        record {
          logged = ap (noted (came taken)) s.logged;
          ran = (subst (λ (t : Step). GivesOn terms t.reply []) (sym is_opened) tt, s.ran);
          desk = subst (λ (t : Step). StandsFor holds contents' t.desk) (sym is_opened) (held, joined);
          owes = owes_more taken (opened taken) (Ok []) [] refl (λ c apart. refl) (λ c apart. refl) nothing;
          known = known_more taken (opened taken) (Ok []) [] refl (λ c apart. refl) (λ c apart. refl) nothing (taken + 1) (omega arith) (omega arith);
          fresh = fresh_more taken (opened taken) (Ok []) [] refl (λ c apart. refl) (λ c apart. refl) nothing (taken + 1) (omega arith) (omega arith);
          unopened = λ c above. ap (λ (all : Connections). get all c) grown ∙ get-put_other contents.connections taken _ c (λ e. let no : taken + 1 ≤ taken = subst (λ c. taken + 1 ≤ c) (sym e) above in omega arith) ∙ s.unopened c (omega arith);
          gone = λ c isnt. ap (λ (all : Connections). get all c) grown ∙ get-put_other contents.connections taken _ c (λ e. let no = sym fed_new ∙ subst (λ c. is_fed c deeds ≡ false) (sym e) isnt in cc) ∙ s.gone c isnt;
          hushed = (fed_new, s.hushed);
          paced = s.paced;
          room = (sym s.count, has_room, s.room);
          made = s.made;
          cut = s.cut;
          single = s.single;
          count = ap suc s.count ∙ sym (add-one taken);
          open_are = len-put_new outputs taken [] (s.known taken (omega arith)) ∙ add-one (len outputs) ∙ ap suc s.open_are;
          makes_room = s.makes_room;
        }

    refused_opening : (fault : DeskFault) → RefusesOpening contents taken fault → IsRefusedBy D (opened taken) fault
    refused_opening AlreadyOpen some = λ _.
        let (r, is) = some_by (get contents.connections taken) some in
        ap (λ o. (open_step D taken o).reply) (ap (λ (all : Connections). get all taken) (sym same_connections) ∙ is)
    refused_opening NotOpen is = absurd is
    refused_opening NoRoom is = λ _. absurd (let full : CONNECTION_LIMIT ≤ len contents.connections = is.1 in omega arith)
    refused_opening (Refused fault) is = absurd is
    refused_opening Memory is = λ (no : false ≡ true). cc

    pub opens_err : (contents' : Contents M) (fault : DeskFault) → RefusesOpening contents taken fault → contents' ≡ contents
        → Stands holds terms wanted d base (stepped (opened taken) (Err fault) ∷ deeds) (noted (came taken) log) (insert outputs taken no_memory) contents' (taken + 1)
    opens_err contents' fault refused new =
        let its : text_for taken (opened taken) (Err fault) ≡ no_memory = same taken no_memory [] in
        record {
          logged = ap (noted (came taken)) s.logged;
          ran = (refused_opening fault refused, s.ran);
          desk = subst (λ (c : Contents M). StandsFor holds c D) (sym new) s.desk;
          owes = owes_more taken (opened taken) (Err fault) no_memory its (λ c apart. other taken c no_memory [] apart) (λ c apart. other taken c false (is_fed c deeds) apart) nothing;
          known = known_more taken (opened taken) (Err fault) no_memory its (λ c apart. other taken c no_memory [] apart) (λ c apart. other taken c false (is_fed c deeds) apart) nothing (taken + 1) (omega arith) (omega arith);
          fresh = fresh_more taken (opened taken) (Err fault) no_memory its (λ c apart. other taken c no_memory [] apart) (λ c apart. other taken c false (is_fed c deeds) apart) nothing (taken + 1) (omega arith) (omega arith);
          unopened = λ c above. ap (λ (all : Contents M). get all.connections c) new ∙ s.unopened c (omega arith);
          gone = λ c isnt. ap (λ (all : Contents M). get all.connections c) new ∙ gone_new c isnt;
          hushed = (fed_new, s.hushed);
          paced = s.paced;
          room = (sym s.count, has_room, s.room);
          made = s.made;
          cut = s.cut;
          single = s.single;
          count = ap suc s.count ∙ sym (add-one taken);
          open_are = len-put_new outputs taken no_memory (s.known taken (omega arith)) ∙ add-one (len outputs) ∙ ap suc s.open_are;
          makes_room = s.makes_room;
        }

    -- without a output for it
    pub opens_not : Stands holds terms wanted d base (lost taken ∷ stepped (opened taken) (Err Memory) ∷ deeds) (noted (came taken) log) outputs contents (taken + 1)
    opens_not =
        let owes : (c : ℕ) → IsOwed (get outputs c) (sent c deeds) (owed c deeds ++ text_for c (opened taken) (Err Memory)) = λ c. ⊎_elim
        (λ (e : taken ≡ c). subst (λ c. IsOwed (get outputs c) (sent c deeds) (owed c deeds ++ text_for c (opened taken) (Err Memory))) e
        (rw (s.known taken (omega arith)) (no_memory, rw (same taken no_memory []) (ap (λ given. given ++ no_memory) nothing))))
        (λ (e : taken ≡ c → ⊥). subst (λ all. IsOwed (get outputs c) (sent c deeds) all) (sym (quiet c (opened taken) (Err Memory) deeds (other taken c no_memory [] e))) (s.owes c))
        (cases_eq taken c) in
        record {
          logged = ap (noted (came taken)) s.logged;
          ran = ((λ (no : false ≡ true). cc), s.ran);
          desk = s.desk;
          owes = owes;
          known = λ c above. s.known c (omega arith);
          fresh = fresh_more taken (opened taken) (Err Memory) no_memory (same taken no_memory []) (λ c apart. other taken c no_memory [] apart) (λ c apart. other taken c false (is_fed c deeds) apart) nothing (taken + 1) (omega arith) (omega arith);
          unopened = λ c above. s.unopened c (omega arith);
          gone = gone_new;
          hushed = (fed_new, s.hushed);
          paced = s.paced;
          room = (sym s.count, has_room, s.room);
          made = s.made;
          cut = s.cut;
          single = s.single;
          count = ap suc s.count ∙ sym (add-one taken);
          open_are = s.open_are ∙ sym (one_back (open_count deeds));
          makes_room = s.makes_room;
        }

  -- ---- changes are published

  module _ (contents' : Contents M) (connections : contents'.connections ≡ contents.connections) where
    pub publishes : (q : Publication) → IsPublishedFrom D.publication q → holds contents'.mirror q → Stands holds terms wanted d base (stepped (published (Ok q)) (Ok []) ∷ deeds) log outputs contents' taken
    publishes q made held = record {
      logged = s.logged;
      ran = (tt, s.ran);
      desk = (held, connections ∙ same_connections);
      owes = λ c. subst (λ all. IsOwed (get outputs c) (sent c deeds) all) (sym (append-nil (owed c deeds))) (s.owes c);
      known = s.known;
      fresh = λ c above. ((s.fresh c above).0, append-nil (owed c deeds) ∙ (s.fresh c above).1, (s.fresh c above).2);
      unopened = λ c above. ap (λ (all : Connections). get all c) connections ∙ s.unopened c above;
      gone = λ c isnt. ap (λ (all : Connections). get all c) connections ∙ s.gone c isnt;
      hushed = s.hushed;
      paced = s.paced;
      room = s.room;
      made = (made, s.made);
      cut = s.cut;
      single = s.single;
      count = s.count;
      open_are = s.open_are;
      makes_room = s.makes_room;
    }

    pub keeps_publication : holds contents'.mirror D.publication → Stands holds terms wanted d base deeds log outputs contents' taken
    keeps_publication held = record {
      logged = s.logged;
      ran = s.ran;
      desk = (held, connections ∙ same_connections);
      owes = s.owes;
      known = s.known;
      fresh = s.fresh;
      paced = s.paced;
      room = s.room;
      made = s.made;
      cut = s.cut;
      single = s.single;
      count = s.count;
      open_are = s.open_are;
      makes_room = s.makes_room;
      unopened = λ c above. ap (λ (all : Connections). get all c) connections ∙ s.unopened c above;
      gone = λ c isnt. ap (λ (all : Connections). get all c) connections ∙ s.gone c isnt;
      hushed = s.hushed;
    }

  -- ---- what it comes to

  pub serves : Serves terms wanted d deeds
  serves = record { ran = s.ran; fronts = λ c. owed_any (get outputs c) (sent c deeds) (owed c deeds) (s.owes c); paced = s.paced; room = s.room; makes_room = s.makes_room; hushed = s.hushed; made = s.made; cut = s.cut; single = s.single }

-- the same, told of other values
pub moved : {M : Type 0} (holds : M → Publication → Type 0) (terms : Terms) (wanted : ℕ) (d : Desk) (base : List Entry) (deeds : List Deed) (log log' : Option (List Entry)) (outputs outputs' : Waiting) (contents contents' : Contents M) (taken : ℕ)
    → log' ≡ log → outputs' ≡ outputs → contents' ≡ contents → Stands holds terms wanted d base deeds log outputs contents taken → Stands holds terms wanted d base deeds log' outputs' contents' taken
moved holds terms wanted d base deeds log log' outputs outputs' contents contents' taken a b c s = rw (a, b, c) s

pub gone : (number : ℕ) (bytes : List ℕ) (old new : Option (List Entry)) (w : Writing) → ((count : ℕ) → w ≡ Took count → ⊥) → Writes number bytes old new w → new ≡ old
gone number bytes old new (Took count) isnt is = absurd (isnt count refl)
gone number bytes old new Gone isnt is = is

pub dropped_all : (count : ℕ) (bytes : List ℕ) → count ≡ length bytes → drop count bytes ≡ []
dropped_all count bytes is = drop_all count bytes (omega arith)

-- somebody looked for changes
pub looked : {M : Type 0} (holds : M → Publication → Type 0) (terms : Terms) (wanted : ℕ) (d : Desk) (base : List Entry) (deeds : List Deed) (log : Option (List Entry)) (outputs : Waiting) (contents contents' : Contents M) (taken : ℕ) → Stands holds terms wanted d base deeds log outputs contents taken
    → contents'.connections ≡ contents.connections → ((p : Publication) → holds contents.mirror p → HasPublished p (holds contents'.mirror))
    → (more : List Deed) × Stands holds terms wanted d base more log outputs contents' taken
looked holds terms wanted d base deeds log outputs contents contents' taken s connections in_force = by (in_force (desk_after d deeds).publication s.desk.0)
  where
    by : HasPublished (desk_after d deeds).publication (holds contents'.mirror) → (more : List Deed) × Stands holds terms wanted d base more log outputs contents' taken
    by (q, held, inl same) =
        (deeds, keeps_publication holds terms wanted d base deeds log outputs contents taken s contents' connections (subst (λ (q : Publication). holds contents'.mirror q) same held))
    by (q, held, inr made) = (stepped (published (Ok q)) (Ok []) ∷ deeds, publishes holds terms wanted d base deeds log outputs contents taken s contents' connections q made held)

-- before anything has happened
pub begins : {M : Type 0} (holds : M → Publication → Type 0) (terms : Terms) (wanted : ℕ) (contents : Contents M) (p : Publication) (base : List Entry) (log : Option (List Entry)) → contents.connections ≡ empty → holds contents.mirror p → log ≡ Some base
    → Stands holds terms wanted (fresh_desk p) base [] log empty contents 0
begins holds terms wanted contents p base log none held is = record {
  logged = is;
  ran = tt;
  desk = (held, none);
  owes = λ c. rw (get-empty {X = List ℕ} nat_cmp c) ([], refl);
  known = λ c above. get-empty nat_cmp c;
  fresh = λ c above. (refl, refl, refl);
  unopened = λ c above. ap (λ (all : Connections). get all c) none ∙ get-empty nat_cmp c;
  gone = λ c (isnt : true ≡ false). cc;
  hushed = tt;
  paced = tt;
  room = tt;
  made = tt;
  cut = tt;
  single = tt;
  count = refl;
  open_are = len-empty nat_cmp (List ℕ);
  makes_room = tt;
}

pub on_err_any : {A E : Type 0} (P : Type 0) (result : Result A E) → P → OnErr result P
on_err_any P (Ok value) is = tt
on_err_any P (Err error) is = is

-- a connection is let go, if there was one
pub parts : {M : Type 0} (holds : M → Publication → Type 0) (terms : Terms) (wanted : ℕ) (d : Desk) (base : List Entry) (deeds : List Deed) (log log' : Option (List Entry)) (outputs : Waiting) (contents : Contents M) (taken n : ℕ) (was whole : Bool) (left_over : List ℕ)
    → get outputs n ≡ Some left_over → (whole ≡ true → get outputs n ≡ Some []) → log' ≡ left_by was n whole log → Stands holds terms wanted d base deeds log outputs contents taken
    → (more : List Deed) × Stands holds terms wanted d base more log' (remove outputs n) (without contents n) taken
parts holds terms wanted d base deeds log log' outputs contents taken n false whole left_over some idle is s =
    let t = forgets holds terms wanted d base deeds log outputs contents taken s n in
    (_, moved holds terms wanted d base _ _ _ _ _ _ _ taken is refl refl (loses holds terms wanted d base _ log outputs (without contents n) taken t n left_over some))
parts holds terms wanted d base deeds log log' outputs contents taken n true whole left_over some idle is s =
    let t = forgets holds terms wanted d base deeds log outputs contents taken s n in
    (_, moved holds terms wanted d base _ _ _ _ _ _ _ taken is refl refl (leaves holds terms wanted d base _ log outputs (without contents n) taken t n left_over some whole idle))
