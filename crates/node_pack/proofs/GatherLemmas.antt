-- What was gathered.
use Rattle.std.proofs.Common.{◌≡◌, ◌≢◌, ◌<◌, ◌≤◌, ◌+◌, ◌^◌, inl, inr, ℕ, suc, List, [], ◌∷◌, ◌++◌, Bool, true, false, cond, not, arith, length, get_or, refl, sym, ap, subst, ◌∙◌, append_assoc}
use Rattle.std.specs.HashSet.{HashSet, IsEmpty, Updates, contains}
use Rattle.std.specs.List.{AllByRecursion, Contains, list_any}
use Rattle.std.specs.Prelude.{Err, IfErr, IfOk, Ok, OnOk, Result}
use Rattle.std.proofs.lemmas.Bool.{cases_Bool, cases_order}
use Rattle.std.proofs.lemmas.List.{get_or-map, get_or_default, length-map, map-append}
use Rattle.std.proofs.lemmas.List.Elements.{All-contains_itself, Contains-append_cases, Contains-append_left, Contains-append_right, Contains-push_cases}
use Rattle.std.proofs.lemmas.Slice.Eq.{bytes_eq-Decides}
use Rattle.osm_keys.proofs.shared.Members.{from_map, here, in_rest, none}
use Rattle.tree_node.specs.Digests.{digest}
use Rattle.tree_node.specs.Keys.{digest_eq}
use Rattle.tree_node.specs.Shelves.{HasNone, Stays}
use Rattle.tree_node.specs.declared.shelf.ShelfFault.{ShelfFault}
use Rattle.tree_node.specs.declared.shelf.ShelfFault.TheVariants as shelves
use Rattle.tree_node.specs.declared.digest.Digest.{Digest}
use Rattle.node_pack.specs.Faults.{write_fault_of}
use Rattle.node_pack.specs.Known.{key_with}
use Rattle.node_pack.specs.Packs.{AreApart, Kept, digests_of, record_len}
use Rattle.node_pack.specs.Reached.{AtRoot, Fits, IsAsWanted, IsReason, IsUnder, Referred, Refers}
use Rattle.node_pack.specs.declared.gathered.Gathered.{Gathered}
use Rattle.node_pack.specs.declared.role.Wanted.{Wanted}
use Rattle.node_pack.specs.declared.write_fault.WriteFault.{WriteFault}
use Rattle.node_pack.specs.declared.write_fault.WriteFault.TheVariants as faults
use Rattle.node_pack.specs.internal.Gathering.{AllClosed, AllGathered, AreGathered, AreLow, IsClosed, IsFound, IsGathered, IsNewFault, IsRead, IsSeen, digest_in, height_of, height_wanted, kept_of, kepts, wanted_below}
use Rattle.node_pack.proofs.RoleLemmas.{RefersAt, children_read, refers_at, role_low, role_read}

-- ---- what grows

-- what was held is
pub held_on : (fixed : Bool) (held later : List ℕ → Type 0) → Stays fixed held later → (x : List ℕ) → held x → later x
held_on fixed held later stays x h = (stays x).1 h

pub stays_on : (fixed : Bool) (a b c : List ℕ → Type 0) → Stays fixed a b → Stays fixed b c → Stays fixed a c
stays_on fixed a b c first second x = (λ is h. (first x).0 is ((second x).0 is h), λ h. (second x).1 ((first x).1 h))

module _ (held later : List ℕ → Type 0) (grows : (x : List ℕ) → held x → later x) where
  pub under_later : (root : List ℕ) (wanted : Wanted) (key : List ℕ) → IsUnder held root wanted key → IsUnder later root wanted key
  under_later root wanted key AtRoot = AtRoot
  under_later root wanted key (Referred as_what parent what name is as_wanted under refers) =
      Referred as_what parent what name (grows parent is) as_wanted (under_later root as_what (digest parent) under) refers

  pub gathered_later : (root : List ℕ) (node : Gathered) → IsGathered held root node → IsGathered later root node
  gathered_later root node is = record {
    measured = is.measured;
    is_held = grows node.bytes.now is.is_held;
    read = is.read;
    short = is.short;
    wanted = is.wanted;
    as_wanted = is.as_wanted;
    under = under_later root is.wanted (digest node.bytes.now) is.under;
  }

  pub found_later : (wanted : Wanted) (key : List ℕ) → IsFound held wanted key → IsFound later wanted key
  found_later wanted key is = record { bytes = is.bytes; is_held = grows is.bytes is.is_held; has_digest = is.has_digest; as_wanted = is.as_wanted }

  pub closed_later : (There More : List ℕ → Type 0) → ((key : List ℕ) → There key → More key) → (node : Gathered) → IsClosed held There node → IsClosed later More node
  closed_later There More more node closed i d lt =
      (more (get_or node.children.items i d).0 (closed i d lt).0, found_later (wanted_below node.role i) (get_or node.children.items i d).0 (closed i d lt).1)

  pub all_later : (root : List ℕ) (nodes : List Gathered) → AllGathered held root nodes → AllGathered later root nodes
  all_later root nodes all node among = gathered_later root node (all node among)

  pub are_later : {S : Type 0} (root : List ℕ) (seen : HashSet Digest S) (nodes : List Gathered) → AreGathered held root seen nodes → AreGathered later root seen nodes
  are_later root seen nodes are = record { each = all_later root nodes are.each; apart = are.apart; were_seen = are.were_seen; there = are.there }

-- ---- one more

-- one more is apart from those before
pub apart_more : (nodes : List Kept) (x : Kept) → AreApart nodes → ((other : Kept) → Contains nodes other → digest other.bytes ≢ digest x.bytes) → AreApart (nodes ++ x ∷ [])
apart_more [] x apart new = (tt, tt)
apart_more (y ∷ nodes) x apart new =
    (one nodes apart.0, apart_more nodes x apart.1 (λ other among. new other (in_rest y nodes other among)))
  where
    one : (others : List Kept) → AllByRecursion (λ (other : Kept). digest other.bytes ≢ digest y.bytes) others → AllByRecursion (λ (other : Kept). digest other.bytes ≢ digest y.bytes) (others ++ x ∷ [])
    one [] all = (λ same. new y (here y nodes) (sym same), tt)
    one (z ∷ others) all = (all.0, one others all.1)

to_true : (b c : Bool) → c ≡ true → cond b true c ≡ true
to_true true c e = refl
to_true false c e = e

module _ {S : Type 0} (old new : HashSet Digest S) (key : Digest) (up : Updates digest_eq old new key true) where
  pub seen_stays : (other : List ℕ) → IsSeen old other → IsSeen new other
  seen_stays other is = up.0 (key_with other) ∙ to_true (digest_eq key (key_with other)) (contains digest_eq old (key_with other)) is

  pub seen_now : IsSeen new key.0
  seen_now = up.1

  module _ (held : List ℕ → Type 0) (root : List ℕ) (nodes : List Gathered) (node : Gathered) (are : AreGathered held root old nodes) where
    unseen : contains digest_eq old key ≡ false → digest_in node ≡ key.0 → (other : Kept) → Contains (kepts nodes) other → digest other.bytes ≢ digest node.bytes.now
    unseen fresh own other among same =
        let (before, is_in, e) = from_map kept_of nodes other among in
        let was = are.were_seen before is_in in
        let key_is : digest_in before ≡ key.0 = sym (ap (λ (k : Kept). digest k.bytes) e) ∙ same ∙ own in
        let again : IsSeen old key.0 = subst (IsSeen old) key_is was in
        (Prim.cc)

    -- a new node is one more
    pub more_gathered : contains digest_eq old key ≡ false → digest_in node ≡ key.0 → IsGathered held root node → AreGathered held root new (nodes ++ node ∷ [])
    more_gathered fresh own is = record {
      each = λ other among. elim (Contains-push_cases nodes node other among) [ inl before ↦ are.each other before | inr last ↦ subst (IsGathered held root) last is ];
      apart = subst AreApart (sym (map-append kept_of nodes (node ∷ []))) (apart_more (kepts nodes) (kept_of node) are.apart (unseen fresh own));
      were_seen = λ other among. elim (Contains-push_cases nodes node other among) [
        | inl before ↦ seen_stays (digest_in other) (are.were_seen other before)
        | inr last ↦ subst (λ (n : Gathered). IsSeen new (digest_in n)) last (subst (IsSeen new) (sym own) seen_now)
      ];
      there = λ other seen. elim (cases_Bool (digest_eq key (key_with other))) [
        | inl hit ↦ (node, Contains-append_right nodes (node ∷ []) node (here node []), own ∙ (bytes_eq-Decides key.0 other).0 hit)
        | inr miss ↦
            let was : IsSeen old other = sym (up.2 (key_with other) miss) ∙ seen in
            let found = are.there other was in
            (found.0, Contains-append_left nodes (node ∷ []) found.0 found.1, found.2)
      ];
    }

    -- where it was seen all is as it was
    pub same_gathered : contains digest_eq old key ≡ true → AreGathered held root new nodes
    same_gathered known = record {
      each = are.each;
      apart = are.apart;
      were_seen = λ other among. seen_stays (digest_in other) (are.were_seen other among);
      there = λ other seen. elim (cases_Bool (digest_eq key (key_with other))) [
        | inl hit ↦ are.there other (subst (IsSeen old) ((bytes_eq-Decides key.0 other).0 hit) known)
        | inr miss ↦ are.there other (sym (up.2 (key_with other) miss) ∙ seen)
      ];
    }

-- ---- lists

-- what is so of each that a list contains is so of all
pub all_of : {X : Type 0} (P : X → Type 0) (xs : List X) → ((x : X) → Contains xs x → P x) → AllByRecursion P xs
all_of P [] all = tt
all_of P (x ∷ xs) all = (all x (here x xs), all_of P xs (λ y among. all y (in_rest x xs y among)))

-- ---- reasons

-- why a shelf gave no node that stands under the root
pub shelf_reason : (held : List ℕ → Type 0) (root : List ℕ) (wanted : Wanted) (key : List ℕ) (fault : ShelfFault) → IsUnder held root wanted key → (fault ≡ shelves.Missing → HasNone held key)
    → IsReason held root (write_fault_of fault)
shelf_reason held root wanted key shelves.Missing under missing = (wanted, key, under, missing refl)
shelf_reason held root wanted key shelves.Memory under missing = tt

-- why one isn't gathered
pub new_reason : (held : List ℕ → Type 0) (root : List ℕ) (wanted : Wanted) (bytes : List ℕ) (fault : WriteFault) → held bytes → IsUnder held root wanted (digest bytes) → IsNewFault wanted bytes fault
    → IsReason held root fault
new_reason held root wanted bytes faults.Missing is under why = absurd why
new_reason held root wanted bytes faults.Malformed is under why = (wanted, bytes, is, under, why)
new_reason held root wanted bytes faults.TooLong is under (as_wanted, (role, children, read, long)) = inl (
  record { bytes = bytes; children = children },
  record { is_held = is; children = children_read bytes role children read; wanted = wanted; as_wanted = as_wanted; under = under },
  long,
)
new_reason held root wanted bytes faults.Memory is under why = tt
new_reason held root wanted bytes faults.NotWritten is under why = absurd why

pub new_refused : (held : List ℕ → Type 0) (root : List ℕ) (wanted : Wanted) (bytes key : List ℕ) (r : Result Gathered WriteFault) → held bytes → digest bytes ≡ key → IsUnder held root wanted key
    → IfErr r (IsNewFault wanted bytes) → IfErr r (IsReason held root)
new_refused held root wanted bytes key (Ok node) is same under why = tt
new_refused held root wanted bytes key (Err fault) is same under why = new_reason held root wanted bytes fault is (subst (IsUnder held root wanted) (sym same) under) why

-- a node that was read
module _ (held : List ℕ → Type 0) (wanted : Wanted) (bytes : List ℕ) (key : Digest) (is : held bytes) (same : digest bytes ≡ key.0) where
  pub new_found : (r : Result Gathered WriteFault) → IfOk r (λ node. IsAsWanted wanted bytes) → OnOk r (IsFound held wanted key.0)
  new_found (Ok node) as_wanted = record { bytes = bytes; is_held = is; has_digest = same; as_wanted = as_wanted }
  new_found (Err fault) as_wanted = tt

  pub new_key : (r : Result Gathered WriteFault) → IfOk r (λ node. node.bytes.now ≡ bytes) → IfOk r (λ node. digest_in node ≡ key.0)
  new_key (Ok node) e = ap digest e ∙ same
  new_key (Err fault) e = tt

  pub new_low : (r : Result Gathered WriteFault) → IfOk r (λ node. IsRead bytes node.role (digests_of node.children.items)) → IfOk r (λ node. Fits node.role wanted)
      → IfOk r (λ node. suc (height_of node.role) ≤ height_wanted wanted)
  new_low (Ok node) read fits = role_low bytes node.role wanted (role_read bytes node.role (digests_of node.children.items) read) fits
  new_low (Err fault) read fits = tt

  pub new_gathered : (root : List ℕ) (r : Result Gathered WriteFault) → IsUnder held root wanted key.0 → IfOk r (λ node. node.key ≡ key) → IfOk r (λ node. node.bytes.now ≡ bytes)
      → IfOk r (λ node. IsRead bytes node.role (digests_of node.children.items)) → IfOk r (λ node. IsAsWanted wanted bytes) → IfOk r (λ node. node.len ≡ record_len (kept_of node))
      → IfOk r (λ node. record_len (kept_of node) < 2 ^ 32) → IfOk r (IsGathered held root)
  new_gathered root (Ok node) under k b read as_wanted len short = record {
    measured = record { key = ap (λ (d : Digest). d.0) k ∙ sym same ∙ ap digest (sym b); len = len };
    is_held = subst held (sym b) is;
    read = subst (λ (l : List ℕ). IsRead l node.role (digests_of node.children.items)) (sym b) read;
    short = short;
    wanted = wanted;
    as_wanted = subst (IsAsWanted wanted) (sym b) as_wanted;
    under = subst (IsUnder held root wanted) (sym (ap digest b ∙ same)) under;
  }
  new_gathered root (Err fault) under k b read as_wanted len short = tt

-- ---- one that was taken

not_false : (b : Bool) → not b ≡ false → b ≡ true
not_false true e = refl
not_false false e = absurd (Prim.cc)

not_true : (b : Bool) → not b ≡ true → b ≡ false
not_true true e = absurd (Prim.cc)
not_true false e = refl

module _ {S : Type 0} (old new : HashSet Digest S) (key : Digest) (up : Updates digest_eq old new key true) (added : Bool) (is_added : added ≡ not (contains digest_eq old key))
    (held later : List ℕ → Type 0) (grows : (x : List ℕ) → held x → later x) (root : List ℕ) (before items : List Gathered) (node : Gathered) (are : AreGathered held root old (before ++ items)) where
  pub taken_same : added ≡ false → AreGathered later root new (before ++ items)
  taken_same no_more =
      same_gathered old new key up later root (before ++ items) node (are_later held later grows root old (before ++ items) are) (not_false (contains digest_eq old key) (sym is_added ∙ no_more))

  pub taken_more : added ≡ true → (into : List Gathered) → into ≡ items ++ node ∷ [] → digest_in node ≡ key.0 → IsGathered later root node → AreGathered later root new (before ++ into)
  taken_more one_more into is own gathered =
      let whole : (before ++ items) ++ node ∷ [] ≡ before ++ into = append_assoc before items (node ∷ []) ∙ ap (λ (l : List Gathered). before ++ l) (sym is) in
      subst (AreGathered later root new) whole
      (more_gathered old new key up later root (before ++ items) node (are_later held later grows root old (before ++ items) are) (not_true (contains digest_eq old key) (sym is_added ∙ one_more)) own gathered)

pub low_more : (height : ℕ) (items into : List Gathered) (node : Gathered) → into ≡ items ++ node ∷ [] → AreLow height items → height_of node.role < height → AreLow height into
low_more height items into node is low one other among =
    elim (Contains-push_cases items node other (subst (λ (l : List Gathered). Contains l other) is among)) [
      | inl before ↦ low other before
      | inr last ↦ subst (λ (n : Gathered). height_of n.role < height) last one
    ]

-- ---- places in lists

-- what is so up to a place, and there, is so up to the next
pub index_more : {X : Type 0} (P : ℕ → X → Type 0) (xs : List X) (i : ℕ) (e : X) → i < length xs → ((k : ℕ) (d : X) → k < i → P k (get_or xs k d)) → P i (get_or xs i e)
    → (k : ℕ) (d : X) → k < i + 1 → P k (get_or xs k d)
index_more P xs i e lt so_far last k d below =
    elim (cases_order k i) [
      | inl same ↦ subst (λ (n : ℕ). P n (get_or xs n d)) (sym same) (subst (P i) (get_or_default xs i e d lt) last)
      | inr (inl less) ↦ so_far k d less
      | inr (inr more) ↦ absurd (omega (arith, below, more))
    ]

-- a child at a place of a node
module _ (held : List ℕ → Type 0) (root : List ℕ) (node : Gathered) (is : IsGathered held root node) (children : List Digest) (listed : children ≡ node.children.items) (i at : ℕ) (d : Digest) (same : at ≡ i)
    (lt : i < length children) (wanted : Wanted) (wanted_is : wanted ≡ wanted_below node.role at) where
  refers_here : RefersAt node.bytes.now node.role (digests_of node.children.items) i
  refers_here =
      refers_at node.bytes.now node.role (digests_of node.children.items) is.read i (omega (arith, lt, ap length listed, length-map node.children.items (λ (key : Digest). key.0)))

  here_is : wanted_below node.role i ≡ wanted
  here_is = ap (wanted_below node.role) (sym same) ∙ sym wanted_is

  child_is : get_or (digests_of node.children.items) i [] ≡ (get_or children i d).0
  child_is =
      ap (λ (l : List Digest). get_or (digests_of l) i []) (sym listed) ∙ get_or-map (λ (key : Digest). key.0) children i d [] lt

  -- stands under the root
  pub child_under : (later : List ℕ → Type 0) → ((x : List ℕ) → held x → later x) → IsUnder later root wanted (get_or children i d).0
  child_under later grows =
      under_later held later grows root wanted (get_or children i d).0
      (Referred is.wanted node.bytes.now wanted (get_or children i d).0 is.is_held is.as_wanted is.under
      (subst (λ (w : Wanted). Refers node.bytes.now w (get_or children i d).0) here_is (subst (Refers node.bytes.now (wanted_below node.role i)) child_is refers_here.refers)))

  -- and is lower
  pub child_low : (height : ℕ) → height_of node.role ≤ height → height_wanted wanted ≤ height
  child_low height le = subst (λ (w : Wanted). height_wanted w ≤ height) here_is (let low = refers_here.lower in omega (arith, low, le))

-- a place of a list is one that it contains
pub at_place_in : {X : Type 0} (xs : List X) (i : ℕ) (d : X) → i < length xs → Contains xs (get_or xs i d)
at_place_in xs i d lt = All-contains_itself xs i d lt

-- what is so of each place is so of what the list contains
pub each_contained : {X : Type 0} (P : X → Type 0) (xs : List X) (n : ℕ) → length xs ≤ n → ((k : ℕ) (d : X) → k < n → P (get_or xs k d)) → (x : X) → Contains xs x → P x
each_contained P xs n le all x among = subst P among.2 (all among.0 x (omega (arith, le, among.1)))

-- ---- levels

-- of nodes of no height there are none
pub none_low : (nodes : List Gathered) → AreLow 0 nodes → nodes ≡ []
none_low [] low = refl
none_low (node ∷ nodes) low = absurd (let lt = low node (here node nodes) in omega (arith, lt))

pub nothing_gathered : {S : Type 0} (held : List ℕ → Type 0) (root : List ℕ) (seen : HashSet Digest S) → IsEmpty seen → AreGathered held root seen []
nothing_gathered held root seen empty = record {
  each = λ node among. absurd (none node among);
  apart = tt;
  were_seen = λ node among. absurd (none node among);
  there = λ key is. absurd (let missing : contains digest_eq seen (key_with key) ≡ false = ap (list_any (digest_eq (key_with key))) empty in Prim.cc);
}

pub nothing_low : (height : ℕ) → AreLow height []
nothing_low height node among = absurd (none node among)

-- the nodes of a level become nodes whose children are gathered
pub both_closed : (held : List ℕ → Type 0) (There : List ℕ → Type 0) (nodes level : List Gathered) → AllClosed held There nodes → AllClosed held There level → AllClosed held There (nodes ++ level)
both_closed held There nodes level first second node among =
    elim (Contains-append_cases nodes level node among) [ inl before ↦ first node before | inr more ↦ second node more ]

pub closed_on : (held later : List ℕ → Type 0) (grows : (x : List ℕ) → held x → later x) (There More : List ℕ → Type 0) → ((key : List ℕ) → There key → More key) → (nodes : List Gathered) → AllClosed held There nodes → AllClosed later More nodes
closed_on held later grows There More more nodes all node among = closed_later held later grows There More more node (all node among)

pub level_gathered : (held : List ℕ → Type 0) (root : List ℕ) (nodes level : List Gathered) → AllGathered held root (nodes ++ level) → AllGathered held root level
level_gathered held root nodes level all node among = all node (Contains-append_right nodes level node among)

pub are_as : {S : Type 0} (held : List ℕ → Type 0) (root : List ℕ) (seen : HashSet Digest S) (nodes others : List Gathered) → nodes ≡ others → AreGathered held root seen nodes → AreGathered held root seen others
are_as held root seen nodes others e are = subst (AreGathered held root seen) e are

-- a node is closed once each of its children was gone through
pub closed_all : (held There : List ℕ → Type 0) (node : Gathered) (children : List Digest) → children ≡ node.children.items → (n : ℕ) → length children ≤ n
    → ((i : ℕ) (d : Digest) → i < n → There (get_or children i d).0 × IsFound held (wanted_below node.role i) (get_or children i d).0) → IsClosed held There node
closed_all held There node children listed n le all i d lt =
    subst (λ (l : List Digest). There (get_or l i d).0 × IsFound held (wanted_below node.role i) (get_or l i d).0) listed (all i d (omega (arith, le, lt, ap length listed)))

-- a result has the fault that it was found to have
pub err_is : {A : Type 0} (r : Result A ShelfFault) (found fault : ShelfFault) → r ≡ Err found → found ≡ fault → r ≡ Err fault
err_is r found fault was e = subst (λ (f : ShelfFault). r ≡ Err f) e was
