-- Bytes list one list of nodes at most.
use Rattle.std.proofs.Common.{◌≡◌, ◌≢◌, ℕ, ◌<◌, ◌≤◌, ◌^◌, List, [], ◌∷◌, ◌++◌, length, take, drop, refl, sym, ap, ◌∙◌, append_assoc, arith, length-append}
use Rattle.std.specs.Int.{to_be_bytes, w32}
use Rattle.std.specs.List.{AllByRecursion, flat_map}
use Rattle.std.proofs.lemmas.List.{append-nil, take_at, drop_at}
use Rattle.tree_node.specs.Fronts.{number_at}
use Rattle.tree_node.proofs.shared.FieldLemmas.{number_again, ok_is, wide32}
use Rattle.osm_prove.specs.Proofs.{IsProof, Lists, front, listing, with_length}

-- a node whose length fits four bytes
abbrev pub IsShort : List ℕ → Type 0
IsShort node = length node < 2 ^ 32

-- ---- numbers and nodes at the front

-- two texts that begin with a number of four bytes begin with the same one
pub same_number : (n m : ℕ) (x y : List ℕ) → n < 2 ^ 32 → m < 2 ^ 32 → to_be_bytes w32 n ++ x ≡ to_be_bytes w32 m ++ y → (n ≡ m) × (x ≡ y)
same_number n m x y fits fits_too e =
    let read = ok_is (n, x) (m, y) (sym (number_again w32 (2 ^ 32) wide32 n x fits) ∙ ap (number_at w32) e ∙ number_again w32 (2 ^ 32) wide32 m y fits_too) in
    (ap (λ (p : ℕ × List ℕ). p.0) read, ap (λ (p : ℕ × List ℕ). p.1) read)

-- two texts that begin with as many bytes begin with the same ones
same_front : (a b x y : List ℕ) → length a ≡ length b → a ++ x ≡ b ++ y → (a ≡ b) × (x ≡ y)
same_front a b x y len e = (
  sym (take_at a x (length b) len) ∙ ap (take (length b)) e ∙ take_at b y (length b) refl,
  sym (drop_at a x (length b) len) ∙ ap (drop (length b)) e ∙ drop_at b y (length b) refl,
)

-- two texts that begin with a node after its length begin with the same one
pub same_node : (a b x y : List ℕ) → IsShort a → IsShort b → with_length a ++ x ≡ with_length b ++ y → (a ≡ b) × (x ≡ y)
same_node a b x y fits fits_too e =
    let parts = same_number (length a) (length b) (a ++ x) (b ++ y) fits fits_too (sym (append_assoc (to_be_bytes w32 (length a)) a x) ∙ e ∙ append_assoc (to_be_bytes w32 (length b)) b y) in
    same_front a b x y parts.0 parts.1

-- ---- nodes one after the other

-- the nodes that are still to come, where some were read
pub record AreLeft (nodes done more : List (List ℕ)) (rest : List ℕ) : Type 0 where
  pub parts : nodes ≡ done ++ more
  pub text : rest ≡ flat_map with_length more
  pub short : AllByRecursion IsShort more

pub left_after : (done nodes : List (List ℕ)) (rest : List ℕ) → AllByRecursion IsShort done → AllByRecursion IsShort nodes → length done ≤ length nodes → flat_map with_length nodes ≡ flat_map with_length done ++ rest
    → (more : List (List ℕ)) × AreLeft nodes done more rest
left_after [] nodes rest short all fit e = (nodes, record { parts = refl; text = sym e; short = all })
left_after (d ∷ done) [] rest short all fit e = absurd (omega arith)
left_after (d ∷ done) (n ∷ nodes) rest short all fit e =
    let first = same_node n d (flat_map with_length nodes) (flat_map with_length done ++ rest) all.0 short.0 (e ∙ append_assoc (with_length d) (flat_map with_length done) rest) in
    let others = left_after done nodes rest short.1 all.1 (omega arith) first.1 in (
      others.0,
      record {
        parts = ap (λ (x : List ℕ). x ∷ nodes) first.0 ∙ ap (λ (xs : List (List ℕ)). d ∷ xs) others.1.parts;
        text = others.1.text;
        short = others.1.short;
      },
    )

-- ---- whole proofs

-- what the listing is, which is opaque elsewhere
pub listing_is : (nodes : List (List ℕ)) → listing nodes ≡ front ++ (to_be_bytes w32 (length nodes) ++ flat_map with_length nodes)
unfolding listing
listing_is nodes = refl

-- some nodes of a proof that states this number of them were read, and this is the rest
pub record HasRead (bytes rest : List ℕ) (count : ℕ) (done : List (List ℕ)) : Type 0 where
  pub text : bytes ≡ front ++ (to_be_bytes w32 count ++ (flat_map with_length done ++ rest))
  pub fits : count < 2 ^ 32
  pub short : AllByRecursion IsShort done

-- what is left of a proof then
pub left_in : (bytes rest : List ℕ) (count : ℕ) (done nodes : List (List ℕ)) → HasRead bytes rest count done → Lists bytes nodes → length done ≤ count
    → (length nodes ≡ count) × ((more : List (List ℕ)) × AreLeft nodes done more rest)
left_in bytes rest count done nodes read lists fit =
    let bodies : to_be_bytes w32 (length nodes) ++ flat_map with_length nodes ≡ to_be_bytes w32 count ++ (flat_map with_length done ++ rest) = ap (drop 5) (sym (lists.spelled ∙ listing_is nodes) ∙ read.text) in
    let parts = same_number (length nodes) count (flat_map with_length nodes) (flat_map with_length done ++ rest) lists.fits.few read.fits bodies in
    (parts.0, left_after done nodes rest read.short lists.fits.short (omega (arith, parts.0)) parts.1)

none_left : (done more : List (List ℕ)) → length done ≡ length (done ++ more) → more ≡ []
none_left done [] len = refl
none_left done (m ∷ more) len = absurd (omega (arith, length-append done (m ∷ more)))

-- a proof, all of whose nodes were read
all_read : (bytes : List ℕ) (nodes : List (List ℕ)) → Lists bytes nodes → HasRead bytes [] (length nodes) nodes
all_read bytes nodes lists = record {
  text = lists.spelled ∙ listing_is nodes ∙ ap (λ (t : List ℕ). front ++ (to_be_bytes w32 (length nodes) ++ t)) (sym (append-nil (flat_map with_length nodes)));
  fits = lists.fits.few;
  short = lists.fits.short;
}

-- bytes list one list of nodes at most
pub one_listing : (bytes : List ℕ) (first second : List (List ℕ)) → Lists bytes first → Lists bytes second → first ≡ second
one_listing bytes first second lists lists_too =
    let left = left_in bytes [] (length second) second first (all_read bytes second lists_too) lists (omega arith) in
    let parts = left.1.1.parts in
    let none = none_left second left.1.0 (sym left.0 ∙ ap (length {A = List ℕ}) parts) in
    parts ∙ ap (λ (xs : List (List ℕ)). second ++ xs) none ∙ append-nil second

-- ---- reading a proof from its front

-- none of its nodes was read
pub none_read : (bytes rest : List ℕ) (count : ℕ) → bytes ≡ front ++ (to_be_bytes w32 count ++ rest) → count < 2 ^ 32 → HasRead bytes rest count []
none_read bytes rest count head fits = record { text = head; fits = fits; short = tt }

-- one more was
pub one_more : (bytes rest after node : List ℕ) (count : ℕ) (done : List (List ℕ)) → HasRead bytes rest count done → rest ≡ with_length node ++ after → IsShort node → HasRead bytes after count (done ++ node ∷ [])
one_more bytes rest after node count done read e fits = record {
  text = read.text ∙ ap (λ (t : List ℕ). front ++ (to_be_bytes w32 count ++ t)) (ap (λ (t : List ℕ). flat_map with_length done ++ t) e ∙ joined done);
  fits = read.fits;
  short = all_short done read.short;
}
  where
    joined : (nodes : List (List ℕ)) → flat_map with_length nodes ++ (with_length node ++ after) ≡ flat_map with_length (nodes ++ node ∷ []) ++ after
    joined [] = ap (λ (t : List ℕ). t ++ after) (sym (append-nil (with_length node)))
    joined (n ∷ nodes) = append_assoc (with_length n) (flat_map with_length nodes) (with_length node ++ after) ∙ ap (λ (t : List ℕ). with_length n ++ t) (joined nodes) ∙ sym (append_assoc (with_length n) (flat_map with_length (nodes ++ node ∷ [])) after)

    all_short : (nodes : List (List ℕ)) → AllByRecursion IsShort nodes → AllByRecursion IsShort (nodes ++ node ∷ [])
    all_short [] all = (fits, tt)
    all_short (n ∷ nodes) all = (all.0, all_short nodes all.1)

-- without the head of a proof, the bytes are none
pub headless : (bytes : List ℕ) → ((count : ℕ) (rest : List ℕ) → bytes ≢ front ++ (to_be_bytes w32 count ++ rest)) → ¬ IsProof bytes
headless bytes none proof = none (length proof.0) (flat_map with_length proof.0) (proof.1.spelled ∙ listing_is proof.0)

-- where a node is to come and none stands there, the bytes are no proof
pub cut_short : (bytes rest : List ℕ) (count : ℕ) (done : List (List ℕ)) → HasRead bytes rest count done → length done < count
    → ((node after : List ℕ) → IsShort node → rest ≢ with_length node ++ after) → ¬ IsProof bytes
cut_short bytes rest count done read fit none proof =
    let left = left_in bytes rest count done proof.0 read proof.1 (omega arith) in
    stop left.1.0 left.1.1 (omega (arith, left.0, ap (length {A = List ℕ}) left.1.1.parts, length-append done left.1.0))
  where
    stop : (more : List (List ℕ)) → AreLeft proof.0 done more rest → 0 < length more → ⊥
    stop [] left some = absurd (omega arith)
    stop (m ∷ more) left some = none m (flat_map with_length more) left.short.0 left.text

-- where bytes follow the last node, the bytes are no proof
pub too_long : (bytes rest : List ℕ) (count : ℕ) (done : List (List ℕ)) → HasRead bytes rest count done → length done ≡ count → 0 < length rest → ¬ IsProof bytes
too_long bytes rest count done read all some proof =
    let left = left_in bytes rest count done proof.0 read proof.1 (omega arith) in
    let none = none_left done left.1.0 (all ∙ sym left.0 ∙ ap (length {A = List ℕ}) left.1.1.parts) in
    omega (arith, ap (length {A = ℕ}) (left.1.1.text ∙ ap (flat_map with_length) none))

-- where nothing follows it, the bytes list the nodes
pub whole_read : (bytes rest : List ℕ) (count : ℕ) (done : List (List ℕ)) → HasRead bytes rest count done → length done ≡ count → length rest ≡ 0 → Lists bytes done
whole_read bytes [] count done read all none = record {
  fits = record { few = omega (arith, read.fits); short = read.short };
  spelled = read.text ∙ ap (λ (t : List ℕ). front ++ (to_be_bytes w32 count ++ t)) (append-nil (flat_map with_length done)) ∙ ap (λ n. front ++ (to_be_bytes w32 n ++ flat_map with_length done)) (sym all) ∙ sym (listing_is done);
}
whole_read bytes (r ∷ rest) count done read all none = absurd (omega arith)
