-- Rows, and the nodes that they tell of.
use Rattle.std.proofs.Common.{Bool, cond, ◌≡◌, ◌∙◌, sym, ap, refl, ℕ, zero, suc, ◌+◌, ◌-◌, ◌*◌, ◌<◌, ◌≤◌, ◌%◌, List, [], ◌∷◌, ◌++◌, length, take, drop, arith, length-append, add-one}
use Rattle.std.specs.List.{AllByRecursion}
use Rattle.std.specs.Prelude.{slice_index}
use Rattle.std.proofs.lemmas.Nat.{from_be_bytes-to_be_bytes_4}
use Rattle.std.proofs.lemmas.Grind.{flat_map-append}
use Rattle.std.proofs.lemmas.List.{append-nil, drop-drop, drop-take, drop_at, take-take, take_at}
use Rattle.std.proofs.Math.Dec.{eqb-suc-zero}
use Rattle.tree_node.specs.Nodes.{Node, Leaf, Inner, Spells}
use Rattle.tree_node.specs.Trees.{links_in}
use Rattle.tree_stream.specs.ReadBack.{IsLenOf}
use Rattle.tree_stream.specs.declared.levels_read.NodeLen.{NodeLen}
use Rattle.level_files.specs.internal.Keeping.{AreNodes}
use Rattle.level_files.specs.internal.Rows.{IsShort, children_in, joined, len_in, nodes_of, row_of, rows_of}

-- ---- a row in a buffer

pub row_here : (rows buffer : List ℕ) (first passed gap : ℕ) → first + gap ≡ passed → buffer ≡ take (length buffer) (drop (5 * first) rows) → 5 * gap + 5 ≤ length buffer
    → take 5 (drop (5 * gap) buffer) ≡ take 5 (drop (5 * passed) rows)
row_here rows buffer first passed gap up same long =
    let left : ℕ = length buffer - 5 * gap in
    let split : length buffer ≡ 5 * gap + left = omega arith in
    let five : 5 ≤ left = omega arith in
    let place : 5 * first + 5 * gap ≡ 5 * passed = omega arith in
    ap (λ (b : List ℕ). take 5 (drop (5 * gap) b)) (same ∙ ap (λ (k : ℕ). take k (drop (5 * first) rows)) split)
    ∙ ap (λ (b : List ℕ). take 5 b) (drop-take (5 * gap) left (drop (5 * first) rows))
    ∙ take-take 5 left (drop (5 * gap) (drop (5 * first) rows)) five
    ∙ ap (λ (b : List ℕ). take 5 b) (drop-drop (5 * gap) (5 * first) rows)
    ∙ ap (λ (k : ℕ). take 5 (drop k rows)) place

-- ---- a row by itself

len_there : (node rest : List ℕ) → IsShort node → len_in (row_of node ++ rest) ≡ length node
len_there node rest short = from_be_bytes-to_be_bytes_4 (length node) short

rest_there : (node rest : List ℕ) → drop 5 (row_of node ++ rest) ≡ rest
rest_there node rest = refl

children_there : (node rest : List ℕ) → slice_index (row_of node ++ rest) 4 ≡ children_in node
children_there node rest = refl

no_rows_left : (n : ℕ) → drop {A = ℕ} n [] ≡ []
no_rows_left zero = refl
no_rows_left (suc n) = refl

rows_drop : (k : ℕ) (nodes : List (List ℕ)) → drop (5 * k) (rows_of nodes) ≡ rows_of (drop k nodes)
rows_drop zero nodes = refl
rows_drop (suc k) [] = no_rows_left (5 * suc k)
rows_drop (suc k) (node ∷ nodes) =
    let more : 5 * suc k ≡ 5 + 5 * k = omega arith in
    ap (λ (n : ℕ). drop n (row_of node ++ rows_of nodes)) more
    ∙ sym (drop-drop (5 * k) 5 (row_of node ++ rows_of nodes))
    ∙ rows_drop k nodes

-- ---- all nodes

nodes_back : (nodes : List (List ℕ)) → AllByRecursion IsShort nodes → nodes_of (length nodes) (rows_of nodes) (joined nodes) ≡ nodes
nodes_back [] short = refl
nodes_back (node ∷ nodes) short =
    ap (λ (n : ℕ). take n (node ++ joined nodes) ∷ nodes_of (length nodes) (rows_of nodes) (drop n (node ++ joined nodes))) (len_there node (rows_of nodes) short.0)
    ∙ ap (λ (x : List ℕ). x ∷ nodes_of (length nodes) (rows_of nodes) (drop (length node) (node ++ joined nodes))) (take_at node (joined nodes) (length node) refl)
    ∙ ap (λ (bytes : List ℕ). node ∷ nodes_of (length nodes) (rows_of nodes) bytes) (drop_at node (joined nodes) (length node) refl)
    ∙ ap (λ (others : List (List ℕ)). node ∷ others) (nodes_back nodes short.1)

-- what the two runs hold is what they were told
pub nodes_are : (count size : ℕ) (rows bytes : List ℕ) (nodes : List (List ℕ)) → AreNodes count size rows bytes nodes → nodes_of count rows bytes ≡ nodes
nodes_are count size rows bytes nodes are =
    ap (λ (n : ℕ). nodes_of n rows bytes) (sym are.number)
    ∙ ap (λ (rs : List ℕ). nodes_of (length nodes) rs bytes) are.rows_are
    ∙ ap (λ (bs : List ℕ). nodes_of (length nodes) (rows_of nodes) bs) are.bytes_are
    ∙ nodes_back nodes are.short

short_more : (nodes : List (List ℕ)) (node : List ℕ) → AllByRecursion IsShort nodes → IsShort node → AllByRecursion IsShort (nodes ++ node ∷ [])
short_more [] node short last = (last, tt)
short_more (first ∷ nodes) node short last = (short.0, short_more nodes node short.1 last)

rows_more : (nodes : List (List ℕ)) (node : List ℕ) → rows_of (nodes ++ node ∷ []) ≡ rows_of nodes ++ row_of node
rows_more nodes node = flat_map-append row_of nodes (node ∷ [])

joined_more : (nodes : List (List ℕ)) (node : List ℕ) → joined (nodes ++ node ∷ []) ≡ joined nodes ++ node
joined_more nodes node = flat_map-append (λ (n : List ℕ). n) nodes (node ∷ []) ∙ ap (λ (bs : List ℕ). joined nodes ++ bs) (append-nil node)

-- one node more
pub are_more : (count size : ℕ) (rows bytes : List ℕ) (nodes : List (List ℕ)) (node : List ℕ) → AreNodes count size rows bytes nodes → IsShort node
    → AreNodes (count + 1) (size + length node) (rows ++ row_of node) (bytes ++ node) (nodes ++ node ∷ [])
are_more count size rows bytes nodes node are short = record {
  number = omega (arith, are.number, length-append nodes (node ∷ []));
  short = short_more nodes node are.short short;
  rows_are = ap (λ (rs : List ℕ). rs ++ row_of node) are.rows_are ∙ sym (rows_more nodes node);
  bytes_are = ap (λ (bs : List ℕ). bs ++ node) are.bytes_are ∙ sym (joined_more nodes node);
  size_is = omega (arith, are.size_is, ap (length {A = ℕ}) (joined_more nodes node), length-append (joined nodes) node);
}

pub are_none : AreNodes 0 0 [] [] []
are_none = record { number = refl; short = tt; rows_are = refl; bytes_are = refl; size_is = refl }

-- ---- the next node

-- this node stands after so many others
pub record IsNextAt (rows bytes : List ℕ) (nodes : List (List ℕ)) (passed : ℕ) (node : List ℕ) : Type 0 where
  pub first : drop passed nodes ≡ node ∷ drop (passed + 1) nodes
  pub len : len_in (drop (5 * passed) rows) ≡ length node
  pub children : slice_index (drop (5 * passed) rows) 4 ≡ children_in node
  pub text : take (length node) (drop (length (joined (take passed nodes))) bytes) ≡ node
  pub after : length (joined (take (passed + 1) nodes)) ≡ length (joined (take passed nodes)) + length node
  pub within : length (joined (take passed nodes)) + length node ≤ length bytes

-- a list that is split at a place
pub record IsSplit (nodes : List (List ℕ)) (passed : ℕ) (before : List (List ℕ)) (node : List ℕ) (later : List (List ℕ)) : Type 0 where
  pub is : nodes ≡ before ++ node ∷ later
  pub taken : take passed nodes ≡ before
  pub left : drop passed nodes ≡ node ∷ later
  pub taken_more : take (suc passed) nodes ≡ before ++ node ∷ []
  pub left_more : drop (suc passed) nodes ≡ later
  pub short : IsShort node

split_at : (nodes : List (List ℕ)) (passed : ℕ) → AllByRecursion IsShort nodes → passed < length nodes
    → (before : List (List ℕ)) × (node : List ℕ) × (later : List (List ℕ)) × IsSplit nodes passed before node later
split_at [] passed short below = absurd (omega arith)
split_at (first ∷ nodes) zero short below = ([], first, nodes, record { is = refl; taken = refl; left = refl; taken_more = refl; left_more = refl; short = short.0 })
split_at (first ∷ nodes) (suc passed) short below =
    let (before, node, later, split) = split_at nodes passed short.1 (omega arith) in (
      first ∷ before,
      node,
      later,
      record {
        is = ap (λ (ns : List (List ℕ)). first ∷ ns) split.is;
        taken = ap (λ (ns : List (List ℕ)). first ∷ ns) split.taken;
        left = split.left;
        taken_more = ap (λ (ns : List (List ℕ)). first ∷ ns) split.taken_more;
        left_more = split.left_more;
        short = split.short;
      },
    )

next_split : (count size : ℕ) (rows bytes : List ℕ) (nodes : List (List ℕ)) (passed : ℕ) (before : List (List ℕ)) (node : List ℕ) (later : List (List ℕ))
    → AreNodes count size rows bytes nodes → IsSplit nodes passed before node later → IsNextAt rows bytes nodes passed node
next_split count size rows bytes nodes passed before node later are split =
    let row : drop (5 * passed) rows ≡ row_of node ++ rows_of later = ap (λ (rs : List ℕ). drop (5 * passed) rs) are.rows_are ∙ rows_drop passed nodes ∙ ap rows_of split.left in
    let whole : bytes ≡ joined before ++ (node ++ joined later) = are.bytes_are ∙ ap joined split.is ∙ flat_map-append (λ (n : List ℕ). n) before (node ∷ later) in
    let start : length (joined (take passed nodes)) ≡ length (joined before) = ap (λ (ns : List (List ℕ)). length (joined ns)) split.taken in
    let rest : drop (length (joined (take passed nodes))) bytes ≡ node ++ joined later =
    ap (λ (n : ℕ). drop n bytes) start ∙ ap (λ (bs : List ℕ). drop (length (joined before)) bs) whole ∙ drop_at (joined before) (node ++ joined later) (length (joined before)) refl in
    record {
      first = split.left ∙ ap (λ (ns : List (List ℕ)). node ∷ ns) (sym (ap (λ (n : ℕ). drop n nodes) (add-one passed) ∙ split.left_more));
      len = ap len_in row ∙ len_there node (rows_of later) split.short;
      children = ap (λ (rs : List ℕ). slice_index rs 4) row ∙ children_there node (rows_of later);
      text = ap (λ (bs : List ℕ). take (length node) bs) rest ∙ take_at node (joined later) (length node) refl;
      after = ap (λ (n : ℕ). length (joined (take n nodes))) (add-one passed) ∙ ap (λ (ns : List (List ℕ)). length (joined ns)) split.taken_more ∙ ap (length {A = ℕ}) (joined_more before node) ∙ length-append (joined before) node ∙ ap (λ (n : ℕ). n + length node) (sym start);
      within = omega (arith, start, ap (length {A = ℕ}) whole, length-append (joined before) (node ++ joined later), length-append node (joined later));
    }

pub next_at : (count size : ℕ) (rows bytes : List ℕ) (nodes : List (List ℕ)) (passed : ℕ) → AreNodes count size rows bytes nodes → passed < count
    → (node : List ℕ) × IsNextAt rows bytes nodes passed node
next_at count size rows bytes nodes passed are below =
    let (before, node, later, split) = split_at nodes passed are.short (omega (arith, are.number, below)) in
    (node, next_split count size rows bytes nodes passed before node later are split)

rows_len : (nodes : List (List ℕ)) → length (rows_of nodes) ≡ 5 * length nodes
rows_len [] = refl
rows_len (node ∷ nodes) = omega (arith, length-append (row_of node) (rows_of nodes), rows_len nodes)

-- the length of the run of rows
pub all_rows : (count size : ℕ) (rows bytes : List ℕ) (nodes : List (List ℕ)) → AreNodes count size rows bytes nodes → length rows ≡ 5 * count
all_rows count size rows bytes nodes are = ap (length {A = ℕ}) are.rows_are ∙ rows_len nodes ∙ ap (λ (n : ℕ). 5 * n) are.number

-- ---- what a row states

small : (n : ℕ) → n ≤ 64 → n % 256 ≡ n
small n few = omega arith

children_are : (bytes : List ℕ) (node : Node) → Spells bytes node → children_in bytes ≡ length (links_in node)
children_are bytes (Leaf tree entries) spells = ap children_in spells.1
children_are bytes (Inner tree zero links) spells = absurd (omega (arith, spells.0.1))
children_are bytes (Inner tree (suc level) links) spells = ap children_in spells.1 ∙ ap (λ (b : Bool). cond b 0 (length links % 256)) (eqb-suc-zero level) ∙ small (length links) spells.0.4

pub len_of : (bytes : List ℕ) (len : NodeLen) → len.bytes ≡ length bytes → len.children ≡ children_in bytes → IsLenOf bytes len
len_of bytes len long children = record { bytes_are = long; children_are = λ node spells. children ∙ children_are bytes node spells }
