-- Lists of bytes.
use Rattle.std.proofs.Common.{ℕ, zero, suc, ◌%◌, ◌<◌, List, [], ◌∷◌, ◌++◌, arith, w32}
use Rattle.std.specs.Int.{bytes_high_first, to_be_bytes}
use Rattle.std.specs.Prelude.{slice_index}
use Rattle.std.proofs.lemmas.Nat.{mod_below}
use Rattle.sha2.specs.Sha256.{digest_bytes, final_hash, initial_hash_256, sha256}
use Rattle.tree_node.specs.Digests.{digest}
use Rattle.tree_node.specs.Nodes.{AreBytes}

-- ---- bytes one after the other

pub no_bytes : AreBytes []
no_bytes i = omega arith

pub cons_bytes : (x : ℕ) (xs : List ℕ) → x < 256 → AreBytes xs → AreBytes (x ∷ xs)
cons_bytes x xs lt h zero = lt
cons_bytes x xs lt h (suc i) = h i

tail_bytes : (x : ℕ) (xs : List ℕ) → AreBytes (x ∷ xs) → AreBytes xs
tail_bytes x xs h i = h (suc i)

pub append_bytes : (xs ys : List ℕ) → AreBytes xs → AreBytes ys → AreBytes (xs ++ ys)
append_bytes [] ys h k = k
append_bytes (x ∷ xs) ys h k = cons_bytes x (xs ++ ys) (h 0) (append_bytes xs ys (tail_bytes x xs h) k)

-- ---- numbers, with the greatest byte first

pub number_bytes : (k n : ℕ) → AreBytes (bytes_high_first k n)
number_bytes zero n = no_bytes
number_bytes (suc zero) n = cons_bytes (n % 256) [] (omega arith) no_bytes
number_bytes (suc (suc k)) n = cons_bytes _ (bytes_high_first (suc k) n) (mod_below _ 256 (omega arith)) (number_bytes (suc k) n)

-- ---- digests

words_are_bytes : (hash : List ℕ) (n : ℕ) → AreBytes (digest_bytes hash n)
unfolding digest_bytes
words_are_bytes hash zero = no_bytes
words_are_bytes hash (suc n) = append_bytes (digest_bytes hash n) (to_be_bytes w32 (slice_index hash n)) (words_are_bytes hash n) (number_bytes 4 (slice_index hash n))

pub digest_is_bytes : (bytes : List ℕ) → AreBytes (digest bytes)
unfolding digest sha256
digest_is_bytes bytes = words_are_bytes (final_hash initial_hash_256 bytes) 8
