-- Whether keys rise, one after the other.
-- Source: this project.
use Rattle.std.specs.Prelude.{ℕ, true, cond, List, [], ◌∷◌, None}
use Rattle.entry_sort.specs.internal.Once.{is_new, key_after}
use Rattle.entry_sort.specs.declared.rising.Rising.{Rising}

-- before the first key
abbrev pub no_keys : Rising
no_keys = record { last = None; all_rise = true }

-- after one key more
abbrev pub followed : Rising → List ℕ → Rising
followed r key = cond r.all_rise (record { last = key_after r.last key; all_rise = is_new r.last key }) r

-- after all of these
abbrev pub followed_by : Rising → List (List ℕ) → Rising
followed_by r [] = r
followed_by r (key ∷ keys) = followed_by (followed r key) keys
