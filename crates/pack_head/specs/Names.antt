-- The names of files that a head can have.
-- Source: this project's heads, docs/FORMATS.md.
use Rattle.std.specs.Prelude.{◌≡◌, ◌≢◌, ◌≤◌, ◌==◌, ◌||◌, ℕ, Bool, true, List, length, slice_index}
use Rattle.std.specs.Char.{is_ascii_alphanumeric}
use Rattle.std.specs.List.{list_all}
use Rattle.pack_head.specs.declared.limits.TheConstants.{NAME_LIMIT}

abbrev pub dot : ℕ
dot = 46

-- a letter, a digit, `.`, `_` or `-`, in ASCII
abbrev pub is_name_byte : ℕ → Bool
is_name_byte byte = is_ascii_alphanumeric byte || (byte == dot || (byte == 95 || byte == 45))

-- a name of the head's own folder, and a segment of a URL
pub record IsHeadName (name : List ℕ) : Type 0 where
  pub some : 1 ≤ length name
  pub short : length name ≤ NAME_LIMIT
  pub bytes : list_all is_name_byte name ≡ true
  pub front : slice_index name 0 ≢ dot
