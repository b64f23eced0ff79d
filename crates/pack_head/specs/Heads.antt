-- What a head is: a text whose lines name the newest root, its sequence number, where its manifest stands, and the files in order.
-- Source: this project's heads, docs/FORMATS.md.
use Rattle.std.specs.Fmt.{decimal}
use Rattle.std.specs.List.{AllByRecursion, flat_map}
use Rattle.std.specs.Prelude.{◌≡◌, ◌<◌, ◌≤◌, ◌^◌, ℕ, List, [], ◌∷◌, ◌++◌, codes, length, map}
use Rattle.hex.specs.Hex.{IsBytes, encode_lower}
use Rattle.pack_head.specs.Names.{IsHeadName}
use Rattle.pack_head.specs.declared.head.Head.{Head}
use Rattle.pack_head.specs.declared.head.HeadFile.{HeadFile}
use Rattle.pack_head.specs.declared.limits.TheConstants.{FILES_LIMIT, FILE_LEN_LIMIT}

abbrev pub line_feed : ℕ
line_feed = 10

abbrev pub space : ℕ
space = 32

-- ---- the lines, without their line feeds

abbrev pub version_line : List ℕ
version_line = codes "osm_mirror head 1"

abbrev pub root_line : List ℕ → List ℕ
root_line root = codes "root " ++ encode_lower root

abbrev pub sequence_line : ℕ → List ℕ
sequence_line sequence = codes "sequence " ++ decimal sequence

abbrev pub manifest_line : ℕ → ℕ → List ℕ
manifest_line at len = codes "manifest " ++ (decimal at ++ space ∷ decimal len)

abbrev pub file_line : HeadFile → List ℕ
file_line file = codes "file " ++ (decimal file.len ++ space ∷ file.name.now)

-- ---- the text

-- the lines of a head, in order
abbrev pub lines_of : Head → List (List ℕ)
lines_of head =
    version_line ∷ root_line head.root.0 ∷ sequence_line head.sequence ∷ manifest_line head.manifest_at head.manifest_len ∷ map file_line head.files.items

-- a line with its end
abbrev pub ended : List ℕ → List ℕ
ended line = line ++ line_feed ∷ []

-- the text of a head: its lines, each with its end
unfoldable pub head_text : Head → List ℕ
head_text head = flat_map ended (lines_of head)

-- ---- what a head is

-- a root: 32 bytes
pub record IsRoot (root : List ℕ) : Type 0 where
  pub wide : length root ≡ 32
  pub bytes : IsBytes root

-- a file that can be named
pub record IsHeadFile (file : HeadFile) : Type 0 where
  pub name : IsHeadName file.name.now
  pub len : file.len ≤ FILE_LEN_LIMIT

-- a head with some files and not too many, each of which can be named
pub record IsHead (head : Head) : Type 0 where
  pub some : 1 ≤ length head.files.items
  pub few : length head.files.items ≤ FILES_LIMIT
  pub files : AllByRecursion IsHeadFile head.files.items

-- what the types of a head's fields hold, for laws, which know no types: a root, and numbers of 64 and of 32 bits
pub record FitsTypes (head : Head) : Type 0 where
  pub root : IsRoot head.root.0
  pub sequence : head.sequence < 2 ^ 64
  pub manifest_at : head.manifest_at < 2 ^ 64
  pub manifest_len : head.manifest_len < 2 ^ 32

-- the length of a file, and its name
abbrev pub file_parts : HeadFile → ℕ × List ℕ
file_parts file = (file.len, file.name.now)

-- two heads say the same
pub record SaysSame (a b : Head) : Type 0 where
  pub root : a.root.0 ≡ b.root.0
  pub sequence : a.sequence ≡ b.sequence
  pub manifest_at : a.manifest_at ≡ b.manifest_at
  pub manifest_len : a.manifest_len ≡ b.manifest_len
  pub files : map file_parts a.files.items ≡ map file_parts b.files.items
