-- The next head and the new file.
use Rattle.std.proofs.Common.{◌≡◌, ◌≤◌, ◌<◌, ◌+◌, ◌^◌, ℕ, List, [], ◌∷◌, ◌++◌, Option, Some, None, length, map, sym, ap, subst, ◌∙◌, arith, length-append}
use Rattle.std.specs.Io.KnownBytes.{Appends, Keeps}
use Rattle.std.specs.List.{AllByRecursion}
use Rattle.std.proofs.lemmas.List.{length-map}
use Rattle.osm_keys.specs.Publications.{Publication}
use Rattle.pack_files.specs.Joined.{AreShort}
use Rattle.pack_head.specs.Heads.{IsHead, IsHeadFile, file_parts}
use Rattle.pack_head.specs.Names.{IsHeadName}
use Rattle.pack_head.specs.declared.head.Head.{Head}
use Rattle.pack_head.specs.declared.head.HeadFile.{HeadFile}
use Rattle.pack_head.specs.declared.limits.TheConstants.{FILES_LIMIT, FILE_LEN_LIMIT}
use Rattle.pack_update.specs.Adding.{HasFurther}
use Rattle.pack_update.specs.declared.added.Added.{Added}
use Rattle.osm_pack_changes.specs.Heads.{IsNextHead}

-- ---- what a writer has

appends_kept : (old mid new : Option (List ℕ)) (bytes : List ℕ) → Appends old mid bytes → Keeps mid new → Appends old new bytes
appends_kept None mid new bytes appends keeps = tt
appends_kept (Some xs) None new bytes appends keeps = absurd appends
appends_kept (Some xs) (Some ys) None bytes appends keeps = absurd keeps
appends_kept (Some xs) (Some ys) (Some zs) bytes appends keeps = keeps ∙ appends

pub still_further : (contents : List (List ℕ)) (q : Publication) (added : Added) (old mid new : Option (List ℕ)) → HasFurther contents q added old mid → Keeps mid new → HasFurther contents q added old new
still_further contents q added old mid new has keeps =
    record { file = has.file; appended = appends_kept old mid new has.file has.appended keeps; size = has.size; are = has.are }

-- ---- the next head can be read again

last_short : (contents : List (List ℕ)) (file : List ℕ) → AreShort (contents ++ file ∷ []) → length file ≤ 2 ^ 48
last_short [] file short = short.0
last_short (first ∷ others) file short = last_short others file short.1

pub short_file : (contents : List (List ℕ)) (q : Publication) (added : Added) (old new : Option (List ℕ)) → HasFurther contents q added old new → added.header.size ≤ FILE_LEN_LIMIT
short_file contents q added old new has = subst (λ (n : ℕ). n ≤ FILE_LEN_LIMIT) has.size (last_short contents has.file has.are.short)

-- a file can be named, by its length and its name
abbrev CanBeNamed : ℕ × List ℕ → Type 0
CanBeNamed parts = IsHeadName parts.1 × (parts.0 ≤ FILE_LEN_LIMIT)

to_parts : (files : List HeadFile) → AllByRecursion IsHeadFile files → AllByRecursion CanBeNamed (map file_parts files)
to_parts [] all = tt
to_parts (file ∷ files) all = ((all.0.name, all.0.len), to_parts files all.1)

from_parts : (files : List HeadFile) → AllByRecursion CanBeNamed (map file_parts files) → AllByRecursion IsHeadFile files
from_parts [] all = tt
from_parts (file ∷ files) all = (record { name = all.0.0; len = all.0.1 }, from_parts files all.1)

and_last : (parts : List (ℕ × List ℕ)) (last : ℕ × List ℕ) → AllByRecursion CanBeNamed parts → CanBeNamed last → AllByRecursion CanBeNamed (parts ++ last ∷ [])
and_last [] last all can = (can, tt)
and_last (first ∷ others) last all can = (all.0, and_last others last all.1 can)

pub readable : (head next : Head) (name : List ℕ) (added : Added) → IsNextHead head name added next → length head.files.items < FILES_LIMIT → IsHeadName name → added.header.size ≤ FILE_LEN_LIMIT
    → IsHead head → IsHead next
readable head next name added is few named short was =
    let count : length next.files.items ≡ length head.files.items + 1 =
    sym (length-map next.files.items file_parts) ∙ ap (λ (l : List (ℕ × List ℕ)). length l) is.files
    ∙ length-append (map file_parts head.files.items) ((added.header.size, name) ∷ []) ∙ ap (λ (n : ℕ). n + 1) (length-map head.files.items file_parts) in
    record {
      some = omega (arith, count);
      few = omega (arith, count, few);
      files = from_parts next.files.items (subst (AllByRecursion CanBeNamed) (sym is.files) (and_last (map file_parts head.files.items) (added.header.size, name) (to_parts head.files.items was.files) (named, short)));
    }
