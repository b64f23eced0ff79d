-- What buffers hold.
use Rattle.std.proofs.Common.{◌≡◌, ◌≢◌, ℕ, zero, suc, ◌+◌, ◌<◌, ◌≤◌, List, [], ◌∷◌, ◌++◌, length, map, take, drop, get_or, refl, sym, ap, subst, ◌∙◌, append_assoc, length-append, arith}
use Rattle.std.proofs.Math.ListN.{set}
use Rattle.std.specs.List.{flat_map}
use Rattle.std.proofs.lemmas.List.{take_at, drop_at}
use Rattle.tree_node.specs.Nodes.{Binding, Link}
use Rattle.tree_stream.specs.declared.leaf.EntryLen.{EntryLen}
use Rattle.tree_stream.specs.declared.level.OpenLevel.{OpenLevel}
use Rattle.tree_stream.specs.declared.level.Row.{Row}
use Rattle.tree_stream.specs.declared.leaf.OpenLeaf.{OpenLeaf}
use Rattle.tree_stream.specs.internal.Holding.{HoldsAt, HoldsEntries, HoldsLinks, cut_entries, cut_links, entry_total, len_of, link_total, row_of}

-- ---- entries

abbrev pub bytes_of : List Binding → List ℕ
bytes_of entries = flat_map (λ (e : Binding). e.key ++ e.value) entries

pub entries_cut : (entries : List Binding) → cut_entries (map len_of entries) (bytes_of entries) ≡ entries
entries_cut [] = refl
entries_cut (e ∷ es) =
    let rest = bytes_of es in
    let all = (e.key ++ e.value) ++ rest in
    let here : all ≡ e.key ++ (e.value ++ rest) = append_assoc e.key e.value rest in
    let front : take (length e.key) all ≡ e.key = ap (take (length e.key)) here ∙ take_at e.key (e.value ++ rest) (length e.key) refl in
    let back : drop (length e.key) all ≡ e.value ++ rest = ap (drop (length e.key)) here ∙ drop_at e.key (e.value ++ rest) (length e.key) refl in
    let value : take (length e.value) (drop (length e.key) all) ≡ e.value = ap (take (length e.value)) back ∙ take_at e.value rest (length e.value) refl in
    let left : drop (length e.value) (drop (length e.key) all) ≡ rest = ap (drop (length e.value)) back ∙ drop_at e.value rest (length e.value) refl in
    let first = λ (k v : List ℕ). let b : Binding = record { key = k; value = v } in b in
    ap (λ (k : List ℕ). first k (take (length e.value) (drop (length e.key) all)) ∷ cut_entries (map len_of es) (drop (length e.value) (drop (length e.key) all))) front
    ∙ ap (λ (v : List ℕ). first e.key v ∷ cut_entries (map len_of es) (drop (length e.value) (drop (length e.key) all))) value
    ∙ ap (λ (r : List ℕ). e ∷ cut_entries (map len_of es) r) left
    ∙ ap (λ (bs : List Binding). e ∷ bs) (entries_cut es)

pub entries_total : (entries : List Binding) → entry_total (map len_of entries) ≡ length (bytes_of entries)
entries_total [] = refl
entries_total (e ∷ es) = omega (arith, length-append (e.key ++ e.value) (bytes_of es), length-append e.key e.value, entries_total es)

-- ---- items

abbrev pub keys_in : List Link → List ℕ
keys_in links = flat_map (λ (l : Link). l.greatest) links

pub links_cut : (links : List Link) → cut_links (map row_of links) (keys_in links) ≡ links
links_cut [] = refl
links_cut (l ∷ ls) =
    let rest = keys_in ls in
    let first = λ (k : List ℕ). let c : Link = record { greatest = k; number = l.number; child = l.child } in c in
    ap (λ (k : List ℕ). first k ∷ cut_links (map row_of ls) (drop (length l.greatest) (l.greatest ++ rest))) (take_at l.greatest rest (length l.greatest) refl)
    ∙ ap (λ (r : List ℕ). l ∷ cut_links (map row_of ls) r) (drop_at l.greatest rest (length l.greatest) refl)
    ∙ ap (λ (cs : List Link). l ∷ cs) (links_cut ls)

pub links_total : (links : List Link) → link_total (map row_of links) ≡ length (keys_in links)
links_total [] = refl
links_total (l ∷ ls) = omega (arith, length-append l.greatest (keys_in ls), links_total ls)

-- ---- levels by their places

pub held_get : (levels : List OpenLevel) (at : ℕ) (d : OpenLevel) (links : List Link) → at < length levels → HoldsAt levels at links → HoldsLinks (get_or levels at d) links
held_get [] at d links lt h = absurd (omega arith)
held_get (l ∷ ls) zero d links lt h = h
held_get (l ∷ ls) (suc at) d links lt h = held_get ls at d links (omega arith) h

pub held_set : (levels : List OpenLevel) (at : ℕ) (level : OpenLevel) (links : List Link) → at < length levels → HoldsLinks level links → HoldsAt (set levels at level) at links
held_set [] at level links lt h = absurd (omega arith)
held_set (l ∷ ls) zero level links lt h = h
held_set (l ∷ ls) (suc at) level links lt h = held_set ls at level links (omega arith) h

pub held_set_other : (levels : List OpenLevel) (at : ℕ) (level : OpenLevel) (place : ℕ) (links : List Link) → place ≢ at → HoldsAt levels place links → HoldsAt (set levels at level) place links
held_set_other [] at level place links ne h = h
held_set_other (l ∷ ls) zero level zero links ne h = absurd (ne refl)
held_set_other (l ∷ ls) zero level (suc place) links ne h = h
held_set_other (l ∷ ls) (suc at) level zero links ne h = h
held_set_other (l ∷ ls) (suc at) level (suc place) links ne h = held_set_other ls at level place links (λ e. ne (ap suc e)) h

-- a level that was added
pub held_new : (levels : List OpenLevel) (level : OpenLevel) (place : ℕ) (links : List Link) → HoldsLinks level [] → HoldsAt levels place links → HoldsAt (levels ++ level ∷ []) place links
held_new [] level zero links new h = rw h new
held_new [] level (suc place) links new h = h
held_new (l ∷ ls) level zero links new h = h
held_new (l ∷ ls) level (suc place) links new h = held_new ls level place links new h

-- the level that was read
pub held_at : (levels : List OpenLevel) (at : ℕ) (level : OpenLevel) (links : List Link) → at < length levels → level ≡ get_or levels at level → HoldsAt levels at links → HoldsLinks level links
held_at levels at level links lt is held = subst (λ (l : OpenLevel). HoldsLinks l links) (sym is) (held_get levels at level links lt held)

-- the entries of a leaf, as they are read
pub leaf_items : (leaf : OpenLeaf) (entries : List Binding) (bytes : List ℕ) (lens : List EntryLen) (found : List Binding) → HoldsEntries leaf entries → bytes ≡ leaf.bytes.items → lens ≡ leaf.lens.items
    → found ≡ cut_entries lens bytes → found ≡ entries
leaf_items leaf entries bytes lens found held is_bytes is_lens so =
    so ∙ ap (λ (ls : List EntryLen). cut_entries ls bytes) (is_lens ∙ held.lens) ∙ ap (cut_entries (map len_of entries)) (is_bytes ∙ held.bytes) ∙ entries_cut entries

-- the items of a level, as they are read
pub level_items : (level : OpenLevel) (links : List Link) (keys : List ℕ) (rows : List Row) (found : List Link) → HoldsLinks level links → keys ≡ level.keys.items → rows ≡ level.rows.items
    → found ≡ cut_links rows keys → found ≡ links
level_items level links keys rows found held is_keys is_rows so =
    so ∙ ap (λ (rs : List Row). cut_links rs keys) (is_rows ∙ held.rows) ∙ ap (cut_links (map row_of links)) (is_keys ∙ held.keys) ∙ links_cut links

-- the only item of a level
pub only_link : (links : List Link) (rows : List Row) (d : Row) → rows ≡ map row_of links → length rows ≡ 1
    → (link : Link) × (links ≡ link ∷ []) × ((get_or rows 0 d).digest.0 ≡ link.child)
only_link [] rows d is one = absurd (omega (arith, one, ap (length {A = Row}) is))
only_link (l ∷ []) rows d is one = (l, refl, ap (λ (rs : List Row). (get_or rs 0 d).digest.0) is)
only_link (l ∷ m ∷ ls) rows d is one = absurd (omega (arith, one, ap (length {A = Row}) is))
