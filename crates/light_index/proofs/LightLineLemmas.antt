-- The lines of objects, as nodes.
use Rattle.std.proofs.Common.{◌≡◌, inl, inr, ℕ, zero, suc, ◌+◌, ◌-◌, ◌<◌, List, [], ◌∷◌, ◌++◌, length, get_or, map, take, refl, sym, ap, subst, ◌∙◌, arith}
use Rattle.std.specs.List.{Contains}
use Rattle.std.proofs.lemmas.List.{length-append, map-append, take_at, take_more}
use Rattle.light_index.specs.LightLines.{AreLinesOf}
use Rattle.osm_keys.specs.Lines.{digest_of_line}
use Rattle.opl_codec.specs.Text.{text_of as line_of}
use Rattle.osm_keys.proofs.shared.Members.{first_or_in_rest, here, in_rest, none}
use Rattle.osm_model.specs.CanonicalLine.{canonical_line}
use Rattle.osm_model.specs.Elements.{Element}
use Rattle.osm_model.specs.declared.out_mode.OutMode.TheVariants.{Meta}
use Rattle.tree_build.specs.Rebuilding.{IsAmong}
use Rattle.tree_node.specs.Digests.{digest}
use Rattle.tree_node.specs.declared.new_node.NewNode.{NewNode}

line_text : (o : Element) → line_of o Meta ≡ canonical_line o ++ 10 ∷ []
unfolding line_of canonical_line
line_text o = refl

-- what is left of a written line without its last byte is the canonical line
pub line_left : (o : Element) (written left : List ℕ) (n : ℕ) → written ≡ line_of o Meta → n ≡ length written → left ≡ take (n - 1) written → left ≡ canonical_line o
line_left o written left n is len popped =
    let whole : written ≡ canonical_line o ++ 10 ∷ [] = is ∙ line_text o in
    let size = ap length whole in
    let sum = length-append (canonical_line o) (10 ∷ []) in
    popped ∙ rw whole (take_at (canonical_line o) (10 ∷ []) (n - 1) (omega (arith, len, size, sum)))

-- one more line
pub lines_more : (objects : List Element) (lines : List NewNode) (line : NewNode) (k : ℕ) (o : Element) → k < length objects → o ≡ get_or objects k o
    → AreLinesOf (take k objects) lines → line.bytes.items ≡ canonical_line o → AreLinesOf (take (k + 1) objects) (lines ++ line ∷ [])
lines_more objects lines line k o inside is before of =
    map-append (λ (node : NewNode). node.bytes.items) lines (line ∷ [])
    ∙ ap (λ (texts : List (List ℕ)). texts ++ line.bytes.items ∷ []) before
    ∙ ap (λ (text : List ℕ). map canonical_line (take k objects) ++ text ∷ []) (of ∙ ap canonical_line is)
    ∙ sym (map-append canonical_line (take k objects) (get_or objects k o ∷ []))
    ∙ ap (map canonical_line) (sym (take_more objects k o inside))

-- the digest beside a line is that of the line of the object at the same place
pub line_at : (objects : List Element) (lines : List NewNode) (k : ℕ) (o : Element) (line : NewNode) → AreLinesOf objects lines → k < length objects → k < length lines
    → o ≡ get_or objects k o → line ≡ get_or lines k line → line.digest.0 ≡ digest_of_line o
line_at [] lines k o line are inside within is is_line = absurd (omega (arith, inside))
line_at (x ∷ objects) [] k o line are inside within is is_line = absurd (omega (arith, within))
line_at (x ∷ objects) (n ∷ lines) zero o line are inside within is is_line =
    let first : n.bytes.items ≡ canonical_line x = cc (are) in
    line.own ∙ ap digest (ap (λ (node : NewNode). node.bytes.items) is_line ∙ first ∙ ap canonical_line (sym is))
line_at (x ∷ objects) (n ∷ lines) (suc k) o line are inside within is is_line =
    let rest : AreLinesOf objects lines = cc (are) in
    line_at objects lines k o line rest (omega (arith, inside)) (omega (arith, within)) is is_line

-- there are as many lines as objects
pub as_many : (objects : List Element) (lines : List NewNode) → AreLinesOf objects lines → length lines ≡ length objects
as_many [] [] are = refl
as_many [] (n ∷ lines) are = absurd (cc (are))
as_many (x ∷ objects) [] are = absurd (cc (are))
as_many (x ∷ objects) (n ∷ lines) are = let rest : AreLinesOf objects lines = cc (are) in ap suc (as_many objects lines rest)

-- the nodes are the lines of the objects
pub line_of_some : (objects : List Element) (texts : List (List ℕ)) (x : List ℕ) → texts ≡ map canonical_line objects → IsAmong texts x → (o : Element) × Contains objects o × (x ≡ canonical_line o)
line_of_some [] texts x are is = absurd (subst (λ (ts : List (List ℕ)). IsAmong ts x) are is)
line_of_some (o ∷ objects) texts x are is =
    let among : IsAmong (canonical_line o ∷ map canonical_line objects) x = subst (λ (ts : List (List ℕ)). IsAmong ts x) are is in
    elim among [
      | inl e ↦ (o, here o objects, e)
      | inr later ↦ let found = line_of_some objects (map canonical_line objects) x refl later in (found.0, in_rest o objects found.0 found.1, found.2)
    ]

among_lines : (objects : List Element) (o : Element) → Contains objects o → IsAmong (map canonical_line objects) (canonical_line o)
among_lines [] o there = absurd (none o there)
among_lines (x ∷ objects) o there = elim (first_or_in_rest x objects o there) [ inl e ↦ inl (ap canonical_line (sym e)) | inr later ↦ inr (among_lines objects o later) ]

pub some_among : (objects : List Element) (texts : List (List ℕ)) (x : List ℕ) → texts ≡ map canonical_line objects → (o : Element) × Contains objects o × (x ≡ canonical_line o) → IsAmong texts x
some_among objects texts x are (o, there, is) =
    subst (λ (ts : List (List ℕ)). IsAmong ts x) (sym are) (subst (λ (y : List ℕ). IsAmong (map canonical_line objects) y) (sym is) (among_lines objects o there))
