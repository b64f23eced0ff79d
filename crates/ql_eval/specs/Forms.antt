-- What the entries of the four trees are like. An evaluation looks at each entry that a walk gives, whether the answer
-- needs it or not.
-- Source: this project's trees, docs/FORMATS.md.
use Rattle.std.specs.Int.{w64}
use Rattle.std.specs.List.{Contains}
use Rattle.std.specs.Prelude.{◌≡◌, ℕ, List, [], ◌++◌, FitsSigned, ⊤}
use Rattle.opl_codec.specs.LineChanges.{Spells}
use Rattle.opl_codec.specs.declared.change.Change.TheVariants.{Put}
use Rattle.osm_model.specs.Elements.{Element, reference}
use Rattle.osm_model.specs.Places.{IsPlace, Place}
use Rattle.osm_model.specs.declared.kind.Kind.TheVariants as kinds
use Rattle.osm_model.specs.declared.reference.Ref.{Ref}
use Rattle.tree_node.specs.Nodes.{Binding}
use Rattle.tree_node.specs.declared.tree.Tree.{Tree}
use Rattle.tree_node.specs.declared.tree.Tree.TheVariants.{Objects, Tags, Cells, Backs}
use Rattle.tree_walk.specs.Given.{Answer, SoMany, These}
use Rattle.tree_walk.specs.WalksGiven.{Walk}
use Rattle.osm_keys.specs.Keys.{IsCell, IsTagText, back_key, cell_bytes, cell_value, id_bytes, ref_key, tag_key}

-- the entry of the object tree puts this object under its reference; the line may have any spelling
pub record SaysObject (b : Binding) (o : Element) : Type 0 where
  pub key : b.key ≡ ref_key (reference o)
  pub line : Spells b.value (Put o)

-- the entry of the cell tree says that a node with this reference lies here; that cell and place agree isn't asked
pub record SaysPlace (b : Binding) (r : Ref) (place : Place) : Type 0 where
  pub node : r.kind ≡ kinds.Node
  pub row : ℕ
  pub column : ℕ
  pub cell : IsCell row column
  pub key : b.key ≡ cell_bytes row column ++ id_bytes r.id
  pub is_place : IsPlace place
  pub value : b.value ≡ cell_value place

-- the entry of a tree is of the tree's form, and names this object: the one that is put, has the tag, lies in the cell,
-- or lists another one
abbrev pub Names : Tree → Binding → Ref → Type 0
Names Objects b r = (o : Element) × SaysObject b o × (reference o ≡ r)
Names Tags b r = (key value : List ℕ) × IsTagText key × IsTagText value × (b.key ≡ tag_key key value r) × (b.value ≡ [])
Names Cells b r = (place : Place) × SaysPlace b r place
Names Backs b r = (target : Ref) × FitsSigned w64 target.id × (b.key ≡ back_key target r) × (b.value ≡ [])

-- the entry is of its tree's form: it names an object, whose id has 64 bits
abbrev pub HasForm : Tree → Binding → Type 0
HasForm tree b = (r : Ref) × FitsSigned w64 r.id × Names tree b r

-- so are all of these entries
abbrev pub HaveForm : Tree → List Binding → Type 0
HaveForm tree found = (b : Binding) → Contains found b → HasForm tree b

-- so are all entries of this answer; of a number nothing is asked
abbrev pub AnswersForms : Tree → Answer → Type 0
AnswersForms tree (These found) = HaveForm tree found
AnswersForms tree (SoMany number) = ⊤

-- so are all entries that the walk gave
abbrev pub IsFormed : Walk → Type 0
IsFormed walk = AnswersForms walk.tree walk.answer
