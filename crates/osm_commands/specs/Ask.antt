-- What the command `ask` answers, and when it answers nothing.
-- Source: this project.
use Rattle.std.specs.Prelude.{◌≡◌, ◌⊎◌, ℕ, List, Option}
use Rattle.std.specs.Io.KnownBytes.{Keeps}
use Rattle.osm_model.specs.Elements.{Element}
use Rattle.opl_codec.specs.Files.{HoldsSet}
use Rattle.tree_node.specs.Shelves.{IsClashFree}
use Rattle.osm_keys.specs.Publications.{IsNodeIn, Publication}
use Rattle.osm_keys.specs.declared.edition.Edition.{Edition}
use Rattle.osm_keys.specs.declared.edition.Edition.TheVariants.{Two}
use Rattle.ql_syntax.specs.Queries.{HasFault, Reads}
use Rattle.ql_syntax.specs.Statements.{Statements}
use Rattle.ql_meaning.specs.Meanings.{Means_by}
use Rattle.osm_forms.specs.Documents.{document_in}
use Rattle.osm_forms.specs.Forms.{form_text}
use Rattle.osm_forms.specs.declared.form.Form.{Form}
use Rattle.osm_commands.specs.TreeRoots.{ExplainsTrees, IsPublicationIn}
use Rattle.byte_io.specs.Written.{AppendsFront}
use Rattle.osm_commands.specs.declared.command_fault.CommandFault.{CommandFault}
use Rattle.osm_commands.specs.declared.command_fault.CommandFault.TheVariants.{Query}

-- the file holds a set, the bytes read as a query, and this is the document of its meaning over the set, in this form
pub record IsAnswer (form : Form) (file query document : List ℕ) : Type 0 where
  pub set : List Element
  pub holds : HoldsSet file set
  pub statements : Statements
  pub reads : Reads query statements
  pub text : List ℕ
  pub means : Means_by (form_text form) set statements text
  pub around : document ≡ document_in form text

-- the edition in which `ask` makes and checks a proof
abbrev pub ask_edition : Edition
ask_edition = Two 0

-- the file holds a set whose trees can be made in this edition: few enough entries, and no two different nodes
-- with one digest
pub record HoldsTrees (file : List ℕ) (edition : Edition) : Type 0 where
  pub p : Publication
  pub published : IsPublicationIn file edition p
  pub no_clash : IsClashFree (IsNodeIn p)

-- why each fault comes: the input, of which this is left, is looked at first, then its trees, and then the query
abbrev pub Explains : (file : List ℕ) (left : Option (List ℕ)) (edition : Edition) (query : List ℕ) → CommandFault → Type 0
Explains file left edition query (Query refused) = HoldsTrees file edition × HasFault query refused
Explains file left edition query fault = ExplainsTrees file left edition fault

-- the output has gained nothing, or a beginning of the answer
abbrev pub IsBegun : Form → (file query : List ℕ) (old new : Option (List ℕ)) → Type 0
IsBegun form file query old new = Keeps old new ⊎ ((document : List ℕ) × IsAnswer form file query document × AppendsFront old new document)
