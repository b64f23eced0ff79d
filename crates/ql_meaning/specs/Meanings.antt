-- What a query means over a plain list of objects: which sets its statements write, and what it prints.
-- Source: the Overpass QL page of the OpenStreetMap wiki, "Statements" and "Sets"; that an answer is OPL, that
-- each out prints by kind and rising id, and which sets a union and a difference take, is this project's.
use Rattle.std.specs.Prelude.{◌≡◌, ℕ, Bool, List, [], ◌++◌, Option, Some, None, filter, flat_map, take}
use Rattle.std.specs.List.{Contains, list_any}
use Rattle.std.specs.Ordering.{eq_by_cmp}
use Rattle.osm_model.specs.Elements.{Element, ref_cmp, reference}
use Rattle.osm_model.specs.declared.reference.Ref.{Ref}
use Rattle.opl_codec.specs.Text.{text_of}
use Rattle.osm_model.specs.declared.out_mode.OutMode.{OutMode}
use Rattle.ql_syntax.specs.Statements.{Statement, Statements, Select, Recurse, Item, Union, Minus, Print, End, Then}
use Rattle.ref_sets.specs.NamedSets.{Env, nothing_named, put}
use Rattle.ref_sets.specs.Sets.{IsSetOf}
use Rattle.ql_meaning.specs.Values.{IsReached, IsRefOf, IsSelected}

-- ---- sets that statements write

-- the set of the references of which this is so is given this name
abbrev pub Writes : List ℕ → (Ref → Type 0) → Env → Env → Type 0
Writes into P env later = (refs : List Ref) × IsSetOf refs P × (later ≡ put into refs env)

-- ---- what is printed

abbrev pub is_in : List Ref → Element → Bool
is_in refs o = list_any (λ r. eq_by_cmp ref_cmp r (reference o)) refs

-- at most so many
abbrev pub cut : {A : Type 0} → Option ℕ → List A → List A
cut None xs = xs
cut (Some most) xs = take most xs

-- how an object is told in a mode
abbrev pub Telling : Type 0
Telling = Element → OutMode → List ℕ

-- the texts of these objects, one after the other
abbrev pub printed_by : Telling → OutMode → List Element → List ℕ
printed_by tell mode objects = flat_map (λ o. tell o mode) objects

-- the objects of a set, in the order of the list, at most so many, each in this mode
abbrev pub printed_of_by : Telling → List Element → List Ref → OutMode → Option ℕ → List ℕ
printed_of_by tell objects refs mode limit = printed_by tell mode (cut limit (filter (λ o. is_in refs o) objects))

-- what a statement prints: nothing but where it is an out
abbrev pub told_by : Telling → List Element → Statement → Env → List ℕ
told_by tell objects (Select pick filters into) env = []
told_by tell objects (Recurse start how into) env = []
told_by tell objects (Item start into) env = []
told_by tell objects (Union parts into) env = []
told_by tell objects (Minus left right into) env = []
told_by tell objects (Print start mode limit) env = printed_of_by tell objects (env start) mode limit

-- the same in OPL
abbrev pub printed : OutMode → List Element → List ℕ
printed mode objects = printed_by text_of mode objects

abbrev pub printed_of : List Element → List Ref → OutMode → Option ℕ → List ℕ
printed_of objects refs mode limit = printed_of_by text_of objects refs mode limit

abbrev pub told : List Element → Statement → Env → List ℕ
told objects statement env = told_by text_of objects statement env

-- ---- statements

-- the set that a statement wrote, as it stands then
abbrev pub given_by : Statement → Env → List Ref
given_by (Select pick filters into) env = env into
given_by (Recurse start how into) env = env into
given_by (Item start into) env = env into
given_by (Union parts into) env = env into
given_by (Minus left right into) env = env into
given_by (Print start mode limit) env = []

abbrev mutual
  -- the named sets before a statement, and those after it
  pub After : List Element → Statement → Env → Env → Type 0
  After objects (Select pick filters into) env later = Writes into (IsRefOf objects (IsSelected objects env pick filters)) env later
  After objects (Recurse start how into) env later = Writes into (IsRefOf objects (IsReached objects how (env start))) env later
  After objects (Item start into) env later = later ≡ put into (env start) env
  After objects (Union parts into) env later = (mid : Env) × (given : List Ref) × AfterAll objects parts env mid given × Writes into (Contains given) mid later
  After objects (Minus left right into) env later =
      (first second : Env) × After objects left env first × After objects right first second
      × Writes into (λ r. Contains (given_by left first) r × ¬ (Contains (given_by right second) r)) second later
  After objects (Print start mode limit) env later = later ≡ env

  -- the same of several in a row, with the sets that they wrote, each as it stood when its statement had ended
  pub AfterAll : List Element → Statements → Env → Env → List Ref → Type 0
  AfterAll objects End env later given = (later ≡ env) × (given ≡ [])
  AfterAll objects (Then part parts) env later given =
      (mid : Env) × (others : List Ref) × After objects part env mid × AfterAll objects parts mid later others × (given ≡ given_by part mid ++ others)

-- ---- queries

-- the text is what these statements print, one after the other
abbrev pub Prints_by : Telling → List Element → Statements → Env → List ℕ → Type 0
Prints_by tell objects End env text = text ≡ []
Prints_by tell objects (Then statement statements) env text =
    (later : Env) × (more : List ℕ) × After objects statement env later × Prints_by tell objects statements later more × (text ≡ told_by tell objects statement env ++ more)

-- the text is the meaning of the query over these objects, told so
abbrev pub Means_by : Telling → List Element → Statements → List ℕ → Type 0
Means_by tell objects statements text = Prints_by tell objects statements nothing_named text

-- the same in OPL
abbrev pub Prints : List Element → Statements → Env → List ℕ → Type 0
Prints objects statements env text = Prints_by text_of objects statements env text

abbrev pub Means : List Element → Statements → List ℕ → Type 0
Means objects statements text = Means_by text_of objects statements text
