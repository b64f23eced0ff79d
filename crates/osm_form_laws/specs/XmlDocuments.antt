-- XML documents of elements, attributes and line ends: no comments, no processing instructions but the declaration, no
-- other character data.
-- Source: XML 1.0, fifth edition, sections 2.1 (documents), 2.2 (characters), 2.3 (names, attribute values), 2.8 (the
-- declaration), 3.1 (tags; a name of an attribute comes once), 3.3.3 (literal blanks in a value), 4.1 and 4.6 (references).
use Rattle.std.specs.Prelude.{◌≡◌, ◌≢◌, ℕ, ◌≤◌, ◌⊎◌, List, [], ◌∷◌, ◌++◌, map, flat_map, codes, encode_utf8, ⊤}
use Rattle.std.specs.List.{AllByRecursion}
use Rattle.std.specs.Str.Parse.{digits_value}
use Rattle.osm_model.specs.Bytes.{carriage_return, double_quote, greater_than, less_than, line_feed, semicolon, space, tab}
use Rattle.osm_model.specs.Degrees.{IsDigits}
use Rattle.osm_forms.specs.XmlText.{ampersand}

-- ---- attribute values

-- a character that XML holds: tab, LF, CR, and all from the space on but the surrogates, U+FFFE and U+FFFF
pub data IsXmlCharacter (c : ℕ) : Type 0 where
  Tab : c ≡ tab → IsXmlCharacter c
  LineFeed : c ≡ line_feed → IsXmlCharacter c
  CarriageReturn : c ≡ carriage_return → IsXmlCharacter c
  Low : space ≤ c → c ≤ 0xD7FF → IsXmlCharacter c
  High : 0xE000 ≤ c → c ≤ 0xFFFD → IsXmlCharacter c
  Beyond : 0x1_0000 ≤ c → c ≤ 0x10_FFFF → IsXmlCharacter c

-- how one character of a value is written between double quotes: as it stands, as one of the entities that every reader
-- knows, or by its number in decimal digits
pub data Written : Type 0 where
  Itself : ℕ → Written
  Ampersand : Written
  LessThan : Written
  GreaterThan : Written
  Quote : Written
  Numbered : List ℕ → Written

-- an ampersand, a `<` and the quote can't stand as they are, and a literal blank but the space would be read as a space
abbrev pub IsWritten : Written → Type 0
IsWritten (Itself c) = IsXmlCharacter c × (c ≢ ampersand) × (c ≢ less_than) × (c ≢ double_quote) × (space ≤ c)
IsWritten Ampersand = ⊤
IsWritten LessThan = ⊤
IsWritten GreaterThan = ⊤
IsWritten Quote = ⊤
IsWritten (Numbered digits) = IsDigits digits × IsXmlCharacter (digits_value 10 digits)

abbrev pub spelling : Written → List ℕ
spelling (Itself c) = encode_utf8 c
spelling Ampersand = codes "&amp;"
spelling LessThan = codes "&lt;"
spelling GreaterThan = codes "&gt;"
spelling Quote = codes "&quot;"
spelling (Numbered digits) = codes "&#" ++ (digits ++ semicolon ∷ [])

abbrev pub meaning : Written → ℕ
meaning (Itself c) = c
meaning Ampersand = ampersand
meaning LessThan = less_than
meaning GreaterThan = greater_than
meaning Quote = double_quote
meaning (Numbered digits) = digits_value 10 digits

-- the bytes spell these characters
pub record SpellsValue (text characters : List ℕ) : Type 0 where
  pub written : List Written
  pub are : AllByRecursion IsWritten written
  pub text_is : text ≡ flat_map spelling written
  pub characters_are : characters ≡ map meaning written

-- ---- elements

-- a name of letters from `a` to `z`
abbrev pub IsName : List ℕ → Type 0
IsName name = (name ≢ []) × AllByRecursion (λ b. (97 ≤ b) × (b ≤ 122)) name

-- an attribute: its name, and the characters of its value
pub record Attribute : Type 0 where
  pub name : List ℕ
  pub value : List ℕ

-- an element: its name, its attributes, and what it holds
mutual
  pub data Tree : Type 0 where
    element : List ℕ → List Attribute → Content → Tree

  pub data Content : Type 0 where
    nothing : Content
    line_end : Content → Content
    child : Tree → Content → Content

-- ` name="value"`
pub record SpellsAttribute (text : List ℕ) (a : Attribute) : Type 0 where
  pub value : List ℕ
  pub named : IsName a.name
  pub spelled : SpellsValue value a.value
  pub text_is : text ≡ space ∷ (a.name ++ (codes "=\"" ++ (value ++ double_quote ∷ [])))

abbrev pub SpellsAttributes : List ℕ → List Attribute → Type 0
SpellsAttributes text [] = text ≡ []
SpellsAttributes text (a ∷ more) = (first rest : List ℕ) × (text ≡ first ++ rest) × SpellsAttribute first a × SpellsAttributes rest more

-- no two attributes have one name
abbrev pub HasDistinctNames : List Attribute → Type 0
HasDistinctNames [] = ⊤
HasDistinctNames (a ∷ more) = AllByRecursion (λ (b : Attribute). a.name ≢ b.name) more × HasDistinctNames more

-- a start tag with these attributes, what the element holds, and an end tag
abbrev pub with_tags : List ℕ → List ℕ → List ℕ → List ℕ
with_tags name attributes inside = less_than ∷ (name ++ (attributes ++ (greater_than ∷ (inside ++ (codes "</" ++ (name ++ greater_than ∷ []))))))

-- one tag, of an element that holds nothing
abbrev pub one_tag : List ℕ → List ℕ → List ℕ
one_tag name attributes = less_than ∷ (name ++ (attributes ++ codes "/>"))

abbrev pub HasTags : List ℕ → List ℕ → List ℕ → List ℕ → Type 0
HasTags text name attributes inside = (text ≡ with_tags name attributes inside) ⊎ ((inside ≡ []) × (text ≡ one_tag name attributes))

abbrev mutual
  pub SpellsTree : List ℕ → Tree → Type 0
  SpellsTree text (element name attributes content) =
      (spelled inside : List ℕ) × IsName name × SpellsAttributes spelled attributes × HasDistinctNames attributes × SpellsContent inside content × HasTags text name spelled inside

  pub SpellsContent : List ℕ → Content → Type 0
  SpellsContent text nothing = text ≡ []
  SpellsContent text (line_end content) = (rest : List ℕ) × (text ≡ line_feed ∷ rest) × SpellsContent rest content
  SpellsContent text (child tree content) = (first rest : List ℕ) × (text ≡ first ++ rest) × SpellsTree first tree × SpellsContent rest content

-- ---- documents

-- the declaration, the one root element, and line ends after each
pub record SpellsXml (text : List ℕ) (root : Tree) : Type 0 where
  pub root_text : List ℕ
  pub spelled : SpellsTree root_text root
  pub text_is : text ≡ codes "<?xml version=\"1.0\" encoding=\"UTF-8\"?>" ++ (line_feed ∷ (root_text ++ line_feed ∷ []))
