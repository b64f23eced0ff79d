-- Reading from pieces.
-- Source: this project.
use Rattle.std.specs.List.{AllByRecursion, Contains}
use Rattle.std.specs.List.Sorted.{IsStrictlySortedBy}
use Rattle.std.specs.Prelude.{◌≡◌, ◌+◌, ◌↔◌, ℕ, List, [], ◌∷◌, drop, length, take}
use Rattle.osm_query_web.specs.Pieces.{AreApart, IsTable, IsWanted}
use Rattle.osm_query_web.specs.Spans.{in_span, span_cmp, spans_in}
use Rattle.osm_query_web.specs.declared.piece.Piece.{Piece}
use Rattle.osm_query_web.specs.declared.pieces.Pieces.{Pieces}
use Rattle.osm_query_web.specs.declared.span.Span.{Span}

-- the pieces in these spans, whose bytes stand one after the other from `at` on
abbrev pub pieces_from : ℕ → List Span → List Piece
pieces_from at [] = []
pieces_from at (span ∷ spans) = record { span = span; at = at } ∷ pieces_from (at + span.len) spans

-- they are the pieces in these spans
pub record AreOf (spans : List Span) (pieces : Pieces) : Type 0 where
  pub apart : AreApart pieces.size 0 spans
  pub are : pieces.pieces.items ≡ pieces_from 0 spans

-- they are those of a table, and these are their bytes
pub record AreReadFrom (size : ℕ) (table bytes : List ℕ) (pieces : Pieces) : Type 0 where
  pub is_table : IsTable size (length bytes) table
  pub size_is : pieces.size ≡ size
  pub bytes_are : pieces.bytes.now ≡ bytes
  pub are : AreOf (spans_in table) pieces

-- the bytes of a piece are those in its span of the file
abbrev pub IsPieceOf : (bytes file : List ℕ) → Piece → Type 0
IsPieceOf bytes file piece = take piece.span.len (drop piece.at bytes) ≡ in_span file piece.span

-- the file has the size that is known of it, and the pieces are those of it
pub record ArePiecesOf (pieces : Pieces) (file : List ℕ) : Type 0 where
  pub size_is : length file ≡ pieces.size
  pub each : AllByRecursion (IsPieceOf pieces.bytes.now file) pieces.pieces.items

-- just those spans of the noted ones that are wanted
abbrev pub AreWantedAmong : (size : ℕ) (spans noted wanted : List Span) → Type 0
AreWantedAmong size spans noted wanted = (span : Span) → Contains wanted span ↔ (Contains noted span × IsWanted size spans span)

-- the same, in order, each once
pub record AreWantedOf (size : ℕ) (spans noted wanted : List Span) : Type 0 where
  pub rising : IsStrictlySortedBy span_cmp wanted
  pub members : AreWantedAmong size spans noted wanted
