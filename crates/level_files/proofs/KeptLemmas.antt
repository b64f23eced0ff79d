-- A level that gets a node.
use Rattle.std.proofs.Common.{◌≡◌, ◌∙◌, sym, ap, ℕ, ◌+◌, List, [], ◌∷◌, ◌++◌, length}
use Rattle.level_files.specs.internal.Keeping.{AreNodes, IsKept}
use Rattle.level_files.specs.internal.Rows.{IsShort, nodes_of, row_of}
use Rattle.level_files.proofs.RowLemmas.{are_more, nodes_are}

-- what both runs in hand hold after a node was added, and that it was added
pub record GetsNode (count size count' size' : ℕ) (rows bytes rows' bytes' : List ℕ) (node : List ℕ) : Type 0 where
  pub short : IsShort node
  pub number : count' ≡ count + 1
  pub size_is : size' ≡ size + length node
  pub rows_are : rows' ≡ rows ++ row_of node
  pub bytes_are : bytes' ≡ bytes ++ node

more : (count size count' size' : ℕ) (rows bytes rows' bytes' : List ℕ) (nodes : List (List ℕ)) (node : List ℕ)
    → AreNodes count size rows bytes nodes → GetsNode count size count' size' rows bytes rows' bytes' node → AreNodes count' size' rows' bytes' (nodes ++ node ∷ [])
more count size count' size' rows bytes rows' bytes' nodes node are gets =
    let next = are_more count size rows bytes nodes node are gets.short in
    record {
      number = next.number ∙ sym gets.number;
      short = next.short;
      rows_are = gets.rows_are ∙ next.rows_are;
      bytes_are = gets.bytes_are ∙ next.bytes_are;
      size_is = gets.size_is ∙ next.size_is;
    }

pub kept_more : (count size count' size' : ℕ) (rows bytes rows' bytes' : List ℕ) (er eb er' eb' : List (List ℕ)) (node : List ℕ)
    → IsKept count size rows bytes er eb → GetsNode count size count' size' rows bytes rows' bytes' node → er' ≡ er → eb' ≡ eb → IsKept count' size' rows' bytes' er' eb'
kept_more count size count' size' rows bytes rows' bytes' er eb er' eb' node kept gets same_rows same_bytes = record {
  nodes = kept.nodes ++ node ∷ [];
  are = more count size count' size' rows bytes rows' bytes' kept.nodes node kept.are gets;
  no_rows = same_rows ∙ kept.no_rows;
  no_bytes = same_bytes ∙ kept.no_bytes;
}

pub nodes_more : (count size count' size' : ℕ) (rows bytes rows' bytes' : List ℕ) (er eb : List (List ℕ)) (node : List ℕ)
    → IsKept count size rows bytes er eb → GetsNode count size count' size' rows bytes rows' bytes' node → nodes_of count' rows' bytes' ≡ nodes_of count rows bytes ++ node ∷ []
nodes_more count size count' size' rows bytes rows' bytes' er eb node kept gets =
    nodes_are count' size' rows' bytes' (kept.nodes ++ node ∷ []) (more count size count' size' rows bytes rows' bytes' kept.nodes node kept.are gets)
    ∙ ap (λ (ns : List (List ℕ)). ns ++ node ∷ []) (sym (nodes_are count size rows bytes kept.nodes kept.are))
