-- What verdicts say of a publication, and that one at most is true of it.
use Rattle.std.proofs.Common.{◌≡◌, ◌≢◌, ◌⊎◌, inl, inr, ℕ, zero, suc, ◌<◌, List, [], ◌∷◌, length, take, Result, Ok, Err, IfOk, refl, sym, ◌∙◌, ap, subst, arith, get_or}
use Rattle.std.specs.List.{Contains, slice_get}
use Rattle.std.proofs.lemmas.Bool.{cases_lt, cases_order}
use Rattle.std.proofs.lemmas.List.{get_or_read}
use Rattle.ql_syntax.specs.Queries.{HasFault, Reads, memory_fault}
use Rattle.ql_syntax.specs.Statements.{Statements}
use Rattle.ql_syntax.specs.declared.cause.QlCause.TheVariants as causes
use Rattle.ql_syntax.specs.declared.fault.QlFault.{QlFault}
use Rattle.ql_syntax.proofs.shared.QueryLaws.{one_query, reads_or_not, one_fault}
use Rattle.ql_meaning.specs.Meanings.{Means}
use Rattle.ql_meaning.proofs.shared.Laws.{one_meaning}
use Rattle.tree_node.specs.Digests.{digest}
use Rattle.tree_node.specs.Order.{IsBelow}
use Rattle.tree_node.specs.Outcomes.{Clash}
use Rattle.tree_node.specs.internal.OrderLemmas.{not_itself}
use Rattle.osm_keys.specs.Publications.{IsNodeIn, IsPublication, Publication, root_of}
use Rattle.ql_eval.specs.Asks.{IsNeeded}
use Rattle.ql_eval.specs.declared.evaluation.Report.{Report}
use Rattle.osm_prove.specs.Proofs.{AreRising, IsProof, Lists}
use Rattle.osm_prove.specs.Proved.{IsProved}
use Rattle.osm_prove.proofs.shared.ListingLaws.{one_listing}
use Rattle.osm_check.specs.Matching.{IsFirstDifference}
use Rattle.osm_check.specs.Verdicts.{AreAlike, HasMissing, HasOtherAnswer, HasUnused, IsRisingProof, IsVerdict, IsWalked, IsWhole, IsYes, StandsIn, TellsOf}
use Rattle.osm_check.specs.declared.verdict.Verdict.{Verdict}
use Rattle.osm_check.specs.declared.verdict.Verdict.TheVariants.{Yes, No}
use Rattle.osm_check.specs.declared.why.Why.TheVariants.{QueryRefused, ProofMalformed, ProofNotRising, NodeMissing, NodeMalformed, NodesDisagree, EntriesDisagree, NodeUnused, AnswerDiffers}
use Rattle.osm_prove.proofs.shared.NeededNodes.{needed_in}

-- ---- one first difference

get_of_take : {X : Type 0} (m n : ℕ) (xs : List X) → m < n → slice_get (take n xs) m ≡ slice_get xs m
get_of_take m zero xs lt = absurd (omega arith)
get_of_take m (suc n) [] lt = refl
get_of_take zero (suc n) (x ∷ xs) lt = refl
get_of_take (suc m) (suc n) (x ∷ xs) lt = get_of_take m n xs (omega arith)

-- below a first difference the texts are alike
alike_below : (first second : List ℕ) (m n : ℕ) → m < n → take n first ≡ take n second → slice_get first m ≡ slice_get second m
alike_below first second m n lt e = sym (get_of_take m n first lt) ∙ ap (λ (l : List ℕ). slice_get l m) e ∙ get_of_take m n second lt

one_difference : (first second : List ℕ) (m n : ℕ) → IsFirstDifference first second m → IsFirstDifference first second n → m ≡ n
one_difference first second m n h k = elim (cases_lt m n) [
  | inl less ↦ absurd (h.differ (alike_below first second m n less k.alike))
  | inr more ↦ elim (cases_lt n m) [ inl less ↦ absurd (k.differ (alike_below first second n m less h.alike)) | inr same ↦ omega arith ]
]

no_difference : (text : List ℕ) (n : ℕ) → IsFirstDifference text text n → ⊥
no_difference text n h = h.differ refl

-- ---- the nodes of a proof

-- no two nodes of a proof have one digest
pub no_twins : (nodes : List (List ℕ)) → AreRising nodes → (a b : List ℕ) → Contains nodes a → Contains nodes b → digest a ≡ digest b → a ≡ b
no_twins nodes rising a b p q e =
    elim (cases_order p.0 q.0) [
      | inl same ↦ get_or_read nodes p.0 a p.1 (sym p.2) b ∙ ap (λ i. get_or nodes i b) same ∙ q.2
      | inr (inl lt) ↦ absurd (not_itself (digest a) (digest b) (between p.0 q.0 a b q.1 p.1 p.2 q.2 lt) e)
      | inr (inr gt) ↦ absurd (not_itself (digest b) (digest a) (between q.0 p.0 b a p.1 q.1 q.2 p.2 gt) (sym e))
    ]
  where
    between : (i j : ℕ) (x y : List ℕ) → j < length nodes → i < length nodes → get_or nodes i x ≡ x → get_or nodes j y ≡ y → i < j → IsBelow (digest x) (digest y)
    between i j x y ltj lti isx isy lt =
        let h = rising i j x lt ltj in
        let ey : get_or nodes j x ≡ y = sym (get_or_read nodes j y ltj (sym isy) x) in
        rw isx at (rw ey at h)

-- what stands in a proof is one of the nodes that it lists
pub stands_among : (proof node : List ℕ) (nodes : List (List ℕ)) → Lists proof nodes → StandsIn proof node → Contains nodes node
stands_among proof node nodes lists (others, again, is) = subst (λ (ns : List (List ℕ)). Contains ns node) (one_listing proof others nodes again lists) is

-- ---- what a verdict tells of one publication

module _ (query answer proof : List ℕ) (p : Publication) (is : IsPublication p) where
  -- a node that the query needs and one of the proof are two with one digest
  abbrev pub Clashes : Type 0
  Clashes = (statements : Statements) × (nodes : List (List ℕ)) × IsWhole query proof statements nodes × Clash (IsNeeded p statements) (Contains nodes)

  of_walked : (verdict : Verdict) → IsWalked query (root_of p) answer proof verdict → TellsOf p query answer proof verdict ⊎ Clashes
  of_walked (Yes report) w = elim (w.tells p is refl) [
    | inl told ↦ inl (record { statements = w.statements; reads = w.whole.reads; means = told.1; proof_is = record { nodes = w.nodes; lists = w.whole.lists; rising = w.whole.rising; needed = told.0 } })
    | inr clash ↦ inr (w.statements, w.nodes, w.whole, clash)
  ]
  of_walked (No NodeMissing) w = elim (w.tells p is refl) [
    | inl told ↦ inl ((w.nodes, w.whole.lists, w.whole.rising), record { statements = w.statements; reads = w.whole.reads; node = told.0; needed = told.1; missing = λ stands. told.2 (stands_among proof told.0 w.nodes w.whole.lists stands) })
    | inr clash ↦ inr (w.statements, w.nodes, w.whole, clash)
  ]
  of_walked (No NodeUnused) w = elim (w.tells p is refl) [
    | inl told ↦ inl ((w.nodes, w.whole.lists, w.whole.rising), record { statements = w.statements; reads = w.whole.reads; all = λ node needed. (w.nodes, w.whole.lists, told.0 node needed); node = told.1; stands = (w.nodes, w.whole.lists, told.2); unneeded = told.3 })
    | inr clash ↦ inr (w.statements, w.nodes, w.whole, clash)
  ]
  of_walked (No (AnswerDiffers byte)) w = elim (w.tells p is refl) [
    | inl told ↦ inl (record { meaning = told.1; proved = record { statements = w.statements; reads = w.whole.reads; means = told.2; proof_is = record { nodes = w.nodes; lists = w.whole.lists; rising = w.whole.rising; needed = told.0 } }; place = told.3 })
    | inr clash ↦ inr (w.statements, w.nodes, w.whole, clash)
  ]
  of_walked (No NodeMalformed) w = elim (w.tells p is refl) [ inl never ↦ absurd never | inr clash ↦ inr (w.statements, w.nodes, w.whole, clash) ]
  of_walked (No NodesDisagree) w = elim (w.tells p is refl) [ inl never ↦ absurd never | inr clash ↦ inr (w.statements, w.nodes, w.whole, clash) ]
  of_walked (No EntriesDisagree) w = elim (w.tells p is refl) [ inl never ↦ absurd never | inr clash ↦ inr (w.statements, w.nodes, w.whole, clash) ]
  of_walked (No ProofMalformed) w = elim (w.tells p is refl) [ inl never ↦ absurd never | inr clash ↦ inr (w.statements, w.nodes, w.whole, clash) ]
  of_walked (No ProofNotRising) w = elim (w.tells p is refl) [ inl never ↦ absurd never | inr clash ↦ inr (w.statements, w.nodes, w.whole, clash) ]
  of_walked (No (QueryRefused fault)) w = elim (w.tells p is refl) [ inl never ↦ absurd never | inr clash ↦ inr (w.statements, w.nodes, w.whole, clash) ]

  pub tells_or_clashes : (verdict : Verdict) → IsVerdict query (root_of p) answer proof verdict → TellsOf p query answer proof verdict ⊎ Clashes
  tells_or_clashes (Yes report) w = of_walked (Yes report) w
  tells_or_clashes (No NodeMissing) w = of_walked (No NodeMissing) w
  tells_or_clashes (No NodeMalformed) w = of_walked (No NodeMalformed) w
  tells_or_clashes (No NodesDisagree) w = of_walked (No NodesDisagree) w
  tells_or_clashes (No EntriesDisagree) w = of_walked (No EntriesDisagree) w
  tells_or_clashes (No NodeUnused) w = of_walked (No NodeUnused) w
  tells_or_clashes (No (AnswerDiffers byte)) w = of_walked (No (AnswerDiffers byte)) w
  tells_or_clashes (No (QueryRefused fault)) h = inl h
  tells_or_clashes (No ProofMalformed) h = inl h
  tells_or_clashes (No ProofNotRising) h = inl h

  -- the first of the two is a node of the publication
  as_clash : Clashes → Clash (IsNodeIn p) (StandsIn proof)
  as_clash (statements, nodes, whole, (a, b, needed, stands, differ, same)) = (a, b, needed_in p statements a needed, (nodes, whole.lists, stands), differ, same)

  pub under_root : (verdict : Verdict) → IsVerdict query (root_of p) answer proof verdict → TellsOf p query answer proof verdict ⊎ Clash (IsNodeIn p) (StandsIn proof)
  under_root verdict h = elim (tells_or_clashes verdict h) [ inl tells ↦ inl tells | inr clashes ↦ inr (as_clash clashes) ]

-- ---- one verdict

-- a query with a fault doesn't read
refuses : (query : List ℕ) (fault : QlFault) → HasFault query fault → (statements : Statements) → Reads query statements → ⊥
refuses query fault f statements reads = reads_or_not query statements fault reads f

module _ (query answer proof : List ℕ) (p : Publication) (is : IsPublication p) where
  -- the proof of a query lists nodes by rising digest
  rises : (text : List ℕ) → IsProved p query text proof → IsRisingProof proof
  rises text h = (h.proof_is.nodes, h.proof_is.lists, h.proof_is.rising)

  -- it lacks none that is needed,
  lacks_none : (text : List ℕ) → IsProved p query text proof → HasMissing p query proof → ⊥
  lacks_none text h m =
      let one : m.statements ≡ h.statements = one_query query m.statements h.statements m.reads h.reads in
      m.missing (h.proof_is.nodes, h.proof_is.lists, (h.proof_is.needed m.node).1 (subst (λ (s : Statements). IsNeeded p s m.node) one m.needed))

  -- and holds no other
  holds_no_other : (text : List ℕ) → IsProved p query text proof → HasUnused p query proof → ⊥
  holds_no_other text h u =
      let one : h.statements ≡ u.statements = one_query query h.statements u.statements h.reads u.reads in
      u.unneeded (subst (λ (s : Statements). IsNeeded p s u.node) one ((h.proof_is.needed u.node).0 (stands_among proof u.node h.proof_is.nodes h.proof_is.lists u.stands)))

  missing_or_unused : HasMissing p query proof → HasUnused p query proof → ⊥
  missing_or_unused m u =
      let one : m.statements ≡ u.statements = one_query query m.statements u.statements m.reads u.reads in
      m.missing (u.all m.node (subst (λ (s : Statements). IsNeeded p s m.node) one m.needed))

  -- a query has one meaning
  same_meaning : (first second : List ℕ) → IsProved p query first proof → IsProved p query second proof → first ≡ second
  same_meaning first second h k =
      let one : h.statements ≡ k.statements = one_query query h.statements k.statements h.reads k.reads in
      one_meaning p.objects k.statements first second is.set (subst (λ (s : Statements). Means p.objects s first) one h.means) k.means

  right_or_other : (byte : ℕ) → IsProved p query answer proof → HasOtherAnswer p query answer proof byte → ⊥
  right_or_other byte h o = no_difference o.meaning byte (subst (λ (t : List ℕ). IsFirstDifference t o.meaning byte) (same_meaning answer o.meaning h o.proved) o.place)

  one_byte : (m n : ℕ) → HasOtherAnswer p query answer proof m → HasOtherAnswer p query answer proof n → m ≡ n
  one_byte m n h k = one_difference answer k.meaning m n (subst (λ (t : List ℕ). IsFirstDifference answer t m) (same_meaning h.meaning k.meaning h.proved k.proved) h.place) k.place

  proof_is : IsRisingProof proof → IsProof proof
  proof_is rising = (rising.0, rising.1)

  -- each reason denies those that are looked at before it
  pub one_verdict : (first second : Verdict) → TellsOf p query answer proof first → TellsOf p query answer proof second → AreAlike first second
  one_verdict (Yes r) (Yes s) h k = tt
  one_verdict (Yes r) (No (QueryRefused g)) h k = absurd (refuses query g k h.statements h.reads)
  one_verdict (Yes r) (No ProofMalformed) h k = absurd (k.1 (proof_is (rises answer h)))
  one_verdict (Yes r) (No ProofNotRising) h k = absurd (k.2 (rises answer h))
  one_verdict (Yes r) (No NodeMissing) h k = absurd (lacks_none answer h k.1)
  one_verdict (Yes r) (No NodeUnused) h k = absurd (holds_no_other answer h k.1)
  one_verdict (Yes r) (No (AnswerDiffers n)) h k = absurd (right_or_other n h k)
  one_verdict (Yes r) (No NodeMalformed) h k = absurd k
  one_verdict (Yes r) (No NodesDisagree) h k = absurd k
  one_verdict (Yes r) (No EntriesDisagree) h k = absurd k
  one_verdict (No (QueryRefused f)) (Yes s) h k = absurd (refuses query f h k.statements k.reads)
  one_verdict (No (QueryRefused f)) (No (QueryRefused g)) h k = ap QueryRefused (one_fault query f g h k)
  one_verdict (No (QueryRefused f)) (No ProofMalformed) h k = absurd (refuses query f h k.0.0 k.0.1)
  one_verdict (No (QueryRefused f)) (No ProofNotRising) h k = absurd (refuses query f h k.0.0 k.0.1)
  one_verdict (No (QueryRefused f)) (No NodeMissing) h k = absurd (refuses query f h k.1.statements k.1.reads)
  one_verdict (No (QueryRefused f)) (No NodeUnused) h k = absurd (refuses query f h k.1.statements k.1.reads)
  one_verdict (No (QueryRefused f)) (No (AnswerDiffers n)) h k = absurd (refuses query f h k.proved.statements k.proved.reads)
  one_verdict (No (QueryRefused f)) (No NodeMalformed) h k = absurd k
  one_verdict (No (QueryRefused f)) (No NodesDisagree) h k = absurd k
  one_verdict (No (QueryRefused f)) (No EntriesDisagree) h k = absurd k
  one_verdict (No ProofMalformed) (Yes s) h k = absurd (h.1 (proof_is (rises answer k)))
  one_verdict (No ProofMalformed) (No (QueryRefused g)) h k = absurd (refuses query g k h.0.0 h.0.1)
  one_verdict (No ProofMalformed) (No ProofMalformed) h k = refl
  one_verdict (No ProofMalformed) (No ProofNotRising) h k = absurd (h.1 k.1)
  one_verdict (No ProofMalformed) (No NodeMissing) h k = absurd (h.1 (proof_is k.0))
  one_verdict (No ProofMalformed) (No NodeUnused) h k = absurd (h.1 (proof_is k.0))
  one_verdict (No ProofMalformed) (No (AnswerDiffers n)) h k = absurd (h.1 (proof_is (rises k.meaning k.proved)))
  one_verdict (No ProofMalformed) (No NodeMalformed) h k = absurd k
  one_verdict (No ProofMalformed) (No NodesDisagree) h k = absurd k
  one_verdict (No ProofMalformed) (No EntriesDisagree) h k = absurd k
  one_verdict (No ProofNotRising) (Yes s) h k = absurd (h.2 (rises answer k))
  one_verdict (No ProofNotRising) (No (QueryRefused g)) h k = absurd (refuses query g k h.0.0 h.0.1)
  one_verdict (No ProofNotRising) (No ProofMalformed) h k = absurd (k.1 h.1)
  one_verdict (No ProofNotRising) (No ProofNotRising) h k = refl
  one_verdict (No ProofNotRising) (No NodeMissing) h k = absurd (h.2 k.0)
  one_verdict (No ProofNotRising) (No NodeUnused) h k = absurd (h.2 k.0)
  one_verdict (No ProofNotRising) (No (AnswerDiffers n)) h k = absurd (h.2 (rises k.meaning k.proved))
  one_verdict (No ProofNotRising) (No NodeMalformed) h k = absurd k
  one_verdict (No ProofNotRising) (No NodesDisagree) h k = absurd k
  one_verdict (No ProofNotRising) (No EntriesDisagree) h k = absurd k
  one_verdict (No NodeMissing) (Yes s) h k = absurd (lacks_none answer k h.1)
  one_verdict (No NodeMissing) (No (QueryRefused g)) h k = absurd (refuses query g k h.1.statements h.1.reads)
  one_verdict (No NodeMissing) (No ProofMalformed) h k = absurd (k.1 (proof_is h.0))
  one_verdict (No NodeMissing) (No ProofNotRising) h k = absurd (k.2 h.0)
  one_verdict (No NodeMissing) (No NodeMissing) h k = refl
  one_verdict (No NodeMissing) (No NodeUnused) h k = absurd (missing_or_unused h.1 k.1)
  one_verdict (No NodeMissing) (No (AnswerDiffers n)) h k = absurd (lacks_none k.meaning k.proved h.1)
  one_verdict (No NodeMissing) (No NodeMalformed) h k = absurd k
  one_verdict (No NodeMissing) (No NodesDisagree) h k = absurd k
  one_verdict (No NodeMissing) (No EntriesDisagree) h k = absurd k
  one_verdict (No NodeUnused) (Yes s) h k = absurd (holds_no_other answer k h.1)
  one_verdict (No NodeUnused) (No (QueryRefused g)) h k = absurd (refuses query g k h.1.statements h.1.reads)
  one_verdict (No NodeUnused) (No ProofMalformed) h k = absurd (k.1 (proof_is h.0))
  one_verdict (No NodeUnused) (No ProofNotRising) h k = absurd (k.2 h.0)
  one_verdict (No NodeUnused) (No NodeMissing) h k = absurd (missing_or_unused k.1 h.1)
  one_verdict (No NodeUnused) (No NodeUnused) h k = refl
  one_verdict (No NodeUnused) (No (AnswerDiffers n)) h k = absurd (holds_no_other k.meaning k.proved h.1)
  one_verdict (No NodeUnused) (No NodeMalformed) h k = absurd k
  one_verdict (No NodeUnused) (No NodesDisagree) h k = absurd k
  one_verdict (No NodeUnused) (No EntriesDisagree) h k = absurd k
  one_verdict (No (AnswerDiffers m)) (Yes s) h k = absurd (right_or_other m k h)
  one_verdict (No (AnswerDiffers m)) (No (QueryRefused g)) h k = absurd (refuses query g k h.proved.statements h.proved.reads)
  one_verdict (No (AnswerDiffers m)) (No ProofMalformed) h k = absurd (k.1 (proof_is (rises h.meaning h.proved)))
  one_verdict (No (AnswerDiffers m)) (No ProofNotRising) h k = absurd (k.2 (rises h.meaning h.proved))
  one_verdict (No (AnswerDiffers m)) (No NodeMissing) h k = absurd (lacks_none h.meaning h.proved k.1)
  one_verdict (No (AnswerDiffers m)) (No NodeUnused) h k = absurd (holds_no_other h.meaning h.proved k.1)
  one_verdict (No (AnswerDiffers m)) (No (AnswerDiffers n)) h k = ap AnswerDiffers (one_byte m n h k)
  one_verdict (No (AnswerDiffers m)) (No NodeMalformed) h k = absurd k
  one_verdict (No (AnswerDiffers m)) (No NodesDisagree) h k = absurd k
  one_verdict (No (AnswerDiffers m)) (No EntriesDisagree) h k = absurd k
  one_verdict (No NodeMalformed) second h k = absurd h
  one_verdict (No NodesDisagree) second h k = absurd h
  one_verdict (No EntriesDisagree) second h k = absurd h

-- ---- what the checker answers

-- a query that isn't read, memory apart
pub unread_owed : (query : List ℕ) (fault : QlFault) → (fault ≡ memory_fault) ⊎ HasFault query fault → fault.cause ≢ causes.Memory → HasFault query fault
unread_owed query fault (inl memory) other = absurd (other (ap (λ (f : QlFault). f.cause) memory))
unread_owed query fault (inr has) other = has

module _ (query root answer proof : List ℕ) (p : Publication) (is : IsPublication p) (root_is : root ≡ root_of p) where
  pub told : (verdict : Verdict) → IsVerdict query root answer proof verdict → TellsOf p query answer proof verdict ⊎ Clash (IsNodeIn p) (StandsIn proof)
  told verdict h = under_root query answer proof p is verdict (subst (λ (r : List ℕ). IsVerdict query r answer proof verdict) root_is h)

  -- the verdict that is owed is the one that is given
  pub only_verdict : {E : Type 0} (result : Result Verdict E) (owed : Verdict) → TellsOf p query answer proof owed → IfOk result (λ v. IsVerdict query root answer proof v)
      → IfOk result (λ v. AreAlike v owed) ⊎ Clash (IsNodeIn p) (StandsIn proof)
  only_verdict (Ok v) owed h given = elim (told v given) [ inl tells ↦ inl (one_verdict query answer proof p is v owed tells h) | inr clash ↦ inr clash ]
  only_verdict (Err e) owed h given = inl tt

  -- a yes under the root of a publication
  pub headline : {E : Type 0} (report : Report) (result : Result Verdict E) → result ≡ Ok (Yes report) → IfOk result (λ v. IsVerdict query root answer proof v)
      → IsProved p query answer proof ⊎ Clash (IsNodeIn p) (StandsIn proof)
  headline {E} report result said given = told (Yes report) (subst (λ (r : Result Verdict E). IfOk r (λ v. IsVerdict query root answer proof v)) said given)

  -- the nodes of the right proof leave no clash to speak of
  no_clash : IsProved p query answer proof → Clashes query answer proof p is → ⊥
  no_clash h (statements, nodes, whole, (a, b, needed, stands, differ, same)) =
      let one : statements ≡ h.statements = one_query query statements h.statements whole.reads h.reads in
      let here : Contains nodes a = stands_among proof a nodes whole.lists (h.proof_is.nodes, h.proof_is.lists, (h.proof_is.needed a).1 (subst (λ (s : Statements). IsNeeded p s a) one needed)) in
      differ (no_twins nodes whole.rising a b here stands same)

  -- some report
  no_walks : Report
  no_walks = record { ranges = 0; fetched = 0; work = 0 }

  -- the right answer with its proof
  pub honest : {E : Type 0} (result : Result Verdict E) → IsProved p query answer proof → IfOk result (λ v. IsVerdict query root answer proof v) → IfOk result IsYes
  honest (Ok v) h given = elim (tells_or_clashes query answer proof p is v (subst (λ (r : List ℕ). IsVerdict query r answer proof v) root_is given)) [
    | inl tells ↦ one_verdict query answer proof p is (Yes no_walks) v h tells
    | inr clashes ↦ absurd (no_clash h clashes)
  ]
  honest (Err e) h given = tt
