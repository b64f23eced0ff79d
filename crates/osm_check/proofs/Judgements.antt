-- What the outcome of an evaluation over the nodes of a proof says of a publication.
use Rattle.std.proofs.Common.{true, ◌≡◌, ◌⊎◌, inl, inr, ℕ, List, [], Some, Result, Ok, Err, IfOk, refl, sym, subst, ◌∙◌}
use Rattle.std.specs.List.{Contains}
use Rattle.tree_node.specs.Outcomes.{Clash, Outcome, RefusedFor}
use Rattle.tree_node.specs.Bags.{BagHolds}
use Rattle.tree_node.specs.Parts.{HaveNode}
use Rattle.tree_node.specs.Shelves.{IsEmptySet, SameNodes, Stays}
use Rattle.tree_node.specs.declared.bag.Bag.{Bag}
use Rattle.tree_node.specs.declared.part.Part.{Part}
use Rattle.tree_node.proofs.shared.OutcomeLaws.{Nodes, just_needed, uses}
use Rattle.tree_walk.specs.declared.fault.WalkFault.TheVariants as walks
use Rattle.osm_keys.specs.Publications.{Publication}
use Rattle.ql_syntax.specs.Statements.{Statements}
use Rattle.ql_meaning.specs.Meanings.{Means}
use Rattle.ql_eval.specs.Asks.{IsNeeded}
use Rattle.ql_eval.specs.Faults.{cause_of_evaluation}
use Rattle.ql_eval.specs.Written.{HasWritten}
use Rattle.ql_eval.specs.declared.evaluation.Report.{Report}
use Rattle.ql_eval.specs.declared.fault.EvalFault.{EvalFault}
use Rattle.ql_eval.specs.declared.fault.EvalFault.TheVariants as faults
use Rattle.ql_eval.specs.declared.opening.ManifestFault.TheVariants as openings
use Rattle.osm_prove.specs.Proofs.{AreRising, Lists, nodes_of}
use Rattle.osm_prove.proofs.shared.ListingLaws.{one_listing}
use Rattle.osm_prove.proofs.shared.PartNodes.{among_parts, node_among}
use Rattle.osm_check.specs.Matching.{IsFirstDifference}
use Rattle.osm_check.specs.Matchers.{StandsFor, expected_of}
use Rattle.osm_check.specs.Verdicts.{IsRisingProof, IsVerdict, IsWhole, Tells, TellsOfAll}
use Rattle.osm_check.specs.declared.matcher.Matcher.{Matcher}
use Rattle.osm_check.specs.declared.verdict.Verdict.{Verdict}
use Rattle.osm_check.specs.declared.verdict.Verdict.TheVariants.{Yes, No}
use Rattle.osm_check.specs.declared.why.Why.{Why}
use Rattle.osm_check.specs.declared.why.Why.TheVariants.{QueryRefused, ProofMalformed, ProofNotRising, NodeMissing, NodeMalformed, NodesDisagree, EntriesDisagree, NodeUnused, AnswerDiffers}
use Rattle.osm_check.specs.internal.Judging.{IsInside, IsJudged, why_of}

module _ (p : Publication) (statements : Statements) (answer : List ℕ) (nodes : List (List ℕ)) (held old new : Nodes)
    (listed : SameNodes held (Contains nodes)) (empty : IsEmptySet old) (used_held : (x : List ℕ) → new x → held x) where
  abbrev pub needed : Nodes
  needed = IsNeeded p statements

  -- used nodes are nodes of the proof
  clash_in : Clash needed new → Clash needed (Contains nodes)
  clash_in (a, b, is, used, differ, same) = (a, b, is, (listed b).1 (used_held b used), differ, same)

  -- all nodes of the proof were used
  pub all_used : {Is : Report → Type 0} (report : Report) → Outcome {F = EvalFault} cause_of_evaluation Is needed (uses held old new) (Ok report) → ((x : List ℕ) → held x → new x)
      → (SameNodes needed (Contains nodes) × Is report) ⊎ Clash needed (Contains nodes)
  all_used report outcome all = elim outcome.ends [
    | inl clash ↦ inr (clash_in clash)
    | inr well ↦ inl ((λ x. let just = just_needed empty well.1 used_held all x in ((λ stands. just.0 ((listed x).0 stands)), (λ is. (listed x).1 (just.1 is)))), well.0)
  ]

  -- one wasn't
  pub one_unused : {Is : Report → Type 0} (report : Report) → Outcome {F = EvalFault} cause_of_evaluation Is needed (uses held old new) (Ok report) → (x : List ℕ) → held x → ¬ new x
      → Tells p statements answer nodes (No NodeUnused) ⊎ Clash needed (Contains nodes)
  one_unused report outcome x is_held unused = elim outcome.ends [
    | inl clash ↦ inr (clash_in clash)
    | inr well ↦ inl ((λ y is. (listed y).1 (used_held y ((well.1 y).1 (inr is)))), x, (listed x).1 is_held, (λ is. unused ((well.1 x).1 (inr is))))
  ]

  refused_tells : (fault : EvalFault) (why : Why) → why_of fault ≡ Some why → RefusedFor needed held (cause_of_evaluation fault) → Tells p statements answer nodes (No why)
  refused_tells (faults.Walk walks.Missing) why is (x, is_needed, missing) = by_why why is (x, is_needed, λ stands. missing ((listed x).0 stands))
    where
      by_why : (why : Why) → Some NodeMissing ≡ Some why → Tells p statements answer nodes (No NodeMissing) → Tells p statements answer nodes (No why)
      by_why why e tells = let same : NodeMissing ≡ why = cc in subst (λ (w : Why). Tells p statements answer nodes (No w)) same tells
  refused_tells (faults.Manifest openings.Missing) why is (x, is_needed, missing) = by_why why is (x, is_needed, λ stands. missing ((listed x).0 stands))
    where
      by_why : (why : Why) → Some NodeMissing ≡ Some why → Tells p statements answer nodes (No NodeMissing) → Tells p statements answer nodes (No why)
      by_why why e tells = let same : NodeMissing ≡ why = cc in subst (λ (w : Why). Tells p statements answer nodes (No w)) same tells
  refused_tells (faults.Walk (walks.Malformed fault)) why is never = absurd never
  refused_tells (faults.Walk walks.WrongTreeOrLevel) why is never = absurd never
  refused_tells (faults.Walk walks.Disagrees) why is never = absurd never
  refused_tells (faults.Walk walks.Memory) why is never = absurd (cc)
  refused_tells faults.Form why is never = absurd never
  refused_tells faults.Absent why is never = absurd never
  refused_tells (faults.Manifest openings.Malformed) why is never = absurd never
  refused_tells (faults.Manifest openings.Memory) why is never = absurd (cc)
  refused_tells faults.Memory why is never = absurd (cc)
  refused_tells faults.Work why is never = absurd (cc)

  -- the evaluation was refused
  pub refused : {Is : Report → Type 0} (fault : EvalFault) (why : Why) → why_of fault ≡ Some why → Outcome cause_of_evaluation Is needed (uses held old new) (Err fault)
      → Tells p statements answer nodes (No why) ⊎ Clash needed (Contains nodes)
  refused fault why is outcome = elim outcome.ends [ inl clash ↦ inr (clash_in clash) | inr cause ↦ inl (refused_tells fault why is cause) ]

  module _ (before after : Matcher) (expects : expected_of after ≡ answer) (nothing : StandsFor before []) (report : Report)
      (outcome : Outcome {F = EvalFault} cause_of_evaluation (λ (_ : Report). (text : List ℕ) × Means p.objects statements text × HasWritten (StandsFor before) (StandsFor after) text) needed (uses held old new) (Ok report))
      (all : (x : List ℕ) → held x → new x) where
    -- what was written is what is expected
    pub right : ((text : List ℕ) → StandsFor after text → text ≡ expected_of after) → Tells p statements answer nodes (Yes report) ⊎ Clash needed (Contains nodes)
    right same = elim (all_used report outcome all) [
      | inl (just, (text, means, written)) ↦ inl (just, subst (λ (t : List ℕ). Means p.objects statements t) (same text (written.all [] nothing) ∙ expects) means)
      | inr clash ↦ inr clash
    ]

    -- it differs from that
    pub wrong : (byte : ℕ) → ((text : List ℕ) → StandsFor after text → IsFirstDifference text (expected_of after) byte) → Tells p statements answer nodes (No (AnswerDiffers byte)) ⊎ Clash needed (Contains nodes)
    wrong byte differs = elim (all_used report outcome all) [
      | inl (just, (text, means, written)) ↦ inl (just, text, means, (let first = subst (λ (t : List ℕ). IsFirstDifference text t byte) expects (differs text (written.all [] nothing)) in record { alike = sym first.alike; differ = λ e. first.differ (sym e) }))
      | inr clash ↦ inr clash
    ]

-- a bag of parts holds just their nodes
pub listed_in : (parts : List Part) (before after : Bag) → SameNodes (HaveNode parts) (BagHolds before) → Stays true (BagHolds before) (BagHolds after) → SameNodes (BagHolds after) (Contains (nodes_of parts))
listed_in parts before after holds stays x = (
  (λ stands. (stays x).1 ((holds x).1 (among_parts parts x stands))),
  (λ is_held. node_among parts x ((holds x).0 ((stays x).0 refl is_held))),
)

-- no refused evaluation is a verdict on the form of a proof
why_inside : (fault : EvalFault) (why : Why) → why_of fault ≡ Some why → IsInside (No why)
why_inside (faults.Walk walks.Missing) why is = let same : NodeMissing ≡ why = cc in subst (λ (w : Why). IsInside (No w)) same tt
why_inside (faults.Manifest openings.Missing) why is = let same : NodeMissing ≡ why = cc in subst (λ (w : Why). IsInside (No w)) same tt
why_inside (faults.Walk (walks.Malformed fault)) why is = let same : NodeMalformed ≡ why = cc in subst (λ (w : Why). IsInside (No w)) same tt
why_inside (faults.Manifest openings.Malformed) why is = let same : NodeMalformed ≡ why = cc in subst (λ (w : Why). IsInside (No w)) same tt
why_inside (faults.Walk walks.WrongTreeOrLevel) why is = let same : NodesDisagree ≡ why = cc in subst (λ (w : Why). IsInside (No w)) same tt
why_inside (faults.Walk walks.Disagrees) why is = let same : NodesDisagree ≡ why = cc in subst (λ (w : Why). IsInside (No w)) same tt
why_inside faults.Form why is = let same : EntriesDisagree ≡ why = cc in subst (λ (w : Why). IsInside (No w)) same tt
why_inside faults.Absent why is = let same : EntriesDisagree ≡ why = cc in subst (λ (w : Why). IsInside (No w)) same tt
why_inside (faults.Walk walks.Memory) why is = absurd (cc)
why_inside (faults.Manifest openings.Memory) why is = absurd (cc)
why_inside faults.Memory why is = absurd (cc)
why_inside faults.Work why is = absurd (cc)

-- the verdict where an evaluation was refused
pub stopped_judged : (root : List ℕ) (statements : Statements) (answer : List ℕ) (nodes : List (List ℕ)) (fault : EvalFault) (why : Why) → why_of fault ≡ Some why → TellsOfAll root statements answer nodes (No why)
    → IsJudged root statements answer nodes (No why)
stopped_judged root statements answer nodes fault why of tells = record { inside = why_inside fault why of; reported = tt; tells = tells }

-- the verdict on a proof that was read
pub owed : (query root answer proof : List ℕ) (statements : Statements) (nodes : List (List ℕ)) (verdict : Verdict) → IsWhole query proof statements nodes → IsJudged root statements answer nodes verdict → IsVerdict query root answer proof verdict
owed query root answer proof statements nodes (Yes report) whole judged = record { statements = statements; nodes = nodes; whole = whole; reported = judged.reported; tells = judged.tells }
owed query root answer proof statements nodes (No (QueryRefused fault)) whole judged = absurd judged.inside
owed query root answer proof statements nodes (No ProofMalformed) whole judged = absurd judged.inside
owed query root answer proof statements nodes (No ProofNotRising) whole judged = absurd judged.inside
owed query root answer proof statements nodes (No NodeMissing) whole judged = record { statements = statements; nodes = nodes; whole = whole; reported = tt; tells = judged.tells }
owed query root answer proof statements nodes (No NodeMalformed) whole judged = record { statements = statements; nodes = nodes; whole = whole; reported = tt; tells = judged.tells }
owed query root answer proof statements nodes (No NodesDisagree) whole judged = record { statements = statements; nodes = nodes; whole = whole; reported = tt; tells = judged.tells }
owed query root answer proof statements nodes (No EntriesDisagree) whole judged = record { statements = statements; nodes = nodes; whole = whole; reported = tt; tells = judged.tells }
owed query root answer proof statements nodes (No NodeUnused) whole judged = record { statements = statements; nodes = nodes; whole = whole; reported = tt; tells = judged.tells }
owed query root answer proof statements nodes (No (AnswerDiffers byte)) whole judged = record { statements = statements; nodes = nodes; whole = whole; reported = tt; tells = judged.tells }

pub judged_owed : {E : Type 0} (query root answer proof : List ℕ) (statements : Statements) (nodes : List (List ℕ)) (result : Result Verdict E) → IsWhole query proof statements nodes
    → IfOk result (IsJudged root statements answer nodes) → IfOk result (IsVerdict query root answer proof)
judged_owed query root answer proof statements nodes (Ok verdict) whole judged = owed query root answer proof statements nodes verdict whole judged
judged_owed query root answer proof statements nodes (Err e) whole judged = tt

-- a proof lists no other nodes that rise
pub never_rises : (proof : List ℕ) (nodes : List (List ℕ)) → Lists proof nodes → ¬ AreRising nodes → ¬ IsRisingProof proof
never_rises proof nodes lists falls (others, again, rising) = falls (subst AreRising (one_listing proof others nodes again lists) rising)
