-- Lists that are gathered are spelled as rules read them.
use Rattle.std.proofs.Common.{◌≡◌, ℕ, List, [], ◌∷◌, ◌++◌, Option, None, Some, refl, sym, ◌∙◌, ap, subst, append_assoc, append-nil}
use Rattle.std.specs.List.{AllByRecursion}
use Rattle.ql_syntax.specs.Rules.{Rule, ◌>>=◌, give, repeat, gather, gather_round, gathered, More, Done, RoundsRead, Last}
use Rattle.ql_syntax.specs.Rules as rounds
use Rattle.ql_syntax.specs.Spellings.{Spelling, each}
use Rattle.ql_syntax.proofs.SpellingLemmas.{both, Reading}

-- after those found before these were gathered, each so spelled, and then the end
pub record Gathered {A : Type 0} (spelled : A → Spelling) (Ending : Spelling) (found all : List A) (text rest : List ℕ) : Type 0 where
  pub more : List A
  pub is : all ≡ found ++ more
  pub middle : List ℕ
  pub front : each spelled more text middle
  pub back : Ending middle rest

module _ {A : Type 0} {spelled : A → Spelling} (item : Rule (Option A)) where
  module _ {Ending : Spelling} (one : (a : A) (text rest : List ℕ) → item.reads text (Some a) rest → spelled a text rest) (none : (text rest : List ℕ) → item.reads text None rest → Ending text rest) where
    last_sound : (o : Option A) (found all : List A) (text rest : List ℕ) → Done all ≡ gathered found o → item.reads text o rest → Gathered spelled Ending found all text rest
    last_sound None found all text rest e reads = record { more = []; is = (let same : all ≡ found = cc in same ∙ sym (append-nil found)); middle = text; front = refl; back = none text rest reads }
    last_sound (Some a) found all text rest e reads = absurd (cc)

    next_sound : (o : Option A) (found next all : List A) (text middle rest : List ℕ) → More next ≡ gathered found o → item.reads text o middle → Gathered spelled Ending next all middle rest → Gathered spelled Ending found all text rest
    next_sound None found next all text middle rest e reads g = absurd (cc)
    next_sound (Some a) found next all text middle rest e reads g =
        let same : next ≡ found ++ a ∷ [] = cc in
        record { more = a ∷ g.more; is = g.is ∙ ap (λ (l : List A). l ++ g.more) same ∙ append_assoc found (a ∷ []) g.more; middle = g.middle; front = both middle (one a text middle reads) g.front; back = g.back }

    rounds_sound : (all : List A) (rest : List ℕ) (found : List A) (text : List ℕ) → RoundsRead (gather_round item) all rest found text → Gathered spelled Ending found all text rest
    unfolding gather_round ◌>>=◌ give
    rounds_sound all rest _ _ (Last found text r) = last_sound r.front found all text rest r.back_reads.0 (subst (λ (s : List ℕ). item.reads text r.front s) (sym r.back_reads.1) r.front_reads)
    rounds_sound all rest _ _ (rounds.Next found next text middle r more) =
        next_sound r.front found next all text middle rest r.back_reads.0 (subst (λ (s : List ℕ). item.reads text r.front s) (sym r.back_reads.1) r.front_reads) (rounds_sound all rest next middle more)

    pub gather_sound : (found all : List A) (text rest : List ℕ) → (gather item found).reads text all rest → Gathered spelled Ending found all text rest
    unfolding gather repeat
    gather_sound found all text rest r = rounds_sound all rest found text r

  module _ {IsSuch : A → Type 0} (reads_one : (a : A) → IsSuch a → (text rest : List ℕ) → spelled a text rest → Reading item text (Some a) rest) where
    rounds_of : (more found all : List A) (text middle rest : List ℕ) → all ≡ found ++ more → AllByRecursion IsSuch more → each spelled more text middle → Reading item middle None rest → RoundsRead (gather_round item) all rest found text
    unfolding gather_round ◌>>=◌ give
    rounds_of [] found all text middle rest is such these end =
        Last found text (record { front = None; middle = rest; front_reads = subst (λ (s : List ℕ). item.reads s None rest) these end.reads; back_reads = (ap (λ (l : List A). Done l) (is ∙ append-nil found), refl) })
    rounds_of (a ∷ more) found all text middle rest is such these end =
        rounds.Next found (found ++ a ∷ []) text these.middle (record { front = Some a; middle = these.middle; front_reads = (reads_one a such.0 text these.middle these.front).reads; back_reads = (refl, refl) })
        (rounds_of more (found ++ a ∷ []) all these.middle middle rest (is ∙ sym (append_assoc found (a ∷ []) more)) such.1 these.back end)

    pub reads_gather : (found more : List A) {text middle rest : List ℕ} → AllByRecursion IsSuch more → each spelled more text middle → Reading item middle None rest → Reading (gather item found) text (found ++ more) rest
    unfolding gather repeat
    reads_gather found more such these end = record { reads = rounds_of more found (found ++ more) _ _ _ refl such these end }
