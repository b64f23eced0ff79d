use Rattle.std.proofs.Common.{rules, ◌≡◌, ◌∙◌, sym, subst, ℕ, ◌+◌, ◌<◌, ◌≤◌, List, length, arith, [], get_or}
use Rattle.std.specs.BinaryHeap.{heap_items}
use Rattle.std.specs.List.{All}
use Rattle.std.proofs.lemmas.List.Elements.{All-get_or, All-from_recursion}
use Rattle.external_sort.specs.Records.{Fits}
use Rattle.external_sort.specs.internal.Merging.{AreRuns}
use Rattle.external_sort.specs.internal.Tagged.{UpTo}
use Rattle.external_sort.proofs.BeginLemmas.{as_many, begins, begun_left}
use Rattle.external_sort.proofs.merge.Merge.new.Goals as goal

pub loop-run-preserved : goal.loop-run-preserved
loop-run-preserved g c =
    let inv = c.loop-run.invariant in
    let lens = c.args.lens.now in
    let first = g.S.RunStore.runs c.args.store in
    let runs = g.S.RunStore.runs c.loop-run.store in
    let r = c.new.result in
    let run_is : r.run ≡ c.loop-run.run = c.new.ensures.run in
    record {
      same = c.in_ok-begin.ensures.runs ∙ inv.same;
      sound = c.in_ok-begin.ensures.heap inv.sound;
      begun = λ is_true kept h.
          let here = subst (λ (rs : List (List ℕ)). AreRuns rs lens kept) (sym inv.same) h in
          let lt : c.loop-run.run < length kept = omega (arith, c.loop-run-test.true, as_many first lens kept h) in
          let up = subst (λ (rs : List (List ℕ)). UpTo rs kept r.run (heap_items c.loop-run.heap)) (sym inv.same) (subst (λ (n : ℕ). UpTo first kept n (heap_items c.loop-run.heap)) (sym run_is) (inv.begun is_true kept h)) in
          let left = begun_left runs lens kept c.loop-run.run r here lt c.new.ensures in
          let on = c.in_ok-begin.ensures.begun is_true lens kept here (subst (λ (n : ℕ). n < length kept) (sym run_is) lt) left up in
          subst (λ (n : ℕ). UpTo first kept (n + 1) (heap_items c.begin.new.heap)) run_is (subst (λ (rs : List (List ℕ)). UpTo rs kept (r.run + 1) (heap_items c.begin.new.heap)) inv.same on);
    }

pub returns-clause-begins : goal.returns-clause-begins
returns-clause-begins g c is_true kept h =
    let inv = c.loop-run.invariant in
    let lens = c.args.lens.now in
    let here = subst (λ (rs : List (List ℕ)). AreRuns rs lens kept) (sym inv.same) h in
    let up = subst (λ (rs : List (List ℕ)). UpTo rs kept c.loop-run.run (heap_items c.loop-run.heap)) (sym inv.same) (inv.begun is_true kept h) in
    let whole : length kept ≤ c.loop-run.run = omega (arith, c.loop-run-test.false, as_many (g.S.RunStore.runs c.args.store) lens kept h) in
    begins g.S.RunStore.runs c.loop-run.store c.loop-run.heap lens kept c.loop-run.run here up whole inv.sound

pub returns-in_err-begin-clause-device : goal.returns-in_err-begin-clause-device
returns-in_err-begin-clause-device g c refuses is_true kept h e =
    let inv = c.loop-run.invariant in
    let lens = c.args.lens.now in
    let runs = g.S.RunStore.runs c.loop-run.store in
    let r = c.new.result in
    let here = subst (λ (rs : List (List ℕ)). AreRuns rs lens kept) (sym inv.same) h in
    let lt : c.loop-run.run < length kept = omega (arith, c.loop-run-test.true, as_many (g.S.RunStore.runs c.args.store) lens kept h) in
    let left = begun_left runs lens kept c.loop-run.run r here lt c.new.ensures in
    let run_is : r.run ≡ c.loop-run.run = c.new.ensures.run in
    let in_kept = subst (λ (n : ℕ). n < length kept) (sym run_is) lt in
    let fit = All-get_or (All Fits) kept r.run [] in_kept (All-from_recursion (All Fits) kept h.fit) in
    c.in_err-begin.ensures.device refuses is_true (get_or kept r.run []) fit left (search rules)
