use Rattle.std.proofs.Common.{rules, ◌≡◌, ◌∙◌, sym, ap, subst, ℕ, ◌+◌, ◌≤◌, List, [], ◌++◌, length, drop, take, arith}
use Rattle.std.specs.Int.{w16, w32, from_be_bytes}
use Rattle.std.proofs.lemmas.List.{length-append, length-drop, nil_from_length}
use Rattle.external_sort.specs.Runs.{run_at}
use Rattle.external_sort.specs.internal.Reading.{rest}
use Rattle.external_sort.specs.declared.run_reader.RunReader.{RunReader}
use Rattle.external_sort.proofs.ReadLemmas.{at_end, header_there, moved, record_there}
use Rattle.external_sort.proofs.run_reader.RunReader.advance.Goals as goal
use Rattle.external_sort.proofs.run_reader.RunReader.advance.Goals.{else-is_empty-via-then-is_empty+else-self as at_self, else-is_empty-via-else-is_empty as at_window}

pub returns-then-self-clause-moves : goal.returns-then-self-clause-moves
returns-then-self-clause-moves g c is_true es fit h =
    let empty : drop c.args.self.now.record_end c.args.self.now.window ≡ [] =
    let none : length c.bytes.result.now ≡ 0 = search rules in
    sym c.pass.ensures ∙ sym c.bytes.ensures ∙ nil_from_length c.bytes.result.now none in
    at_end (g.S.RunStore.runs c.args.store.now) c.args.self.now es h empty c.if-self.true

pub returns-clause-moves : goal.returns-clause-moves
returns-clause-moves g c is_true es fit h =
    let runs = g.S.RunStore.runs c.args.store.now in
    let first = c.read_up_to.new.self in
    let second = c.read_up_to-2.new.self in
    let s : RunReader = record second { key_end = c.in-Some.key_end; record_end = c.in-Some.record_end } in
    let w : List ℕ = first.window in
    let after : List ℕ = drop first.offset (run_at first.run runs) in
    let same : w ++ after ≡ drop c.args.self.now.record_end c.args.self.now.window ++ drop c.args.self.now.offset (run_at c.args.self.now.run runs) =
    c.in_ok-read_up_to.ensures.rest is_true ∙ ap (λ (l : List ℕ). l ++ drop c.args.self.now.offset (run_at c.args.self.now.run runs)) c.pass.ensures in
    let long : 6 ≤ length w = search rules in
    let key : s.key_end ≡ 6 + from_be_bytes w16 (take 2 w) = search rules in
    let end : s.record_end ≡ s.key_end + from_be_bytes w32 (take 4 (drop 2 w)) = search rules in
    let within : s.record_end ≤ length s.window = search rules in
    let same_runs : g.S.RunStore.runs c.read_up_to.new.store ≡ runs = c.in_ok-read_up_to.ensures.runs in
    let second_rest : rest (g.S.RunStore.runs c.read_up_to.new.store) second ≡ rest (g.S.RunStore.runs c.read_up_to.new.store) first = c.in_ok-read_up_to-2.ensures.rest is_true in
    let rest_is : rest runs s ≡ w ++ after = subst (λ (rs : List (List ℕ)). rest rs second ≡ rest rs first) same_runs second_rest in
    let run : s.run ≡ c.args.self.now.run = search rules in
    let len : s.len ≡ c.args.self.now.len = search rules in
    moved runs c.args.self.now s w after es fit h same long key end within rest_is run len

pub returns-in_err-read_up_to-clause-device : goal.returns-in_err-read_up_to-clause-device
returns-in_err-read_up_to-clause-device g c refuses is_true es fit h e =
    let runs = g.S.RunStore.runs c.args.store.now in
    let r : RunReader = c.args.self.now in
    let w : List ℕ = c.pass.new.self in
    let left : List ℕ = drop r.offset (run_at r.run runs) in
    let sum = length-append w left in
    let rest_len = length-drop r.offset (run_at r.run runs) in
    let some : 1 ≤ length (w ++ left) =
    elim c.else-is_empty.branch [
      | at_self x ↦ omega (arith, sum, rest_len, h.len, x.if-self.false)
      | at_window x ↦ let full : 1 ≤ length w = search rules in omega (arith, sum, full)
    ] in
    c.in_err-read_up_to.ensures.device refuses h.len (header_there runs r w es h c.pass.ensures some) (search rules)

pub returns-in_err-read_up_to-2-clause-device : goal.returns-in_err-read_up_to-2-clause-device
returns-in_err-read_up_to-2-clause-device g c refuses is_true es fit h e =
    let runs = g.S.RunStore.runs c.args.store.now in
    let r : RunReader = c.args.self.now in
    let first = c.read_up_to.new.self in
    let w : List ℕ = first.window in
    let after : List ℕ = drop first.offset (run_at first.run runs) in
    let same : w ++ after ≡ drop r.record_end r.window ++ drop r.offset (run_at r.run runs) =
    c.in_ok-read_up_to.ensures.rest is_true ∙ ap (λ (l : List ℕ). l ++ drop r.offset (run_at r.run runs)) c.pass.ensures in
    let long : 6 ≤ length w = search rules in
    let key : c.in-Some.key_end ≡ 6 + from_be_bytes w16 (take 2 w) = search rules in
    let end : c.in-Some.record_end ≡ c.in-Some.key_end + from_be_bytes w32 (take 4 (drop 2 w)) = search rules in
    let same_runs : g.S.RunStore.runs c.read_up_to.new.store ≡ runs = c.in_ok-read_up_to.ensures.runs in
    let run : first.run ≡ r.run = c.in_ok-read_up_to.ensures.run in
    let len : first.len ≡ r.len = c.in_ok-read_up_to.ensures.len in
    let there = record_there runs r w after c.in-Some.key_end c.in-Some.record_end es fit h same long key end in
    let long_run : first.len ≡ length (run_at first.run runs) = len ∙ h.len ∙ ap (λ (n : ℕ). length (run_at n runs)) (sym run) in
    c.in_err-read_up_to-2.ensures.device refuses
    (subst (λ (rs : List (List ℕ)). first.len ≡ length (run_at first.run rs)) (sym same_runs) long_run)
    (subst (λ (rs : List (List ℕ)). c.in-Some.record_end ≤ length (rest rs first)) (sym same_runs) there)
    (search rules)
