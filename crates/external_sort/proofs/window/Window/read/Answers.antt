use Rattle.std.proofs.Common.{rules, ◌≡◌, ◌∙◌, ap, ℕ, ◌+◌, ◌-◌, ◌≤◌, List, ◌++◌, length, drop, take, arith, length-append}
use Rattle.external_sort.specs.Runs.{run_at}
use Rattle.external_sort.proofs.Parts.{filled, front_grows}
use borrow.Rule.Slice.PartMut.{post_of}
use Rattle.external_sort.proofs.window.Window.read.Goals as goal

pub returns-clause-bytes : goal.returns-clause-bytes
returns-clause-bytes g c is_true =
    let (more, kept) = c.grow.ensures.kept in
    let old = c.self.inside in
    let e : ℕ = old.end - old.start in
    let d : List ℕ = c.deref_mut.result.now in
    let there : List ℕ = take c.args.count (drop c.args.offset (run_at c.args.run (g.S.RunStore.runs c.args.store.now))) in
    let end_is : c.in-Some.end ≡ e + c.args.count = search rules in
    let long : length c.fill.new.into ≡ c.args.count = search rules in
    let filled_with = c.in_ok-fill.ensures.read is_true in
    let read : c.fill.new.into ≡ there = search rules in
    let within : e ≤ length c.shift_down.new.buffer.items = omega (arith, c.shift_down.ensures.len, old.buffer.ok.0, c.shift_down.new.buffer.ok.0, c.self.invariant.0, c.self.invariant.1) in
    let d_is : d ≡ c.shift_down.new.buffer.items ++ more = c.deref_mut.ensures.value ∙ kept in
    let window : take e d ≡ c.args.self.now = ap (λ (l : List ℕ). take e l) d_is ∙ front_grows c.shift_down.new.buffer.items more e within ∙ c.shift_down.ensures.front ∙ c.self.view_is in
    let in_d : e ≤ length d = omega (arith, within, ap length d_is, length-append c.shift_down.new.buffer.items more) in
    let room : c.in-Some.end ≤ c.grow.new.buffer.len = c.in_ok-grow.ensures.len in
    filled d c.fill.new.into (post_of e (c.in-Some.end - e) d) (drop (length (take e d ++ (c.fill.new.into ++ post_of e (c.in-Some.end - e) d))) c.grow.new.buffer.items) e c.in-Some.end c.grow.new.buffer.len in_d (omega arith) room
    ∙ ap (λ (l : List ℕ). l ++ c.fill.new.into) window ∙ ap (λ (l : List ℕ). c.args.self.now ++ l) read
