use Rattle.std.proofs.Common.{rules, refl, ap, arith, ◌≤◌, ◌^◌, ◌≡◌, ◌≢◌, sym, subst, List, Option, None, Some, Ok, Err, [], ◌∷◌, ◌++◌, Bool, true, false, ℕ}
use Rattle.opl_codec.specs.LineReads.{LinePlace, Says}
use Rattle.opl_codec.specs.declared.cause.OplCause.TheVariants as causes
use Rattle.opl_codec.specs.declared.change.Change.TheVariants as changes
use Rattle.opl_codec.proofs.ReadFiles.{reads_all}
use Rattle.opl_codec.specs.internal.Loading.{ReadsAll}
use Rattle.entry_sort.specs.declared.read_lines.ReadEnd.{ReadEnd}
use Rattle.entry_sort.specs.declared.read_lines.ReadEnd.TheVariants.{Stopped}
use Rattle.entry_sort.specs.internal.Puts.{Gathered, GathersIf, HasGathered, HasPut, Put, SpellsPuts, put_of}
use Rattle.entry_sort.proofs.FileLemmas.{next_put, puts_skipped, starts}
use Rattle.entry_sort.proofs.GatherLemmas.{if_ok}
use Rattle.entry_sort.proofs.ReadEndLemmas.{delete_stops, deleted_told, fault_stops, if_both, next_of, not_over, told_fault, told_some}
use Rattle.entry_sort.proofs.read_lines.read_lines.Goals as goal

pub lines-init : goal.lines-init
lines-init g c = record {
  fresh = c.requires.fresh;
  few = omega (arith, ap (λ (at : LinePlace). at.lines) c.requires.at);
  put = λ h. ([], subst (λ (at : LinePlace). HasPut c.args.lines.now.at.left at []) (sym c.requires.at) (starts c.args.lines.now.at.left), h);
}

pub returns-then-not-branch-clause-read : goal.returns-then-not-branch-clause-read
returns-then-not-branch-clause-read g c h =
    let (puts, put, gathered) = c.lines.invariant.put h in
    let line = c.in-Ok-Some-default-Put.line in
    let o = c.in-Ok-Some-default-Put.object in
    let is : c.next_change.result ≡ Ok (Some (line, changes.Put o)) = search rules in
    let says = next_of c.lines.lines.at c.next_change.new.self.at c.lines.lines.fault c.next_change.result (Ok (Some (line, changes.Put o))) c.lines.invariant.fresh c.next_change.ensures.next is in
    let goes_on = not_over _ _ c.lines.lines.fault c.next_change.result (Ok (Some (line, changes.Put o))) c.lines.invariant.fresh c.next_change.ensures.over is (told_some (line, changes.Put o) _ refl) in
    let test : c.in_ok-put-in-Ok-Some-default-Put.field-0 ≡ false = search rules in
    let no = subst (λ (b : Bool). GathersIf g.S.RunStore.runs g.S.RunStore.in_hand b c.put.new.self (puts ++ put_of line o ∷ [])) test (c.in_ok-put-in-Ok-Some-default-Put.ensures.put puts gathered) in
    record { puts = puts ++ put_of line o ∷ []; at = c.next_change.new.self.at; put = next_put c.args.lines.now.at.left c.lines.lines.at c.next_change.new.self.at puts line o put goes_on says; few = search rules; ended = no.1; taken = no.0 }

pub lines-preserved : goal.lines-preserved
lines-preserved g c =
    let line = c.in-Ok-Some-default-Put.line in
    let o = c.in-Ok-Some-default-Put.object in
    let is : c.next_change.result ≡ Ok (Some (line, changes.Put o)) = search rules in
    let says = next_of c.lines.lines.at c.next_change.new.self.at c.lines.lines.fault c.next_change.result (Ok (Some (line, changes.Put o))) c.lines.invariant.fresh c.next_change.ensures.next is in
    let goes_on = not_over _ _ c.lines.lines.fault c.next_change.result (Ok (Some (line, changes.Put o))) c.lines.invariant.fresh c.next_change.ensures.over is (told_some (line, changes.Put o) _ refl) in
    let test : c.in_ok-put-in-Ok-Some-default-Put.field-0 ≡ true = search rules in
    record {
      fresh = search rules;
      few = search rules;
      put = λ h.
          let (puts, put, gathered) = c.lines.invariant.put h in (
            puts ++ put_of line o ∷ [],
            next_put c.args.lines.now.at.left c.lines.lines.at c.next_change.new.self.at puts line o put goes_on says,
            subst (λ (b : Bool). GathersIf g.S.RunStore.runs g.S.RunStore.in_hand b c.put.new.self (puts ++ put_of line o ∷ [])) test (c.in_ok-put-in-Ok-Some-default-Put.ensures.put puts gathered),
          );
    }

pub returns-in-Ok-Some-default-Delete-clause-read :
    goal.returns-in-Ok-Some-default-Delete-clause-read
returns-in-Ok-Some-default-Delete-clause-read g c h =
    let (puts, put, gathered) = c.lines.invariant.put h in
    let line = c.in-Ok-Some-default-Delete.line in
    let name = c.in-Ok-Some-default-Delete.field-0-0-1-0 in
    let is : c.next_change.result ≡ Ok (Some (line, changes.Delete name)) = search rules in
    let says = next_of c.lines.lines.at c.next_change.new.self.at c.lines.lines.fault c.next_change.result (Ok (Some (line, changes.Delete name))) c.lines.invariant.fresh c.next_change.ensures.next is in
    let goes_on = not_over _ _ c.lines.lines.fault c.next_change.result (Ok (Some (line, changes.Delete name))) c.lines.invariant.fresh c.next_change.ensures.over is (told_some (line, changes.Delete name) _ refl) in
    record {
      puts = puts;
      at = c.lines.lines.at;
      put = put;
      few = c.lines.invariant.few;
      ended = (deleted_told c.deleted.result line c.deleted.ensures, delete_stops c.args.lines.now.at.left c.lines.lines.at c.next_change.new.self.at puts line name c.deleted.result put goes_on says c.deleted.ensures);
      taken = gathered.names;
    }

pub returns-in-Ok-None-clause-read : goal.returns-in-Ok-None-clause-read
returns-in-Ok-None-clause-read g c =
    let is : c.next_change.result ≡ Ok None = search rules in
    let ends = next_of c.lines.lines.at c.next_change.new.self.at c.lines.lines.fault c.next_change.result (Ok None) c.lines.invariant.fresh c.next_change.ensures.next is in
    if_ok (λ end. (known : Option (List ℕ)) (at : LinePlace) (puts : List Put) → HasPut known at puts → at.lines ≤ 2 ^ 48 → ReadsAll SpellsPuts known puts → Gathered g.S.RunStore.runs g.S.RunStore.in_hand c.lines.gathering puts → HasGathered g.S.RunStore.runs g.S.RunStore.in_hand known end c.read_all.new.gathering)
    (λ end. Gathered g.S.RunStore.runs g.S.RunStore.in_hand c.args.gathering.now [] → HasGathered g.S.RunStore.runs g.S.RunStore.in_hand c.args.lines.now.at.left end c.read_all.new.gathering)
    c.read_all.result
    c.read_all.ensures.read
    (λ end read h.
    let (puts, put, gathered) = c.lines.invariant.put h in
    read c.args.lines.now.at.left c.lines.lines.at puts put c.lines.invariant.few (reads_all SpellsPuts puts_skipped c.args.lines.now.at.left c.lines.lines.at c.next_change.new.self.at puts put ends) gathered)

pub returns-in-Err-clause-read : goal.returns-in-Err-clause-read
returns-in-Err-clause-read g c =
    let load = c.in-Err.load in
    let is : c.next_change.result ≡ Err load = search rules in
    let why = next_of c.lines.lines.at c.next_change.new.self.at c.lines.lines.fault c.next_change.result (Err load) c.lines.invariant.fresh c.next_change.ensures.next is in
    let goes_on = not_over _ _ c.lines.lines.fault c.next_change.result (Err load) c.lines.invariant.fresh c.next_change.ensures.over is (told_fault load _ refl) in
    if_both (λ end. end ≡ Stopped load) (λ _. load.fault.cause ≢ causes.Memory)
    (λ end. Gathered g.S.RunStore.runs g.S.RunStore.in_hand c.args.gathering.now [] → HasGathered g.S.RunStore.runs g.S.RunStore.in_hand c.args.lines.now.at.left end c.lines.gathering)
    c.stopped.result
    c.stopped.ensures.stopped
    c.stopped.ensures.told
    (λ end stopped told h.
    let (puts, put, gathered) = c.lines.invariant.put h in
    subst (λ (e : ReadEnd). HasGathered g.S.RunStore.runs g.S.RunStore.in_hand c.args.lines.now.at.left e c.lines.gathering) (sym stopped)
    (record { puts = puts; at = c.lines.lines.at; put = put; few = c.lines.invariant.few; ended = (told, fault_stops c.args.lines.now.at.left c.lines.lines.at c.next_change.new.self.at puts load put goes_on why told); taken = gathered.names }))
