-- Which command the words name.
use Rattle.std.proofs.Common.{◌≡◌, ◌∙◌, ◌⊎◌, List, [], ◌∷◌, Bool, true, false, refl, ap, ap₂, sym, subst, inl, inr, Result, Ok, Err, IfOk, IfErr}
use Rattle.std.specs.Prelude.{OnOk, Option, Some, None, is_some, option_map, find, not, ◌&&◌, Box, if◌then◌else◌}
use Rattle.std.specs.List.{list_any}
use Rattle.std.specs.Box.{box_value}
use Rattle.clap.specs.Words.{App, HasMatchesOf, Row, Shape, Text, built, fault_of, is_simple, subcommand_of, subcommand_rows, subcommand_rows_of, subcommand_name_of}
use Rattle.clap.specs.Faults.{check_fault, defaults_fault, entered_fault, settle_fault, walk_fault}
use Rattle.clap.specs.Kinds.{Kinds, check_kinds, or_else}
use Rattle.clap.specs.Simple.{entered, label_of, rows_at, argument_words, names_of}
use Rattle.clap.specs.Takes.{is_given}
use Rattle.clap.specs.Facts.{explicit_source}
use Rattle.clap.specs.Walk.{answers_to, finished, nothing_held, settled, stop_after, walk, walk_from}
use Rattle.clap.specs.declared.parser.matches.ArgMatches.{ArgMatches}
use Rattle.clap.specs.declared.parser.matches.ArgMatches.TheViews.{out-ArgMatches, out-SubCommand}
use Rattle.clap.specs.declared.parser.matches.SubCommand.{SubCommand}
use Rattle.clap.proofs.OnLiterals.{clap_on_literals}
use Rattle.command_line.specs.CommandLine.{program_app}
use Rattle.command_line.specs.Jobs.{Gives, GivesMatch, HasBadEdition, HasBadForm, HasBadRoot}
use Rattle.command_line.specs.internal.Commands.{IsCommandName}
use Rattle.command_line.specs.declared.job.Job.{Job}
use Rattle.command_line.specs.declared.words_fault.WordsFault.{WordsFault}
use Rattle.command_line.specs.declared.words_fault.WordsFault.TheVariants.{BadEdition, BadForm, BadRoot, Memory}

-- a name and a list of rows make the pair that they came from
pair_of : (o : Option (Text × List Row)) (name : Text) (rows : List Row)
    → option_map (λ p. p.0) o ≡ Some name → option_map (λ p. p.1) o ≡ Some rows → o ≡ Some (name, rows)
pair_of None name rows a b = cc
pair_of (Some p) name rows a b =
    let first : p.0 ≡ name = cc in
    let second : p.1 ≡ rows = cc in
    ap₂ (λ (x : Text) (y : List Row). Some (x, y)) first second

-- the name and the rows of the subcommand that a parse entered
entered_rows : (m : ArgMatches) (name : Text) (rows : List Row)
    → Some name ≡ subcommand_name_of m → Some rows ≡ option_map (λ p. p.1) (subcommand_rows_of m) → subcommand_rows_of m ≡ Some (name, rows)
entered_rows m name rows a b = pair_of (subcommand_rows_of m) name rows (name_of (out-ArgMatches m).subcommand ∙ sym a) (sym b)
  where
    name_of : {Z : Type 0} (o : Option (Box SubCommand Z)) → option_map (λ p. p.0) (subcommand_rows o) ≡ option_map (λ b. (out-SubCommand (box_value b)).name.now) o
    name_of None = refl
    name_of (Some b) = refl

-- what a parse of the program's words entered is what clap defines
pub entered_match : (a : App) (given words : List Text) (m : ArgMatches) (name : Text) (rows : List Row)
    → a ≡ program_app → given ≡ words → HasMatchesOf a given m
    → Some name ≡ subcommand_name_of m → Some rows ≡ option_map (λ p. p.1) (subcommand_rows_of m)
    → subcommand_of program_app words ≡ Some (name, rows)
unfolding clap_on_literals
entered_match a given words m name rows same_app same_words has named rowed =
    let matches = has (ap is_simple same_app) in
    sym (ap₂ subcommand_of same_app same_words) ∙ sym matches.1 ∙ entered_rows m name rows named rowed

-- one of the shapes has this name
abbrev pub IsAmong : List Shape → Text → Type 0
IsAmong [] name = ⊥
IsAmong (s ∷ ss) name = (name ≡ s.name) ⊎ IsAmong ss name

-- what is found among shapes is one of them
find-among : (test : Shape → Bool) (ss : List Shape) (s : Shape) → find test ss ≡ Some s → IsAmong ss s.name
find-among test [] s e = cc
find-among test (x ∷ xs) s e = go (test x) e (λ e'. find-among test xs s e')
  where
    go : (b : Bool) → (if b then Some x else find test xs) ≡ Some s → (find test xs ≡ Some s → IsAmong xs s.name) → IsAmong (x ∷ xs) s.name
    go true e later = let same : x ≡ s = cc in inl (ap (λ (y : Shape). y.name) (sym same))
    go false e later = inr (later e)

-- the subcommand that was entered is one of the command's
entered-among : (a : App) (stop : Option (Text × List Text)) (p : Text × List Row) → entered a stop ≡ Some p → IsAmong a.subs p.0
entered-among a None p e = cc
entered-among a (Some w) p e = go (find (λ s. answers_to w.0 (label_of s)) a.subs) refl e
  where
    go : (o : Option Shape) → find (λ s. answers_to w.0 (label_of s)) a.subs ≡ o → option_map (λ s. rows_at s w.1) o ≡ Some p → IsAmong a.subs p.0
    go None found e = cc
    go (Some s) found e =
        let same : rows_at s w.1 ≡ p = cc in
        rw (sym (ap (λ (q : Text × List Row). q.0) same)) (find-among _ a.subs s found)

-- a name among the program's commands
among-commands : (name : Text) → IsAmong (built program_app).subs name → IsCommandName name
unfolding clap_on_literals
among-commands name (inl e) = inl e
among-commands name (inr (inl e)) = inr (inl e)
among-commands name (inr (inr (inl e))) = inr (inr (inl e))
among-commands name (inr (inr (inr (inl e)))) = inr (inr (inr (inl e)))
among-commands name (inr (inr (inr (inr (inl e))))) = inr (inr (inr (inr (inl e))))
among-commands name (inr (inr (inr (inr (inr (inl e)))))) = inr (inr (inr (inr (inr (inl e)))))
among-commands name (inr (inr (inr (inr (inr (inr (inl e))))))) = inr (inr (inr (inr (inr (inr (inl e))))))
among-commands name (inr (inr (inr (inr (inr (inr (inr (inl e)))))))) = inr (inr (inr (inr (inr (inr (inr (inl e)))))))
among-commands name (inr (inr (inr (inr (inr (inr (inr (inr (inl e))))))))) = inr (inr (inr (inr (inr (inr (inr (inr (inl e))))))))
among-commands name (inr (inr (inr (inr (inr (inr (inr (inr (inr (inl e)))))))))) = inr (inr (inr (inr (inr (inr (inr (inr (inr (inl e)))))))))
among-commands name (inr (inr (inr (inr (inr (inr (inr (inr (inr (inr (inl e))))))))))) = inr (inr (inr (inr (inr (inr (inr (inr (inr (inr e)))))))))
among-commands name (inr (inr (inr (inr (inr (inr (inr (inr (inr (inr (inr e))))))))))) = absurd e

-- the command that the words name is one of the program's
pub named : (words : List Text) (p : Text × List Row) → subcommand_of program_app words ≡ Some p → IsCommandName p.0
named words p e = among-commands p.0 (entered-among (built program_app) (stop_after (built program_app).top.rules (names_of (built program_app)) (argument_words program_app words)) p e)

-- where the first list of kinds that isn't empty is empty, both are
or_else-nil : (a b : Kinds) → or_else a b ≡ [] → (a ≡ []) × (b ≡ [])
or_else-nil [] b e = (refl, e)
or_else-nil (k ∷ ks) b e = cc

-- where no check fails, a subcommand that is wanted is there
subcommand_checked : (help wants_subcommand wants_argument : Bool) → check_kinds help wants_subcommand wants_argument ≡ [] → wants_subcommand ≡ false
subcommand_checked true w a e = cc
subcommand_checked false true a e = cc
subcommand_checked false false a e = refl

-- where clap finds no fault in the words, they name a command
pub is_there : (words : List Text) → fault_of program_app words ≡ [] → is_some (subcommand_of program_app words) ≡ true
unfolding clap_on_literals
is_there words e =
    let b = built program_app in
    let rest = argument_words program_app words in
    let w = walk b.top.rules (names_of b) nothing_held rest in
    let has = is_some (entered b w.stopped) in
    let rows = finished b.top.rules w.held in
    let checked = check_fault b.top rows has in
    let defaulted = defaults_fault (settled b.top.rules w.held).rows b.top.rules in
    let settling = settle_fault b.top.rules b.top.args_override_self w.held in
    let after_walk = or_else-nil (walk_fault b.top (names_of b) (walk_from nothing_held) rest) (or_else (entered_fault b w.stopped) (or_else settling (or_else defaulted checked))) e in
    let after_entered = or_else-nil (entered_fault b w.stopped) (or_else settling (or_else defaulted checked)) after_walk.1 in
    let after_settling = or_else-nil settling (or_else defaulted checked) after_entered.1 in
    let last = or_else-nil defaulted checked after_settling.1 in
    both has (subcommand_checked
    (not has && (b.top.arg_required_else_help && not (list_any (λ r. explicit_source r.source) rows)))
    (not has && b.top.subcommand_required)
    (not (b.top.subcommand_negates_reqs && has) && list_any (λ a. a.required && not (is_given a.id rows)) b.top.rules) last.1)
  where
    both : (has : Bool) → (not has && true) ≡ false → has ≡ true
    both true e = refl
    both false e = cc

-- ---- what is told of a job

pub on_ok : {X : Type 0} {P : Type 0} (r : Result X WordsFault) → P → OnOk r P
on_ok (Ok x) p = p
on_ok (Err e) p = tt

-- the job of the command that was matched
pub of_match : (matched : Option (Text × List Row)) (r : Result Job WordsFault) {name : Text} {rows : List Row} → Some (name, rows) ≡ matched → IfOk r (λ job. Gives job name rows) → IfOk r (λ job. GivesMatch job matched)
of_match matched (Ok job) same given = subst (λ (o : Option (Text × List Row)). GivesMatch job o) same given
of_match matched (Err e) same given = tt

-- why there is no job of the command of this name
abbrev Refusal : Text → List Row → WordsFault → Type 0
Refusal name rows e = (e ≡ Memory)
    ⊎ (((e ≡ BadRoot) × HasBadRoot (Some (name, rows)))
    ⊎ (((e ≡ BadForm) × HasBadForm (Some (name, rows))) ⊎ ((e ≡ BadEdition) × HasBadEdition (Some (name, rows)))))

-- its bad root
pub bad_root_match : (matched : Option (Text × List Row)) (r : Result Job WordsFault) (name : Text) (rows : List Row) → Some (name, rows) ≡ matched → r ≡ Err BadRoot
    → IfErr r (Refusal name rows) → HasBadRoot matched
bad_root_match matched (Ok job) name rows same is told = cc
bad_root_match matched (Err e) name rows same is told = by told
  where
    by : Refusal name rows e → HasBadRoot matched
    by (inl memory) = let bad : e ≡ BadRoot = cc in cc
    by (inr (inl root)) = subst HasBadRoot same root.1
    by (inr (inr (inl form))) = let bad : e ≡ BadRoot = cc in cc (form.0)
    by (inr (inr (inr edition))) = let bad : e ≡ BadRoot = cc in cc (edition.0)

-- its bad form
pub bad_form_match : (matched : Option (Text × List Row)) (r : Result Job WordsFault) (name : Text) (rows : List Row) → Some (name, rows) ≡ matched → r ≡ Err BadForm
    → IfErr r (Refusal name rows) → HasBadForm matched
bad_form_match matched (Ok job) name rows same is told = cc
bad_form_match matched (Err e) name rows same is told = by told
  where
    by : Refusal name rows e → HasBadForm matched
    by (inl memory) = let bad : e ≡ BadForm = cc in cc
    by (inr (inl root)) = let bad : e ≡ BadForm = cc in cc (root.0)
    by (inr (inr (inl form))) = subst HasBadForm same form.1
    by (inr (inr (inr edition))) = let bad : e ≡ BadForm = cc in cc (edition.0)

-- its bad edition
pub bad_edition_match : (matched : Option (Text × List Row)) (r : Result Job WordsFault) (name : Text) (rows : List Row) → Some (name, rows) ≡ matched → r ≡ Err BadEdition
    → IfErr r (Refusal name rows) → HasBadEdition matched
bad_edition_match matched (Ok job) name rows same is told = cc
bad_edition_match matched (Err e) name rows same is told = by told
  where
    by : Refusal name rows e → HasBadEdition matched
    by (inl memory) = let bad : e ≡ BadEdition = cc in cc
    by (inr (inl root)) = let bad : e ≡ BadEdition = cc in cc (root.0)
    by (inr (inr (inl form))) = let bad : e ≡ BadEdition = cc in cc (form.0)
    by (inr (inr (inr edition))) = subst HasBadEdition same edition.1
