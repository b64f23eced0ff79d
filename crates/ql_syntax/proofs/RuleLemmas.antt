-- Readers that follow rules.
use Rattle.std.proofs.Common.{◌≡◌, ℕ, Bool, true, false, List, Result, Ok, Err, IfOk, IfErr, refl, sym, ◌∙◌, ap, subst, inl, inr}
use Rattle.std.specs.Prelude.{IsErrAnd}
use Rattle.ql_syntax.specs.internal.Following.{ParseOutcome, Follows, Keeps, Read, Stopped, NoMemory}
use Rattle.ql_syntax.specs.internal.Places.{IsMemoryOr}
use Rattle.ql_syntax.specs.TokenRules.{Next, unexpected}
use Rattle.ql_syntax.specs.Rules.{Rule, ◌>>=◌, give, refuse, from, choose, by_case, First, Second}
use Rattle.ql_syntax.specs.internal.TokenParts.{IsUnexpected}
use Rattle.ql_syntax.specs.declared.cause.QlCause.{QlCause}
use Rattle.ql_syntax.specs.declared.syntax_error.SyntaxError.{SyntaxError}

-- what a test that failed says
pub not_true : {b : Bool} → b ≡ false → b ≡ true → ⊥
not_true fails holds = let bad : false ≡ true = sym fails ∙ holds in cc

-- a result by its clauses
pub follows_both : {M : Type 0} {A X : Type 0} {rule : Rule A} {view : X → A × List ℕ} {text : List ℕ} {r : Result X SyntaxError}
    → IfOk r (λ x. rule.reads text (view x).0 (view x).1) → IfErr r (λ stop. rule.stops text stop.cause stop.rest.now) → ParseOutcome M rule view text r
follows_both {r = Ok x} reads stops = Read x refl reads
follows_both {r = Err stop} reads stops = Stopped stop refl stops

pub follows_memory : {A X : Type 0} {rule : Rule A} {view : X → A × List ℕ} {text : List ℕ} {r : Result X SyntaxError}
    → IfOk r (λ x. rule.reads text (view x).0 (view x).1) → IfErr r (λ stop. IsMemoryOr (rule.stops text) stop) → Follows rule view text r
follows_memory {r = Ok x} reads stops = Read x refl reads
follows_memory {r = Err stop} reads (inl memory) = NoMemory tt stop refl memory
follows_memory {r = Err stop} reads (inr stops) = Stopped stop refl stops

-- an exit by `?` hands on the stop
pub stop_of : {X : Type 0} (r : Result X SyntaxError) (stop : SyntaxError) → IsErrAnd r (λ f. f ≡ stop) → r ≡ Err stop
stop_of (Ok x) stop is = absurd is
stop_of (Err s) stop is = ap (λ (f : SyntaxError). Err f) is

-- a reader that takes no memory, where one may
pub follows_of : {A X : Type 0} {rule : Rule A} {view : X → A × List ℕ} {text : List ℕ} {r : Result X SyntaxError} → Keeps rule view text r → Follows rule view text r
follows_of (Read x same reads) = Read x same reads
follows_of (Stopped stop same stops) = Stopped stop same stops
follows_of (NoMemory scarce stop same memory) = absurd scarce

-- what a reader reads is what its rule reads
pub read_of : {M : Type 0} {A X : Type 0} {rule : Rule A} {view : X → A × List ℕ} {text : List ℕ} {x : X} → ParseOutcome M rule view text (Ok x) → rule.reads text (view x).0 (view x).1
read_of {rule = rule} {view = view} {text = text} {x = x} (Read y same reads) = let e : y ≡ x = cc in subst (λ (z : _). rule.reads text (view z).0 (view z).1) e reads
read_of (Stopped stop same stops) = absurd (cc)
read_of (NoMemory scarce stop same memory) = absurd (cc)

-- where a reader that takes no memory stops its rule does
pub stops_of : {A X : Type 0} {rule : Rule A} {view : X → A × List ℕ} {text : List ℕ} {stop : SyntaxError} → Keeps rule view text (Err stop) → rule.stops text stop.cause stop.rest.now
stops_of (Read x same reads) = absurd (cc)
stops_of {rule = rule} {text = text} {stop = stop} (Stopped other same stops) = let e : other ≡ stop = cc in subst (λ (s : SyntaxError). rule.stops text s.cause s.rest.now) e stops
stops_of (NoMemory scarce stop same memory) = absurd scarce

-- what is read, seen in another way
pub follows_as : {M N : Type 0} {A X Y : Type 0} {rule : Rule A} {v : Y → A × List ℕ} {view : X → A × List ℕ} {text : List ℕ} {y : Y} {x : X} → ParseOutcome M rule v text (Ok y) → (v y).0 ≡ (view x).0 → (v y).1 ≡ (view x).1 → ParseOutcome N rule view text (Ok x)
follows_as {rule = rule} {v = v} {view = view} {text = text} {y = y} {x = x} follows value rest =
    Read x refl (subst (λ (a : _). rule.reads text a (view x).1) value (subst (λ (s : List ℕ). rule.reads text (v y).0 s) rest (read_of follows)))

-- where the first of two rules reads, both read and stop as the second does
pub follows_then : {M N : Type 0} {A B X Y : Type 0} {first : Rule A} (second : A → Rule B) {v : Y → A × List ℕ} {view : X → B × List ℕ} {text : List ℕ} {y : Y} {r : Result X SyntaxError}
    → ParseOutcome M first v text (Ok y) → ParseOutcome N (second (v y).0) view (v y).1 r → ParseOutcome N (first >>= second) view text r
unfolding ◌>>=◌
follows_then second {v = v} {y = y} front (Read x same reads) = Read x same record { front = (v y).0; middle = (v y).1; front_reads = read_of front; back_reads = reads }
follows_then second {v = v} {y = y} front (Stopped stop same stops) = Stopped stop same (Second (v y).0 (v y).1 (read_of front) stops)
follows_then second front (NoMemory scarce stop same memory) = NoMemory scarce stop same memory

-- where the first stops, both do
pub follows_stop : {M : Type 0} {A B X Y : Type 0} {first : Rule A} (second : A → Rule B) {v : Y → A × List ℕ} {view : X → B × List ℕ} {text : List ℕ} {stop : SyntaxError} {r : Result X SyntaxError}
    → ParseOutcome M first v text (Err stop) → IsErrAnd r (λ f. f ≡ stop) → Follows (first >>= second) view text r
unfolding ◌>>=◌
follows_stop second (Read x same reads) is = absurd (cc)
follows_stop second {r = r} (Stopped stop same stops) is = Stopped stop (stop_of r _ is ∙ cc) (First stops)
follows_stop second {r = r} (NoMemory scarce stop same memory) is = NoMemory tt stop (stop_of r _ is ∙ cc) memory

-- where the first stops and takes no memory
pub keeps_stop : {A B X Y : Type 0} {first : Rule A} (second : A → Rule B) {v : Y → A × List ℕ} {view : X → B × List ℕ} {text : List ℕ} {stop : SyntaxError} {r : Result X SyntaxError}
    → Keeps first v text (Err stop) → IsErrAnd r (λ f. f ≡ stop) → Keeps (first >>= second) view text r
unfolding ◌>>=◌
keeps_stop second (Read x same reads) is = absurd (cc)
keeps_stop second {r = r} (Stopped stop same stops) is = Stopped stop (stop_of r _ is ∙ cc) (First stops)
keeps_stop second (NoMemory scarce stop same memory) is = absurd scarce

-- the last rule of several stops
pub follows_exit : {M : Type 0} {A X Y : Type 0} {rule : Rule A} {v : Y → A × List ℕ} {view : X → A × List ℕ} {text : List ℕ} {stop : SyntaxError} {r : Result X SyntaxError}
    → ParseOutcome M rule v text (Err stop) → IsErrAnd r (λ f. f ≡ stop) → Follows rule view text r
follows_exit (Read x same reads) is = absurd (cc)
follows_exit {r = r} (Stopped stop same stops) is = Stopped stop (stop_of r _ is ∙ cc) stops
follows_exit {r = r} (NoMemory scarce stop same memory) is = NoMemory tt stop (stop_of r _ is ∙ cc) memory

pub keeps_exit : {A X Y : Type 0} {rule : Rule A} {v : Y → A × List ℕ} {view : X → A × List ℕ} {text : List ℕ} {stop : SyntaxError} {r : Result X SyntaxError}
    → Keeps rule v text (Err stop) → IsErrAnd r (λ f. f ≡ stop) → Keeps rule view text r
keeps_exit (Read x same reads) is = absurd (cc)
keeps_exit {r = r} (Stopped stop same stops) is = Stopped stop (stop_of r _ is ∙ cc) stops
keeps_exit (NoMemory scarce stop same memory) is = absurd scarce

pub follows_give : {M : Type 0} {A X : Type 0} {view : X → A × List ℕ} {text : List ℕ} {value : A} {x : X} → (view x).0 ≡ value → (view x).1 ≡ text → ParseOutcome M (give value) view text (Ok x)
unfolding give
follows_give {x = x} is rest = Read x refl (is, rest)

pub follows_refuse : {M : Type 0} {A X : Type 0} {view : X → A × List ℕ} {text : List ℕ} {why : QlCause} {at : List ℕ} {stop : SyntaxError} → stop.cause ≡ why → stop.rest.now ≡ at → ParseOutcome M (refuse why at) view text (Err stop)
unfolding refuse
follows_refuse {stop = stop} cause place = Stopped stop refl (cause, place)

pub follows_unexpected : {M : Type 0} {A X : Type 0} {view : X → A × List ℕ} {text : List ℕ} (next : Next) {stop : SyntaxError} → IsUnexpected next.kind next.place stop.cause stop.rest.now → ParseOutcome M (unexpected next) view text (Err stop)
unfolding unexpected
follows_unexpected next is = follows_refuse is.0 is.1

pub follows_from : {M : Type 0} {A X : Type 0} {rule : Rule A} {view : X → A × List ℕ} {start text : List ℕ} {r : Result X SyntaxError} → ParseOutcome M rule view start r → ParseOutcome M (from start rule) view text r
unfolding from
follows_from (Read x same reads) = Read x same reads
follows_from (Stopped stop same stops) = Stopped stop same stops
follows_from (NoMemory scarce stop same memory) = NoMemory scarce stop same memory

pub follows_yes : {M : Type 0} {A X : Type 0} {holds : Type 0} {first : Rule A} (other : Rule A) {view : X → A × List ℕ} {text : List ℕ} {r : Result X SyntaxError} → holds → ParseOutcome M first view text r → ParseOutcome M (choose holds first other) view text r
unfolding choose
follows_yes other it (Read x same reads) = Read x same (inl (it, reads))
follows_yes other it (Stopped stop same stops) = Stopped stop same (inl (it, stops))
follows_yes other it (NoMemory scarce stop same memory) = NoMemory scarce stop same memory

pub follows_no : {M : Type 0} {A X : Type 0} {holds : Type 0} (first : Rule A) {other : Rule A} {view : X → A × List ℕ} {text : List ℕ} {r : Result X SyntaxError} → (holds → ⊥) → ParseOutcome M other view text r → ParseOutcome M (choose holds first other) view text r
unfolding choose
follows_no first not (Read x same reads) = Read x same (inr (not, reads))
follows_no first not (Stopped stop same stops) = Stopped stop same (inr (not, stops))
follows_no first not (NoMemory scarce stop same memory) = NoMemory scarce stop same memory

pub follows_case : {M : Type 0} {A X K : Type 0} {view : X → A × List ℕ} {text : List ℕ} {case actual : K} (rule : K → Rule A) {r : Result X SyntaxError} → case ≡ actual → ParseOutcome M (rule case) view text r → ParseOutcome M (by_case actual rule) view text r
unfolding by_case
follows_case {M = M} {view = view} {text = text} rule {r = r} is follows = subst (λ (k : _). ParseOutcome M (rule k) view text r) is follows

-- a rule of an equal value
pub follows_at : {M : Type 0} {A X K : Type 0} {view : X → A × List ℕ} {text : List ℕ} {k same : K} (rule : K → Rule A) {r : Result X SyntaxError} → k ≡ same → ParseOutcome M (rule k) view text r → ParseOutcome M (rule same) view text r
follows_at {M = M} {view = view} {text = text} rule {r = r} is follows = subst (λ (k : _). ParseOutcome M (rule k) view text r) is follows

-- a rule that goes on at an equal place
pub follows_from_at : {M : Type 0} {A X : Type 0} (rule : Rule A) {view : X → A × List ℕ} {start same : List ℕ} (text : List ℕ) {r : Result X SyntaxError} → start ≡ same → ParseOutcome M rule view start r → ParseOutcome M (from same rule) view text r
follows_from_at {M = M} rule {view = view} text {r = r} is follows = follows_from (subst (λ (s : List ℕ). ParseOutcome M rule view s r) is follows)
