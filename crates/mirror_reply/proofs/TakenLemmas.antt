-- What is said of the bytes kept is true of all bytes received.
use Rattle.std.proofs.Common.{◌≡◌, ◌∙◌, ℕ, Bool, false, List, [], ◌++◌, ap, sym, refl, subst, inl, inr, append_assoc, append-nil}
use Rattle.std.specs.Prelude.{◌≢◌}
use Rattle.mirror_reply.specs.Replies.{HasReply}
use Rattle.mirror_reply.specs.Standings.{HasText, Standing, Stands, failed, replied, waits}
use Rattle.mirror_reply.specs.Taken.{HasTaken, IsSettled, Kept, Tells}
use Rattle.mirror_reply.specs.internal.Stages.{Keeps, Says, SaysOf}
use Rattle.mirror_reply.specs.declared.progress.Progress.{Progress}
use Rattle.mirror_reply.specs.declared.progress.Progress.TheVariants.{More, Whole}
use Rattle.mirror_reply.proofs.shared.SpelledLemmas.{reply-spelled, reply-stands}
use Rattle.mirror_reply.proofs.StandingLemmas.{settled-append, stands-unique, text-settled}

says-tells : (limit : ℕ) (closed : Bool) (received : List ℕ) (s : Standing) (p : Progress) → Says s p → Stands limit closed received s → Tells limit closed received p
says-tells limit closed received waits p e is = subst (Tells limit closed received) (sym e) is
says-tells limit closed received (replied a b c) p e is = subst (Tells limit closed received) (sym e) (a, b, c, reply-spelled limit closed received a b c is)
says-tells limit closed received (failed f) p e is = subst (Tells limit closed received) (sym e) is

-- what stands of the bytes kept stands of those received
pub stands-taken : (limit : ℕ) (closed : Bool) (bytes received : List ℕ) (s : Standing) → HasTaken (record { limit = limit; bytes = bytes }) received
    → Stands limit closed bytes s → Stands limit closed received s
stands-taken limit closed bytes received s (later, split, inl none) is =
    let same : received ≡ bytes = split ∙ ap (λ (t : List ℕ). bytes ++ t) none ∙ append-nil bytes in
    subst (λ (t : List ℕ). Stands limit closed t s) (sym same) is
stands-taken limit closed bytes received s (later, split, inr (t, stands, settled)) is =
    let here : Stands limit closed bytes t = subst (λ (r : List ℕ). Stands limit closed r t) (append-nil bytes) (settled-append limit closed bytes [] t stands settled) in
    let same : t ≡ s = stands-unique limit closed bytes t s here is in
    subst (λ (r : List ℕ). Stands limit closed r s) (sym split) (subst (Stands limit closed (bytes ++ later)) same (settled-append limit closed bytes later t stands settled))

pub tells-taken : (limit : ℕ) (closed : Bool) (bytes received : List ℕ) (p : Progress) → HasTaken (record { limit = limit; bytes = bytes }) received
    → SaysOf limit closed bytes p → Tells limit closed received p
tells-taken limit closed bytes received p taken (s, is, says) = says-tells limit closed received s p says (stands-taken limit closed bytes received s taken is)

-- ---- more is waited for, or it is decided

more-waits : (s : Standing) (p : Progress) → Says s p → p ≡ More → s ≡ waits
more-waits waits p says e = refl
more-waits (replied a b c) p says e = cc
more-waits (failed f) p says e = cc

waits-more : (s : Standing) (p : Progress) → Says s p → s ≡ waits → p ≡ More
waits-more waits p says e = says
waits-more (replied a b c) p says e = cc
waits-more (failed f) p says e = cc

pub says-waits : (limit : ℕ) (closed : Bool) (bytes : List ℕ) (p : Progress) → SaysOf limit closed bytes p → p ≡ More → Stands limit closed bytes waits
says-waits limit closed bytes p (s, is, says) e = subst (Stands limit closed bytes) (more-waits s p says e) is

pub says-settled : (limit : ℕ) (bytes : List ℕ) (p : Progress) → SaysOf limit false bytes p → p ≢ More → IsSettled limit bytes
says-settled limit bytes p (s, is, says) other = (s, is, λ e. other (waits-more s p says e))

-- ---- a further piece

pub taken-settled : (limit : ℕ) (bytes received piece : List ℕ) → HasTaken (record { limit = limit; bytes = bytes }) received → IsSettled limit bytes
    → HasTaken (record { limit = limit; bytes = bytes }) (received ++ piece)
taken-settled limit bytes received piece (later, split, how) settled =
    (later ++ piece, ap (λ (t : List ℕ). t ++ piece) split ∙ append_assoc bytes later piece, inr settled)

-- where more is waited for, all bytes received are kept
pub taken-waits : (limit : ℕ) (bytes received : List ℕ) → HasTaken (record { limit = limit; bytes = bytes }) received → Stands limit false bytes waits → received ≡ bytes
taken-waits limit bytes received (later, split, inl none) is = split ∙ ap (λ (t : List ℕ). bytes ++ t) none ∙ append-nil bytes
taken-waits limit bytes received (later, split, inr (t, stands, settled)) is = absurd (settled (stands-unique limit false bytes t waits stands is))

pub taken-kept : (limit : ℕ) (old new received piece : List ℕ) → HasTaken (record { limit = limit; bytes = old }) received → Stands limit false old waits
    → Keeps limit old new piece → HasTaken (record { limit = limit; bytes = new }) (received ++ piece)
taken-kept limit old new received piece taken is (later, split, how) =
    (later, ap (λ (t : List ℕ). t ++ piece) (taken-waits limit old received taken is) ∙ split, how)

-- ---- the text

pub text-taken : (limit : ℕ) (bytes received text : List ℕ) → HasTaken (record { limit = limit; bytes = bytes }) received → HasText bytes text → HasText received text
text-taken limit bytes received text (later, split, inl none) is =
    let same : received ≡ bytes = split ∙ ap (λ (t : List ℕ). bytes ++ t) none ∙ append-nil bytes in
    subst (λ (t : List ℕ). HasText t text) (sym same) is
text-taken limit bytes received text (later, split, inr settled) is =
    subst (λ (t : List ℕ). HasText t text) (sym split) (text-settled limit bytes later text settled is)

-- ---- of a reply that contracts see as what it keeps

module _ (kept : Kept) (limit : ℕ) (inside bytes received : List ℕ) (view : record { limit = limit; bytes = inside } ≡ kept) (same : bytes ≡ inside) (taken : HasTaken kept received) where
  taken-inside : HasTaken (record { limit = limit; bytes = bytes }) received
  taken-inside =
      subst (λ (b : List ℕ). HasTaken (record { limit = limit; bytes = b }) received) (sym same)
      (subst (λ (k : Kept). HasTaken k received) (sym view) taken)

  limit-is : limit ≡ kept.limit
  limit-is = ap (λ (k : Kept). k.limit) view

  pub view-tells : (closed : Bool) (p : Progress) → SaysOf limit closed bytes p → Tells kept.limit closed received p
  view-tells closed p says = subst (λ n. Tells n closed received p) limit-is (tells-taken limit closed bytes received p taken-inside says)

  pub view-text : (text : List ℕ) → HasText bytes text → HasText received text
  view-text text is = text-taken limit bytes received text taken-inside is

  pub view-reply : (r a p : List ℕ) → Stands limit false bytes (replied r a p) → HasReply kept.limit received r a p
  view-reply r a p is = subst (λ n. HasReply n received r a p) limit-is (reply-spelled limit false received r a p (stands-taken limit false bytes received (replied r a p) taken-inside is))

  pub view-none : ((r a p : List ℕ) → Stands limit false bytes (replied r a p) → ⊥) → (r a p : List ℕ) → HasReply kept.limit received r a p → ⊥
  view-none none r a p is = none r a p (back taken-inside (reply-stands limit false received r a p (subst (λ n. HasReply n received r a p) (sym limit-is) is)))
    where
      back : HasTaken (record { limit = limit; bytes = bytes }) received → Stands limit false received (replied r a p) → Stands limit false bytes (replied r a p)
      back (later, split, inl none) is =
          let whole : received ≡ bytes = split ∙ ap (λ (t : List ℕ). bytes ++ t) none ∙ append-nil bytes in
          subst (λ (t : List ℕ). Stands limit false t (replied r a p)) whole is
      back (later, split, inr (t, stands, settled)) is =
          let there : Stands limit false (bytes ++ later) (replied r a p) = subst (λ (x : List ℕ). Stands limit false x (replied r a p)) split is in
          let one = stands-unique limit false (bytes ++ later) t (replied r a p) (settled-append limit false bytes later t stands settled) there in
          subst (Stands limit false bytes) one stands

-- the bytes kept of a whole reply are one
pub whole-kept : (kept : Kept) (received : List ℕ) → HasTaken kept received → Tells kept.limit false received Whole → Tells kept.limit false kept.bytes Whole
whole-kept kept received taken (r, a, p, is) =
    (r, a, p, reply-spelled kept.limit false kept.bytes r a p (back taken (reply-stands kept.limit false received r a p is)))
  where
    back : HasTaken kept received → Stands kept.limit false received (replied r a p) → Stands kept.limit false kept.bytes (replied r a p)
    back (later, split, inl none) is =
        let whole : received ≡ kept.bytes = split ∙ ap (λ (t : List ℕ). kept.bytes ++ t) none ∙ append-nil kept.bytes in
        subst (λ (t : List ℕ). Stands kept.limit false t (replied r a p)) whole is
    back (later, split, inr (t, stands, settled)) is =
        let there : Stands kept.limit false (kept.bytes ++ later) (replied r a p) = subst (λ (x : List ℕ). Stands kept.limit false x (replied r a p)) split is in
        let one = stands-unique kept.limit false (kept.bytes ++ later) t (replied r a p) (settled-append kept.limit false kept.bytes later t stands settled) there in
        subst (Stands kept.limit false kept.bytes) one stands

module _ (kept : Kept) (limit : ℕ) (inside bytes received piece : List ℕ) (view : record { limit = limit; bytes = inside } ≡ kept) (same : bytes ≡ inside) (taken : HasTaken kept received) where
  pub view-settled : IsSettled limit bytes → HasTaken kept (received ++ piece)
  view-settled settled =
      subst (λ (k : Kept). HasTaken k (received ++ piece)) view
      (taken-settled limit inside received piece (subst (λ (k : Kept). HasTaken k received) (sym view) taken) (subst (IsSettled limit) same settled))

  pub view-kept : (new : List ℕ) → Stands limit false bytes waits → Keeps limit inside new piece → HasTaken (record { limit = limit; bytes = new }) (received ++ piece)
  view-kept new is keeps =
      taken-kept limit inside new received piece (subst (λ (k : Kept). HasTaken k received) (sym view) taken)
      (subst (λ (b : List ℕ). Stands limit false b waits) same is) keeps
