-- Sending a request, and hearing a response, call by call.
use Rattle.std.proofs.Common.{◌≡◌, ◌∙◌, ◌<◌, ◌≤◌, ◌+◌, ℕ, true, false, List, [], ◌∷◌, ◌++◌, ap, sym, refl, subst, inl, inr, arith, length, take, drop, append-nil, take-append-drop, take-add, lit<}
use Rattle.std.specs.Prelude.{Option, Some, None, Result, Ok, Err}
use Rattle.std.proofs.lemmas.List.{length-drop, take_all}
use Rattle.mirror_reply.specs.Calls.{Call, broken, bytes_received, ended, noted, opened, received, sent, unsent}
use Rattle.mirror_reply.specs.Fetches.{Ends, Fetch, HasFetched, IsBegun, IsWaiting}
use Rattle.mirror_reply.specs.Heads.{unfinished}
use Rattle.mirror_reply.specs.Standings.{HasFault, Stands, waits}
use Rattle.mirror_reply.specs.Taken.{HasTaken, Kept, Tells}
use Rattle.mirror_reply.specs.internal.Asking.{HasStuck, IsHearing, IsReady, IsSending}
use Rattle.mirror_reply.specs.declared.fetch_fault.FetchFault.{FetchFault}
use Rattle.mirror_reply.specs.declared.fetch_fault.FetchFault.TheVariants.{Memory, Reply, Silent}
use Rattle.mirror_reply.specs.declared.limits.TheConstants.{READ_LIMIT}
use Rattle.mirror_reply.specs.declared.progress.Progress.TheVariants.{Failed, More, Whole}
use Rattle.mirror_reply.specs.declared.reply_fault.ReplyFault.{ReplyFault}

pub noted-some : (call : Call) (log new : Option (List Call)) (calls base : List Call) → log ≡ Some (calls ++ base) → new ≡ noted call log → new ≡ Some ((call ∷ calls) ++ base)
noted-some call log new calls base is e = e ∙ ap (noted call) is

-- ---- sending

pub sending-start : (request : List ℕ) → IsSending request 0 (opened true ∷ [])
sending-start request = record { is_opened = (refl, refl); front = refl; none_received = refl; none_read = refl }

pub sending-more : (request slice : List ℕ) (done n : ℕ) (calls : List Call) → IsSending request done calls → slice ≡ drop done request
    → IsSending request (done + n) (sent (take n slice) ∷ calls)
sending-more request slice done n calls is same = record {
  is_opened = is.is_opened;
  front = ap (λ (t : List ℕ). t ++ take n slice) is.front ∙ ap (λ (t : List ℕ). take done request ++ take n t) same ∙ sym (take-add done n request);
  none_received = is.none_received;
  none_read = is.none_read;
}

pub sending-ready : (request : List ℕ) (done : ℕ) (calls : List Call) → IsSending request done calls → length request ≤ done → IsReady request calls
sending-ready request done calls is all = record {
  is_opened = is.is_opened;
  all_sent = is.front ∙ take_all done request all;
  none_received = is.none_received;
  none_read = is.none_read;
}

pub sending-begun : (request : List ℕ) (done : ℕ) (calls : List Call) → IsSending request done calls → done < length request → IsBegun request calls
sending-begun request done calls is some = record {
  is_opened = is.is_opened;
  unsent_bytes = (drop done request, sym (take-append-drop done request) ∙ ap (λ (t : List ℕ). t ++ drop done request) (sym is.front), omega (arith, length-drop done request));
  none_received = is.none_received;
}

-- ---- hearing

pub hearing-start : (request : List ℕ) (kept : Kept) (asked : List Call) → IsReady request asked → kept.bytes ≡ [] → IsHearing (record { request = request; kept = kept }) 0 asked
hearing-start request kept asked is fresh = record {
  asked = (is.is_opened, is.all_sent);
  counted = is.none_read;
  taken = ([], is.none_received ∙ sym (append-nil kept.bytes ∙ fresh), inl refl);
  stands = subst (λ (t : List ℕ). Stands kept.limit false t waits) (sym is.none_received) (unfinished, (refl, lit< tt), refl);
}

module _ (request : List ℕ) (kept : Kept) (count : ℕ) (calls : List Call) (is : IsHearing (record { request = request; kept = kept }) count calls) where
  waiting : IsWaiting (record { request = request; kept = kept }) calls
  waiting = (is.asked, is.stands)

  pub hearing-more : (after : Kept) (piece : List ℕ) → after.limit ≡ kept.limit → Tells kept.limit false (bytes_received calls ++ piece) More
      → HasTaken after (bytes_received calls ++ piece) → IsHearing (record { request = request; kept = after }) (count + 1) (received piece ∷ calls)
  hearing-more after piece same told taken = record {
    asked = is.asked;
    counted = omega (arith, is.counted);
    taken = taken;
    stands = subst (λ n. Stands n false (bytes_received calls ++ piece) waits) (sym same) told;
  }

  pub ends-whole : (after : Kept) (piece : List ℕ) → after.limit ≡ kept.limit → Tells kept.limit false (bytes_received calls ++ piece) Whole
      → HasTaken after (bytes_received calls ++ piece) → Ends (record { request = request; kept = after }) (received piece ∷ calls) (Ok tt)
  ends-whole after piece same told taken = (is.asked, subst (λ n. Tells n false (bytes_received calls ++ piece) Whole) (sym same) told, taken)

  pub ends-failed : (after : Kept) (piece : List ℕ) (fault : ReplyFault) → after.limit ≡ kept.limit → Tells kept.limit false (bytes_received calls ++ piece) (Failed fault)
      → HasTaken after (bytes_received calls ++ piece) → Ends (record { request = request; kept = after }) (received piece ∷ calls) (Err (Reply fault))
  ends-failed after piece fault same told taken = (is.asked, subst (λ n. HasFault n false (bytes_received calls ++ piece) fault) (sym same) told, taken)

  pub ends-starved : (after : Kept) (piece : List ℕ) → after ≡ kept → Ends (record { request = request; kept = after }) (received piece ∷ calls) (Err Memory)
  ends-starved after piece same =
      subst (λ (k : Kept). Ends (record { request = request; kept = k }) (received piece ∷ calls) (Err Memory)) (sym same) (waiting, is.taken)

  pub ends-broken : Ends (record { request = request; kept = kept }) (broken ∷ calls) (Err Silent)
  ends-broken = (inl waiting, is.taken)

  pub ends-closed : (fault : ReplyFault) → HasFault kept.limit true (bytes_received calls) fault → Ends (record { request = request; kept = kept }) (ended ∷ calls) (Err (Reply fault))
  ends-closed fault told = (is.asked, told, is.taken)

  pub ends-closed_whole : Tells kept.limit true (bytes_received calls) Whole → Ends (record { request = request; kept = kept }) (ended ∷ calls) (Ok tt)
  ends-closed_whole told = (is.asked, told, is.taken)

  pub ends-endless : count ≡ READ_LIMIT → Ends (record { request = request; kept = kept }) calls (Err Silent)
  ends-endless many = (inr (waiting, is.counted ∙ many), is.taken)

-- ---- the bytes kept of a whole reply are one

pub taken-itself : (kept : Kept) → HasTaken kept kept.bytes
taken-itself kept = ([], sym (append-nil kept.bytes), inl refl)

-- ---- the whole

pub stuck-ends : (request : List ℕ) (kept : Kept) (calls : List Call) (fault : FetchFault) → fault ≡ Silent → HasStuck request calls → kept.bytes ≡ []
    → Ends (record { request = request; kept = kept }) calls (Err fault)
stuck-ends request kept calls fault e stuck fresh =
    subst (λ (f : FetchFault). Ends (record { request = request; kept = kept }) calls (Err f)) (sym e) (go calls stuck)
  where
    nothing : (bytes : List ℕ) → bytes ≡ [] → HasTaken kept bytes
    nothing bytes none = ([], none ∙ sym (append-nil kept.bytes ∙ fresh), inl refl)

    go : (calls : List Call) → HasStuck request calls → Ends (record { request = request; kept = kept }) calls (Err Silent)
    go [] stuck = absurd stuck
    go (opened is ∷ before) stuck = absurd stuck
    go (sent bytes ∷ before) stuck = (inl (stuck.0, stuck.1), nothing (bytes_received before) stuck.0.none_received)
    go (unsent ∷ before) stuck = (inl stuck, nothing (bytes_received before) stuck.none_received)
    go (received bytes ∷ before) stuck = absurd stuck
    go (ended ∷ before) stuck = absurd stuck
    go (broken ∷ before) stuck = absurd stuck

pub fetched-by : (f : Fetch) (old new : Option (List Call)) (result : Result (Unit {0}) FetchFault)
    → ((before : List Call) → old ≡ Some before → (calls : List Call) × (new ≡ Some (calls ++ before)) × Ends f calls result) → HasFetched f old new result
fetched-by f None new result is = tt
fetched-by f (Some before) new result is = is before refl
