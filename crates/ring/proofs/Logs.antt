-- A log that is carried out entry by entry.
use Rattle.std.proofs.Common.{◌≡◌, ℕ, zero, suc, ◌+◌, ◌<◌, ◌≤◌, List, [], ◌∷◌, ◌++◌, length, get_or, take, drop, set, Some, Result, sym, refl, ap, arith}
use Rattle.std.proofs.lemmas.List.{append-nil, append_assoc, drop-set-lt, drop_all, drop_more, take_all, take_more_set}
use Rattle.memory.specs.declared.cells.Limits.{Limits}
use Rattle.memory.specs.declared.refusals.Refusal.{Refusal}
use Rattle.ring.specs.declared.dealings.Entry.{Entry}
use Rattle.ring.specs.declared.dealings.Reply.{Reply}
use Rattle.ring.specs.Rings.{Ring, Dealt}
use Rattle.ring.specs.Dealings.{deal, ring_after, logged, dealings_of}
use Rattle.ring.specs.Histories.{History, observed, observed_from, told_from}
use Rattle.ring.specs.Law.{RunsLawfully, ToldLawfully}

-- the ring and the log at the end of a run that stands at entry i
unfoldable pub ring_at_end : Limits → Ring → List Entry → ℕ → Ring
ring_at_end limits ring log i = ring_after limits ring (dealings_of (drop i log))

unfoldable pub log_at_end : Limits → Ring → List Entry → ℕ → List Entry
log_at_end limits ring log i = take i log ++ logged limits ring (drop i log)

-- at the start of a log it is all of the log
pub ring_from_start : (limits : Limits) (ring : Ring) (log : List Entry) → ring_at_end limits ring log 0 ≡ ring_after limits ring (dealings_of log)
unfolding ring_at_end
ring_from_start limits ring log = refl

pub log_from_start : (limits : Limits) (ring : Ring) (log : List Entry) → log_at_end limits ring log 0 ≡ logged limits ring log
unfolding log_at_end
log_from_start limits ring log = refl

-- one entry more does not change what the end will be
module _ (limits : Limits) (ring left : Ring) (answer : Result Reply Refusal) (log : List Entry) (i : ℕ) (o : Entry) (l : i < length log) (is : record { ring = left; answer = answer } ≡ deal limits ring (get_or log i o).dealing) where
  abbrev e : Entry
  e = get_or log i o

  abbrev pub written : Entry
  written = record { dealing = e.dealing; reply = Some answer }

  rest : drop (i + 1) (set log i written) ≡ drop (i + 1) log
  rest = drop-set-lt (i + 1) log i written (omega arith)

  split : drop i log ≡ e ∷ drop (i + 1) log
  split = drop_more log i o l

  pub ring_end : ring_at_end limits ring log i ≡ ring_at_end limits left (set log i written) (i + 1)
  unfolding ring_after ring_at_end
  ring_end = sym (rw (rest, split) (ap (λ (x : Dealt (Result Reply Refusal)). ring_after limits x.ring (dealings_of (drop (i + 1) log))) is))

  pub log_end : log_at_end limits ring log i ≡ log_at_end limits left (set log i written) (i + 1)
  unfolding logged log_at_end
  log_end = sym
      (rw (rest, take_more_set log i written l, split, append_assoc)
      (ap (λ (x : Dealt (Result Reply Refusal)). take i log ++ (record { dealing = e.dealing; reply = Some x.answer } ∷ logged limits x.ring (drop (i + 1) log))) is))

-- where no entry is left, the end is here
pub ring_ended : (limits : Limits) (ring : Ring) (log : List Entry) (i : ℕ) → length log ≤ i → ring_at_end limits ring log i ≡ ring
unfolding ring_after ring_at_end
ring_ended limits ring log i l = rw (drop_all i log l)

pub log_ended : (limits : Limits) (ring : Ring) (log : List Entry) (i : ℕ) → length log ≤ i → log_at_end limits ring log i ≡ log
unfolding logged log_at_end
log_ended limits ring log i l = rw (drop_all i log l, take_all i log l, append-nil log)

-- WHAT A LOG TELLS is what is observed of its dealings
told_logged : (limits : Limits) (ring : Ring) (log : List Entry) (H : History) → told_from limits ring (logged limits ring log) H ≡ observed_from limits ring (dealings_of log) H
unfolding logged
told_logged limits ring [] H = refl
told_logged limits ring (e ∷ es) H = told_logged limits (deal limits ring e.dealing).ring es (observed limits ring e.dealing (deal limits ring e.dealing) H)

take_logged : (limits : Limits) (ring : Ring) (log : List Entry) (n : ℕ) → take n (logged limits ring log) ≡ logged limits ring (take n log)
unfolding logged
take_logged limits ring log zero = refl
take_logged limits ring [] (suc n) = refl
take_logged limits ring (e ∷ es) (suc n) = ap (λ (l : List Entry). record { dealing = e.dealing; reply = Some (deal limits ring e.dealing).answer } ∷ l) (take_logged limits (deal limits ring e.dealing).ring es n)

pub told_lawfully : (S : ℕ) (limits : Limits) (ring new : Ring) (log told : List Entry) → RunsLawfully S limits ring → ring ≡ new → told ≡ logged limits ring log → ToldLawfully S limits new told
told_lawfully S limits ring new log told w is by =
    rw (by, ← is)
    (record { told = λ n. rw (take_logged limits ring log n, told_logged limits ring (take n log) []) (w.lawful (dealings_of (take n log))) })

pub ruleset log_steps = (ring_from_start, log_from_start, ring_end, log_end, ring_ended, log_ended)
