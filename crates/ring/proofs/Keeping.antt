-- What every accepted begin and every accepted step keep is kept by all dealings.
use Rattle.std.proofs.Common.{◌≡◌, ℕ, zero, suc, ◌-◌, ◌<◌, Bool, true, false, ◌||◌, eqb, ltb, List, [], ◌∷◌, Some, None, Option, Err, refl, subst, arith}
use Rattle.std.proofs.lemmas.Bool.{cond_both, ltb-false, eqb-false, or_parts, not-false}
use Rattle.memory.specs.declared.cells.Limits.{Limits}
use Rattle.memory.specs.declared.refusals.Refusal.{Refusal}
use Rattle.memory.specs.Refusals.{unless}
use Rattle.ring.specs.declared.calls.Answer.{Answer}
use Rattle.ring.specs.declared.calls.Task.{Task}
use Rattle.ring.specs.declared.calls.Task.TheVariants.{Put, Take}
use Rattle.ring.specs.declared.dealings.Dealing.{Dealing}
use Rattle.ring.specs.declared.dealings.Dealing.TheVariants.{BeginPut, BeginTake, Step, RunAlone}
use Rattle.ring.specs.declared.dealings.Reply.{Reply}
use Rattle.ring.specs.declared.dealings.Reply.TheVariants.{Begun, Stepped}
use Rattle.ring.specs.Rings.{Ring, Dealt, seat_at, is_idle, begun, advanced, unless_answered, run, settled, put_causes, begin_causes, step_causes, run_causes}
use Rattle.ring.specs.Dealings.{replying, deal, ring_after}
use Rattle.ring.specs.Histories.{History, begin_moment, step_moment, run_moments, moments_of, observed, observed_from}
use Rattle.ring.proofs.Invariant.{Fitting}

-- no cause applies
abbrev pub NoCause : List (Bool × Refusal) → Type 0
NoCause [] = Unit {0}
NoCause (cause ∷ causes) = (cause.0 ≡ false) × NoCause causes

module _ (limits : Limits) (P : History → Ring → Type 0)
    (on_begin : (H : History) (r : Ring) → P H r → (s : ℕ) (task : Task) → s < 16 → is_idle (seat_at r s) ≡ true → Fitting limits task → P (begin_moment s task r (begun r s task) ∷ H) (begun r s task))
    (on_step : (H : History) (r : Ring) → P H r → (s : ℕ) → s < 16 → is_idle (seat_at r s) ≡ false → P (step_moment s r (advanced limits r s).ring (advanced limits r s).answer ∷ H) (advanced limits r s).ring)
    (busy_on : (H : History) (r : Ring) → P H r → (s : ℕ) → s < 16 → is_idle (seat_at r s) ≡ false → (advanced limits r s).answer ≡ None → is_idle (seat_at (advanced limits r s).ring s) ≡ false) where
  -- a refused dealing leaves the history and the ring as they were
  settled_keeps : {X : Type 0} (f : X → Reply) (d : Dealing) (causes : List (Bool × Refusal)) (n : ℕ) (r after : Ring) (x : X) (H : History) → P H r → (NoCause causes → P (moments_of limits r d after (f x) H) after) → P (observed limits r d (replying f (settled (unless causes n) r after x)) H) (settled (unless causes n) r after x).ring
  settled_keeps f d [] n r after x H kept go = go tt
  settled_keeps f d (cause ∷ causes) n r after x H kept go =
      cond_both cause.0 (Err cause.1) (unless causes n) (λ j. P (observed limits r d (replying f (settled j r after x)) H) (settled j r after x).ring)
      (λ _. kept) (λ e. settled_keeps f d causes n r after x H kept (λ w. go (e, w)))

  seat_within : (s : ℕ) → ltb 15 s ≡ false → s < 16
  seat_within s e = omega (arith, ltb-false 15 s e)

  value_fits : (v : ℕ) → (eqb v 0 || ltb limits.value v) ≡ false → Fitting limits (Put v)
  value_fits v e =
      let p = or_parts (eqb v 0) (ltb limits.value v) e in
      (omega (arith, eqb-false v 0 p.0), ltb-false limits.value v p.1)

  one_before : (n : ℕ) → 0 < n → suc (n - 1) ≡ n
  one_before n z = omega arith

  some_steps : (n : ℕ) → (eqb n 0 || ltb 8192 n) ≡ false → 0 < n
  some_steps n e = omega (arith, eqb-false n 0 (or_parts (eqb n 0) (ltb 8192 n) e).0)

  -- a run of n + 1 steps or fewer
  abbrev KeptByRun : ℕ → Ring → ℕ → Dealt (Option Answer) → History → Type 0
  KeptByRun n r s m H = P (run_moments limits n r s m.ring m.answer H) m.ring

  run_keeps : (n : ℕ) (r : Ring) (s : ℕ) (H : History) → s < 16 → is_idle (seat_at r s) ≡ false → P H r → KeptByRun n r s (run limits (suc n) r s) H
  unfolding run
  run_keeps zero r s H sits busy kept = go (advanced limits r s).answer refl
    where
      go : (p : Option Answer) → (advanced limits r s).answer ≡ p → KeptByRun zero r s (unless_answered p (advanced limits r s) (record { ring = (advanced limits r s).ring; answer = None })) H
      go (Some a) e = on_step H r kept s sits busy
      go None e = rw e at (on_step H r kept s sits busy)
  run_keeps (suc n) r s H sits busy kept =
      go (on_step H r kept s sits busy)
      (λ e. run_keeps n (advanced limits r s).ring s X sits (busy_on H r kept s sits busy e) (on_step H r kept s sits busy))
      (advanced limits r s).answer refl
    where
      X : History
      X = step_moment s r (advanced limits r s).ring (advanced limits r s).answer ∷ H

      rest : Dealt (Option Answer)
      rest = run limits (suc n) (advanced limits r s).ring s

      go : P X (advanced limits r s).ring → ((advanced limits r s).answer ≡ None → KeptByRun n (advanced limits r s).ring s rest X) → (p : Option Answer) → (advanced limits r s).answer ≡ p
          → let m = unless_answered p (advanced limits r s) rest in P (unless_answered p (step_moment s r m.ring m.answer ∷ H) (run_moments limits n (advanced limits r s).ring s m.ring m.answer X)) m.ring
      go now more (Some a) e = now
      go now more None e = more e

  pub deal_keeps : (d : Dealing) (H : History) (r : Ring) → P H r → P (observed limits r d (deal limits r d) H) (deal limits r d).ring
  deal_keeps (BeginPut s v) H r kept =
      settled_keeps (λ _. Begun) (BeginPut s v) (put_causes limits r s v) s r (begun r s (Put v)) tt H kept
      (λ w. on_begin H r kept s (Put v) (seat_within s w.0) (not-false (is_idle (seat_at r s)) w.1.1.0) (value_fits v w.1.1.1.0))
  deal_keeps (BeginTake s) H r kept =
      settled_keeps (λ _. Begun) (BeginTake s) (begin_causes r s []) s r (begun r s Take) tt H kept
      (λ w. on_begin H r kept s Take (seat_within s w.0) (not-false (is_idle (seat_at r s)) w.1.1.0) tt)
  deal_keeps (Step s) H r kept =
      settled_keeps Stepped (Step s) (step_causes r s []) s r (advanced limits r s).ring (advanced limits r s).answer H kept
      (λ w. on_step H r kept s (seat_within s w.0) w.1.1.0)
  deal_keeps (RunAlone s n) H r kept =
      settled_keeps Stepped (RunAlone s n) (run_causes r s n) s r (run limits n r s).ring (run limits n r s).answer H kept
      (λ w. subst (λ (k : ℕ). KeptByRun (n - 1) r s (run limits k r s) H) (one_before n (some_steps n w.1.1.1.0))
      (run_keeps (n - 1) r s H (seat_within s w.0) w.1.1.0 kept))

  pub dealings_keep : (ds : List Dealing) (H : History) (r : Ring) → P H r → P (observed_from limits r ds H) (ring_after limits r ds)
  unfolding ring_after
  dealings_keep [] H r kept = kept
  dealings_keep (d ∷ ds) H r kept = dealings_keep ds (observed limits r d (deal limits r d) H) (deal limits r d).ring (deal_keeps d H r kept)
