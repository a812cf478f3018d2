-- A run alone, by its first step.
use Rattle.std.proofs.Common.{◌≡◌, ℕ, ◌+◌, ◌-◌, ◌<◌, true, Some, None, Option, is_some, sym, refl, ◌∙◌, add-one, arith}
use Rattle.std.proofs.lemmas.Bool.{true≢false}
use Rattle.memory.specs.declared.cells.Limits.{Limits}
use Rattle.ring.specs.declared.calls.Answer.{Answer}
use Rattle.ring.specs.Rings.{Ring, Dealt, advanced, unless_answered, run}

-- a run of n + 1 steps whose first leaves m
run_first : (limits : Limits) (k n : ℕ) (ring : Ring) (seat : ℕ) (m : Dealt (Option Answer)) → k ≡ n + 1 → m ≡ advanced limits ring seat
    → run limits k ring seat ≡ unless_answered m.answer m (run limits n m.ring seat)
unfolding run
run_first limits k n ring seat m e is = rw (e, add-one, is)

-- a run goes on after a step with no answer
pub run_goes_on : (limits : Limits) (k n : ℕ) (ring : Ring) (seat : ℕ) (left : Ring) → k ≡ n + 1 → record { ring = left; answer = None } ≡ advanced limits ring seat
    → run limits k ring seat ≡ run limits n left seat
run_goes_on limits k n ring seat left e is = run_first limits k n ring seat (record { ring = left; answer = None }) e is

-- it ends with one that answers
pub run_ends : (limits : Limits) (k : ℕ) (ring : Ring) (seat : ℕ) → 0 < k → is_some (advanced limits ring seat).answer ≡ true → run limits k ring seat ≡ advanced limits ring seat
run_ends limits k ring seat z e =
    run_first limits k (k - 1) ring seat (advanced limits ring seat) (omega arith) refl ∙ answered (advanced limits ring seat).answer e
  where
    answered : (p : Option Answer) → is_some p ≡ true → unless_answered p (advanced limits ring seat) (run limits (k - 1) (advanced limits ring seat).ring seat) ≡ advanced limits ring seat
    answered (Some a) e = refl
    answered None e = absurd (true≢false (sym e))

-- and where no step is left
pub run_none : (limits : Limits) (k : ℕ) (ring : Ring) (seat : ℕ) → k ≡ 0 → run limits k ring seat ≡ record { ring = ring; answer = None }
unfolding run
run_none limits k ring seat e = rw e

pub ruleset run_steps = (run_goes_on, run_ends, run_none)
