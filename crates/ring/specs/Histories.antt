-- What is observed of a ring: moments, each with the ring before and after it.
use Rattle.std.specs.Prelude.{ℕ, zero, suc, ◌-◌, List, [], ◌∷◌, Some, None, Option, Ok, Err, Result}
use Rattle.memory.specs.declared.cells.Limits.{Limits}
use Rattle.memory.specs.declared.refusals.Refusal.{Refusal}
use Rattle.ring.specs.declared.calls.Answer.{Answer}
use Rattle.ring.specs.declared.calls.Task.{Task}
use Rattle.ring.specs.declared.calls.Task.TheVariants.{Put, Take}
use Rattle.ring.specs.declared.dealings.Dealing.{Dealing}
use Rattle.ring.specs.declared.dealings.Dealing.TheVariants.{BeginPut, BeginTake, Step, RunAlone}
use Rattle.ring.specs.declared.dealings.Entry.{Entry}
use Rattle.ring.specs.declared.dealings.Reply.{Reply}
use Rattle.ring.specs.declared.dealings.Reply.TheVariants.{Begun, Stepped}
use Rattle.ring.specs.Rings.{Ring, Dealt, advanced, unless_answered}
use Rattle.ring.specs.Dealings.{deal}

-- what happened at a moment: a begin was accepted, or a step was, with the answer if it gave one
pub data Deed : Type 0 where
  begins : Task → Deed
  steps : Option Answer → Deed

pub record Moment : Type 0 where
  pub seat : ℕ
  pub deed : Deed
  pub before : Ring
  pub after : Ring

-- moments, the newest first
abbrev pub History : Type 0
History = List Moment

abbrev pub begin_moment : ℕ → Task → Ring → Ring → Moment
begin_moment seat task ring after = record { seat = seat; deed = begins task; before = ring; after = after }

abbrev pub step_moment : ℕ → Ring → Ring → Option Answer → Moment
step_moment seat ring after answer = record { seat = seat; deed = steps answer; before = ring; after = after }

-- The moments of a run alone that makes at most one step more than this number: as many as it makes steps.
-- The newest is what the run returned: the ring that it left, and its answer.
abbrev pub run_moments : Limits → ℕ → Ring → ℕ → Ring → Option Answer → History → History
run_moments limits zero ring seat after answer earlier = step_moment seat ring after answer ∷ earlier
run_moments limits (suc n) ring seat after answer earlier =
    let m = advanced limits ring seat in
    unless_answered m.answer (step_moment seat ring after answer ∷ earlier)
    (run_moments limits n m.ring seat after answer (step_moment seat ring m.ring m.answer ∷ earlier))

-- the answer that a reply gives, if it gives one
abbrev pub answer_in : Reply → Option Answer
answer_in Begun = None
answer_in (Stepped answer) = answer

-- the moments of an accepted dealing with this ring, by the ring that it left and its reply, ahead of all earlier ones
abbrev pub moments_of : Limits → Ring → Dealing → Ring → Reply → History → History
moments_of limits ring (BeginPut seat value) after reply earlier = begin_moment seat (Put value) ring after ∷ earlier
moments_of limits ring (BeginTake seat) after reply earlier = begin_moment seat Take ring after ∷ earlier
moments_of limits ring (Step seat) after reply earlier = step_moment seat ring after (answer_in reply) ∷ earlier
moments_of limits ring (RunAlone seat count) after reply earlier =
    run_moments limits (count - 1) ring seat after (answer_in reply) earlier

-- what is observed of one dealing, by the ring that it left and its answer, ahead of all earlier moments; one that is refused leaves no moment
abbrev pub observed : Limits → Ring → Dealing → Dealt (Result Reply Refusal) → History → History
observed limits ring d result earlier =
    elim result.answer [ Ok reply ↦ moments_of limits ring d result.ring reply earlier | Err cause ↦ earlier ]

-- what is observed of a list of dealings; the first dealing stands first in the list
abbrev pub observed_from : Limits → Ring → List Dealing → History → History
observed_from limits ring [] earlier = earlier
observed_from limits ring (d ∷ ds) earlier =
    let result = deal limits ring d in observed_from limits result.ring ds (observed limits ring d result earlier)

-- the moments since the ring was as given
abbrev pub history_of : Limits → Ring → List Dealing → History
history_of limits ring ds = observed_from limits ring ds []

-- f of what there is; y where there is nothing
abbrev pub if_replied : {X Y : Type 0} → Option X → (X → Y) → Y → Y
if_replied None f y = y
if_replied (Some x) f y = f x

-- what a log tells: the same as is observed, by the answers that stand in it; an entry with none tells nothing
abbrev pub told_from : Limits → Ring → List Entry → History → History
told_from limits ring [] earlier = earlier
told_from limits ring (e ∷ es) earlier =
    let left = (deal limits ring e.dealing).ring in
    told_from limits left es
    (if_replied e.reply (λ answer. observed limits ring e.dealing (record { ring = left; answer = answer }) earlier) earlier)
