-- Dealings with a ring: each meets the ring as the one before left it.
use Rattle.std.specs.Prelude.{if◌then◌else◌, List, [], ◌∷◌, map, length, Some, Result}
use Rattle.std.specs.Result.{result_map_both}
use Rattle.memory.specs.declared.cells.Limits.{Limits}
use Rattle.memory.specs.declared.refusals.Refusal.{Refusal}
use Rattle.memory.specs.Refusals.{unless}
use Rattle.memory.specs.Sizes.{is_ring_size}
use Rattle.ring.specs.declared.dealings.Dealing.{Dealing}
use Rattle.ring.specs.declared.dealings.Dealing.TheVariants.{BeginPut, BeginTake, Step, RunAlone}
use Rattle.ring.specs.declared.dealings.Entry.{Entry}
use Rattle.ring.specs.declared.dealings.Reply.{Reply}
use Rattle.ring.specs.declared.dealings.Reply.TheVariants.{Begun, Stepped}
use Rattle.ring.specs.Rings.{Ring, Dealt, new_ring, settled, size_causes, begin_put, begin_take, step_once, run_alone}

-- the same ring, and the answer as a reply
abbrev pub replying : {X : Type 0} → (X → Reply) → Dealt (Result X Refusal) → Dealt (Result Reply Refusal)
replying f d = record { ring = d.ring; answer = result_map_both f (λ cause. cause) d.answer }

-- what a dealing leaves, and its answer
abbrev pub deal : Limits → Ring → Dealing → Dealt (Result Reply Refusal)
deal limits ring (BeginPut seat value) = replying (λ _. Begun) (begin_put limits ring seat value)
deal limits ring (BeginTake seat) = replying (λ _. Begun) (begin_take ring seat)
deal limits ring (Step seat) = replying Stepped (step_once limits ring seat)
deal limits ring (RunAlone seat count) = replying Stepped (run_alone limits ring seat count)

-- the ring after all of a list of dealings
unfoldable pub ring_after : Limits → Ring → List Dealing → Ring
ring_after limits ring [] = ring
ring_after limits ring (d ∷ ds) = ring_after limits (deal limits ring d).ring ds

-- the entries of a log, each with what came of its dealing
unfoldable pub logged : Limits → Ring → List Entry → List Entry
logged limits ring [] = []
logged limits ring (e ∷ es) =
    record { dealing = e.dealing; reply = Some (deal limits ring e.dealing).answer }
    ∷ logged limits (deal limits ring e.dealing).ring es

abbrev pub dealings_of : List Entry → List Dealing
dealings_of log = map (λ (e : Entry). e.dealing) log

-- a ring is made, and all the dealings of a log are carried out with it
abbrev pub carried_out : Limits → Ring → List Entry → Dealt (Result (Unit {0}) Refusal)
carried_out limits ring log =
    settled (unless (size_causes ring) (length ring.cells)) ring
    (ring_after limits (new_ring (length ring.cells)) (dealings_of log)) tt

abbrev pub log_after : Limits → Ring → List Entry → List Entry
log_after limits ring log = if is_ring_size (length ring.cells) then logged limits (new_ring (length ring.cells)) log else log
