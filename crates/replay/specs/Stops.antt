-- What may stop a replay.
use Rattle.memory.specs.declared.refusals.Refusal.{Refusal}
use Rattle.replay.specs.declared.Stop.{Stop}
use Rattle.replay.specs.declared.Stop.TheVariants.{Refused, OutOfMemory}

-- a refusal of which P holds, or want of memory
abbrev pub RefusedWith : (Refusal → Type 0) → Stop → Type 0
RefusedWith P (Refused refusal) = P refusal
RefusedWith P (OutOfMemory error) = Unit {0}
