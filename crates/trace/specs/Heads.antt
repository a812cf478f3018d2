-- The head of a trace, its first eight bytes.
-- Byte 0 is 1. Bytes 1 to 4 are the length of the whole trace, byte 5 the kind of memory, and bytes 6 and 7 the number of cells, a power of two from 2 to 256. A trace has at most 65,536 bytes.
use Rattle.std.specs.Prelude.{ℕ, Bool, if◌then◌else◌, not, ◌&&◌, List, [], ◌∷◌, length, is_some, Some, None, Option, Result, ◌==◌, nat_le, nat_lt, unwrap_or}
use Rattle.memory.specs.declared.refusals.Refusal.{Refusal}
use Rattle.memory.specs.declared.refusals.Refusal.TheVariants.{TraceHead}
use Rattle.memory.specs.Refusals.{unless, and_then}
use Rattle.memory.specs.Sizes.{is_ring_size}
use Rattle.page.specs.Bytes.{field}
use Rattle.trace.specs.declared.head.Head.{Head}
use Rattle.trace.specs.declared.head.Kind.{Kind}
use Rattle.trace.specs.declared.head.Kind.TheVariants.{Records, Words, Page}

-- the number that stands for a kind
abbrev pub kind_number : Kind → ℕ
kind_number Records = 1
kind_number Words = 2
kind_number Page = 3

-- the kind that a number stands for, if it stands for one
abbrev pub kind_of : ℕ → Option Kind
kind_of n = if n == 1 then Some Records else if n == 2 then Some Words else if n == 3 then Some Page else None

-- why these bytes are no trace: too few or too many, another version, another length in the head
abbrev pub length_causes : List ℕ → List (Bool × Refusal)
length_causes bytes =
    (nat_lt (length bytes) 8, TraceHead) ∷ (nat_lt 65536 (length bytes), TraceHead) ∷ (not (field 0 1 bytes == 1), TraceHead)
    ∷ (not (field 1 4 bytes == length bytes), TraceHead) ∷ []

-- why no trace has such a memory: no kind has this number; this size is no power of two from 2 to 256
abbrev pub memory_causes : ℕ → ℕ → List (Bool × Refusal)
memory_causes kind size = (not (is_some (kind_of kind)), TraceHead) ∷ (not (nat_le size 256 && is_ring_size size), TraceHead) ∷ []

-- the head of these two fields
abbrev pub head_with : ℕ → ℕ → Result Head Refusal
head_with kind size = unless (memory_causes kind size) (record { kind = unwrap_or (kind_of kind) Records; size = size })

-- the head of a trace of these bytes
abbrev pub head_of : List ℕ → Result Head Refusal
head_of bytes = and_then (unless {X = Unit {0}} (length_causes bytes) tt) (head_with (field 5 1 bytes) (field 6 2 bytes))
