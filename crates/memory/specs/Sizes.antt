-- The sizes that a ring can have.
use Rattle.std.specs.Prelude.{◌≡◌, ℕ, ◌^◌, ◌≤◌, Bool, ◌&&◌, ◌==◌, count_ones, nat_le}

-- a power of two from 2 to 4,096
abbrev pub RingSize : ℕ → Type 0
RingSize s = (k : ℕ) × (1 ≤ k) × (k ≤ 12) × (s ≡ 2 ^ k)

-- the same as a test, by the count of one bits
abbrev pub is_ring_size : ℕ → Bool
is_ring_size s = count_ones s == 1 && (nat_le 2 s && nat_le s 4096)
