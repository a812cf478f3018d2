-- A cell in one number, and a row of such numbers as a list of cells.
use Rattle.std.proofs.Common.{◌≡◌, ℕ, ◌^◌, ◌<◌, ap₂, div-add-mod'}
use Rattle.std.proofs.lemmas.Nat.{mod_low, shr_high}
use Rattle.memory.specs.declared.cells.Cell.{Cell}
use Rattle.memory.specs.Packing.{packed, unpacked}

-- over any number of bits for the value, a cell comes back from its number
pub unpacked-packed : (bits : ℕ) (c : Cell) → c.value < 2 ^ bits → unpacked bits (packed bits c) ≡ c
unpacked-packed bits c h =
    ap₂ (λ (v r : ℕ). record { value = v; round = r }) (mod_low c.round bits c.value h) (shr_high c.round bits c.value h)

-- and a number from its cell
pub packed-unpacked : (bits w : ℕ) → packed bits (unpacked bits w) ≡ w
packed-unpacked bits w = div-add-mod' w (2 ^ bits)
