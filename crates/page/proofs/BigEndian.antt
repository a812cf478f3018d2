-- The digits that bytes write are the numbers that the integer types read from them.
use Rattle.std.proofs.Common.{◌≡◌, ℕ, List, length, arith}
use Rattle.std.proofs.lemmas.Grind.{common_steps}
use Rattle.std.specs.Int.{w16, w32, w64, from_be_bytes}
use Rattle.std.specs.Int.Digits.{number_from_digits}

pub digits_2 : (xs : List ℕ) → length xs ≡ 2 → number_from_digits 256 xs ≡ from_be_bytes w16 xs
digits_2 xs l = grind (arith, common_steps)

pub digits_4 : (xs : List ℕ) → length xs ≡ 4 → number_from_digits 256 xs ≡ from_be_bytes w32 xs
digits_4 xs l = grind (arith, common_steps)

pub digits_8 : (xs : List ℕ) → length xs ≡ 8 → number_from_digits 256 xs ≡ from_be_bytes w64 xs
digits_8 xs l = grind (arith, common_steps)
