-- A number with one bit set is a power of two.
use Rattle.std.proofs.Common.{◌≡◌, ℕ, suc, ◌+◌, ◌*◌, ◌/◌, ◌%◌, ◌^◌, ◌≤◌, true, ◌&&◌, eqb, leb, IsTrue, ◌↔◌, refl, ap, ◌∙◌, inl, inr, pow-suc, arith, pow_mono}
use lib.Arith.{bin_ind}
use lib.Count.{ones, ones_in, ones_step, ones_cat}
use Rattle.std.proofs.lemmas.Nat.{pow_pos, pow_below, zero_from_ones}
use Rattle.std.proofs.lemmas.Bool.{eq-eqb, eqb-true, le-leb, leb-true, and_from, and_parts, cases_eq, cases_lt}
use Rattle.memory.specs.Sizes.{RingSize, is_ring_size}

ones_zero : ones 0 ≡ 0
unfolding ones ones_in
ones_zero = refl

ones_one : ones 1 ≡ 1
unfolding ones ones_in
ones_one = refl

power_from_ones : (n : ℕ) → ones n ≡ 1 → (k : ℕ) × (n ≡ 2 ^ k)
power_from_ones = bin_ind (λ (n : ℕ). ones n ≡ 1 → (k : ℕ) × (n ≡ 2 ^ k)) (λ h. absurd (omega (arith, ones_zero))) step
  where
    step : (n : ℕ) → (ones (n / 2) ≡ 1 → (k : ℕ) × (n / 2 ≡ 2 ^ k)) → ones n ≡ 1 → (k : ℕ) × (n ≡ 2 ^ k)
    step n ih h = elim (cases_eq (n % 2) 0) [
      | inl e ↦
          let s = ones_step n in
          let q : ones (n / 2) ≡ 1 = omega arith in
          let p = ih q in
          let t = p.1 in
          (suc p.0, let u = pow-suc 2 p.0 in omega arith)
      | inr e ↦
          let s = ones_step n in
          let q : ones (n / 2) ≡ 0 = omega arith in
          let z = zero_from_ones (n / 2) q in
          (0, omega arith)
    ]

ones_power : (k : ℕ) → ones (2 ^ k) ≡ 1
ones_power k =
    let e : 1 * 2 ^ k + 0 ≡ 2 ^ k = omega arith in
    let c = ones_cat k 1 0 (pow_pos k) in
    let d = ap ones e in
    omega (arith, ones_zero, ones_one)

size_from_ones : (s : ℕ) → ones s ≡ 1 → 2 ≤ s → s ≤ 4096 → RingSize s
size_from_ones s h lo hi =
    let p = power_from_ones s h in
    let e = p.1 in (
      p.0,
      elim (cases_lt 0 p.0) [ inl q ↦ q | inr q ↦ absurd (let m = pow_mono {i = p.0} {j = 0} q in omega arith) ],
      elim (cases_lt 12 p.0) [ inl q ↦ absurd (let m = pow_below 12 p.0 q in omega arith) | inr q ↦ q ],
      e,
    )

pub size_bounds : (s : ℕ) → RingSize s → (2 ≤ s) × (s ≤ 4096)
size_bounds s a =
    let e = a.3 in
    let lo = pow_mono {i = 1} {j = a.0} a.1 in
    let hi = pow_mono {i = a.0} {j = 12} a.2 in
    (omega arith, omega arith)

-- the test by the count of one bits decides whether a number is a power of two from 2 to 4,096
pub decides_ring_size : (s : ℕ) → IsTrue (is_ring_size s) ↔ RingSize s
decides_ring_size s = (up, down)
  where
    up : is_ring_size s ≡ true → RingSize s
    up h =
        let p = and_parts (eqb (ones s) 1) (leb 2 s && leb s 4096) h in
        let q = and_parts (leb 2 s) (leb s 4096) p.1 in
        size_from_ones s (eqb-true (ones s) 1 p.0) (leb-true 2 s q.0) (leb-true s 4096 q.1)

    down : RingSize s → is_ring_size s ≡ true
    down a =
        let b = size_bounds s a in
        and_from _ _ (eq-eqb (ones s) 1 (ap ones a.3 ∙ ones_power a.0)) (and_from _ _ (le-leb 2 s b.0) (le-leb s 4096 b.1))
