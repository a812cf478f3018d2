-- Indices of a ring of S cells: the one before and the one after, and those in the hints.
use Rattle.std.proofs.Common.{◌≡◌, ℕ, ◌+◌, ◌-◌, ◌%◌, ◌<◌, ◌≤◌, ◌⊎◌, sym, ap, ◌∙◌, inl, inr, mod-eq_of_lt, arith}
use native.Mathlib.Nat.{add-mod_right}
use Rattle.std.proofs.lemmas.Bool.{cases_lt, cases_eq}
use Rattle.std.proofs.lemmas.Bool.Decides.{nat_tests}
use Rattle.ring.specs.declared.calls.Task.{Task}
use Rattle.ring.specs.declared.calls.Task.TheVariants.{Put, Take}
use Rattle.ring.specs.declared.seat.Hints.{Hints}
use Rattle.ring.specs.Looks.{previous, next}
use Rattle.ring.specs.Seats.{hint_of, hinted}

pub previous_is : (S i : ℕ) → i < S → ((i ≡ 0) × (previous S i + 1 ≡ S)) ⊎ (previous S i + 1 ≡ i)
previous_is S i l = elim (cases_eq i 0) [ inl e ↦ inl (e, first e) | inr n ↦ inr (later n) ]
  where
    first : i ≡ 0 → previous S i + 1 ≡ S
    first e = grind (arith, nat_tests)

    later : (i ≡ 0 → ⊥) → previous S i + 1 ≡ i
    later n = grind (arith, nat_tests)

pub next_is : (S i : ℕ) → i < S → ((i + 1 ≡ S) × (next S i ≡ 0)) ⊎ ((i + 1 < S) × (next S i ≡ i + 1))
next_is S i l = elim (cases_lt (i + 1) S) [ inl k ↦ inr (k, inside k) | inr k ↦ inl (omega arith, last k) ]
  where
    inside : i + 1 < S → next S i ≡ i + 1
    inside k = grind (arith, nat_tests)

    last : S ≤ i + 1 → next S i ≡ 0
    last k = grind (arith, nat_tests)

pub previous_inside : (S i : ℕ) → i < S → previous S i < S
previous_inside S i l = omega (arith, previous_is S i l)

pub next_inside : (S i : ℕ) → i < S → next S i < S
next_inside S i l = omega (arith, next_is S i l)

pub previous_next : (S i : ℕ) → i < S → previous S (next S i) ≡ i
previous_next S i l = omega (arith, next_is S i l, previous_is S (next S i) (next_inside S i l))

-- inside the ring the one before is a remainder
pub previous_remainder : (S i : ℕ) → i < S → previous S i ≡ (i + S - 1) % S
previous_remainder S i l =
    elim (previous_is S i l) [
      | inl e ↦ let a : i + S - 1 ≡ previous S i = omega (arith, e) in sym (ap (λ n. n % S) a ∙ mod-eq_of_lt (previous_inside S i l))
      | inr e ↦
          let a : i + S - 1 ≡ previous S i + S = omega (arith, e) in
          sym (ap (λ n. n % S) a ∙ add-mod_right (previous S i) S ∙ mod-eq_of_lt (previous_inside S i l))
    ]

-- THE HINTS, read and written
module _ (S : ℕ) (hints : Hints) (ph : hints.put < S) (th : hints.take < S) where
  pub hint_inside : (task : Task) → hint_of hints task < S
  hint_inside (Put v) = ph
  hint_inside Take = th

  pub hinted_inside : (task : Task) (i : ℕ) → i < S → ((hinted hints task i).put < S) × ((hinted hints task i).take < S)
  hinted_inside (Put v) i l = (l, th)
  hinted_inside Take i l = (ph, l)
