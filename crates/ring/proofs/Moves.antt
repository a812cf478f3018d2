-- One seat moves, and what is true of the ring stays true.
use Rattle.std.proofs.Common.{◌≡◌, ℕ, ◌+◌, ◌<◌, ◌≤◌, List, length, set, ◌∙◌, inl, inr, arith}
use Rattle.std.proofs.lemmas.Bool.{cases_eq}
use Rattle.std.proofs.lemmas.List.{get_or-set_same, get_or-set_other, length-set}
use Rattle.memory.specs.declared.cells.Cell.{Cell}
use Rattle.memory.specs.declared.cells.Limits.{Limits}
use Rattle.ring.specs.declared.seat.Hints.{Hints}
use Rattle.ring.specs.declared.seat.Seat.{Seat}
use Rattle.ring.specs.declared.seat.Seat.TheVariants.{Idle}
use Rattle.ring.specs.Rings.{Ring, ring_of, seat_at}
use Rattle.ring.specs.Law.{Account}
use Rattle.ring.proofs.Shape.{place_at, Shape}
use Rattle.ring.proofs.Invariant.{SeatSound, RingSound, outdone, survives}

-- the ring with these cells and hints, and this seat at s
abbrev pub with_seat : Ring → ℕ → List Cell → Hints → Seat → Ring
with_seat r s cells hints seat =
    ring_of cells (record { size = r.board.size; hints = hints; seats = set r.board.seats s seat })

pub seat_here : (r : Ring) (s : ℕ) (cells : List Cell) (hints : Hints) (seat : Seat) → s < length r.board.seats → seat_at (with_seat r s cells hints seat) s ≡ seat
seat_here r s cells hints seat l = get_or-set_same r.board.seats s seat Idle l

pub seat_else : (r : Ring) (s : ℕ) (cells : List Cell) (hints : Hints) (seat : Seat) (i : ℕ) → (i ≡ s → ⊥) → seat_at (with_seat r s cells hints seat) i ≡ seat_at r i
seat_else r s cells hints seat i n = get_or-set_other r.board.seats s i seat Idle n

module _ (S : ℕ) (limits : Limits) (puts takes : List ℕ) (accounts accounts' : ℕ → Account) (r : Ring) (inv : RingSound S limits puts takes accounts r) (s : ℕ) (sits : s < 16) (hints : Hints) (ph : hints.put < S) (th : hints.take < S) (seat : Seat) where
  -- other seats stay where they were, and what is true of them stays true
  kept : (cells : List Cell) (puts' takes' : List ℕ) → Shape S limits.round cells puts' takes' → SeatSound S limits cells (length puts') (length takes') seat (accounts' s) → ((i : ℕ) → (i ≡ s → ⊥) → i < 16 → SeatSound S limits cells (length puts') (length takes') (seat_at r i) (accounts' i)) → RingSound S limits puts' takes' accounts' (with_seat r s cells hints seat)
  kept cells puts' takes' shape own others =
      record {
        shape = shape;
        size = inv.size;
        sixteen = length-set r.board.seats s seat ∙ inv.sixteen;
        put_hint = ph;
        take_hint = th;
        seats = λ i k. elim (cases_eq i s) [
          | inl e ↦ rw (e, seat_here r s cells hints seat (omega (arith, inv.sixteen))) own
          | inr n ↦ rw (seat_else r s cells hints seat i n) (others i n k)
        ];
      }

  pub quiet : SeatSound S limits r.cells (length puts) (length takes) seat (accounts' s) → ((i : ℕ) → (i ≡ s → ⊥) → accounts' i ≡ accounts i) → RingSound S limits puts takes accounts' (with_seat r s r.cells hints seat)
  quiet own others = kept r.cells puts takes inv.shape own (λ i n k. rw (others i n) (inv.seats i k))

  pub changing : (cells : List Cell) (puts' takes' : List ℕ) → Shape S limits.round cells puts' takes' → ((i : ℕ) → place_at S r.cells i ≤ place_at S cells i) → length puts ≤ length puts' → length puts' ≤ length puts + 1 → length takes' ≤ length takes + 1 → SeatSound S limits cells (length puts') (length takes') seat (accounts' s) → ((i : ℕ) → (i ≡ s → ⊥) → accounts' i ≡ outdone 1 (accounts i)) → RingSound S limits puts' takes' accounts' (with_seat r s cells hints seat)
  changing cells puts' takes' shape rises more one one' own others =
      kept cells puts' takes' shape own
      (λ i n k. rw (others i n)
      (survives S limits r.cells cells (length puts) (length puts') (length takes) (length takes') rises more one one' (seat_at r i) (accounts i) (inv.seats i k)))
