-- A part of a list of cells, under the cell rules.
use Rattle.std.proofs.Common.{◌≡◌, ℕ, zero, suc, ◌+◌, ◌-◌, ◌<◌, ◌≤◌, min, List, [], ◌∷◌, ◌++◌, length, take, drop, set, Some, Option, Ok, Err, Result, sym, refl, ap, ◌∙◌, ap₂, inl, inr, suc-add, zero-add, arith}
use Rattle.std.proofs.lemmas.Bool.{cases_lt}
use Rattle.std.proofs.lemmas.List.{length-take, length-drop, get_or-take, get_or-drop, take-set-le, drop-set-lt, drop-set-add, drop-drop, take-append-drop}
use Rattle.memory.specs.declared.cells.Cell.{Cell}
use Rattle.memory.specs.declared.rules.Declined.{Declined}
use Rattle.memory.specs.Cells.{fresh}
use Rattle.memory.specs.Lists.{overwritten}
use Rattle.memory.specs.Rules.{look_at, answer_at, exchange_answer, stored_by, cleared, Frame}
use Rattle.window.specs.Windows.{windowed, framed, SamePlace, SamePart}
use Rattle.memory.proofs.Looks.{look_inside, look_outside}
use Rattle.memory.proofs.Overwriting.{overwritten_clipped, length-overwritten}

pub length-windowed : (a k : ℕ) (cs : List Cell) → length (windowed a k cs) ≡ min k (length cs - a)
length-windowed a k cs = length-take k (drop a cs) ∙ ap (min k) (length-drop a cs)

pub length_of_window : (a k : ℕ) (cs : List Cell) → a + k ≤ length cs → length (windowed a k cs) ≡ k
length_of_window a k cs h = length-windowed a k cs ∙ (let e : min k (length cs - a) ≡ k = omega arith in e)

pub size_kept : (cs : List Cell) (start count : ℕ) → length (cleared cs start count) ≡ length cs
size_kept cs start count = length-overwritten fresh cs start count

look_windowed : (a k : ℕ) (cs : List Cell) (i : ℕ) → i < k → look_at (windowed a k cs) i ≡ look_at cs (a + i)
look_windowed a k cs i h =
    let l = length-windowed a k cs in
    elim (cases_lt (a + i) (length cs)) [
      | inl q ↦ look_inside (windowed a k cs) i (omega arith) ∙ ap Some (get_or-take k (drop a cs) i fresh h ∙ get_or-drop a cs i fresh) ∙ sym (look_inside cs (a + i) q)
      | inr q ↦ look_outside (windowed a k cs) i (omega arith) ∙ sym (look_outside cs (a + i) q)
    ]

take-set_lt : {X : Type 0} (k : ℕ) (xs : List X) (i : ℕ) (y : X) → i < k → take k (set xs i y) ≡ set (take k xs) i y
take-set_lt zero xs i y h = absurd (omega arith)
take-set_lt (suc k) [] i y h = refl
take-set_lt (suc k) (x ∷ xs) zero y h = refl
take-set_lt (suc k) (x ∷ xs) (suc i) y h = ap (λ t. x ∷ t) (take-set_lt k xs i y (omega arith))

module _ (a k : ℕ) (cs : List Cell) (i : ℕ) (h : i < k) where
  windowed_stored : (r : Result (Unit {0}) Declined) (n : Cell) → windowed a k (stored_by r cs (a + i) n) ≡ stored_by r (windowed a k cs) i n
  windowed_stored (Ok done) n = ap (take k) (drop-set-add a cs i n) ∙ take-set_lt k (drop a cs) i n h
  windowed_stored (Err cause) n = refl

  before_stored : (r : Result (Unit {0}) Declined) (n : Cell) → take a (stored_by r cs (a + i) n) ≡ take a cs
  before_stored (Ok done) n = take-set-le a cs (a + i) n (omega arith)
  before_stored (Err cause) n = refl

  behind_stored : (r : Result (Unit {0}) Declined) (n : Cell) → drop (a + k) (stored_by r cs (a + i) n) ≡ drop (a + k) cs
  behind_stored (Ok done) n = drop-set-lt (a + k) cs (a + i) n (omega arith)
  behind_stored (Err cause) n = refl

  -- an index of a window and the same place below
  pub same_place : SamePlace a k cs i (a + i)
  same_place = record {
    shows = look_windowed a k cs i h;
    inside = λ limits e n after q.
        ap (windowed a k) q ∙ windowed_stored (exchange_answer limits cs (a + i) e n) n
        ∙ ap (λ (o : Option Cell). stored_by (answer_at limits o e n tt) (windowed a k cs) i n) (sym (look_windowed a k cs i h));
    before = λ limits e n after q. ap (take a) q ∙ before_stored (exchange_answer limits cs (a + i) e n) n;
    behind = λ limits e n after q. ap (drop (a + k)) q ∙ behind_stored (exchange_answer limits cs (a + i) e n) n;
  }

drop-overwritten : {X : Type 0} (x : X) (a : ℕ) (ys : List X) (s n : ℕ) → drop a (overwritten x ys (a + s) n) ≡ overwritten x (drop a ys) s n
drop-overwritten x zero ys s n = rw zero-add refl
drop-overwritten x (suc a) [] s n = refl
drop-overwritten x (suc a) (y ∷ ys) s n = rw suc-add (drop-overwritten x a ys s n)

take-overwritten : {X : Type 0} (x : X) (k : ℕ) (ys : List X) (s n : ℕ) → take k (overwritten x ys s n) ≡ overwritten x (take k ys) s n
take-overwritten x zero ys s n = refl
take-overwritten x (suc k) [] s n = refl
take-overwritten x (suc k) (y ∷ ys) zero zero = refl
take-overwritten x (suc k) (y ∷ ys) zero (suc n) = ap (λ t. x ∷ t) (take-overwritten x k ys zero n)
take-overwritten x (suc k) (y ∷ ys) (suc s) n = ap (λ t. y ∷ t) (take-overwritten x k ys s n)

take_before : {X : Type 0} (x : X) (k : ℕ) (ys : List X) (s n : ℕ) → k ≤ s → take k (overwritten x ys s n) ≡ take k ys
take_before x zero ys s n h = refl
take_before x (suc k) [] s n h = refl
take_before x (suc k) (y ∷ ys) zero n h = absurd (omega arith)
take_before x (suc k) (y ∷ ys) (suc s) n h = ap (λ t. y ∷ t) (take_before x k ys s n (omega arith))

drop_behind : {X : Type 0} (x : X) (k : ℕ) (ys : List X) (s n : ℕ) → s + n ≤ k → drop k (overwritten x ys s n) ≡ drop k ys
drop_behind x zero [] s n h = refl
drop_behind x zero (y ∷ ys) zero zero h = refl
drop_behind x zero (y ∷ ys) zero (suc n) h = absurd (omega arith)
drop_behind x zero (y ∷ ys) (suc s) n h = absurd (omega arith)
drop_behind x (suc k) [] s n h = refl
drop_behind x (suc k) (y ∷ ys) zero zero h = refl
drop_behind x (suc k) (y ∷ ys) zero (suc n) h = drop_behind x k ys zero n (omega arith)
drop_behind x (suc k) (y ∷ ys) (suc s) n h = drop_behind x k ys s n (omega arith)

-- a part of a window and the same cells below: `skipped` and `many` are the start and the count, as far as they lie in the window
module _ (a k : ℕ) (cs : List Cell) (start count size skipped many : ℕ) (z : size ≡ length (windowed a k cs)) (s : skipped ≡ min start size) (m : many ≡ min count (size - skipped)) where
  clipped_clear : overwritten fresh (windowed a k cs) skipped many ≡ overwritten fresh (windowed a k cs) start count
  clipped_clear = overwritten_clipped fresh (windowed a k cs) start count skipped many (rw (← z) s) (rw (← z) m)

  pub same_part : SamePart a k cs start count (a + skipped) many
  same_part =
      let l = length-windowed a k cs in
      record {
        inside = λ after q. ap (windowed a k) q ∙ ap (take k) (drop-overwritten fresh a cs skipped many) ∙ take-overwritten fresh k (drop a cs) skipped many ∙ clipped_clear;
        before = λ after q. ap (take a) q ∙ take_before fresh a cs (a + skipped) many (omega arith);
        behind = λ after q. ap (drop (a + k)) q ∙ drop_behind fresh (a + k) cs (a + skipped) many (omega arith);
      }

-- a list is its window between what lies on either side
around : (a k : ℕ) (cs : List Cell) → take a cs ++ (windowed a k cs ++ drop (a + k) cs) ≡ cs
around a k cs =
    ap (λ (t : List Cell). take a cs ++ (windowed a k cs ++ t)) (sym (drop-drop k a cs))
    ∙ ap (λ (t : List Cell). take a cs ++ t) (take-append-drop k (drop a cs)) ∙ take-append-drop a cs

-- what a call on a window leaves of the memory below: the window's new cells between what lay on either side
whole_after : (name a k : ℕ) (cs : List Cell) (frame : Frame) (name' a' k' : ℕ) (cs' : List Cell) (frame' : Frame) (new : List Cell)
    → framed name' a' k' cs' frame' ≡ framed name a k cs frame → windowed a' k' cs' ≡ new → cs' ≡ take a cs ++ (new ++ drop (a + k) cs)
whole_after name a k cs frame name' a' k' cs' frame' new e n =
    let before : take a' cs' ≡ take a cs = cc in
    let behind : drop (a' + k') cs' ≡ drop (a + k) cs = cc in
    sym (around a' k' cs') ∙ ap₂ (λ (p q : List Cell). p ++ (windowed a' k' cs' ++ q)) before behind ∙ ap (λ (t : List Cell). take a cs ++ (t ++ drop (a + k) cs)) n

-- a part that is cleared, seen from a window that it fills
whole_cleared : (a k : ℕ) (cs : List Cell) → a + k ≤ length cs → take a cs ++ (cleared (windowed a k cs) 0 (length (windowed a k cs)) ++ drop (a + k) cs) ≡ cleared cs a k
whole_cleared a k cs h =
    let size = length (windowed a k cs) in
    let l : size ≡ k = length-windowed a k cs ∙ (let e : min k (length cs - a) ≡ k = omega arith in e) in
    let z : a + 0 ≡ a = omega arith in
    let s : 0 ≡ min 0 size = omega arith in
    let m : k ≡ min k (size - 0) = omega arith in
    let same = same_part a k cs 0 k size 0 k refl s m in
    let all = ap (λ (j : ℕ). cleared cs j k) z in
    let e = ap (λ (j : ℕ). cleared (windowed a k cs) 0 j) l in
    sym (
    sym (around a k (cleared cs a k))
    ∙ ap₂ (λ (p q : List Cell). p ++ (windowed a k (cleared cs a k) ++ q)) (same.before (cleared cs a k) (sym all)) (same.behind (cleared cs a k) (sym all))
    ∙ ap (λ (t : List Cell). take a cs ++ (t ++ drop (a + k) cs)) (same.inside (cleared cs a k) (sym all) ∙ sym e))

-- a window that is cleared as a whole: below, that part is cleared and nothing else
pub part_cleared : (name a k : ℕ) (cs : List Cell) (frame : Frame) (name' a' k' : ℕ) (cs' : List Cell) (frame' : Frame) → a + k ≤ length cs
    → framed name' a' k' cs' frame' ≡ framed name a k cs frame → windowed a' k' cs' ≡ cleared (windowed a k cs) 0 (length (windowed a k cs)) → cs' ≡ cleared cs a k
part_cleared name a k cs frame name' a' k' cs' frame' h e n = whole_after name a k cs frame name' a' k' cs' frame' _ e n ∙ whole_cleared a k cs h
