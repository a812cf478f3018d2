-- The cells of a page, and what a write of some of them leaves.
use Rattle.std.proofs.Common.{◌≡◌, ℕ, zero, suc, ◌+◌, ◌-◌, ◌*◌, ◌<◌, ◌≤◌, min, List, [], ◌∷◌, ◌++◌, length, take, drop, set, replicate, Ok, Err, Result, sym, refl, ap, ◌∙◌, ap₂, arith}
use borrow.Rule.Slice.PartMut.{put_mid, mid_of, put_same, same_len_mid}
use Rattle.std.proofs.Math.Seq.{set-append_seam}
use Rattle.std.proofs.lemmas.Bool.Decides.{nat_tests}
use Rattle.std.proofs.lemmas.List.{nil_from_length, length-replicate, length-take-le, length-drop, take_all, take-append-le, drop-append-le}
use Rattle.std.proofs.lemmas.Slice.{take-put_mid_below}
use Rattle.memory.specs.declared.cells.Cell.{Cell}
use Rattle.memory.specs.declared.refusals.Refusal.{Refusal}
use Rattle.memory.specs.Cells.{fresh}
use Rattle.memory.specs.Lists.{overwritten}
use Rattle.memory.specs.Rules.{cleared}
use Rattle.memory.proofs.Overwriting.{overwritten_none, overwritten_clipped}
use Rattle.page.specs.Bytes.{cell_from}
use Rattle.page.specs.Pages.{checked_head, checked, cells_in, cells_by, page_cells, others_by, other_bytes}

pub length-cells_in : (n : ℕ) (xs : List ℕ) → length (cells_in n xs) ≡ n
length-cells_in zero xs = refl
length-cells_in (suc n) xs = ap suc (length-cells_in n (drop 8 xs))

-- the cells of some bytes with others behind them
cells_in-append : (n k : ℕ) (xs ys : List ℕ) → length xs ≡ 8 * n → cells_in (n + k) (xs ++ ys) ≡ cells_in n xs ++ cells_in k ys
cells_in-append zero k xs ys l = ap₂ (λ (j : ℕ) (zs : List ℕ). cells_in j (zs ++ ys)) (let e : 0 + k ≡ k = omega arith in e) (nil_from_length xs l)
cells_in-append (suc n) k xs ys l =
    let long : 8 ≤ length xs = omega arith in
    let more : suc n + k ≡ suc (n + k) = omega arith in
    ap (λ (j : ℕ). cells_in j (xs ++ ys)) more
    ∙ ap₂ (λ (a b : List ℕ). cell_from a ∷ cells_in (n + k) b) (take-append-le 8 xs ys long) (drop-append-le 8 xs ys long)
    ∙ ap (λ (cs : List Cell). cell_from (take 8 xs) ∷ cs) (cells_in-append n k (drop 8 xs) ys (omega (arith, length-drop 8 xs)))

-- bytes of value 0 are cleared cells
cells_in-zeros : (n m : ℕ) → m ≡ 8 * n → cells_in n (replicate m 0) ≡ replicate n fresh
cells_in-zeros zero m e = refl
cells_in-zeros (suc n) m e =
    let more : m ≡ suc (suc (suc (suc (suc (suc (suc (suc (m - 8)))))))) = omega arith in
    ap (λ (j : ℕ). cells_in (suc n) (replicate j 0)) more ∙ ap (λ (cs : List Cell). fresh ∷ cs) (cells_in-zeros n (m - 8) (omega arith))

-- elements of a list that are overwritten in their place
overwritten-append : {X : Type 0} (x : X) (xs ms ys : List X) → overwritten x (xs ++ (ms ++ ys)) (length xs) (length ms) ≡ xs ++ (replicate (length ms) x ++ ys)
overwritten-append x [] [] [] = refl
overwritten-append x [] [] (y ∷ ys) = refl
overwritten-append x [] (m ∷ ms) ys = ap (λ t. x ∷ t) (overwritten-append x [] ms ys)
overwritten-append x (y ∷ xs) ms ys = ap (λ t. y ∷ t) (overwritten-append x xs ms ys)

-- an accepted page is as long as its cells ask, and has as many cells as the check answers
pub accepted_length : (bs : List ℕ) (n : ℕ) → checked bs ≡ Ok n → length bs ≡ 8 + 8 * n
accepted_length bs n e = grind (arith, nat_tests)

pub accepted_count : (bs : List ℕ) (n : ℕ) → checked bs ≡ Ok n → length (page_cells bs) ≡ n
accepted_count bs n e = ap (λ (r : Result ℕ Refusal). length (cells_by r bs)) e ∙ length-cells_in n (drop 8 bs)

-- a page that has a cell is accepted
record Accepted (bs : List ℕ) : Type 0 where
  pub count : ℕ
  pub is : checked bs ≡ Ok count
  pub cells : length (page_cells bs) ≡ count
  pub long : length bs ≡ 8 + 8 * count

accepted_by : (bs : List ℕ) (r : Result ℕ Refusal) → checked bs ≡ r → 0 < length (page_cells bs) → Accepted bs
accepted_by bs (Ok n) e h = record { count = n; is = e; cells = accepted_count bs n e; long = accepted_length bs n e }
accepted_by bs (Err x) e h = absurd (let z : length (page_cells bs) ≡ 0 = ap (λ (r : Result ℕ Refusal). length (cells_by r bs)) e in omega arith)

accepted_with_a_cell : (bs : List ℕ) → 0 < length (page_cells bs) → Accepted bs
accepted_with_a_cell bs h = accepted_by bs (checked bs) refl h

-- there is room for the cells
room_by : (bs : List ℕ) (r : Result ℕ Refusal) → checked bs ≡ r → 8 * length (page_cells bs) ≤ length bs - 8
room_by bs (Ok n) e = omega (arith, accepted_count bs n e, accepted_length bs n e)
room_by bs (Err x) e = let z : length (page_cells bs) ≡ 0 = ap (λ (r : Result ℕ Refusal). length (cells_by r bs)) e in omega arith

pub room : (bs : List ℕ) → 8 * length (page_cells bs) ≤ length bs - 8
room bs = room_by bs (checked bs) refl

-- the cells before some place, and those behind
abbrev before : List ℕ → ℕ → ℕ → List Cell
before bs s p = cells_in s (drop 8 (take p bs))

abbrev behind : List ℕ → ℕ → ℕ → ℕ → List Cell
behind bs r p n = cells_in r (drop n (drop p bs))

-- the bytes of k cells, from index s on
module _ (bs : List ℕ) (s k p n : ℕ) (some : 0 < k) (h : s + k ≤ length (page_cells bs)) (at : p ≡ 8 + 8 * s) (many : n ≡ 8 * k) where
  inside : p + n ≤ length bs
  inside = omega (arith, room bs)

  length_part : length (mid_of p n bs) ≡ n
  length_part = length-take-le n (drop p bs) (omega (arith, inside, length-drop p bs))

  -- other bytes in their place
  module _ (ys : List ℕ) (l : length ys ≡ n) where
    same_head : take 8 (put_mid p n bs ys) ≡ take 8 bs
    same_head = take-put_mid_below p n bs ys 8 (omega arith) (omega (arith, inside))

    -- the check sees the same
    same_check : checked (put_mid p n bs ys) ≡ checked bs
    same_check = ap₂ checked_head (same_len_mid p n bs ys (l ∙ sym length_part)) same_head

    put_cells : page_cells (put_mid p n bs ys) ≡ before bs s p ++ (cells_in k ys ++ behind bs (length (page_cells bs) - (s + k)) p n)
    put_cells =
        let a = accepted_with_a_cell bs (omega arith) in
        let c = a.cells in
        let r = length (page_cells bs) - (s + k) in
        let rest = ys ++ drop n (drop p bs) in
        let front = length-take-le p bs (omega (arith, inside)) in
        let count : a.count ≡ s + (k + r) = omega arith in
        ap (λ (x : Result ℕ Refusal). cells_by x (put_mid p n bs ys)) (same_check ∙ a.is)
        ∙ ap₂ cells_in count (drop-append-le 8 (take p bs) rest (omega arith))
        ∙ cells_in-append s (k + r) (drop 8 (take p bs)) rest (omega (arith, length-drop 8 (take p bs)))
        ∙ ap (λ (cs : List Cell). before bs s p ++ cs) (cells_in-append k r ys (drop n (drop p bs)) (omega arith))

    -- no byte outside the cells changes
    pub put_others : other_bytes (put_mid p n bs ys) ≡ other_bytes bs
    put_others =
        let a = accepted_with_a_cell bs (omega arith) in
        ap (λ (r : Result ℕ Refusal). others_by r (put_mid p n bs ys)) (same_check ∙ a.is) ∙ same_head ∙ ap (λ (r : Result ℕ Refusal). others_by r bs) (sym a.is)

  part_cells : page_cells bs ≡ before bs s p ++ (cells_in k (mid_of p n bs) ++ behind bs (length (page_cells bs) - (s + k)) p n)
  part_cells = ap page_cells (sym (put_same p n bs)) ∙ put_cells (mid_of p n bs) length_part

-- the bytes of one cell are stored
pub stored_cells : (bs ys : List ℕ) (i p n : ℕ) → i < length (page_cells bs) → length ys ≡ 8 → p ≡ 8 + 8 * i → n ≡ 8 → page_cells (put_mid p n bs ys) ≡ set (page_cells bs) i (cell_from ys)
stored_cells bs ys i p n h l at many =
    let b = before bs i p in
    let c = cell_from (take 8 (mid_of p n bs)) in
    let e = behind bs (length (page_cells bs) - (i + 1)) p n in
    put_cells bs i 1 p n (omega arith) (omega arith) at (omega arith) ys (omega arith)
    ∙ ap (λ (xs : List ℕ). b ++ (cell_from xs ∷ e)) (take_all 8 ys (omega arith))
    ∙ sym (ap₂ (λ (cs : List Cell) (j : ℕ). set cs j (cell_from ys)) (part_cells bs i 1 p n (omega arith) (omega arith) at (omega arith)) (sym (length-cells_in i (drop 8 (take p bs)))) ∙ set-append_seam b c e (cell_from ys))

-- the bytes of some cells are set to 0
wiped_cells : (bs z : List ℕ) (s k p n : ℕ) → 0 < k → s + k ≤ length (page_cells bs) → z ≡ replicate n 0 → p ≡ 8 + 8 * s → n ≡ 8 * k → page_cells (put_mid p n bs z) ≡ overwritten fresh (page_cells bs) s k
wiped_cells bs z s k p n some h ez at many =
    let b = before bs s p in
    let m = cells_in k (mid_of p n bs) in
    let e = behind bs (length (page_cells bs) - (s + k)) p n in
    let lb : length b ≡ s = length-cells_in s (drop 8 (take p bs)) in
    let lm : length m ≡ k = length-cells_in k (mid_of p n bs) in
    put_cells bs s k p n some h at many z (ap length ez ∙ length-replicate n 0)
    ∙ ap (λ (cs : List Cell). b ++ (cs ++ e)) (ap (cells_in k) ez ∙ cells_in-zeros k n many ∙ ap (λ (j : ℕ). replicate j fresh) (sym lm))
    ∙ sym (overwritten-append fresh b m e)
    ∙ ap₂ (λ (i j : ℕ). overwritten fresh (b ++ (m ++ e)) i j) lb lm
    ∙ ap (λ (cs : List Cell). overwritten fresh cs s k) (sym (part_cells bs s k p n some h at many))

-- a clear of `count` cells from index s on, clipped to the page: from `first` up to `end`
module _ (bs : List ℕ) (s count first end : ℕ) (f : first ≡ min s (length (page_cells bs))) (e : end ≡ min (first + count) (length (page_cells bs))) where
  clipped_cells : overwritten fresh (page_cells bs) first (end - first) ≡ cleared (page_cells bs) s count
  clipped_cells = overwritten_clipped fresh (page_cells bs) s count first (end - first) f (omega arith)

  pub cleared_cells : (z : List ℕ) (p n : ℕ) → first < end → z ≡ replicate n 0 → p ≡ 8 + 8 * first → n ≡ 8 * (end - first) → page_cells (put_mid p n bs z) ≡ cleared (page_cells bs) s count
  cleared_cells z p n h ez at many = wiped_cells bs z first (end - first) p n (omega arith) (omega arith) ez at many ∙ clipped_cells

  pub cleared_none : end ≤ first → page_cells bs ≡ cleared (page_cells bs) s count
  cleared_none h =
      let none : end - first ≡ 0 = omega arith in
      sym (overwritten_none fresh (page_cells bs) first) ∙ rw none at clipped_cells
