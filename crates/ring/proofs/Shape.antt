-- The shape of the cells of a ring: what it says of a cell read some time ago, and what an exchange makes of it.
use Rattle.std.proofs.Common.{◌≡◌, ℕ, ◌+◌, ◌*◌, ◌<◌, ◌≤◌, List, [], ◌∷◌, ◌++◌, length, get_or, take, set, sym, refl, ap, ◌∙◌, subst, inl, inr, arith}
use Rattle.std.proofs.lemmas.Bool.{cases_lt, cases_eq}
use Rattle.std.proofs.lemmas.List.{get_or-set_same, get_or-set_other, length-set, length_push, get_or_push, get_or_append_left, take-append-le, take_more}
use Rattle.memory.specs.declared.cells.Cell.{Cell}
use Rattle.memory.specs.Cells.{fresh}
use Rattle.ring.specs.Looks.{cell_at, previous, emptied}
use Rattle.ring.proofs.Indices.{previous_inside}
use Rattle.ring.proofs.Places.{place, lap_lt, one_index, previous_of_later, previous_of_tail}

-- the place of the cell that stands at index i
abbrev pub place_at : ℕ → List Cell → ℕ → ℕ
place_at S cells i = place S i (cell_at cells i)

-- A cell that stands at index i: its place is one of the S from the number of takes on, it is filled if so many were put, and then with the number put there.
pub record Stands (S : ℕ) (puts takes : List ℕ) (i : ℕ) (c : Cell) : Type 0 where
  pub low : length takes ≤ place S i c
  pub high : place S i c < length takes + S
  pub full : place S i c < length puts → 0 < c.value
  pub holds : place S i c < length puts → c.value ≡ get_or puts (place S i c) 0
  pub empty : length puts ≤ place S i c → c.value ≡ 0

-- The shape of S cells of which `last` is the last round, once these numbers were put and these were taken.
pub record Shape (S last : ℕ) (cells : List Cell) (puts takes : List ℕ) : Type 0 where
  pub several : 2 ≤ S
  pub size : length cells ≡ S
  pub less : length takes ≤ length puts
  pub room : length puts ≤ length takes + S
  pub most : length puts ≤ last * S
  pub each : (i : ℕ) → i < S → Stands S puts takes i (cell_at cells i)
  pub first : takes ≡ take (length takes) puts

set_here : (cells : List Cell) (h : ℕ) (n : Cell) (i : ℕ) → i ≡ h → h < length cells → cell_at (set cells h n) i ≡ n
set_here cells h n i e k = rw e (get_or-set_same cells h n fresh k)

set_else : (cells : List Cell) (h : ℕ) (n : Cell) (i : ℕ) → (i ≡ h → ⊥) → cell_at (set cells h n) i ≡ cell_at cells i
set_else cells h n i e = get_or-set_other cells h i n fresh e

-- where the new cell's place is no lower, no place falls
pub set_rises : (S : ℕ) (cells : List Cell) (h : ℕ) (n : Cell) → h < length cells → place_at S cells h ≤ place S h n → (i : ℕ) → place_at S cells i ≤ place_at S (set cells h n) i
set_rises S cells h n l up i =
    elim (cases_eq i h) [
      | inl e ↦ rw (set_here cells h n i e l) (subst (λ (k : ℕ). place_at S cells k ≤ place S k n) (sym e) up)
      | inr d ↦ rw (set_else cells h n i d) (omega arith)
    ]

module _ (S last : ℕ) (cells : List Cell) (puts takes : List ℕ) (sh : Shape S last cells puts takes) where
  -- the cell before one that is not the tail stands one place before it
  pub previous_later : (h : ℕ) → h < S → length takes < place_at S cells h → place_at S cells (previous S h) + 1 ≡ place_at S cells h
  previous_later h l after =
      let c = sh.each h l in
      let d = sh.each (previous S h) (previous_inside S h l) in
      previous_of_later S (length takes) h (cell_at cells h).round (cell_at cells (previous S h)).round l c.high d.low d.high after

  -- a cell p read earlier, no later than the one that stands there, and not before the cell now at the next index h: that cell is the tail, and p the last place
  pub not_before : (h : ℕ) (p : Cell) → h < S → place S (previous S h) p ≤ place_at S cells (previous S h) → place_at S cells h ≤ place S (previous S h) p → (place_at S cells h ≡ length takes) × (place S (previous S h) p + 1 ≡ length takes + S)
  not_before h p l behind over =
      elim (cases_lt (length takes) (place_at S cells h)) [
        | inl k ↦ let e = previous_later h l k in absurd (omega arith)
        | inr k ↦
            let c = sh.each h l in
            let d = sh.each (previous S h) (previous_inside S h l) in
            let t : place_at S cells h ≡ length takes = omega (arith, c.low) in
            (t, previous_of_tail S (length takes) h (cell_at cells h).round p.round l t (omega (arith, c.low)) (omega (arith, d.high)))
      ]

  -- A PUT'S EXCHANGE, of an empty cell of round c for the value v
  module _ (h : ℕ) (l : h < S) (c v : ℕ) (is : cell_at cells h ≡ emptied c) (fits : c < last) (due : c * S + h ≤ length puts) (some : 0 < v) where
    put_place : c * S + h ≡ length puts
    put_place =
        elim (cases_lt (c * S + h) (length puts)) [
          | inl k ↦
              let o : Stands S puts takes h (emptied c) = rw is at (sh.each h l) in
              absurd (omega (arith, o.full k))
          | inr k ↦ omega arith
        ]

    abbrev pub put_cell : Cell
    put_cell = record { value = v; round = c }

    put_each : (i : ℕ) → i < S → Stands S (puts ++ v ∷ []) takes i (cell_at (set cells h put_cell) i)
    put_each i k =
        elim (cases_eq i h) [
          | inl e ↦ rw (set_here cells h put_cell i e (omega (arith, sh.size))) (here e)
          | inr n ↦ rw (set_else cells h put_cell i n) (else n)
        ]
      where
        o : Stands S puts takes h (emptied c)
        o = rw is at (sh.each h l)

        len : length (puts ++ v ∷ []) ≡ length puts + 1
        len = length_push puts v

        here : i ≡ h → Stands S (puts ++ v ∷ []) takes i put_cell
        here e =
            record {
              low = omega (arith, o.low);
              high = omega (arith, o.high);
              full = λ _. some;
              holds = λ _. sym (get_or_push puts v 0 (c * S + i) (omega (arith, put_place)));
              empty = λ m. absurd (omega (arith, put_place, len));
            }

        else : (i ≡ h → ⊥) → Stands S (puts ++ v ∷ []) takes i (cell_at cells i)
        else n =
            let w = sh.each i k in
            let apart : place_at S cells i ≡ length puts → ⊥ = λ e. n (one_index S (cell_at cells i).round c i h k l (e ∙ sym put_place)) in
            record {
              low = w.low;
              high = w.high;
              full = λ m. w.full (omega (arith, apart, len));
              holds = λ m.
                  let m' : place_at S cells i < length puts = omega (arith, apart, len) in
                  w.holds m' ∙ sym (get_or_append_left puts (v ∷ []) 0 (place_at S cells i) m');
              empty = λ m. w.empty (omega (arith, len));
            }

    pub put_shape : Shape S last (set cells h put_cell) (puts ++ v ∷ []) takes
    put_shape =
        let len : length (puts ++ v ∷ []) ≡ length puts + 1 = length_push puts v in
        let o : Stands S puts takes h (emptied c) = rw is at (sh.each h l) in
        record {
          several = sh.several;
          size = length-set cells h put_cell ∙ sh.size;
          less = omega (arith, sh.less);
          room = omega (arith, put_place, o.high);
          most = omega (arith, put_place, lap_lt S c last fits);
          each = put_each;
          first = sh.first ∙ sym (take-append-le (length takes) puts (v ∷ []) sh.less);
        }

  -- A TAKE'S EXCHANGE, of the filled cell u that is behind the cell before it
  module _ (h : ℕ) (l : h < S) (u : Cell) (is : cell_at cells h ≡ u) (some : 0 < u.value) (tail : place S h u < place_at S cells (previous S h)) where
    o : Stands S puts takes h u
    o = rw is at (sh.each h l)

    take_place : place S h u ≡ length takes
    take_place =
        elim (cases_lt (length takes) (place S h u)) [
          | inl k ↦
              let e = previous_later h l (rw is k) in
              let f : place_at S cells h ≡ place S h u = ap (place S h) is in
              absurd (omega arith)
          | inr k ↦ omega (arith, o.low)
        ]

    take_below : length takes < length puts
    take_below =
        elim (cases_lt (length takes) (length puts)) [ inl k ↦ k | inr k ↦ absurd (omega (arith, o.empty (omega (arith, take_place)))) ]

    abbrev pub take_cell : Cell
    take_cell = emptied (u.round + 1)

    take_each : (i : ℕ) → i < S → Stands S puts (takes ++ u.value ∷ []) i (cell_at (set cells h take_cell) i)
    take_each i k =
        elim (cases_eq i h) [
          | inl e ↦ rw (set_here cells h take_cell i e (omega (arith, sh.size))) (here e)
          | inr n ↦ rw (set_else cells h take_cell i n) (else n)
        ]
      where
        len : length (takes ++ u.value ∷ []) ≡ length takes + 1
        len = length_push takes u.value

        here : i ≡ h → Stands S puts (takes ++ u.value ∷ []) i take_cell
        here e =
            record {
              low = omega (arith, take_place, len);
              high = omega (arith, take_place, len);
              full = λ m. absurd (omega (arith, take_place, sh.room));
              holds = λ m. absurd (omega (arith, take_place, sh.room));
              empty = λ _. refl;
            }

        else : (i ≡ h → ⊥) → Stands S puts (takes ++ u.value ∷ []) i (cell_at cells i)
        else n =
            let w = sh.each i k in
            let apart : place_at S cells i ≡ length takes → ⊥ = λ e. n (one_index S (cell_at cells i).round u.round i h k l (e ∙ sym take_place)) in
            record {
              low = omega (arith, apart, len, w.low);
              high = omega (arith, len, w.high);
              full = w.full;
              holds = w.holds;
              empty = w.empty;
            }

    pub take_shape : Shape S last (set cells h take_cell) puts (takes ++ u.value ∷ [])
    take_shape =
        let len : length (takes ++ u.value ∷ []) ≡ length takes + 1 = length_push takes u.value in
        let same : u.value ≡ get_or puts (length takes) 0 = o.holds (omega (arith, take_place, take_below)) ∙ ap (λ n. get_or puts n 0) take_place in
        record {
          several = sh.several;
          size = length-set cells h take_cell ∙ sh.size;
          less = omega (arith, take_below);
          room = omega (arith, sh.room);
          most = sh.most;
          each = take_each;
          first = rw (len, take_more puts (length takes) 0 take_below, same) (ap (λ (x : List ℕ). x ++ get_or puts (length takes) 0 ∷ []) sh.first);
        }
