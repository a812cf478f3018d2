use Rattle.std.proofs.Common.{◌≡◌, ◌+◌, ◌*◌, ◌-◌, List, ℕ, set, length, ap, refl, ◌∙◌, arith, rules}
use Rattle.page.specs.Bytes.{cell_from}
use Rattle.page.specs.Pages.{page_cells}
use Rattle.page.proofs.PageCells.{stored_cells, put_others}
use Rattle.page.proofs.page.store.Goals as goal

pub returns : goal.returns
returns c =
    let bs = c.args.bytes.now in
    let i = c.args.at in
    let ys = c.copy_from_slice.new.self in
    let p = 8 + 8 * i in
    let n = p + 8 - p in
    let e = c.copy_from_slice.ensures.after in
    let k : length c.args.element.bytes ≡ 8 = search rules in
    let l = ap length e ∙ k in
    record {
      cells = stored_cells bs ys i p n c.requires l refl (omega arith) ∙ ap (λ (xs : List ℕ). set (page_cells bs) i (cell_from xs)) e;
      others = put_others bs i 1 p n (omega arith) (omega arith) refl (omega arith) ys (omega arith);
    }
