use Rattle.std.proofs.Common.{◌≡◌, ap, ◌∙◌, rules}
use Rattle.window.proofs.Parts.{part_cleared}
use Rattle.window.proofs.tests.clear_part.Goals as goal

-- from one to another by way of a third
by : {A : Type 0} {x z : A} (y : A) → x ≡ y → y ≡ z → x ≡ z
by y p q = p ∙ q

pub returns-clause-cells : goal.returns-clause-cells
returns-clause-cells g c =
    let u = c.aim.new.self in
    let v = c.clear_all.new.memory in
    let told = c.in_ok-aim.ensures in
    let cells : g.M.Memory.cells u.below.now ≡ g.M.Memory.cells c.args.memory.now = ap g.M.Memory.cells (told.held ∙ c.over-window.ensures.held) in
    by (g.M.Memory.cells v.below.now) (search rules) (
    part_cleared u.below.ghost_name u.start u.count _ (g.M.Memory.frame u.below.now) v.below.ghost_name v.start v.count _ (g.M.Memory.frame v.below.now) u.inside c.clear_all.ensures.apart c.clear_all.ensures.after
    ∙ cc)
