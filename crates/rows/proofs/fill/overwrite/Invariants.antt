use Rattle.std.proofs.Common.{◌≡◌}
use Rattle.memory.specs.Lists.{overwritten}
use Rattle.rows.proofs.fill.overwrite.Given as goal

abbrev pub invariant-loop-element : goal.invariant-loop-element
invariant-loop-element g l = l.element-items ≡ overwritten l.with l.initial.element-items 0 l.element-index
