use Rattle.window.proofs.Parts.{same_place}
use Rattle.window.proofs.window.Window.reach.Goals as goal

pub returns-then-at-self : goal.returns-then-at-self
returns-then-at-self g c = same_place _ _ _ _ c.if-at-self.true
