use Rattle.std.proofs.Common.{◌≡◌, ◌-◌}
use Rattle.ring.specs.Rings.{ring_of, run}
use Rattle.ring.proofs.board.Board.run.Given as goal

-- what is left of the run gives what the whole run gives
abbrev pub invariant-loop : goal.invariant-loop
invariant-loop g l =
    record {
      after : run g.M.Element.Element.LIMITS (l.count - l.counter) (ring_of (g.M.Memory.cells l.memory) l.self) l.at
          ≡ run g.M.Element.Element.LIMITS l.count (ring_of (g.M.Memory.cells l.initial.memory) l.initial.self) l.at;
      apart : g.M.Memory.frame l.memory ≡ g.M.Memory.frame l.initial.memory;
    }
