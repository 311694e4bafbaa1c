-- The transactions so far are counted.
use Rattle.std.proofs.Common.{take}
use Rattle.clean_order.specs.Highest.{AreCounted}
use Rattle.clean_order.proofs.keeping.highest_of.Given as goal

abbrev pub invariant-loop-place : goal.invariant-loop-place
invariant-loop-place l = AreCounted l.highest l.numbers (take l.place-index l.places)
