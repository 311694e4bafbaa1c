use Rattle.std.proofs.Common.{◌≡◌, ◌++◌, ◌≤◌, length, take}
use Rattle.key_versions.proofs.push.push_all.Given as goal

abbrev pub invariant-loop-item : goal.invariant-loop-item
invariant-loop-item g l = (l.items.items ≡ l.initial.items.items ++ take l.item-index l.more) × (length l.initial.items.items ≤ length l.items.items)
