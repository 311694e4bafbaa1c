-- Devices: where bytes come from and go to (this project's own).
--
-- A source has bytes left to give, and a sink has bytes that it took. A device may tell which, in
-- part or never: a file or a terminal tells nothing, and a stream may tell its bytes from some
-- point on. What a read takes from these bytes and a write adds to them is said by the standard
-- library's relations for readers and writers. Both devices count their failures, and report a
-- failure only where the count rises by one or is at the greatest number of 64 bits, where it
-- stays.
use Rattle.std.specs.Prelude.{◌≡◌, ℕ, ◌+◌, ◌-◌, ◌^◌, ◌≤◌, min}

-- the greatest number of failures that a device counts
abbrev pub most_failures : ℕ
most_failures = 2 ^ 64 - 1

-- one failure more, as far as failures are counted
pub record CountsFailure (old new : ℕ) : Type 0 where
  pub countable : old ≤ most_failures
  pub one_more : new ≡ min (old + 1) most_failures
