-- Windows over sources.
use Rattle.std.specs.Prelude.{ℕ, List}

-- the bytes that a window holds, and how many it has room for
pub record Held : Type 0 where
  pub bytes : List ℕ
  pub room : ℕ
