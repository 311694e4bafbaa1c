-- What transactions read and install, side by side in one list of numbers, and what is kept of them,
-- side by side in one list of accesses.
use Rattle.std.specs.Prelude.{◌≡◌, ◌≤◌, ◌+◌, ◌++◌, ℕ, List, length}
use Rattle.flat_groups.specs.Groups.{between}
use Rattle.key_versions.specs.declared.accesses.Span.{Span}
use Rattle.key_versions.specs.declared.kept_accesses.KeptSpan.{KeptSpan}
use Rattle.key_versions.specs.declared.pending.Access.{Access}
use Rattle.key_versions.specs.Rows.{Accessed}
use Rattle.key_versions.specs.TxnAccesses.{TxnAccesses, accesses_by}

-- a span among n numbers
abbrev pub IsSpan : ℕ → Span → Type 0
IsSpan n s = (s.reads ≤ s.installs) × (s.installs ≤ s.end) × (s.end ≤ n)

-- what the transaction with this span reads and installs
abbrev pub accessed_at : List ℕ → Span → Accessed
accessed_at numbers s =
    record {
      reads = between s.reads s.installs numbers;
      installs = between s.installs s.end numbers;
    }

-- where the writes of a transaction start, and what it sees, and where that ends
abbrev pub writes_start : KeptSpan → ℕ
writes_start s = s.start + s.reads

abbrev pub seen_start : KeptSpan → ℕ
seen_start s = writes_start s + s.writes

abbrev pub end_of : KeptSpan → ℕ
end_of s = seen_start s + s.seen

-- a span among n accesses
abbrev pub IsKeptSpan : ℕ → KeptSpan → Type 0
IsKeptSpan n s = end_of s ≤ n

-- what the transaction with this span reads, writes and sees
abbrev pub kept_at : List Access → KeptSpan → TxnAccesses
kept_at accesses s =
    accesses_by
    (between s.start (writes_start s) accesses)
    (between (writes_start s) (seen_start s) accesses)
    (between (seen_start s) (end_of s) accesses)

-- these were appended, and the span is theirs
pub record AreAppended (before after : List Access) (rs ws ss : List Access)
    (s : KeptSpan) : Type 0 where
  pub all : after ≡ before ++ (rs ++ (ws ++ ss))
  pub span : IsKeptSpan (length after) s
  pub at : kept_at after s ≡ accesses_by rs ws ss
