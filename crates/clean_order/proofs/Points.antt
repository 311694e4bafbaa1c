-- Points make a serial schedule that keeps each edge if they are between events and rise along dependency edges.
use Rattle.std.proofs.Common.{◌≡◌, ◌<◌, ℕ, List, Bool, true, false, if◌then◌else◌, Contains, refl, arith}
use Rattle.hist_types.specs.Edges.{Label, ww, wr, rw, process, realtime, dependency_edges}
use Rattle.hist_types.specs.Phenomena.{is_rw}
use Rattle.hist_types.specs.Reports.{AreFindings, no_findings}
use Rattle.hist_types.specs.Transactions.{Transaction, nodes}
use Rattle.hist_types.specs.declared.types.KeyOrder.{KeyOrder}
use Rattle.schedules.specs.Schedules.{is_of}
use Rattle.schedules.specs.declared.types.TheConstants.EdgeKinds.{ALL}
use Rattle.clean_order.specs.ByVersion.{Rises}
use Rattle.clean_order.specs.Points.{IsNotBefore, IsNotAfter, at_points, ArePoints}
use Rattle.clean_order.proofs.Shown.{no_cycle}

to_kept : (is_rw : Bool) (m n : ℕ) → m < n → (if is_rw then m else m) < (if is_rw then n else n)
to_kept true m n less = less
to_kept false m n less = less

from_kept : (is_rw : Bool) (m n : ℕ) → (if is_rw then m else m) < (if is_rw then n else n) → m < n
from_kept true m n less = less
from_kept false m n less = less

of_all : (l : Label) → is_of ALL l ≡ true
of_all (ww v w) = refl
of_all (wr v) = refl
of_all (rw v w) = refl
of_all (process p) = refl
of_all (realtime c i) = refl

module _ (keys : KeyOrder) (ts : List Transaction) (point : ℕ → ℕ) where
  pub by_points :
      ((t : Transaction) → Contains (nodes ts) t → IsNotBefore (point t.invocation) t)
      → ((t : Transaction) → Contains (nodes ts) t → IsNotAfter (point t.invocation) t)
      → Rises point (dependency_edges keys ts)
      → ArePoints keys ts point
  by_points begun ended forward = record {
    first = λ n. omega arith;
    dependencies = λ e i of. to_kept (is_rw e) (point e.from) (point e.to) (forward e i);
    order = λ _. record { clock = λ m n h. omega (arith, h); begun = begun; ended = ended };
  }

  module _ (are : ArePoints keys ts point) where
    pub point_begun : (t : Transaction) → Contains (nodes ts) t → IsNotBefore (point t.invocation) t
    point_begun = (are.order refl).begun

    pub point_ended : (t : Transaction) → Contains (nodes ts) t → IsNotAfter (point t.invocation) t
    point_ended = (are.order refl).ended

    pub points_rise : Rises point (dependency_edges keys ts)
    points_rise e i = from_kept (is_rw e) (point e.from) (point e.to) (are.dependencies e i (of_all e.label))

    pub nothing_found : AreFindings keys ts no_findings
    nothing_found = no_cycle keys ts (at_points point, (λ n. omega arith), are)
