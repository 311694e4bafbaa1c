-- What is reported of a history (this project's own).
--
-- A verdict reports how many events and transactions there are, for each phenomenon that cycles show
-- its lowest level with a witness, the first reads that show G1a and G1b, and how many reads are
-- stray. Where it reports a phenomenon, the history is refuted: it has no strict serial explanation.
-- Two shorter reports give the reads alone and the dependency edges. Cycles and edges are those of
-- basic or of sequential keys, as is asked for.
use Rattle.std.specs.Prelude.{◌≡◌, ℕ, List, length, Bool, ◌||◌, if◌then◌else◌, Option, None, is_some}
use Rattle.hist_types.specs.Operations.{Operation}
use Rattle.hist_types.specs.Transactions.{Transaction, transactions_of}
use Rattle.hist_types.specs.Edges.{Edge, dependency_edges}
use Rattle.hist_types.specs.EdgeOrder.{in_order}
use Rattle.hist_types.specs.Phenomena as phenomena
use Rattle.hist_types.specs.Phenomena.{BadRead}
use Rattle.hist_types.specs.Witness.{Finding, IsFinding}
use Rattle.hist_types.specs.declared.types.Phenomenon.{Phenomenon}
use Rattle.hist_types.specs.declared.types.Phenomenon.TheVariants.{G0, G1c, GSingle, G2Item}
use Rattle.hist_types.specs.declared.types.Strict.{Strict}
use Rattle.hist_types.specs.declared.types.Strict.TheVariants.{Refuted, Open}
use Rattle.hist_types.specs.declared.types.KeyOrder.{KeyOrder}

-- ---- a verdict

pub record Findings : Type 0 where
  pub g0 : Option Finding
  pub g1c : Option Finding
  pub single : Option Finding
  pub item : Option Finding

abbrev pub finding : Findings → Phenomenon → Option Finding
finding found G0 = found.g0
finding found G1c = found.g1c
finding found GSingle = found.single
finding found G2Item = found.item

abbrev pub AreFindings : KeyOrder → List Transaction → Findings → Type 0
AreFindings keys ts found =
    (phenomenon : Phenomenon) → IsFinding keys phenomenon ts (finding found phenomenon)

abbrev pub no_findings : Findings
no_findings = record { g0 = None; g1c = None; single = None; item = None }

pub record Report : Type 0 where
  -- how many events there are
  pub prefix : ℕ
  pub txns : ℕ
  pub findings : Findings
  pub g1a : Option BadRead
  pub g1b : Option BadRead
  pub stray : ℕ

pub record IsVerdictOf (keys : KeyOrder) (events : List Operation) (r : Report) : Type 0 where
  pub prefix : r.prefix ≡ length events
  pub txns : r.txns ≡ length (transactions_of events)
  pub findings : AreFindings keys (transactions_of events) r.findings
  pub g1a : r.g1a ≡ phenomena.g1a (transactions_of events)
  pub g1b : r.g1b ≡ phenomena.g1b (transactions_of events)
  pub stray : r.stray ≡ phenomena.stray (transactions_of events)

-- whether cycles show one of their four phenomena
abbrev pub names_cycle : Findings → Bool
names_cycle found =
    is_some found.g0 || is_some found.g1c || is_some found.single || is_some found.item

-- whether one of the six phenomena is reported
abbrev pub names_phenomenon : Report → Bool
names_phenomenon r = names_cycle r.findings || (is_some r.g1a || is_some r.g1b)

-- what that says of strict serializability
abbrev pub strict_of : Report → Strict
strict_of r = if names_phenomenon r then Refuted else Open

-- ---- reads and edges

pub record ReadsReport : Type 0 where
  pub prefix : ℕ
  pub txns : ℕ
  pub g1a : Option BadRead
  pub g1b : Option BadRead
  pub stray : ℕ

abbrev pub reads_report : List Operation → ReadsReport
reads_report events =
    let ts = transactions_of events in
    record {
      prefix = length events;
      txns = length ts;
      g1a = phenomena.g1a ts;
      g1b = phenomena.g1b ts;
      stray = phenomena.stray ts;
    }

-- whether G1a or G1b is reported
abbrev pub names_read : ReadsReport → Bool
names_read r = is_some r.g1a || is_some r.g1b

pub record EdgesReport : Type 0 where
  pub prefix : ℕ
  pub txns : ℕ
  -- in the order in which they are printed
  pub edges : List Edge

abbrev pub edges_report : KeyOrder → List Operation → EdgesReport
edges_report keys events =
    let ts = transactions_of events in
    record {
      prefix = length events;
      txns = length ts;
      edges = in_order (dependency_edges keys ts);
    }
