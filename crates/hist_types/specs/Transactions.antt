-- Transactions, and what they read and write (Jepsen, Elle).
--
-- There is one transaction for each invocation, named by the invocation's index: its process, the
-- index of its invocation, the index of its completion if it has one, its status, and its
-- micro-operations, which are the completion's if that is an ok, else the invocation's. Its
-- completion is the next event of its process, where that is a completion.
--
-- A version of a key is a value that is written to the key, or nil, which the key has at first. An
-- external read of a transaction at a key is a read of the key with no write of it before; where
-- the transaction is ok, it is known to read that version. The external write of a key is the last
-- one; a transaction installs that version, and the versions of its earlier writes of the key are
-- intermediate. The nodes are all ok transactions, and each info or open one that wrote a version
-- which an ok transaction reads.
use Rattle.std.specs.Prelude.{ℕ, ◌+◌, List, [], ◌∷◌, Bool, true, false, not, ◌&&◌, ◌||◌, ◌==◌, if◌then◌else◌, Option, Some, None, filter, map}
use Rattle.std.specs.List.{list_any}
use Rattle.hist_types.specs.Atoms.{Atom, Value, atom_eq, value_eq}
use Rattle.hist_types.specs.Operations.{Mop, read, write, Operation}
use Rattle.hist_types.specs.Journal.{Write, writes_of, is_invoke}
use Rattle.hist_types.specs.declared.types.OpKind.{OpKind}
use Rattle.hist_types.specs.declared.types.OpKind.TheVariants as kinds

-- An open transaction has no completion.
pub data Status : Type 0 where
  Ok Fail Info Open : Status

pub record Transaction : Type 0 where
  pub process : ℕ
  pub invocation : ℕ
  pub completion : Option ℕ
  pub status : Status
  pub mops : List Mop

-- an event with its index
pub record Indexed : Type 0 where
  pub index : ℕ
  pub event : Operation

-- the completion of a process's open invocation among the events after it, of which the first has
-- the index
abbrev pub completion_in : ℕ → ℕ → List Operation → Option Indexed
completion_in process index [] = None
completion_in process index (event ∷ events) =
    if event.process == process
    then (if is_invoke event.kind then None else Some (record { index = index; event = event }))
    else completion_in process (index + 1) events

abbrev pub is_ok_status : Status → Bool
is_ok_status Ok = true
is_ok_status status = false

abbrev pub is_fail_status : Status → Bool
is_fail_status Fail = true
is_fail_status status = false

abbrev pub status_by : OpKind → Status
status_by kinds.Invoke = Open
status_by kinds.Ok = Ok
status_by kinds.Fail = Fail
status_by kinds.Info = Info

abbrev pub mops_by : Status → List Mop → List Mop → List Mop
mops_by Ok invoked completed = completed
mops_by status invoked completed = invoked

-- the transaction of an invocation with this index, by its completion
abbrev pub transaction_by : ℕ → Operation → Option Indexed → Transaction
transaction_by index invocation None =
    record {
      process = invocation.process;
      invocation = index;
      completion = None;
      status = Open;
      mops = invocation.mops;
    }
transaction_by index invocation (Some completion) =
    let status = status_by completion.event.kind in
    record {
      process = invocation.process;
      invocation = index;
      completion = Some completion.index;
      status = status;
      mops = mops_by status invocation.mops completion.event.mops;
    }

-- the transactions of events of which the first has the index
abbrev pub transactions_from : ℕ → List Operation → List Transaction
transactions_from index [] = []
transactions_from index (event ∷ events) =
    let completion = completion_in event.process (index + 1) events in
    if is_invoke event.kind
    then transaction_by index event completion ∷ transactions_from (index + 1) events
    else transactions_from (index + 1) events

abbrev pub transactions_of : List Operation → List Transaction
transactions_of events = transactions_from 0 events

abbrev pub is_ok : Transaction → Bool
is_ok t = is_ok_status t.status

abbrev pub is_failed : Transaction → Bool
is_failed t = is_fail_status t.status

-- ---- versions of keys

-- a value of a key, nil for the one that it has at first
pub record Version : Type 0 where
  pub key : Atom
  pub value : Value

abbrev pub version_eq : Version → Version → Bool
version_eq v w = atom_eq v.key w.key && value_eq v.value w.value

-- the version that a write makes, which is never nil
abbrev pub version_of : Write → Version
version_of w = record { key = w.key; value = Some w.value }

abbrev pub has_version : List Version → Version → Bool
has_version vs v = list_any (version_eq v) vs

-- ---- reads and writes

-- the external reads, where these keys were written before
abbrev pub reads_after : (written : List Atom) → List Mop → List Version
reads_after written [] = []
reads_after written (read key value ∷ mops) =
    if list_any (atom_eq key) written
    then reads_after written mops
    else record { key = key; value = value } ∷ reads_after written mops
reads_after written (write key value ∷ mops) = reads_after (key ∷ written) mops

abbrev pub external_reads : Transaction → List Version
external_reads t = reads_after [] t.mops

-- whether one of the writes is of the key
abbrev pub has_key : Atom → List Write → Bool
has_key key ws = list_any (λ w. atom_eq key w.key) ws

-- the writes with no later one of their key, and those with one
abbrev pub last_writes : List Write → List Write
last_writes [] = []
last_writes (w ∷ ws) = if has_key w.key ws then last_writes ws else w ∷ last_writes ws

abbrev pub earlier_writes : List Write → List Write
earlier_writes [] = []
earlier_writes (w ∷ ws) = if has_key w.key ws then w ∷ earlier_writes ws else earlier_writes ws

abbrev pub external_writes : Transaction → List Write
external_writes t = last_writes (writes_of t.mops)

-- what a transaction wrote and then replaced itself
abbrev pub intermediate_writes : Transaction → List Write
intermediate_writes t = earlier_writes (writes_of t.mops)

-- the versions that its external writes make
abbrev pub installed_by : Transaction → List Version
installed_by t = map version_of (external_writes t)

-- the transaction is ok and reads the version externally; nobody knows what the others read
abbrev pub is_known_to_read : Transaction → Version → Bool
is_known_to_read t v = is_ok t && has_version (external_reads t) v

abbrev pub installs : Transaction → Version → Bool
installs t v = has_version (installed_by t) v

-- whether the version is of any of its writes
abbrev pub writes : Transaction → Version → Bool
writes t v = has_version (map version_of (writes_of t.mops)) v

-- whether it wrote the version and then the key again, so that the version is an intermediate one
abbrev pub wrote_intermediate : Transaction → Version → Bool
wrote_intermediate t v = has_version (map version_of (intermediate_writes t)) v

-- ---- nodes

-- some transaction reads a version that this one wrote
abbrev pub was_read : List Transaction → Transaction → Bool
was_read ts t =
    list_any (λ w. list_any (λ reader. is_known_to_read reader (version_of w)) ts)
    (writes_of t.mops)

abbrev pub is_node : List Transaction → Transaction → Bool
is_node ts t = is_ok t || (not (is_failed t) && was_read ts t)

abbrev pub nodes : List Transaction → List Transaction
nodes ts = filter (is_node ts) ts
