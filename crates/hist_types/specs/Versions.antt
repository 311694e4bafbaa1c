-- Version pairs (this project's own: nil comes first, a write follows a read of its key in one
-- transaction, and, where keys are sequential, a process goes from one version to the next).
--
-- A pair is of two versions of a key, the earlier and the later one. nil comes before each version
-- that a node installs. A version that an ok transaction reads comes before the one that it
-- installs of the same key, unless they are one version. Nothing else is known of their order where
-- keys are basic: no closure is taken.
--
-- Where keys are sequential, each client of the database sees the versions of a key in their order.
-- Let T and U be ok transactions of one process, T before U, both with a micro-operation on a key,
-- and let no ok transaction of the process between them have one. What T's last micro-operation on
-- the key reads or writes comes before U's first external read of the key, or before U's external
-- write of it where U has no external read of it, unless the two are one version or the later one
-- is nil. (A process is sequential, so T completed before U was invoked.)
use Rattle.std.specs.Prelude.{ℕ, List, [], ◌∷◌, ◌++◌, Bool, not, ◌&&◌, ◌==◌, if◌then◌else◌, Option, Some, None, is_some, filter, map, flat_map}
use Rattle.std.specs.List.{list_any}
use Rattle.std.specs.Option.{option_or}
use Rattle.hist_types.specs.Atoms.{Atom, atom_eq, value_eq}
use Rattle.hist_types.specs.Operations.{Mop, read, write}
use Rattle.hist_types.specs.Transactions.{Transaction, Version, is_ok, external_reads, installed_by, nodes}
use Rattle.hist_types.specs.declared.types.KeyOrder.{KeyOrder}
use Rattle.hist_types.specs.declared.types.KeyOrder.TheVariants.{Basic, Sequential}

pub record VersionPair : Type 0 where
  pub earlier : Version
  pub later : Version

abbrev pub pair : Version → Version → VersionPair
pair earlier later = record { earlier = earlier; later = later }

-- the version that a key has at first
abbrev pub nil_of : Atom → Version
nil_of key = record { key = key; value = None }

abbrev pub nil_before : Version → VersionPair
nil_before v = pair (nil_of v.key) v

-- two different versions of one key
abbrev pub is_change : VersionPair → Bool
is_change p = atom_eq p.earlier.key p.later.key && not (value_eq p.earlier.value p.later.value)

-- each of the first versions with each of the second ones
abbrev pub each_with_each : List Version → List Version → List VersionPair
each_with_each [] laters = []
each_with_each (v ∷ vs) laters = map (pair v) laters ++ each_with_each vs laters

-- ---- of all keys

-- nil and what each node installs
abbrev pub first_pairs : List Transaction → List VersionPair
first_pairs ts = map nil_before (flat_map installed_by (nodes ts))

-- what one transaction reads and what it installs
abbrev pub update_pairs : Transaction → List VersionPair
update_pairs t = filter is_change (each_with_each (external_reads t) (installed_by t))

-- ---- of sequential keys

-- the version that a micro-operation reads or writes
abbrev pub version_in : Mop → Version
version_in (read key value) = record { key = key; value = value }
version_in (write key value) = record { key = key; value = Some value }

-- what a process read and wrote in its ok transactions, one after the other
abbrev pub seen_by : (process : ℕ) → List Transaction → List Version
seen_by process ts =
    flat_map
    (λ (t : Transaction).
    if is_ok t && t.process == process then map version_in t.mops else []) ts

-- the last one that is of the key
abbrev pub last_of : Atom → List Version → Option Version
last_of key [] = None
last_of key (v ∷ vs) =
    option_or (last_of key vs) (if atom_eq key v.key then Some v else None)

-- those with none of their key before them, where these came before
abbrev pub firsts_after : (before : List Version) → List Version → List Version
firsts_after before [] = []
firsts_after before (v ∷ vs) =
    if list_any (λ w. atom_eq v.key w.key) before
    then firsts_after before vs
    else v ∷ firsts_after (before ++ v ∷ []) vs

-- of each key the first external read, or the external write where there is no such read
abbrev pub met_by : Transaction → List Version
met_by t = firsts_after [] (external_reads t ++ installed_by t)

-- two different versions of one key, of which the later one isn't nil
abbrev pub is_step : VersionPair → Bool
is_step p = is_change p && is_some p.later.value

abbrev pub step_between : Option Version → Version → List VersionPair
step_between None later = []
step_between (Some earlier) later = filter is_step (pair earlier later ∷ [])

-- from what the process last saw of the key
abbrev pub step_to : (seen : List Version) → Version → List VersionPair
step_to seen later = step_between (last_of later.key seen) later

-- the steps of a transaction that comes after these, and of one after the other
abbrev pub steps_of : (earlier : List Transaction) → Transaction → List VersionPair
steps_of earlier t =
    if is_ok t then flat_map (step_to (seen_by t.process earlier)) (met_by t) else []

abbrev pub steps_after : (earlier : List Transaction) → List Transaction → List VersionPair
steps_after earlier [] = []
steps_after earlier (t ∷ ts) = steps_of earlier t ++ steps_after (earlier ++ t ∷ []) ts

abbrev pub process_pairs : KeyOrder → List Transaction → List VersionPair
process_pairs Basic ts = []
process_pairs Sequential ts = steps_after [] ts

-- ---- all

abbrev pub version_pairs : KeyOrder → List Transaction → List VersionPair
version_pairs keys ts =
    first_pairs ts ++ flat_map update_pairs (filter is_ok ts) ++ process_pairs keys ts
