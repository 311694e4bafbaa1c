-- The first bad read, by number of version and by place of transaction.
use Rattle.std.proofs.Common.{◌≡◌, ℕ, ◌+◌, ◌<◌, ◌≤◌, List, [], ◌∷◌, ◌++◌, length, get_or, take, Bool, true, if◌then◌else◌, map, flat_map, Some, None, sym, ◌∙◌, ap}
use Rattle.std.proofs.lemmas.Grind.{get_or_default_zero}
use Rattle.std.proofs.lemmas.List.{take_all, length-map}
use Rattle.history_laws.specs.BadReads.{single_if}
use Rattle.hist_types.specs.Phenomena.{BadRead, bad_read, first_of, is_stray, stray}
use Rattle.hist_types.specs.Transactions.{Transaction, Version}
use Rattle.key_versions.specs.Tables.{Table}
use Rattle.dep_edges.specs.Tables.{IsPlace, txn_at, version_at}
use Rattle.dep_edges.specs.Reads.{stray_in}
use Rattle.dep_edges.proofs.Adding.{by_numbers}
use Rattle.dep_edges.proofs.Found.{first_found, nothing_more, none_first, gathered_more, read_at_place}
use Rattle.dep_edges.proofs.Writers.{reads_by_transaction}

pub alone_true : (test : Bool) (t : Transaction) → test ≡ true → single_if test t ≡ t ∷ []
alone_true test t e = ap (λ b. single_if b t) e

-- a read as the code makes it
pub same_read : (reader writer : ℕ) (version v : Version) (t x : Transaction) → reader ≡ t.invocation → version ≡ v → writer ≡ x.invocation → record { reader = reader; version = version; writer = writer } ≡ bad_read t v x
same_read reader writer version v t x a b c =
    let made : ℕ → Version → ℕ → BadRead = λ r u w. record { reader = r; version = u; writer = w } in
    ap (λ r. made r version writer) a ∙ ap (λ u. made t.invocation u writer) b ∙ ap (made t.invocation v) c

-- the first read of one transaction
pub read_found :
    (f : Version → List Transaction) (t : Transaction) (table : Table) (ns : List ℕ) (vs : List Version) (i : ℕ) (x : Transaction) (r : BadRead)
    → map (version_at table) ns ≡ vs
    → i < length ns
    → flat_map (λ n. map (bad_read t (version_at table n)) (f (version_at table n))) (take i ns) ≡ []
    → f (version_at table (get_or ns i 0)) ≡ x ∷ []
    → r ≡ bad_read t (version_at table (get_or ns i 0)) x
    → Some r ≡ first_of (flat_map (λ v. map (bad_read t v) (f v)) vs)
read_found f t table ns vs i x r told below before by is =
    let n : ℕ = get_or ns i 0 in
    let here : first_of (map (bad_read t (version_at table n)) (f (version_at table n))) ≡ Some r =
    ap (λ ts. first_of (map (bad_read t (version_at table n)) ts)) by ∙ ap Some (sym is) in
    sym (ap first_of (sym (by_numbers (λ v. map (bad_read t v) (f v)) table ns vs told))
    ∙ first_found (λ n. map (bad_read t (version_at table n)) (f (version_at table n))) ns i n r below (get_or_default_zero ns i n below) before here)

pub no_read_found :
    (f : Version → List Transaction) (t : Transaction) (table : Table) (ns : List ℕ) (vs : List Version) (i : ℕ)
    → map (version_at table) ns ≡ vs
    → length ns ≤ i
    → flat_map (λ n. map (bad_read t (version_at table n)) (f (version_at table n))) (take i ns) ≡ []
    → None ≡ first_of (flat_map (λ v. map (bad_read t v) (f v)) vs)
no_read_found f t table ns vs i told over before =
    let each : ℕ → List BadRead = λ n. map (bad_read t (version_at table n)) (f (version_at table n)) in
    sym (ap first_of (sym (by_numbers (λ v. map (bad_read t v) (f v)) table ns vs told) ∙ ap (flat_map each) (sym (take_all i ns over)) ∙ before))

-- ---- the first read of a history

pub found_at_place :
    (f : Transaction → List BadRead) (ts : List Transaction) (place : ℕ) (r : BadRead) (all : List BadRead)
    → all ≡ flat_map f ts
    → IsPlace ts place
    → flat_map f (take place ts) ≡ []
    → Some r ≡ first_of (f (txn_at ts place))
    → Some r ≡ first_of all
found_at_place f ts place r all is below before here =
    sym (ap first_of is ∙ first_found f ts place (txn_at ts place) r below (read_at_place ts place below) before (sym here))

pub none_at_place :
    (f : Transaction → List BadRead) (ts : List Transaction) (place : ℕ)
    → IsPlace ts place
    → flat_map f (take place ts) ≡ []
    → None ≡ first_of (f (txn_at ts place))
    → flat_map f (take (place + 1) ts) ≡ []
none_at_place f ts place below before here =
    nothing_more f ts place (txn_at ts place) below (read_at_place ts place below) before (none_first (f (txn_at ts place)) (sym here))

pub none_at_all :
    (f : Transaction → List BadRead) (ts : List Transaction) (place : ℕ) (all : List BadRead)
    → all ≡ flat_map f ts
    → length ts ≤ place
    → flat_map f (take place ts) ≡ []
    → None ≡ first_of all
none_at_all f ts place all is over before = sym (ap first_of (is ∙ ap (flat_map f) (sym (take_all place ts over)) ∙ before))

-- ---- stray reads

pub strays_more :
    (ts : List Transaction) (place : ℕ) (before after : List Version)
    → IsPlace ts place
    → before ≡ flat_map (stray_in ts) (take place ts)
    → after ≡ before ++ stray_in ts (txn_at ts place)
    → after ≡ flat_map (stray_in ts) (take (place + 1) ts)
strays_more ts place before after below e d =
    d ∙ ap (λ vs. vs ++ stray_in ts (txn_at ts place)) e ∙ sym (gathered_more (stray_in ts) ts place (txn_at ts place) below (read_at_place ts place below))

pub strays_counted :
    (ts : List Transaction) (table : Table) (place : ℕ) (strays : List ℕ)
    → length ts ≤ place
    → map (version_at table) strays ≡ flat_map (stray_in ts) (take place ts)
    → length strays ≡ stray ts
strays_counted ts table place strays over e =
    sym (length-map strays (version_at table))
    ∙ ap length (e ∙ ap (flat_map (stray_in ts)) (take_all place ts over) ∙ sym (reads_by_transaction (λ reader v. if is_stray ts v then v ∷ [] else []) ts))
