-- What a table tells of a history, by place and by number.
use Rattle.std.proofs.Common.{◌≡◌, ℕ, suc, ◌+◌, ◌<◌, List, [], ◌∷◌, ◌++◌, length, Bool, true, false, if◌then◌else◌, map, flat_map, Option, Some, None, IsSome, unwrap_or, slice_get, All, refl, sym, ◌∙◌, ap, subst, arith, inl, inr, pos}
use Rattle.std.proofs.lemmas.Bool.{and_parts}
use Rattle.std.proofs.lemmas.List.Concat.{flat_map-append}
use Rattle.std.proofs.lemmas.Option.{same_Some, slice_get-get_or}
use Rattle.hist_types.specs.Atoms.{Value, integer, atom_eq}
use Rattle.hist_types.specs.Transactions.{Transaction, Version, Open, installed_by, is_known_to_read, writes, wrote_intermediate}
use Rattle.hist_types.specs.Versions.{VersionPair, nil_of, pair, is_change, process_pairs}
use Rattle.hist_types.specs.declared.types.KeyOrder.{KeyOrder}
use Rattle.hist_types.proofs.Equality.{atom_eq-same}
use Rattle.hist_types.proofs.Members.{In, in_append, in_mapped, in_map, in_filter, passes_filter}
use Rattle.history_laws.proofs.VersionMembers.{has_from_in}
use Rattle.history_laws.proofs.WrittenOnce.{nil_unwritten, installed_or_over}
use Rattle.key_versions.specs.Histories.{is_followed, installs_behind, from_place, writers_of, writer_of, readers_of, followers_of}
use Rattle.key_versions.specs.Tables.{Table, IsTableOf, versions_at, followers_at}
use Rattle.key_versions.specs.declared.types.Writer.{Writer}
use Rattle.key_versions.specs.declared.types.Follower.{Follower}
use Rattle.dep_edges.specs.Tables.{IsPlace, IsNumber, IsWritten, AreNamedOnce, txn_at, version_at, IsWriterPlace, later_in, IsBehind}
use Rattle.dep_edges.proofs.Lists.{all_in, alike_at, items_at, places_within, within_at}

-- ---- by place

-- what comes from some place
pub from_some_place : {A : Type 0} (f : ℕ → Transaction → List A) (k : ℕ) (ts : List Transaction) (y : A) → In y (from_place f k ts) → (j : ℕ) × (t : Transaction) × (slice_get ts j ≡ Some t) × In y (f (k + j) t)
from_some_place f k [] y i = elim i [ ]
from_some_place f k (t ∷ ts) y i = elim (in_append y (f k t) (from_place f (k + 1) ts) i) [
  | inl here ↦ (let at : k ≡ k + 0 = omega arith in (0, t, refl, subst (λ n. In y (f n t)) at here))
  | inr later ↦ (
      let (j, u, get, among) = from_some_place f (k + 1) ts y later in
      let at : k + 1 + j ≡ k + suc j = omega arith in
      (suc j, u, get, subst (λ n. In y (f n u)) at among))
]

-- what is gathered by places is gathered from the transactions
pub gathered_by_place :
    {A E : Type 0} (f : ℕ → Transaction → List A) (g : A → List E) (h : Transaction → List E) (k : ℕ) (ts : List Transaction)
    → ((j : ℕ) (t : Transaction) → slice_get ts j ≡ Some t → flat_map g (f (k + j) t) ≡ h t)
    → flat_map g (from_place f k ts) ≡ flat_map h ts
gathered_by_place f g h k [] same = refl
gathered_by_place f g h k (t ∷ ts) same =
    let at : k ≡ k + 0 = omega arith in
    flat_map-append g (f k t) (from_place f (k + 1) ts)
    ∙ ap (λ es. es ++ flat_map g (from_place f (k + 1) ts)) (ap (λ n. flat_map g (f n t)) at ∙ same 0 t refl)
    ∙ ap (λ es. h t ++ es) (gathered_by_place f g h (k + 1) ts (λ j u get.
    let next : k + 1 + j ≡ k + suc j = omega arith in
    ap (λ n. flat_map g (f n u)) next ∙ same (suc j) u get))

one_if : (test : Bool) (n m : ℕ) → In m (if test then n ∷ [] else []) → n ≡ m
one_if true n m (inl e) = e
one_if true n m (inr i) = elim i [ ]
one_if false n m i = elim i [ ]

pub reader_place : (ts : List Transaction) (v : Version) (p : ℕ) → In p (readers_of ts v) → p < length ts
reader_place ts v p i =
    let (j, t, get, among) = from_some_place (λ place t. if is_known_to_read t v then place ∷ [] else []) 0 ts p i in
    let same : 0 + j ≡ p = one_if (is_known_to_read t v) (0 + j) p among in
    let below = within_at ts j t get in
    omega arith

-- ---- versions behind another one

pub behind_key : (steps : List VersionPair) (u : Transaction) (v w : Version) → In w (installs_behind steps u v) → w.key ≡ v.key
behind_key steps u v w i =
    let followed = passes_filter (is_followed steps u v) w (installed_by u) i in
    let changed = and_parts _ (is_change (pair v w)) followed in
    sym (atom_eq-same v.key w.key (and_parts (atom_eq v.key w.key) _ changed.1).0)

pub installed_written : (u : Transaction) (w : Version) → In w (installed_by u) → writes u w ≡ true
installed_written u w i = (installed_or_over u w).1 (inl (has_from_in w (installed_by u) i))

pub some_value : (value : Value) → ¬ (value ≡ None) → IsSome value
some_value None other = elim (other refl) [ ]
some_value (Some a) other = refl

pub installed_some : (u : Transaction) (w : Version) → In w (installed_by u) → IsSome w.value
installed_some u w i = some_value w.value (nil_unwritten u w (installed_written u w i))

abbrev IsLater : List Transaction → Version → ℕ × Version → Type 0
IsLater ts v p = (p.0 < length ts) × (p.1.key ≡ v.key) × IsSome p.1.value

follower_is_later : (keys : KeyOrder) (ts : List Transaction) (v : Version) (p : ℕ × Version) → In p (followers_of keys ts v) → IsLater ts v p
follower_is_later keys ts v p i =
    let (j, u, get, among) = from_some_place (λ place t. map (λ w. (place, w)) (installs_behind (process_pairs keys ts) t v)) 0 ts p i in
    let (w, behind, is) = in_map (λ w. (0 + j, w)) p (installs_behind (process_pairs keys ts) u v) among in
    let below = within_at ts j u get in
    subst (IsLater ts v) is (omega (arith, below), behind_key (process_pairs keys ts) u v w behind, installed_some u w (in_filter (is_followed (process_pairs keys ts) u v) w (installed_by u) behind))

-- ---- the table

pub followers_value :
    (table : Table) (fs : List Follower) (ps : List (ℕ × Version))
    → followers_at table.versions fs ≡ map (λ (p : ℕ × Version). (p.0, Some p.1)) ps
    → map (later_in table) fs ≡ ps
followers_value table [] [] e = refl
followers_value table [] (p ∷ ps) e = let none : ⊥ = cc in elim none [ ]
followers_value table (f ∷ fs) [] e = let none : ⊥ = cc in elim none [ ]
followers_value table (f ∷ fs) (p ∷ ps) e =
    let first : ◌≡◌ {A = ℕ × Option Version} (f.txn, slice_get table.versions f.version) (p.0, Some p.1) = cc in
    let rest : followers_at table.versions fs ≡ map (λ (p : ℕ × Version). (p.0, Some p.1)) ps = cc in
    ap (λ (q : ℕ × Option Version). (q.0, unwrap_or q.1 (nil_of (integer (pos 0)))) ∷ map (later_in table) fs) first
    ∙ ap (λ (qs : List (ℕ × Version)). p ∷ qs) (followers_value table fs ps rest)

numbers_of_followers :
    (versions : List Version) (fs : List Follower) (ps : List (ℕ × Version))
    → followers_at versions fs ≡ map (λ (p : ℕ × Version). (p.0, Some p.1)) ps
    → (f : Follower)
    → In f fs
    → f.version < length versions
numbers_of_followers versions [] ps e f i = elim i [ ]
numbers_of_followers versions (g ∷ fs) [] e f i = let none : ⊥ = cc in elim none [ ]
numbers_of_followers versions (g ∷ fs) (p ∷ ps) e f (inl is) =
    let first : (g.txn, slice_get versions g.version) ≡ (p.0, Some p.1) = cc in
    subst (λ (h : Follower). h.version < length versions) is
    (within_at versions g.version p.1 (ap (λ (q : ℕ × Option Version). q.1) first))
numbers_of_followers versions (g ∷ fs) (p ∷ ps) e f (inr i) =
    let rest : followers_at versions fs ≡ map (λ (p : ℕ × Version). (p.0, Some p.1)) ps = cc in
    numbers_of_followers versions fs ps rest f i

-- what the table tells of a version

pub told_followers :
    (keys : KeyOrder) (ts : List Transaction) (table : Table) (n : ℕ) (fs : List Follower)
    → IsTableOf keys ts table
    → slice_get table.followers n ≡ Some fs
    → followers_at table.versions fs ≡ map (λ (p : ℕ × Version). (p.0, Some p.1)) (followers_of keys ts (version_at table n))
told_followers keys ts table n fs is at =
    alike_at (followers_at table.versions) (λ v. map (λ (p : ℕ × Version). (p.0, Some p.1)) (followers_of keys ts v))
    table.followers table.versions n fs (nil_of (integer (pos 0))) is.followers at

pub followers_told :
    (keys : KeyOrder) (ts : List Transaction) (table : Table) (n : ℕ) (fs : List Follower)
    → IsTableOf keys ts table
    → slice_get table.followers n ≡ Some fs
    → map (later_in table) fs ≡ followers_of keys ts (version_at table n)
followers_told keys ts table n fs is at = followers_value table fs (followers_of keys ts (version_at table n)) (told_followers keys ts table n fs is at)

pub followers_behind :
    (keys : KeyOrder) (ts : List Transaction) (table : Table) (n : ℕ) (fs : List Follower)
    → IsTableOf keys ts table
    → slice_get table.followers n ≡ Some fs
    → All (IsBehind ts table (version_at table n)) fs
followers_behind keys ts table n fs is at =
    all_in (IsBehind ts table (version_at table n)) fs (λ f i.
    let value = followers_told keys ts table n fs is at in
    let among : In (later_in table f) (followers_of keys ts (version_at table n)) = subst (In (later_in table f)) value (in_mapped (later_in table) f fs i) in
    let later = follower_is_later keys ts (version_at table n) (later_in table f) among in
    record {
      place = later.0;
      number = numbers_of_followers table.versions fs (followers_of keys ts (version_at table n)) (told_followers keys ts table n fs is at) f i;
      key = later.1;
      written = later.2;
    })

map_same : {X : Type 0} (xs : List X) → map (λ (x : X). x) xs ≡ xs
map_same [] = refl
map_same (x ∷ xs) = ap (λ ys. x ∷ ys) (map_same xs)

pub readers_told :
    (keys : KeyOrder) (ts : List Transaction) (table : Table) (n : ℕ) (rs : List ℕ)
    → IsTableOf keys ts table
    → slice_get table.readers n ≡ Some rs
    → rs ≡ readers_of ts (version_at table n)
readers_told keys ts table n rs is at =
    alike_at (λ (xs : List ℕ). xs) (readers_of ts) table.readers table.versions n rs (nil_of (integer (pos 0))) (map_same table.readers ∙ is.readers) at

pub writer_told :
    (keys : KeyOrder) (ts : List Transaction) (table : Table) (n : ℕ) (r : Option Writer)
    → IsTableOf keys ts table
    → slice_get table.writers n ≡ Some r
    → r ≡ writer_of ts (version_at table n)
writer_told keys ts table n r is at =
    alike_at (λ (x : Option Writer). x) (writer_of ts) table.writers table.versions n r (nil_of (integer (pos 0))) (map_same table.writers ∙ is.writers) at

pub readers_within : (ts : List Transaction) (v : Version) (rs : List ℕ) → rs ≡ readers_of ts v → All (IsPlace ts) rs
readers_within ts v rs is = all_in (IsPlace ts) rs (λ p i. reader_place ts v p (subst (In p) is i))

writer_place : (ts : List Transaction) (v : Version) (ws : List Writer) (w : Writer) → ws ≡ writers_of ts v → In w ws → w.txn < length ts
writer_place ts v ws w is i =
    let (j, t, get, among) = from_some_place (λ place t. if writes t v then record { txn = place; over = wrote_intermediate t v } ∷ [] else []) 0 ts w (subst (In w) is i) in
    let below = within_at ts j t get in
    let same : j ≡ w.txn = one_writer_if (writes t v) j (wrote_intermediate t v) w among in
    omega arith
  where
    one_writer_if : (test : Bool) (n : ℕ) (over : Bool) (w : Writer) → In w (if test then record { txn = 0 + n; over = over } ∷ [] else []) → n ≡ w.txn
    one_writer_if true n over w (inl e) = let at : n ≡ 0 + n = omega arith in at ∙ ap (λ (x : Writer). x.txn) e
    one_writer_if true n over w (inr i) = elim i [ ]
    one_writer_if false n over w i = elim i [ ]

pub writer_within : (ts : List Transaction) (v : Version) (r : Option Writer) → r ≡ writer_of ts v → IsWriterPlace ts r
writer_within ts v r is = subst (IsWriterPlace ts) (sym is) (first_within (writers_of ts v) refl)
  where
    first_within : (ws : List Writer) → ws ≡ writers_of ts v → IsWriterPlace ts (slice_get ws 0)
    first_within [] e = tt
    first_within (w ∷ ws) e = writer_place ts v (w ∷ ws) w e (inl refl)

-- what it tells of a transaction

pub told_at :
    (f : Transaction → List Version) (ts : List Transaction) (table : Table) (lists : List (List ℕ)) (place : ℕ) (ns : List ℕ)
    → map (versions_at table.versions) lists ≡ map (λ t. map Some (f t)) ts
    → slice_get lists place ≡ Some ns
    → map (slice_get table.versions) ns ≡ map Some (f (txn_at ts place))
told_at f ts table lists place ns is at =
    alike_at (versions_at table.versions) (λ t. map Some (f t)) lists ts place ns
    (record { process = 0; invocation = 0; completion = None; status = Open; mops = [] }) is at

pub versions_told :
    (f : Transaction → List Version) (ts : List Transaction) (table : Table) (lists : List (List ℕ)) (place : ℕ) (ns : List ℕ)
    → map (versions_at table.versions) lists ≡ map (λ t. map Some (f t)) ts
    → slice_get lists place ≡ Some ns
    → map (version_at table) ns ≡ f (txn_at ts place)
versions_told f ts table lists place ns is at =
    items_at table.versions (nil_of (integer (pos 0))) ns (f (txn_at ts place)) (told_at f ts table lists place ns is at)

pub numbers_within :
    (f : Transaction → List Version) (ts : List Transaction) (table : Table) (lists : List (List ℕ)) (place : ℕ) (ns : List ℕ)
    → map (versions_at table.versions) lists ≡ map (λ t. map Some (f t)) ts
    → slice_get lists place ≡ Some ns
    → All (IsNumber table) ns
numbers_within f ts table lists place ns is at =
    all_in (IsNumber table) ns (places_within table.versions ns (f (txn_at ts place)) (told_at f ts table lists place ns is at))

pub installed_are_written :
    (keys : KeyOrder) (ts : List Transaction) (table : Table) (place : ℕ) (ns : List ℕ)
    → IsTableOf keys ts table
    → slice_get table.installs place ≡ Some ns
    → All (IsWritten table) ns
installed_are_written keys ts table place ns is at =
    all_in (IsWritten table) ns (λ n i.
    installed_some (txn_at ts place) (version_at table n)
    (subst (In (version_at table n)) (versions_told installed_by ts table table.installs place ns is.installs at) (in_mapped (version_at table) n ns i)))

named_at : (table : Table) (n : ℕ) → IsNumber table n → slice_get table.versions n ≡ Some (version_at table n)
named_at table n below = at (slice_get table.versions n) refl
  where
    at : (o : Option Version) → slice_get table.versions n ≡ o → slice_get table.versions n ≡ Some (version_at table n)
    at (Some v) e = e ∙ ap Some (sym (ap (λ o. unwrap_or o (nil_of (integer (pos 0)))) e))
    at None e = let none : ⊥ = cc (e, slice_get-get_or table.versions n (version_at table n) below) in elim none [ ]

pub named_once : (keys : KeyOrder) (ts : List Transaction) (table : Table) → IsTableOf keys ts table → AreNamedOnce table
named_once keys ts table is m n first second same =
    same_Some m n
    (sym (is.distinct m (version_at table m) (named_at table m first))
    ∙ is.distinct n (version_at table m) (named_at table n second ∙ ap Some (sym same)))
