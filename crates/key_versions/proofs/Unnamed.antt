-- A version that no micro-operation names.
use Rattle.std.proofs.Common.{◌≡◌, ℕ, ◌+◌, List, [], ◌∷◌, ◌++◌, map, Bool, true, false, cond, Some, None, refl, sym, ◌∙◌, ap}
use Rattle.std.specs.Prelude.{slice_get, not, ◌&&◌, ◌||◌}
use Rattle.std.specs.List.{list_any}
use Rattle.std.proofs.lemmas.Bool.{or_parts}
use Rattle.std.proofs.lemmas.List.Folds.{list_any-append}
use Rattle.hist_types.specs.Atoms.{Atom, Value, atom_eq, value_eq}
use Rattle.hist_types.specs.Operations.{Mop, read, write}
use Rattle.hist_types.specs.Journal.{Write, writes_of}
use Rattle.hist_types.specs.Transactions.{Transaction, Version, version_eq, version_of, has_version, has_key, is_ok, reads_after, last_writes, installed_by, is_known_to_read, writes, wrote_intermediate}
use Rattle.hist_types.specs.Versions.{nil_of, pair, is_change}
use Rattle.op_view.specs.Mops.{key_of}
use Rattle.hist_types.specs.declared.types.KeyOrder.TheVariants.{Basic}
use Rattle.key_versions.specs.declared.types.Writer.{Writer}
use Rattle.key_versions.specs.Histories.{known_in, named_in, named_by, is_named, is_followed, installs_behind, from_place, writer_of, readers_of, followers_of}
use Rattle.key_versions.specs.Numbering.{version_with}
use Rattle.key_versions.proofs.Lists.{none_filtered}

or_none : (a b : Bool) → a ≡ false → b ≡ false → (a || b) ≡ false
or_none a b x y = ap (λ t. t || b) x ∙ y

-- what is named of one micro-operation and of the others
one_unnamed :
    (v : Version) (ok : Bool) (m : Mop) (ms : List Mop) → has_version (named_in ok (m ∷ ms)) v ≡ false
    → (has_version (known_in ok m) v ≡ false) × (has_version (named_in ok ms) v ≡ false)
one_unnamed v ok m ms none =
    let more = or_parts (version_eq v (nil_of (key_of m))) (has_version (known_in ok m ++ named_in ok ms) v) none in
    or_parts (has_version (known_in ok m) v) (has_version (named_in ok ms) v) (sym (list_any-append (version_eq v) (known_in ok m) (named_in ok ms)) ∙ more.1)

rest_unnamed : (v : Version) (ok : Bool) (m : Mop) (ms : List Mop) → has_version (named_in ok (m ∷ ms)) v ≡ false → has_version (named_in ok ms) v ≡ false
rest_unnamed v ok m ms none = (one_unnamed v ok m ms none).1

nil_unnamed : (v : Version) (ok : Bool) (m : Mop) (ms : List Mop) → has_version (named_in ok (m ∷ ms)) v ≡ false → version_eq v (nil_of (key_of m)) ≡ false
nil_unnamed v ok m ms none = (or_parts (version_eq v (nil_of (key_of m))) (has_version (known_in ok m ++ named_in ok ms) v) none).0

alone : (v w : Version) → has_version (w ∷ []) v ≡ false → version_eq v w ≡ false
alone v w none = (or_parts (version_eq v w) false none).0

unwritten : (v : Version) (ok : Bool) (ms : List Mop) → has_version (named_in ok ms) v ≡ false → has_version (map version_of (writes_of ms)) v ≡ false
unwritten v ok [] none = refl
unwritten v ok (read key value ∷ ms) none = unwritten v ok ms (rest_unnamed v ok (read key value) ms none)
unwritten v ok (write key value ∷ ms) none =
    let parts = one_unnamed v ok (write key value) ms none in
    or_none (version_eq v (version_with key (Some value))) _ (alone v (version_with key (Some value)) parts.0) (unwritten v ok ms parts.1)

unread_if : (v w : Version) (vs : List Version) (b : Bool) → version_eq v w ≡ false → has_version vs v ≡ false → has_version (cond b vs (w ∷ vs)) v ≡ false
unread_if v w vs true here behind = behind
unread_if v w vs false here behind = or_none (version_eq v w) _ here behind

-- of an ok transaction
unread : (v : Version) (written : List Atom) (ms : List Mop) → has_version (named_in true ms) v ≡ false → has_version (reads_after written ms) v ≡ false
unread v written [] none = refl
unread v written (read key value ∷ ms) none =
    let parts = one_unnamed v true (read key value) ms none in
    unread_if v (version_with key value) (reads_after written ms) (list_any (atom_eq key) written) (alone v (version_with key value) parts.0) (unread v written ms parts.1)
unread v written (write key value ∷ ms) none = unread v (key ∷ written) ms (rest_unnamed v true (write key value) ms none)

-- whether the version is the nil version of this one's key
abbrev is_nil_of : Version → Version → Bool
is_nil_of v w = version_eq v (nil_of w.key)

no_nils : (v : Version) (ok : Bool) (ms : List Mop) → has_version (named_in ok ms) v ≡ false → list_any (is_nil_of v) (map version_of (writes_of ms)) ≡ false
no_nils v ok [] none = refl
no_nils v ok (read key value ∷ ms) none = no_nils v ok ms (rest_unnamed v ok (read key value) ms none)
no_nils v ok (write key value ∷ ms) none =
    or_none (is_nil_of v (version_with key (Some value))) _ (nil_unnamed v ok (write key value) ms none) (no_nils v ok ms (rest_unnamed v ok (write key value) ms none))

none_last : (p : Version → Bool) (ws : List Write) → list_any p (map version_of ws) ≡ false → list_any p (map version_of (last_writes ws)) ≡ false
none_last p [] none = refl
none_last p (w ∷ ws) none =
    let parts = or_parts (p (version_of w)) (list_any p (map version_of ws)) none in
    by (has_key w.key ws) (none_last p ws parts.1) parts.0
  where
    by : (b : Bool) → list_any p (map version_of (last_writes ws)) ≡ false → p (version_of w) ≡ false → list_any p (map version_of (cond b (last_writes ws) (w ∷ last_writes ws))) ≡ false
    by true behind here = behind
    by false behind here = or_none (p (version_of w)) _ here behind

pub not_read : (t : Transaction) (v : Version) → has_version (named_by t) v ≡ false → is_known_to_read t v ≡ false
not_read t v none = by (is_ok t) t.mops v none
  where
    by : (ok : Bool) (ms : List Mop) (v : Version) → has_version (named_in ok ms) v ≡ false → (ok && has_version (reads_after [] ms) v) ≡ false
    by true ms v none = unread v [] ms none
    by false ms v none = refl

-- A version that is nil follows nothing, and one that nobody reads is followed behind nil alone.
not_followed : (t : Transaction) (key : Atom) (value : Value) (w : Version) → is_known_to_read t (record { key = key; value = value }) ≡ false → is_nil_of (record { key = key; value = value }) w ≡ false → is_followed [] t (record { key = key; value = value }) w ≡ false
not_followed t key (Some x) w unread apart = ap (λ b. b && is_change (pair (record { key = key; value = Some x }) w)) unread
not_followed t key None w unread apart =
    let keys : atom_eq key w.key ≡ false = sym (and_true (atom_eq key w.key)) ∙ apart in
    ap (λ b. b && not (value_eq None w.value)) keys
  where
    and_true : (b : Bool) → (b && true) ≡ b
    and_true true = refl
    and_true false = refl

no_followers : (t : Transaction) (v : Version) → has_version (named_by t) v ≡ false → installs_behind [] t v ≡ []
no_followers t v none =
    none_filtered (is_nil_of v) (is_followed [] t v) (λ w apart. not_followed t v.key v.value w (not_read t v none) apart) (installed_by t)
    (none_last (is_nil_of v) (writes_of t.mops) (no_nils v (is_ok t) t.mops none))

-- ---- in no transaction

nothing :
    {A : Type 0} (f : ℕ → Transaction → List A) (v : Version) → ((place : ℕ) (t : Transaction) → has_version (named_by t) v ≡ false → f place t ≡ [])
    → (place : ℕ) (ts : List Transaction) → is_named ts v ≡ false → from_place f place ts ≡ []
nothing f v empty place [] none = refl
nothing {A} f v empty place (t ∷ ts) none =
    let parts = or_parts (has_version (named_by t) v) (is_named ts v) none in
    ap (λ (xs : List A). xs ++ from_place f (place + 1) ts) (empty place t parts.0) ∙ nothing f v empty (place + 1) ts parts.1

pub unnamed_writer : (ts : List Transaction) (v : Version) → is_named ts v ≡ false → writer_of ts v ≡ None
unnamed_writer ts v none =
    ap (λ (ws : List Writer). slice_get ws 0)
    (nothing (λ place t. cond (writes t v) (record { txn = place; over = wrote_intermediate t v } ∷ []) []) v
    (λ place t h. ap (λ b. cond b (record { txn = place; over = wrote_intermediate t v } ∷ []) []) (unwritten v (is_ok t) t.mops h)) 0 ts none)

pub unnamed_readers : (ts : List Transaction) (v : Version) → is_named ts v ≡ false → readers_of ts v ≡ []
unnamed_readers ts v none =
    nothing (λ place t. cond (is_known_to_read t v) (place ∷ []) []) v (λ place t h. ap (λ b. cond b (place ∷ []) []) (not_read t v h)) 0 ts none

abbrev with_place : ℕ → Version → ℕ × Version
with_place place w = (place, w)

pub unnamed_followers : (ts : List Transaction) (v : Version) → is_named ts v ≡ false → followers_of Basic ts v ≡ []
unnamed_followers ts v none =
    nothing (λ place t. map (with_place place) (installs_behind [] t v)) v (λ place t h. ap (map (with_place place)) (no_followers t v h)) 0 ts none
