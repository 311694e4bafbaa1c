-- What is kept of transactions, with one more and with one that was completed.
use Rattle.std.proofs.Common.{◌≡◌, inl, inr, ◌+◌, ◌<◌, ℕ, zero, suc, List, [], ◌∷◌, ◌++◌, length, map, set, take, Bool, true, false, cond, Some, option_map, refl, sym, ◌∙◌, ap, subst}
use Rattle.std.specs.Prelude.{slice_get, ◌||◌}
use Rattle.std.specs.List.{list_any}
use Rattle.std.specs.Option.{is_some}
use Rattle.std.proofs.lemmas.List.{take_more}
use Rattle.std.proofs.lemmas.Option.{slice_get_within, slice_get-map, get_or_from_slice_get}
use Rattle.std.proofs.lemmas.Bool.{cases_Bool, or_left, or_right, true≢false, false≢true}
use Rattle.hist_types.specs.Atoms.{Atom}
use Rattle.hist_types.specs.Operations.{Mop, read, write}
use Rattle.hist_types.specs.Journal.{writes_of}
use Rattle.hist_types.specs.Transactions.{Transaction, Version, version_eq, version_of, has_version, is_ok, is_ok_status, external_reads}
use Rattle.hist_types.specs.Versions.{nil_of, version_in}
use Rattle.hist_types.specs.declared.types.KeyOrder.{KeyOrder}
use Rattle.hist_types.specs.declared.types.KeyOrder.TheVariants.{Basic, Sequential}
use Rattle.hist_types.proofs.Equality.{version_eq-itself}
use Rattle.atom_index.specs.Numbers.{AreNumbered, with_item}
use Rattle.atom_index.proofs.Pushed.{has_number as number_there}
use Rattle.op_view.specs.Mops.{key_of}
use Rattle.key_versions.specs.declared.pending.Access.{Access}
use Rattle.key_versions.specs.Histories.{named_in, named_by, is_named, read_by, seen_in}
use Rattle.txn_pairs.specs.Completions.{Completes}
use Rattle.key_versions.specs.Given.{AreNamed, AreKeptBeside}
use Rattle.key_versions.specs.Kept.{KeptVersions, HaveAccesses, AreKept, StayBeside}
use Rattle.key_versions.specs.Numbering.{with_versions, AreAccesses}
use Rattle.key_versions.specs.TxnAccesses.{TxnAccesses, accesses_by, AddsNamed, AreAccessesOf, AreSeenBy}
use Rattle.key_versions.proofs.Accessing.{accesses_stay, versions_numbered, versions_stay}
use Rattle.key_versions.proofs.Growing.{named-push}
use Rattle.key_versions.proofs.Lists.{is_at}
use Rattle.key_versions.proofs.Places.{same_item, no_item, cases_number, with_item-there}
use Rattle.key_versions.proofs.Told.{has_versions}

-- ---- what is named

or_false : (b : Bool) → (b || false) ≡ b
or_false true = refl
or_false false = refl

moved : (e k w : Bool) → (e || (k || w)) ≡ ((e || k) || w)
moved true k w = refl
moved false k w = refl

shuffled : (e w k r : Bool) → (e || (w || (k || r))) ≡ ((e || k) || (w || r))
shuffled true w k r = refl
shuffled false true true r = refl
shuffled false true false r = refl
shuffled false false k r = refl

-- whether the version is the nil version of one of the keys
abbrev is_nil_of : List Atom → Version → Bool
is_nil_of keys v = list_any (λ (key : Atom). version_eq v (nil_of key)) keys

-- the nil versions of its keys and what it writes
named_parts : (ms : List Mop) (v : Version) → has_version (named_in false ms) v ≡ (is_nil_of (map key_of ms) v || has_version (map version_of (writes_of ms)) v)
named_parts [] v = refl
named_parts (read key value ∷ ms) v =
    ap (λ b. version_eq v (nil_of key) || b) (named_parts ms v)
    ∙ moved (version_eq v (nil_of key)) (is_nil_of (map key_of ms) v) (has_version (map version_of (writes_of ms)) v)
named_parts (write key value ∷ ms) v =
    let w = version_eq v (record { key = key; value = Some value }) in
    ap (λ b. version_eq v (nil_of key) || (w || b)) (named_parts ms v)
    ∙ shuffled (version_eq v (nil_of key)) w (is_nil_of (map key_of ms) v) (has_version (map version_of (writes_of ms)) v)

or_grown : (a b c : Bool) → (b ≡ true → c ≡ true) → (a || b) ≡ true → (a || c) ≡ true
or_grown true b c more h = refl
or_grown false b c more h = more h

-- an ok names what it would name if it weren't
named_more : (ms : List Mop) (v : Version) → has_version (named_in false ms) v ≡ true → has_version (named_in true ms) v ≡ true
named_more [] v h = h
named_more (read key value ∷ ms) v h =
    or_grown (version_eq v (nil_of key)) (has_version (named_in false ms) v) (version_eq v (record { key = key; value = value }) || has_version (named_in true ms) v)
    (λ is. or_right (version_eq v (record { key = key; value = value })) (has_version (named_in true ms) v) (named_more ms v is)) h
named_more (write key value ∷ ms) v h =
    let w = version_eq v (record { key = key; value = Some value }) in
    or_grown (version_eq v (nil_of key)) (w || has_version (named_in false ms) v) (w || has_version (named_in true ms) v)
    (or_grown w (has_version (named_in false ms) v) (has_version (named_in true ms) v) (named_more ms v)) h

open_not_ok : (t t' : Transaction) → Completes t t' → is_ok t ≡ false
open_not_ok t t' done = ap is_ok_status done.unended

-- where the completion isn't an ok, it names the same
named_same : (t t' : Transaction) → Completes t t' → (v : Version) → has_version (named_in false t.mops) v ≡ has_version (named_in false t'.mops) v
named_same t t' done v =
    named_parts t.mops v
    ∙ ap (λ (keys : List Atom). is_nil_of keys v || has_version (map version_of (writes_of t.mops)) v) (sym done.keys)
    ∙ ap (λ ws. is_nil_of (map key_of t'.mops) v || has_version (map version_of ws) v) (sym done.writes)
    ∙ sym (named_parts t'.mops v)

-- a completion names what was named
named_still : (t t' : Transaction) → Completes t t' → (v : Version) → has_version (named_by t) v ≡ true → has_version (named_by t') v ≡ true
named_still t t' done v h =
    let before : has_version (named_in false t'.mops) v ≡ true =
    sym (named_same t t' done v) ∙ sym (ap (λ b. has_version (named_in b t.mops) v) (open_not_ok t t' done)) ∙ h in
    elim (cases_Bool (is_ok t')) [
      | inl ok ↦ ap (λ b. has_version (named_in b t'.mops) v) ok ∙ named_more t'.mops v before
      | inr not_ok ↦ ap (λ b. has_version (named_in b t'.mops) v) not_ok ∙ before
    ]

named_in_all : (ts : List Transaction) (place : ℕ) (t : Transaction) (v : Version) → slice_get ts place ≡ Some t → has_version (named_by t) v ≡ true → is_named ts v ≡ true
named_in_all [] place t v at h = absurd (no_item t at)
named_in_all (u ∷ ts) zero t v at h =
    or_left (has_version (named_by u) v) (is_named ts v) (ap (λ (w : Transaction). has_version (named_by w) v) (same_item u t at) ∙ h)
named_in_all (u ∷ ts) (suc place) t v at h = or_right (has_version (named_by u) v) (is_named ts v) (named_in_all ts place t v at h)

replaced : (a b rest : Bool) → (a ≡ true → b ≡ true) → (b || rest) ≡ ((a || rest) || b)
replaced true b rest more = ap (λ x. x || rest) (more refl) ∙ refl
replaced false true true more = refl
replaced false true false more = refl
replaced false false true more = refl
replaced false false false more = refl

-- the versions that are named once the transaction at the place is another one, which names no less
named_set :
    (ts : List Transaction) (place : ℕ) (t t' : Transaction) (v : Version) → slice_get ts place ≡ Some t → (has_version (named_by t) v ≡ true → has_version (named_by t') v ≡ true)
    → is_named (set ts place t') v ≡ (is_named ts v || has_version (named_by t') v)
named_set [] place t t' v at more = absurd (no_item t at)
named_set (u ∷ ts) zero t t' v at more =
    replaced (has_version (named_by u) v) (has_version (named_by t') v) (is_named ts v)
    (λ is. more (sym (ap (λ (w : Transaction). has_version (named_by w) v) (same_item u t at)) ∙ is))
named_set (u ∷ ts) (suc place) t t' v at more =
    ap (λ b. has_version (named_by u) v || b) (named_set ts place t t' v at more)
    ∙ moved (has_version (named_by u) v) (is_named ts v) (has_version (named_by t') v)

-- ---- versions that have a number already

there_already : (vs : List Version) (v : Version) → has_version vs v ≡ true → with_item version_eq vs v ≡ vs
there_already vs v has = elim (cases_number version_eq v vs) [
  | inl there ↦ with_item-there version_eq vs v there.0 there.1
  | inr none ↦ absurd (false≢true (ap is_some (sym none) ∙ number_there version_eq v vs ∙ has))
]

pub nothing_new : (vs ws : List Version) → ((v : Version) → has_version ws v ≡ true → has_version vs v ≡ true) → with_versions vs ws ≡ vs
nothing_new vs [] has = refl
nothing_new vs (w ∷ ws) has =
    ap (λ (us : List Version). with_versions us ws) (there_already vs w (has w (or_left (version_eq w w) (has_version ws w) (version_eq-itself w))))
    ∙ nothing_new vs ws (λ v is. has v (or_right (version_eq v w) (has_version ws v) is))

-- ---- accesses

abbrev pub Stay : List Version → List Version → Type 0
Stay vs us = (n : ℕ) (v : Version) → slice_get vs n ≡ Some v → slice_get us n ≡ Some v

of_stays : (vs us : List Version) → Stay vs us → (t : Transaction) (rs ws : List Access) → AreAccessesOf vs t rs ws → AreAccessesOf us t rs ws
of_stays vs us stay t rs ws are = record {
  reads = accesses_stay vs us stay (read_by t) rs are.reads;
  writes = accesses_stay vs us stay (map version_of (writes_of t.mops)) ws are.writes;
}

seen_stays : (keys : KeyOrder) (vs us : List Version) → Stay vs us → (t : Transaction) (rs ws ss : List Access) → AreSeenBy keys vs t rs ws ss → AreSeenBy keys us t rs ws ss
seen_stays keys vs us stay t rs ws ss are = record { seen = accesses_stay vs us stay (seen_in keys t) ss are.seen; of_keys = are.of_keys }

module _ (keys : KeyOrder) (vs : List Version) where
  -- the accesses of one transaction
  abbrev Has : Transaction → TxnAccesses → Type 0
  Has t a = AreAccessesOf vs t a.reads a.writes × AreSeenBy keys vs t a.reads a.writes a.seen

  have_pushed :
      (ts : List Transaction) (accesses : List TxnAccesses) (t : Transaction) (a : TxnAccesses) → HaveAccesses keys vs ts accesses → Has t a
      → HaveAccesses keys vs (ts ++ t ∷ []) (accesses ++ a ∷ [])
  have_pushed [] [] t a are is = (is.0, is.1, tt)
  have_pushed (u ∷ ts) (b ∷ accesses) t a are is = (are.0, are.1, have_pushed ts accesses t a are.2 is)
  have_pushed [] (b ∷ accesses) t a are is = absurd are
  have_pushed (u ∷ ts) [] t a are is = absurd are

  have_set :
      (ts : List Transaction) (accesses : List TxnAccesses) (place : ℕ) (t : Transaction) (a : TxnAccesses) → HaveAccesses keys vs ts accesses → Has t a
      → HaveAccesses keys vs (set ts place t) (set accesses place a)
  have_set [] [] place t a are is = tt
  have_set (u ∷ ts) (b ∷ accesses) zero t a are is = (is.0, is.1, are.2)
  have_set (u ∷ ts) (b ∷ accesses) (suc place) t a are is = (are.0, are.1, have_set ts accesses place t a are.2 is)
  have_set [] (b ∷ accesses) place t a are is = absurd are
  have_set (u ∷ ts) [] place t a are is = absurd are

  -- the transaction at the place is another one with the same accesses
  have_same :
      (ts : List Transaction) (accesses : List TxnAccesses) (place : ℕ) (t t' : Transaction) → HaveAccesses keys vs ts accesses → slice_get ts place ≡ Some t
      → ((a : TxnAccesses) → Has t a → Has t' a) → HaveAccesses keys vs (set ts place t') accesses
  have_same [] accesses place t t' are at same = absurd (no_item t at)
  have_same (u ∷ ts) [] place t t' are at same = absurd are
  have_same (u ∷ ts) (b ∷ accesses) zero t t' are at same =
      let is = same b (subst (λ (w : Transaction). Has w b) (same_item u t at) (are.0, are.1)) in (is.0, is.1, are.2)
  have_same (u ∷ ts) (b ∷ accesses) (suc place) t t' are at same = (are.0, are.1, have_same ts accesses place t t' are.2 at same)

  pub have_at :
      (ts : List Transaction) (accesses : List TxnAccesses) (place : ℕ) (t : Transaction) (a : TxnAccesses) → HaveAccesses keys vs ts accesses
      → slice_get ts place ≡ Some t → slice_get accesses place ≡ Some a → Has t a
  have_at [] accesses place t a are at there = absurd (no_item t at)
  have_at (u ∷ ts) [] place t a are at there = absurd are
  have_at (u ∷ ts) (b ∷ accesses) zero t a are at there =
      subst (λ (w : Transaction). Has w a) (same_item u t at) (subst (λ (c : TxnAccesses). Has u c) (same_item b a there) (are.0, are.1))
  have_at (u ∷ ts) (b ∷ accesses) (suc place) t a are at there = have_at ts accesses place t a are.2 at there

  pub have_count : (ts : List Transaction) (accesses : List TxnAccesses) → HaveAccesses keys vs ts accesses → length accesses ≡ length ts
  have_count [] [] are = refl
  have_count (u ∷ ts) (b ∷ accesses) are = ap suc (have_count ts accesses are.2)
  have_count [] (b ∷ accesses) are = absurd are
  have_count (u ∷ ts) [] are = absurd are

have_stay :
    (keys : KeyOrder) (vs us : List Version) → Stay vs us → (ts : List Transaction) (accesses : List TxnAccesses) → HaveAccesses keys vs ts accesses → HaveAccesses keys us ts accesses
have_stay keys vs us stay [] [] are = tt
have_stay keys vs us stay (t ∷ ts) (a ∷ accesses) are =
    (of_stays vs us stay t a.reads a.writes are.0, seen_stays keys vs us stay t a.reads a.writes a.seen are.1, have_stay keys vs us stay ts accesses are.2)
have_stay keys vs us stay [] (a ∷ accesses) are = absurd are
have_stay keys vs us stay (t ∷ ts) [] are = absurd are

-- ---- what is kept

abbrev pub kept_by : KeyOrder → List Version → List TxnAccesses → KeptVersions
kept_by keys versions accesses = record { keys = keys; versions = versions; accesses = accesses }

module _ (keys : KeyOrder) (vs us : List Version) (t : Transaction) (grown : us ≡ with_versions vs (named_by t)) where
  pub stays : Stay vs us
  stays n v h = ap (λ (xs : List Version). slice_get xs n) grown ∙ versions_stay vs (named_by t) n v h

  has_grown : (v : Version) → has_version us v ≡ (has_version vs v || has_version (named_by t) v)
  has_grown v = ap (λ (xs : List Version). has_version xs v) grown ∙ has_versions vs (named_by t) v

  numbered : AreNumbered version_eq vs → AreNumbered version_eq us
  numbered old = subst (AreNumbered version_eq) (sym grown) (versions_numbered vs old (named_by t))

  -- one transaction more
  pub kept_more :
      (ts : List Transaction) (accesses : List TxnAccesses) (rs ws ss : List Access) → AreKept ts (kept_by keys vs accesses)
      → AreAccessesOf us t rs ws → AreSeenBy keys us t rs ws ss → AreKept (ts ++ t ∷ []) (kept_by keys us (accesses ++ accesses_by rs ws ss ∷ []))
  kept_more ts accesses rs ws ss old are seen = record {
    distinct = numbered old.distinct;
    named = λ v. has_grown v ∙ ap (λ b. b || has_version (named_by t) v) (old.named v) ∙ sym (named-push ts t v);
    accesses = have_pushed keys us ts accesses t (accesses_by rs ws ss) (have_stay keys vs us stays ts accesses old.accesses) (are, seen);
  }

  -- one transaction more, where some versions had numbers before
  pub beside_more :
      (given : List Version) (ts : List Transaction) (accesses : List TxnAccesses) (rs ws ss : List Access) → AreKeptBeside given ts (kept_by keys vs accesses)
      → AreAccessesOf us t rs ws → AreSeenBy keys us t rs ws ss → AreKeptBeside given (ts ++ t ∷ []) (kept_by keys us (accesses ++ accesses_by rs ws ss ∷ []))
  beside_more given ts accesses rs ws ss old are seen = record {
    distinct = numbered old.distinct;
    named = λ v. has_grown v ∙ ap (λ b. b || has_version (named_by t) v) (old.named v) ∙ sym (moved (has_version given v) (is_named ts v) (has_version (named_by t) v))
        ∙ ap (λ b. has_version given v || b) (sym (named-push ts t v));
    accesses = have_pushed keys us ts accesses t (accesses_by rs ws ss) (have_stay keys vs us stays ts accesses old.accesses) (are, seen);
  }

  -- the one at the place was completed
  pub kept_completed :
      (ts : List Transaction) (place : ℕ) (before : Transaction) (accesses : List TxnAccesses) (rs ws ss : List Access) → AreKept ts (kept_by keys vs accesses)
      → slice_get ts place ≡ Some before → Completes before t
      → AreAccessesOf us t rs ws → AreSeenBy keys us t rs ws ss → AreKept (set ts place t) (kept_by keys us (set accesses place (accesses_by rs ws ss)))
  kept_completed ts place before accesses rs ws ss old at done are seen = record {
    distinct = numbered old.distinct;
    named = λ v. has_grown v ∙ ap (λ b. b || has_version (named_by t) v) (old.named v) ∙ sym (named_set ts place before t v at (named_still before t done v));
    accesses = have_set keys us ts accesses place t (accesses_by rs ws ss) (have_stay keys vs us stays ts accesses old.accesses) (are, seen);
  }

-- ---- versions that had numbers before any transaction

pub beside_none : (keys : KeyOrder) (vs : List Version) → AreNumbered version_eq vs → AreKeptBeside vs [] (kept_by keys vs [])
beside_none keys vs distinct = record { distinct = distinct; named = λ v. sym (or_false (has_version vs v)); accesses = tt }

named_alone : (a b : Bool) → (a ≡ true → b ≡ true) → (a || b) ≡ b
named_alone true b h = sym (h refl)
named_alone false b h = refl

-- the transactions name them
pub all_kept : (given : List Version) (ts : List Transaction) (kept : KeptVersions) → AreKeptBeside given ts kept → AreNamed ts given → AreKept ts kept
all_kept given ts kept is named = record {
  distinct = is.distinct;
  named = λ v. is.named v ∙ named_alone (has_version given v) (is_named ts v) (named v);
  accesses = is.accesses;
}

-- ---- a completion that isn't an ok

not_seen : (keys : KeyOrder) (t : Transaction) → is_ok t ≡ false → seen_in keys t ≡ []
not_seen Basic t none = refl
not_seen Sequential t none = ap (λ b. cond b (map version_in t.mops) []) none

absorbed : (a b : Bool) → (b ≡ true → a ≡ true) → a ≡ (a || b)
absorbed true b h = refl
absorbed false true h = h refl
absorbed false false h = refl

module _ (keys : KeyOrder) (vs : List Version) (t t' : Transaction) (done : Completes t t') (not_ok : is_ok t' ≡ false) where
  none_read : read_by t ≡ read_by t'
  none_read = ap (λ b. cond b (external_reads t) []) (open_not_ok t t' done) ∙ sym (ap (λ b. cond b (external_reads t') []) not_ok)

  none_seen : seen_in keys t ≡ seen_in keys t'
  none_seen = not_seen keys t (open_not_ok t t' done) ∙ sym (not_seen keys t' not_ok)

  has_same : (a : TxnAccesses) → Has keys vs t a → Has keys vs t' a
  has_same a is = (
    record {
      reads = subst (λ (us : List Version). AreAccesses vs us a.reads) none_read is.0.reads;
      writes = subst (λ us. AreAccesses vs (map version_of us) a.writes) (sym done.writes) is.0.writes;
    },
    record {
      seen = subst (λ (us : List Version). AreAccesses vs us a.seen) none_seen is.1.seen;
      of_keys = λ sequential ok. absurd (true≢false (sym ok ∙ not_ok));
    },
  )

  -- it names nothing new
  not_more : (v : Version) → has_version (named_by t') v ≡ true → has_version (named_by t) v ≡ true
  not_more v h =
      ap (λ b. has_version (named_in b t.mops) v) (open_not_ok t t' done) ∙ named_same t t' done v
      ∙ sym (ap (λ b. has_version (named_in b t'.mops) v) not_ok) ∙ h

  pub kept_not_ok :
      (ts : List Transaction) (place : ℕ) (accesses : List TxnAccesses) → AreKept ts (kept_by keys vs accesses) → slice_get ts place ≡ Some t
      → AreKept (set ts place t') (kept_by keys vs accesses)
  kept_not_ok ts place accesses old at = record {
    distinct = old.distinct;
    named = λ v. old.named v ∙ absorbed (is_named ts v) (has_version (named_by t') v) (λ is. named_in_all ts place t v at (not_more v is))
        ∙ sym (named_set ts place t t' v at (named_still t t' done v));
    accesses = have_same keys vs ts accesses place t t' old.accesses at has_same;
  }

-- ---- the transaction at a place

pub take_next : (ts : List Transaction) (place : ℕ) (t : Transaction) → slice_get ts place ≡ Some t → take (place + 1) ts ≡ take place ts ++ t ∷ []
take_next ts place t at =
    take_more ts place t (slice_get_within ts place t at) ∙ ap (λ (u : Transaction). take place ts ++ u ∷ []) (get_or_from_slice_get ts place t t at)

part_at :
    (f : TxnAccesses → List Access) (accesses : List TxnAccesses) (place : ℕ) (a : TxnAccesses) (xs : List Access) → slice_get accesses place ≡ Some a
    → slice_get (map f accesses) place ≡ Some xs → f a ≡ xs
part_at f accesses place a xs at there = same_item (f a) xs (sym (slice_get-map f accesses place ∙ ap (option_map f) at) ∙ there)

-- a place of a transaction is one of accesses
pub accesses_within : (ts : List Transaction) (kept now : KeptVersions) (place : ℕ) → kept ≡ now → AreKept ts now → place < length ts → place < length kept.accesses
accesses_within ts kept now place same is below =
    let old : AreKept ts kept = subst (AreKept ts) (sym same) is in
    subst (λ n. place < n) (sym (have_count kept.keys kept.versions ts kept.accesses old.accesses)) below

module _ (ts : List Transaction) (kept : KeptVersions) (is : AreKept ts kept) where
  pub transaction_at : (place : ℕ) → place < length kept.accesses → (t : Transaction) × (slice_get ts place ≡ Some t)
  transaction_at place below = is_at ts place (subst (λ n. place < n) (have_count kept.keys kept.versions ts kept.accesses is.accesses) below)

  module _ (place : ℕ) (below : place < length kept.accesses) (t : Transaction) (at : slice_get ts place ≡ Some t) where
    -- what it names has a number
    pub names_known : (n : ℕ) → n ≡ length kept.versions → AddsNamed kept.versions kept.versions n t
    names_known n count = record {
      versions = sym (nothing_new kept.versions (named_by t) (λ v names. is.named v ∙ named_in_all ts place t v at names));
      count = count;
    }

    module _ (rs ws : List Access) (read : slice_get (map (λ (a : TxnAccesses). a.reads) kept.accesses) place ≡ Some rs) (wrote : slice_get (map (λ (a : TxnAccesses). a.writes) kept.accesses) place ≡ Some ws) where
      pub accesses_at : AreAccessesOf kept.versions t rs ws
      accesses_at =
          let (a, there) = is_at kept.accesses place below in
          let has = have_at kept.keys kept.versions ts kept.accesses place t a is.accesses at there in
          let r = part_at (λ (a : TxnAccesses). a.reads) kept.accesses place a rs there read in
          let w = part_at (λ (a : TxnAccesses). a.writes) kept.accesses place a ws there wrote in
          subst (λ (xs : List Access). AreAccessesOf kept.versions t xs ws) r (subst (λ (xs : List Access). AreAccessesOf kept.versions t a.reads xs) w has.0)

      pub seen_at : (ss : List Access) → slice_get (map (λ (a : TxnAccesses). a.seen) kept.accesses) place ≡ Some ss → AreSeenBy kept.keys kept.versions t rs ws ss
      seen_at ss sees =
          let (a, there) = is_at kept.accesses place below in
          let has = have_at kept.keys kept.versions ts kept.accesses place t a is.accesses at there in
          let r = part_at (λ (a : TxnAccesses). a.reads) kept.accesses place a rs there read in
          let w = part_at (λ (a : TxnAccesses). a.writes) kept.accesses place a ws there wrote in
          let s = part_at (λ (a : TxnAccesses). a.seen) kept.accesses place a ss there sees in
          subst (λ (xs : List Access). AreSeenBy kept.keys kept.versions t xs ws ss) r
          (subst (λ (xs : List Access). AreSeenBy kept.keys kept.versions t a.reads xs ss) w
          (subst (λ (xs : List Access). AreSeenBy kept.keys kept.versions t a.reads a.writes xs) s has.1))

-- ---- the others stay

pub beside_push : (accesses : List TxnAccesses) (a : TxnAccesses) → StayBeside (length accesses) accesses (accesses ++ a ∷ [])
beside_push [] a zero b other at = absurd (other refl)
beside_push [] a (suc n) b other at = absurd (no_item b at)
beside_push (x ∷ accesses) a zero b other at = at
beside_push (x ∷ accesses) a (suc n) b other at = beside_push accesses a n b (λ e. other (ap suc e)) at

pub beside_set : (accesses : List TxnAccesses) (place : ℕ) (a : TxnAccesses) → StayBeside place accesses (set accesses place a)
beside_set [] place a n b other at = at
beside_set (x ∷ accesses) zero a zero b other at = absurd (other refl)
beside_set (x ∷ accesses) zero a (suc n) b other at = at
beside_set (x ∷ accesses) (suc place) a zero b other at = at
beside_set (x ∷ accesses) (suc place) a (suc n) b other at = beside_set accesses place a n b (λ e. other (ap suc e)) at
