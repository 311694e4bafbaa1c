-- The row of a version, in the words of the history.
use Rattle.std.proofs.Common.{◌≡◌, inl, inr, ℕ, List, [], ◌∷◌, map, Bool, true, false, cond, Option, Some, None, refl, sym, ◌∙◌, ap}
use Rattle.std.specs.Prelude.{slice_get, ◌&&◌, ◌||◌, ◌==◌}
use Rattle.std.specs.List.{list_any}
use Rattle.std.specs.Option.{option_or}
use Rattle.std.proofs.lemmas.Bool.{cases_Bool, true≢false, false≢true, false_from_ne_true, eqb-true, eq-eqb, and_parts, or_parts}
use Rattle.hist_types.specs.Atoms.{Atom, atom_eq, value_eq}
use Rattle.hist_types.specs.Journal.{Write}
use Rattle.hist_types.specs.Transactions.{Version, version_eq, version_of, has_version, has_key, last_writes, earlier_writes}
use Rattle.hist_types.proofs.Equality.{atom_eq-same, version_eq-same, version_eq-itself}
use Rattle.atom_index.specs.Numbers.{number_in, AreNumbered}
use Rattle.key_versions.specs.declared.pending.Access.{Access}
use Rattle.key_versions.specs.declared.types.Writer.{Writer}
use Rattle.key_versions.specs.Numbering.{IsAccess, AreAccesses}
use Rattle.key_versions.specs.Rows.{Known, with_writer, has_nil, lasts, has_number}
use Rattle.key_versions.proofs.Accessing.{has_nil_key}
use Rattle.key_versions.proofs.Known.{written_at, writer_by}
use Rattle.key_versions.proofs.Places.{same_item}

-- numbers are equal where their versions are
pub same_version :
    (vs : List Version) → AreNumbered version_eq vs → (v u : Version) (i j : ℕ) → slice_get vs i ≡ Some v → slice_get vs j ≡ Some u → (j == i) ≡ version_eq v u
same_version vs numbered v u i j here there = elim (cases_Bool (j == i)) [
  | inl is ↦ (
      let place : j ≡ i = eqb-true j i is in
      let same : v ≡ u = same_item v u (sym here ∙ sym (ap (slice_get vs) place) ∙ there) in
      is ∙ sym (ap (version_eq v) (sym same) ∙ version_eq-itself v))
  | inr differ ↦ differ ∙ sym (false_from_ne_true _ (λ equal.
      let same : v ≡ u = version_eq-same v u equal in
      let place : j ≡ i = same_item j i (sym (numbered j u there) ∙ ap (λ w. number_in version_eq w vs) (sym same) ∙ numbered i v here) in
      true≢false (sym (eq-eqb j i place) ∙ differ)))
]

module _ (vs : List Version) (numbered : AreNumbered version_eq vs) (v : Version) (n : ℕ) (at : slice_get vs n ≡ Some v) where
  pub has_number_version : (us : List Version) (accesses : List Access) → AreAccesses vs us accesses → has_number n accesses ≡ has_version us v
  has_number_version [] [] are = refl
  has_number_version (u ∷ us) (a ∷ accesses) are =
      ap (λ b. b || has_number n accesses) (same_version vs numbered v u n a.version at are.0.1) ∙ ap (λ b. version_eq v u || b) (has_number_version us accesses are.1)
  has_number_version [] (a ∷ accesses) are = absurd are
  has_number_version (u ∷ us) [] are = absurd are

-- ---- writes

all_of_key : (key : Atom) (ws : List Write) → list_any (λ (u : Version). atom_eq key u.key) (map version_of ws) ≡ has_key key ws
all_of_key key [] = refl
all_of_key key (w ∷ ws) = ap (λ b. atom_eq key w.key || b) (all_of_key key ws)

over_is :
    (vs : List Version) → AreNumbered version_eq vs → (w : Write) (a : Access) → IsAccess vs (version_of w) a → (wr : List Write) (accesses : List Access)
    → AreAccesses vs (map version_of wr) accesses → has_nil a.nil accesses ≡ has_key w.key wr
over_is vs numbered w a is wr accesses are = has_nil_key vs numbered (version_of w) a is (map version_of wr) accesses are ∙ all_of_key w.key wr

pub lasts_are :
    (vs : List Version) → AreNumbered version_eq vs → (wr : List Write) (accesses : List Access) → AreAccesses vs (map version_of wr) accesses
    → AreAccesses vs (map version_of (last_writes wr)) (lasts accesses)
lasts_are vs numbered [] [] are = are
lasts_are vs numbered (w ∷ wr) (a ∷ accesses) are =
    by (has_nil a.nil accesses) (has_key w.key wr) vs w a wr accesses (over_is vs numbered w a are.0 wr accesses are.1) are.0 (lasts_are vs numbered wr accesses are.1)
  where
    by :
        (b b' : Bool) (vs : List Version) (w : Write) (a : Access) (wr : List Write) (accesses : List Access) → b ≡ b' → IsAccess vs (version_of w) a
        → AreAccesses vs (map version_of (last_writes wr)) (lasts accesses)
        → AreAccesses vs (map version_of (cond b' (last_writes wr) (w ∷ last_writes wr))) (cond b (lasts accesses) (a ∷ lasts accesses))
    by true true vs w a wr accesses e here behind = behind
    by false false vs w a wr accesses e here behind = (here, behind)
    by true false vs w a wr accesses e here behind = absurd (true≢false e)
    by false true vs w a wr accesses e here behind = absurd (false≢true e)
lasts_are vs numbered [] (a ∷ accesses) are = absurd are
lasts_are vs numbered (w ∷ wr) [] are = absurd are

-- A key that isn't written again is not among those that are written over.
not_over : (v : Version) (key : Atom) (wr : List Write) → v.key ≡ key → has_key key wr ≡ false → has_version (map version_of (earlier_writes wr)) v ≡ false
not_over v key [] same none = refl
not_over v key (w ∷ wr) same none =
    let parts = or_parts (atom_eq key w.key) (has_key key wr) none in
    by (has_key w.key wr) v w wr (ap (λ k. atom_eq k w.key) same ∙ parts.0) (not_over v key wr same parts.1)
  where
    by :
        (b : Bool) (v : Version) (w : Write) (wr : List Write) → atom_eq v.key w.key ≡ false → has_version (map version_of (earlier_writes wr)) v ≡ false
        → has_version (map version_of (cond b (w ∷ earlier_writes wr) (earlier_writes wr))) v ≡ false
    by true v w wr apart behind = ap (λ t. (t && value_eq v.value (Some w.value)) || has_version (map version_of (earlier_writes wr)) v) apart ∙ behind
    by false v w wr apart behind = behind

abbrev pub writer_if : ℕ → Bool → Bool → Option Writer
writer_if place wrote over = cond wrote (Some (writer_by place over)) None

or_some : (o : Option Writer) (w : Writer) (p : Option Writer) → option_or (option_or o (Some w)) p ≡ option_or o (Some w)
or_some None w p = refl
or_some (Some x) w p = refl

module _ (vs : List Version) (numbered : AreNumbered version_eq vs) (v : Version) (n : ℕ) (at : slice_get vs n ≡ Some v) (place : ℕ) where
  -- what the first write does, where it is of the version or is not
  first_write :
      (b : Bool) (w : Write) (wr : List Write) (over : Bool) (x : Known) (accesses : List Access) → version_eq v (version_of w) ≡ b → over ≡ has_key w.key wr
      → ((y : Known) → (written_at place n y accesses).writer ≡ option_or y.writer (writer_if place (has_version (map version_of wr) v) (has_version (map version_of (earlier_writes wr)) v)))
      → (written_at place n (cond b (with_writer (writer_by place over) x) x) accesses).writer
      ≡ option_or x.writer (writer_if place (b || has_version (map version_of wr) v) (has_version (map version_of (cond (has_key w.key wr) (w ∷ earlier_writes wr) (earlier_writes wr))) v))
  first_write true w wr over x accesses is same behind =
      behind (with_writer (writer_by place over) x)
      ∙ or_some x.writer (writer_by place over) (writer_if place (has_version (map version_of wr) v) (has_version (map version_of (earlier_writes wr)) v))
      ∙ ap (λ b. option_or x.writer (Some (writer_by place b))) (same ∙ by (has_key w.key wr) refl)
    where
      by : (b : Bool) → has_key w.key wr ≡ b → b ≡ has_version (map version_of (cond b (w ∷ earlier_writes wr) (earlier_writes wr))) v
      by true e = sym (ap (λ t. t || has_version (map version_of (earlier_writes wr)) v) is)
      by false e = sym (not_over v w.key wr (atom_eq-same v.key w.key (and_parts (atom_eq v.key w.key) (value_eq v.value (Some w.value)) is).0) e)
  first_write false w wr over x accesses is same behind =
      behind x ∙ ap (λ b. option_or x.writer (writer_if place (has_version (map version_of wr) v) b)) (by (has_key w.key wr))
    where
      by : (b : Bool) → has_version (map version_of (earlier_writes wr)) v ≡ has_version (map version_of (cond b (w ∷ earlier_writes wr) (earlier_writes wr))) v
      by true = sym (ap (λ t. t || has_version (map version_of (earlier_writes wr)) v) is)
      by false = refl

  pub writer_is :
      (wr : List Write) (accesses : List Access) → AreAccesses vs (map version_of wr) accesses → (x : Known)
      → (written_at place n x accesses).writer ≡ option_or x.writer (writer_if place (has_version (map version_of wr) v) (has_version (map version_of (earlier_writes wr)) v))
  writer_is [] [] are x = none x.writer
    where
      none : (o : Option Writer) → o ≡ option_or o None
      none None = refl
      none (Some w) = refl
  writer_is (w ∷ wr) (a ∷ accesses) are x =
      let same = same_version vs numbered v (version_of w) n a.version at are.0.1 in
      ap (λ b. (written_at place n (cond b (with_writer (writer_by place (has_nil a.nil accesses)) x) x) accesses).writer) same
      ∙ first_write (version_eq v (version_of w)) w wr (has_nil a.nil accesses) x accesses refl (over_is vs numbered w a are.0 wr accesses are.1) (writer_is wr accesses are.1)
  writer_is [] (a ∷ accesses) are x = absurd are
  writer_is (w ∷ wr) [] are x = absurd are
