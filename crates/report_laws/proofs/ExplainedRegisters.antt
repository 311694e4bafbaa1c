-- What a register holds: what it held before, if nobody wrote its key, or else the last version that was installed.
use Rattle.std.proofs.Common.{◌≡◌, ◌⊎◌, inl, inr, List, [], ◌∷◌, ◌++◌, Bool, true, false, ◌||◌, if◌then◌else◌, Some, map, IsTrue, refl, sym, ◌∙◌, ap, subst}
use Rattle.std.specs.List.{AllByRecursion}
use Rattle.std.proofs.lemmas.Bool.{false≢true, cases_Bool, and_parts}
use Rattle.std.proofs.lemmas.List.Elements.{recursion_from_All}
use Rattle.hist_types.specs.Atoms.{Atom, Value, atom_eq}
use Rattle.hist_types.specs.Journal.{Write, writes_of}
use Rattle.hist_types.specs.Operations.{Mop, read, write}
use Rattle.hist_types.specs.Transactions.{Transaction, Version, version_of, has_version, is_ok, is_known_to_read, external_reads, has_key, last_writes, external_writes, installed_by, installs, writes}
use Rattle.hist_types.specs.Explanation.{Registers, after_mop, after_mops, AreRead, Runs}
use Rattle.hist_types.proofs.Equality.{atom_eq-same, atom_eq-itself, same_version}
use Rattle.hist_types.proofs.Members.{In, in_mapped, in_map, Contains_from_in}
use Rattle.history_laws.specs.ReadsAndWrites.{WritesAnother}
use Rattle.history_laws.proofs.Externals.{external_reads-first}
use Rattle.history_laws.proofs.ThinningPaths.{any_passes}
use Rattle.history_laws.proofs.VersionMembers.{in_from_has, has_from_in}
use Rattle.history_laws.proofs.WrittenOnce.{AreApart}
use Rattle.report_laws.proofs.ExplainedOrders.{Before, first_in, second_in, none_before_first, before_further}

told_apart : (a b : Atom) → ¬ (b ≡ a) → atom_eq a b ≡ false
told_apart a b other = elim (cases_Bool (atom_eq a b)) [
  | inl same ↦ elim (other (sym (atom_eq-same a b same))) [ ]
  | inr e ↦ e
]

-- ---- an external read returns what its register held when the transaction began

read_first :
    (registers : Registers) (before after : List Mop) (key : Atom) (value : Value)
    → AreRead registers (before ++ read key value ∷ after)
    → AllByRecursion (WritesAnother key) (writes_of before)
    → registers key ≡ value
read_first registers [] after key value reads others = reads.0
read_first registers (read k v ∷ before) after key value reads others = read_first registers before after key value reads.1 others
read_first registers (write k v ∷ before) after key value reads others =
    sym (ap (λ b. if b then Some v else registers key) (told_apart key k others.0))
    ∙ read_first (after_mop registers (write k v)) before after key value reads.1 others.1

external_read :
    (registers : Registers) (t : Transaction) (v : Version)
    → AreRead registers t.mops
    → has_version (external_reads t) v ≡ true
    → registers v.key ≡ v.value
external_read registers t v reads has =
    let (before, after, is, others) = (external_reads-first t v).0 (Contains_from_in v (external_reads t) (in_from_has v (external_reads t) has)) in
    read_first registers before after v.key v.value (subst (AreRead registers) is reads) (recursion_from_All (WritesAnother v.key) (writes_of before) others)

-- ---- a transaction leaves a register as it was, or installs what it holds

-- the transaction writes the key
abbrev pub WritesKey : Atom → Transaction → Type 0
WritesKey key t = has_key key (writes_of t.mops) ≡ true

abbrev the_write : Atom → Atom → Write
the_write key value = record { key = key; value = value }

abbrev IsLeft : Registers → List Mop → Atom → Type 0
IsLeft registers mops key = (after_mops registers mops key ≡ registers key) × (has_key key (writes_of mops) ≡ false)

abbrev IsSet : Registers → List Mop → Atom → Type 0
IsSet registers mops key = (value : Atom) × (after_mops registers mops key ≡ Some value) × In (the_write key value) (last_writes (writes_of mops))

still_last : (again : Bool) (v w : Write) (ws : List Write) → In w ws → In w (if again then ws else v ∷ ws)
still_last true v w ws i = i
still_last false v w ws i = inr i

last_here : (key value : Atom) (mops : List Mop) → has_key key (writes_of mops) ≡ false → In (the_write key value) (last_writes (writes_of (write key value ∷ mops)))
last_here key value mops none =
    subst (λ b. In (the_write key value) (if b then last_writes (writes_of mops) else the_write key value ∷ last_writes (writes_of mops))) (sym none) (inl refl)

set_here :
    (same : Bool) (registers : Registers) (k v key : Atom) (mops : List Mop)
    → atom_eq key k ≡ same
    → IsLeft (after_mop registers (write k v)) mops key
    → IsLeft registers (write k v ∷ mops) key ⊎ IsSet registers (write k v ∷ mops) key
set_here true registers k v key mops e left =
    let one : k ≡ key = sym (atom_eq-same key k e) in
    inr (
      v,
      left.0 ∙ ap (λ b. if b then Some v else registers key) e,
      subst (λ j. In (the_write key v) (last_writes (writes_of (write j v ∷ mops)))) (sym one) (last_here key v mops left.1),
    )
set_here false registers k v key mops e left =
    inl (left.0 ∙ ap (λ b. if b then Some v else registers key) e, ap (λ b. b || has_key key (writes_of mops)) e ∙ left.1)

pub left_or_set : (registers : Registers) (mops : List Mop) (key : Atom) → IsLeft registers mops key ⊎ IsSet registers mops key
left_or_set registers [] key = inl (refl, refl)
left_or_set registers (read k v ∷ mops) key = left_or_set registers mops key
left_or_set registers (write k v ∷ mops) key =
    elim (left_or_set (after_mop registers (write k v)) mops key) [
      | inl left ↦ set_here (atom_eq key k) registers k v key mops refl left
      | inr further ↦ inr (
        further.0,
        further.1,
        still_last (has_key k (writes_of mops)) (the_write k v) (the_write key further.0) (last_writes (writes_of mops)) further.2,
      )
    ]

pub set_installs :
    (registers : Registers) (t : Transaction) (v : Version)
    → after_mops registers t.mops v.key ≡ v.value
    → IsSet registers t.mops v.key
    → installs t v ≡ true
set_installs registers t v holds (value, set, last) =
    let w : Write = the_write v.key value in
    subst (λ u. installs t u ≡ true) (same_version (version_of w) v refl (sym set ∙ holds))
    (has_from_in (version_of w) (installed_by t) (in_mapped version_of w (external_writes t) last))

pub writes_key : (t : Transaction) (v : Version) → writes t v ≡ true → WritesKey v.key t
writes_key t v e =
    let (w, i, is) = in_map version_of v (writes_of t.mops) (in_from_has v (map version_of (writes_of t.mops)) e) in
    any_passes (λ (w : Write). atom_eq v.key w.key) w (writes_of t.mops) i
    (subst (λ (u : Version). atom_eq u.key w.key ≡ true) is (atom_eq-itself w.key))

-- ---- where a read version comes from

-- the register held it from the beginning: none before the transaction writes the key
abbrev pub HeldAtFirst : Registers → List Transaction → Transaction → Version → Type 0
HeldAtFirst registers order u v = (registers v.key ≡ v.value) × ((w : Transaction) → Before order w u → WritesKey v.key w → ⊥)

-- w installs it before the transaction, and none in between writes the key
pub record HeldFrom (order : List Transaction) (u : Transaction) (v : Version) (w : Transaction) : Type 0 where
  pub before : Before order w u
  pub installed : installs w v ≡ true
  pub none : (x : Transaction) → Before order w x → Before order x u → WritesKey v.key x → ⊥

abbrev pub IsHeld : Registers → List Transaction → Transaction → Version → Type 0
IsHeld registers order u v = HeldAtFirst registers order u v ⊎ ((w : Transaction) × HeldFrom order u v w)

-- from what is held after the first transaction
one_earlier :
    (registers : Registers) (t : Transaction) (ts : List Transaction) (u : Transaction) (v : Version)
    → AreApart (t ∷ ts)
    → In u ts
    → IsHeld (after_mops registers t.mops) ts u v
    → IsHeld registers (t ∷ ts) u v
one_earlier registers t ts u v apart i (inl first) =
    elim (left_or_set registers t.mops v.key) [
      | inl left ↦ inl (
        sym left.0 ∙ first.0,
        λ w b writes. elim b [
          | inl here ↦ false≢true (sym left.1 ∙ subst (WritesKey v.key) (sym here.0) writes)
          | inr further ↦ first.1 w further writes
        ],
      )
      | inr set ↦ inr (
        t,
        record {
          before = inl (refl, i);
          installed = set_installs registers t v first.0 set;
          none = λ x after b writes. elim b [
            | inl here ↦ none_before_first t ts t apart (subst (λ y. Before (t ∷ ts) t y) (sym here.0) after)
            | inr further ↦ first.1 x further writes
          ];
        },
      )
    ]
one_earlier registers t ts u v apart i (inr from) =
    let w : Transaction = from.0 in
    let there : In w ts = first_in ts w u from.1.before in
    inr (
      w,
      record {
        before = inr from.1.before;
        installed = from.1.installed;
        none = λ x after b writes.
            let later : Before ts w x = before_further t ts w x apart there after in
            from.1.none x later (before_further t ts x u apart (second_in ts w x later) b) writes;
      },
    )

pub held :
    (registers : Registers) (order : List Transaction) (u : Transaction) (v : Version)
    → Runs registers order
    → AreApart order
    → In u order
    → is_known_to_read u v ≡ true
    → IsHeld registers order u v
held registers [] u v runs apart i reads = elim i [ ]
held registers (t ∷ ts) u v runs apart (inl here) reads =
    let parts = and_parts (is_ok u) (has_version (external_reads u) v) reads in
    let own : IsTrue (is_ok u) → AreRead registers u.mops = subst (λ (x : Transaction). IsTrue (is_ok x) → AreRead registers x.mops) here runs.0 in
    inl (
      external_read registers u v (own parts.0) parts.1,
      λ w b writes. none_before_first t ts w apart (subst (λ x. Before (t ∷ ts) w x) (sym here) b),
    )
held registers (t ∷ ts) u v runs apart (inr i) reads =
    one_earlier registers t ts u v apart i (held (after_mops registers t.mops) ts u v runs.1 apart.1 i reads)
