-- External reads and writes by their places: no write of the key before the one, none after the other.
use Rattle.std.proofs.Common.{◌≡◌, ◌↔◌, inl, inr, ◌||◌, List, [], ◌∷◌, ◌++◌, Bool, true, false, if◌then◌else◌, Contains, refl, sym, ◌∙◌, ap, subst}
use Rattle.std.specs.List.{AllByRecursion, list_any}
use Rattle.std.proofs.lemmas.Bool.{cases_Bool, false≢true}
use Rattle.std.proofs.lemmas.List.Elements.{All-from_recursion, recursion_from_All}
use Rattle.hist_types.specs.Atoms.{Atom, Value, atom_eq}
use Rattle.hist_types.specs.Journal.{Write, writes_of}
use Rattle.history_laws.specs.ReadsAndWrites.{WritesAnother, ReadsFirst, WritesLast}
use Rattle.hist_types.specs.Operations.{Mop, read, write}
use Rattle.hist_types.specs.Transactions.{Transaction, Version, reads_after, external_reads, has_key, last_writes, external_writes}
use Rattle.hist_types.proofs.Equality.{atom_eq-same, atom_eq-itself}
use Rattle.hist_types.proofs.Members.{In, in_from_Contains, Contains_from_in}

-- ---- keys

no_or : (b c : Bool) → (b || c) ≡ false → (b ≡ false) × (c ≡ false)
no_or true c e = elim (false≢true (sym e)) [ ]
no_or false c e = (refl, e)

neither : (b c : Bool) → b ≡ false → c ≡ false → (b || c) ≡ false
neither true c p q = p
neither false c p q = q

other_keys : (a b : Atom) → atom_eq a b ≡ false → ¬ (b ≡ a)
other_keys a b e same = false≢true (sym e ∙ subst (λ c. atom_eq a c ≡ true) (sym same) (atom_eq-itself a))

told_apart : (a b : Atom) → ¬ (b ≡ a) → atom_eq a b ≡ false
told_apart a b other = elim (cases_Bool (atom_eq a b)) [
  | inl same ↦ elim (other (sym (atom_eq-same a b same))) [ ]
  | inr e ↦ e
]

of_others : (key : Atom) (ws : List Write) → has_key key ws ≡ false → AllByRecursion (WritesAnother key) ws
of_others key [] e = tt
of_others key (w ∷ ws) e =
    let both = no_or (atom_eq key w.key) (has_key key ws) e in
    (other_keys key w.key both.0, of_others key ws both.1)

no_key : (key : Atom) (ws : List Write) → AllByRecursion (WritesAnother key) ws → has_key key ws ≡ false
no_key key [] all = refl
no_key key (w ∷ ws) all = neither (atom_eq key w.key) (has_key key ws) (told_apart key w.key all.0) (no_key key ws all.1)

-- ---- reads

abbrev the_version : Atom → Value → Version
the_version key value = record { key = key; value = value }

-- it stands in the list behind no write of its key
abbrev StandsFirst : List Mop → Version → Type 0
StandsFirst mops r =
    (before : List Mop) × (after : List Mop) × (mops ≡ before ++ read r.key r.value ∷ after) × AllByRecursion (WritesAnother r.key) (writes_of before)

-- and its key is none of the keys
abbrev StandsFirstBehind : List Atom → List Mop → Version → Type 0
StandsFirstBehind written mops r = (list_any (atom_eq r.key) written ≡ false) × StandsFirst mops r

after_read : (written : List Atom) (key : Atom) (value : Value) (mops : List Mop) (r : Version) → StandsFirstBehind written mops r → StandsFirstBehind written (read key value ∷ mops) r
after_read written key value mops r s = (s.0, (read key value ∷ s.1.0, s.1.1, ap (λ ms. read key value ∷ ms) s.1.2, s.1.3))

after_write : (written : List Atom) (key value : Atom) (mops : List Mop) (r : Version) → StandsFirstBehind (key ∷ written) mops r → StandsFirstBehind written (write key value ∷ mops) r
after_write written key value mops r s =
    let both = no_or (atom_eq r.key key) (list_any (atom_eq r.key) written) s.0 in
    (both.1, (write key value ∷ s.1.0, s.1.1, ap (λ ms. write key value ∷ ms) s.1.2, (other_keys r.key key both.0, s.1.3)))

here_or_further :
    (was : Bool) (written : List Atom) (key : Atom) (value : Value) (mops : List Mop) (r : Version)
    → list_any (atom_eq key) written ≡ was
    → In r (if was then reads_after written mops else the_version key value ∷ reads_after written mops)
    → (In r (reads_after written mops) → StandsFirstBehind written mops r)
    → StandsFirstBehind written (read key value ∷ mops) r
here_or_further true written key value mops r e i further = after_read written key value mops r (further i)
here_or_further false written key value mops r e (inl here) further =
    subst (StandsFirstBehind written (read key value ∷ mops)) here (e, ([], mops, refl, tt))
here_or_further false written key value mops r e (inr i) further = after_read written key value mops r (further i)

stands_first : (written : List Atom) (mops : List Mop) (r : Version) → In r (reads_after written mops) → StandsFirstBehind written mops r
stands_first written [] r i = elim i [ ]
stands_first written (read key value ∷ mops) r i =
    here_or_further (list_any (atom_eq key) written) written key value mops r refl i (stands_first written mops r)
stands_first written (write key value ∷ mops) r i = after_write written key value mops r (stands_first (key ∷ written) mops r i)

still_in : (was : Bool) (s r : Version) (rs : List Version) → In r rs → In r (if was then rs else s ∷ rs)
still_in true s r rs i = i
still_in false s r rs i = inr i

first_in :
    (written : List Atom) (before after : List Mop) (r : Version)
    → list_any (atom_eq r.key) written ≡ false
    → AllByRecursion (WritesAnother r.key) (writes_of before)
    → In r (reads_after written (before ++ read r.key r.value ∷ after))
first_in written [] after r none all =
    subst (λ was. In r (if was then reads_after written after else the_version r.key r.value ∷ reads_after written after)) (sym none) (inl refl)
first_in written (read key value ∷ before) after r none all =
    still_in (list_any (atom_eq key) written) (the_version key value) r (reads_after written (before ++ read r.key r.value ∷ after)) (first_in written before after r none all)
first_in written (write key value ∷ before) after r none all =
    first_in (key ∷ written) before after r (neither (atom_eq r.key key) (list_any (atom_eq r.key) written) (told_apart r.key key all.0) none) all.1

pub external_reads-first : (t : Transaction) (r : Version) → Contains (external_reads t) r ↔ ReadsFirst t.mops r
external_reads-first t r = (
  λ c.
      let s = stands_first [] t.mops r (in_from_Contains r (external_reads t) c) in
      (s.1.0, s.1.1, s.1.2, All-from_recursion (WritesAnother r.key) (writes_of s.1.0) s.1.3),
  λ s.
      Contains_from_in r (external_reads t)
      (subst (λ mops. In r (reads_after [] mops)) (sym s.2) (first_in [] s.0 s.1 r refl (recursion_from_All (WritesAnother r.key) (writes_of s.0) s.3))),
)

-- ---- writes

abbrev the_write : Atom → Atom → Write
the_write key value = record { key = key; value = value }

-- it stands in the list, and none of its key behind it
abbrev StandsLast : List Mop → Write → Type 0
StandsLast mops w =
    (before : List Mop) × (after : List Mop) × (mops ≡ before ++ write w.key w.value ∷ after) × AllByRecursion (WritesAnother w.key) (writes_of after)

behind : (mop : Mop) (mops : List Mop) (w : Write) → StandsLast mops w → StandsLast (mop ∷ mops) w
behind mop mops w s = (mop ∷ s.0, s.1, ap (λ ms. mop ∷ ms) s.2, s.3)

last_or_further :
    (again : Bool) (key value : Atom) (mops : List Mop) (w : Write)
    → has_key key (writes_of mops) ≡ again
    → In w (if again then last_writes (writes_of mops) else the_write key value ∷ last_writes (writes_of mops))
    → (In w (last_writes (writes_of mops)) → StandsLast mops w)
    → StandsLast (write key value ∷ mops) w
last_or_further true key value mops w e i further = behind (write key value) mops w (further i)
last_or_further false key value mops w e (inl here) further =
    subst (StandsLast (write key value ∷ mops)) here ([], mops, refl, of_others key (writes_of mops) e)
last_or_further false key value mops w e (inr i) further = behind (write key value) mops w (further i)

stands_last : (mops : List Mop) (w : Write) → In w (last_writes (writes_of mops)) → StandsLast mops w
stands_last [] w i = elim i [ ]
stands_last (read key value ∷ mops) w i = behind (read key value) mops w (stands_last mops w i)
stands_last (write key value ∷ mops) w i =
    last_or_further (has_key key (writes_of mops)) key value mops w refl i (stands_last mops w)

still_last : (again : Bool) (v w : Write) (ws : List Write) → In w ws → In w (if again then ws else v ∷ ws)
still_last true v w ws i = i
still_last false v w ws i = inr i

last_in :
    (before after : List Mop) (w : Write)
    → AllByRecursion (WritesAnother w.key) (writes_of after)
    → In w (last_writes (writes_of (before ++ write w.key w.value ∷ after)))
last_in [] after w all =
    subst (λ again. In w (if again then last_writes (writes_of after) else the_write w.key w.value ∷ last_writes (writes_of after)))
    (sym (no_key w.key (writes_of after) all)) (inl refl)
last_in (read key value ∷ before) after w all = last_in before after w all
last_in (write key value ∷ before) after w all =
    let rest = before ++ write w.key w.value ∷ after in
    still_last (has_key key (writes_of rest)) (the_write key value) w (last_writes (writes_of rest)) (last_in before after w all)

pub external_writes-last : (t : Transaction) (w : Write) → Contains (external_writes t) w ↔ WritesLast t.mops w
external_writes-last t w = (
  λ c.
      let s = stands_last t.mops w (in_from_Contains w (external_writes t) c) in
      (s.0, s.1, s.2, All-from_recursion (WritesAnother w.key) (writes_of s.1) s.3),
  λ s.
      Contains_from_in w (external_writes t)
      (subst (λ mops. In w (last_writes (writes_of mops))) (sym s.2) (last_in s.0 s.1 w (recursion_from_All (WritesAnother w.key) (writes_of s.1) s.3))),
)
