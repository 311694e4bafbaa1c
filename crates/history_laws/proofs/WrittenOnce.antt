-- No version is written twice: the journal takes no write again, and a completion repeats its invocation's writes.
use Rattle.std.proofs.Common.{◌≡◌, ◌↔◌, ◌⊎◌, inl, inr, ℕ, ◌+◌, List, [], ◌∷◌, ◌++◌, length, Bool, true, false, ◌||◌, if◌then◌else◌, Option, Some, None, map, flat_map, All, Contains, IsTrue, IsFalse, is_some, option_map, option_and_then, nat_le, ◌≤◌, arith, append-nil, append_assoc, refl, sym, ◌∙◌, ap, subst}
use Rattle.std.specs.Bool.{⊤}
use Rattle.std.specs.List.{list_any}
use Rattle.std.specs.Option.{option_or}
use Rattle.std.specs.Cmp.Lexicographic.{pointwise}
use Rattle.std.proofs.lemmas.Bool.{false≢true, and_parts, cases_Bool}
use Rattle.std.proofs.lemmas.Option.{none-some, same_Some}
use Rattle.hist_types.specs.Atoms.{atom_eq}
use Rattle.hist_types.specs.Lists.{NoneTwice}
use Rattle.history_laws.specs.Writers.{writes_of_all}
use Rattle.hist_types.specs.Journal.{Write, write_eq, writes_of, written, rewrites, is_invoke, same_mop, completion_refusal, invocation_refusal, broken, first_broken, open_invocation, is_retired, KeepsRules}
use Rattle.history_laws.specs.Events.{IsOfAnother}
use Rattle.hist_types.specs.Operations.{Mop, read, write, Operation}
use Rattle.hist_types.specs.Transactions.{Transaction, Indexed, Version, version_of, has_version, completion_in, status_by, mops_by, transaction_by, transactions_from, transactions_of, has_key, last_writes, earlier_writes, external_writes, intermediate_writes, installs, writes, wrote_intermediate}
use Rattle.hist_types.specs.declared.limits.TheConstants.{MAX_EVENTS}
use Rattle.hist_types.specs.declared.types.OpKind.{OpKind}
use Rattle.hist_types.specs.declared.types.OpKind.TheVariants as kinds
use Rattle.hist_types.specs.declared.types.Refusal.{Refusal}
use Rattle.hist_types.specs.declared.types.Refusal.TheVariants.{Busy, Retired, Rewritten, Mismatch, TooManyEvents}
use Rattle.history_laws.proofs.Blocks.{kept_by_both}
use Rattle.hist_types.proofs.Equality.{atom_eq-same, write_eq-itself, same_write}
use Rattle.hist_types.proofs.Members.{In, in_from_Contains, in_append, in_front, in_back, in_mapped, in_map, in_each}
use Rattle.history_laws.proofs.Processes.{completion_in-next, last_event-last}
use Rattle.history_laws.proofs.ThinningTimes.{timed_from, invocation_by}
use Rattle.history_laws.proofs.VersionMembers.{in_from_has, has_from_in}

-- ---- lists without repetition

abbrev pub AreApart : {X : Type 0} → List X → Type 0
AreApart [] = ⊤
AreApart (x ∷ xs) = ¬ In x xs × AreApart xs

apart_front : {X : Type 0} (xs ys : List X) → AreApart (xs ++ ys) → AreApart xs
apart_front [] ys a = tt
apart_front (x ∷ xs) ys a = (λ i. a.0 (in_front x xs ys i), apart_front xs ys a.1)

apart_back : {X : Type 0} (xs ys : List X) → AreApart (xs ++ ys) → AreApart ys
apart_back [] ys a = a
apart_back (x ∷ xs) ys a = apart_back xs ys a.1

apart_both : {X : Type 0} (xs ys : List X) → AreApart (xs ++ ys) → (x : X) → In x xs → In x ys → ⊥
apart_both [] ys a x i j = i
apart_both (z ∷ xs) ys a x (inl e) j = a.0 (in_back z xs ys (subst (λ u. In u ys) (sym e) j))
apart_both (z ∷ xs) ys a x (inr i) j = apart_both xs ys a.1 x i j

pub apart_append : {X : Type 0} (xs ys : List X) → AreApart xs → AreApart ys → ((x : X) → In x xs → In x ys → ⊥) → AreApart (xs ++ ys)
apart_append [] ys a b none = b
apart_append (x ∷ xs) ys a b none = (
  λ i. elim (in_append x xs ys i) [ inl j ↦ a.0 j | inr j ↦ none x (inl refl) j ],
  apart_append xs ys a.1 b (λ z i j. none z (inr i) j),
)

-- what stands in two of the lists is of one of them
one_of_each :
    {X Y : Type 0} (f : X → List Y) (xs : List X)
    → AreApart (flat_map f xs)
    → (x z : X) (y : Y)
    → In x xs
    → In z xs
    → In y (f x)
    → In y (f z)
    → x ≡ z
one_of_each f [] a x z y i j k l = elim i [ ]
one_of_each f (u ∷ us) a x z y (inl e) (inl d) k l = sym e ∙ d
one_of_each f (u ∷ us) a x z y (inl e) (inr j) k l =
    elim (apart_both (f u) (flat_map f us) a y (subst (λ v. In y (f v)) (sym e) k) (in_each f y z us j l)) [ ]
one_of_each f (u ∷ us) a x z y (inr i) (inl d) k l =
    elim (apart_both (f u) (flat_map f us) a y (subst (λ v. In y (f v)) (sym d) l) (in_each f y x us i k)) [ ]
one_of_each f (u ∷ us) a x z y (inr i) (inr j) k l = one_of_each f us (apart_back (f u) (flat_map f us) a) x z y i j k l

apart_one : {X Y : Type 0} (f : X → List Y) (xs : List X) → AreApart (flat_map f xs) → (x : X) → In x xs → AreApart (f x)
apart_one f [] a x i = elim i [ ]
apart_one f (u ∷ us) a x (inl e) = subst (λ v. AreApart (f v)) e (apart_front (f u) (flat_map f us) a)
apart_one f (u ∷ us) a x (inr i) = apart_one f us (apart_back (f u) (flat_map f us) a) x i

-- ---- the journal takes no write again

any_from_in : (w : Write) (ws : List Write) → In w ws → list_any (write_eq w) ws ≡ true
any_from_in w [] i = elim i [ ]
any_from_in w (v ∷ ws) (inl e) = ap (λ b. b || list_any (write_eq w) ws) (subst (λ u. write_eq w u ≡ true) (sym e) (write_eq-itself w))
any_from_in w (v ∷ ws) (inr i) = or_true (write_eq w v) (list_any (write_eq w) ws) (any_from_in w ws i)
  where
    or_true : (b c : Bool) → c ≡ true → (b || c) ≡ true
    or_true true c e = refl
    or_true false c e = e

neither : (b c : Bool) → (b || c) ≡ false → (b ≡ false) × (c ≡ false)
neither true c e = elim (false≢true (sym e)) [ ]
neither false c e = (refl, e)

abbrev AreNew : List Write → List Write → Type 0
AreNew before ws = AreApart ws × ((w : Write) → In w ws → In w before → ⊥)

are_new : (before ws : List Write) → rewrites before ws ≡ false → AreNew before ws
are_new before [] e = (tt, λ w i j. i)
are_new before (w ∷ ws) e =
    let both = neither (list_any (write_eq w) before) (rewrites (w ∷ before) ws) e in
    let rest = are_new (w ∷ before) ws both.1 in (
      (λ i. rest.1 w i (inl refl), rest.0),
      λ v i j. elim i [
        | inl same ↦ false≢true (sym both.0 ∙ any_from_in w before (subst (λ u. In u before) (sym same) j))
        | inr further ↦ rest.1 v further (inr j)
      ],
    )

written-append : (es os : List Operation) → written (es ++ os) ≡ written es ++ written os
written-append [] os = refl
written-append (e ∷ es) os =
    ap (λ ws. (if is_invoke e.kind then writes_of e.mops else []) ++ ws) (written-append es os)
    ∙ sym (append_assoc (if is_invoke e.kind then writes_of e.mops else []) (written es) (written os))

none_broken : (b : Option Refusal) (n : ℕ) (rest : Option (Refusal × ℕ)) → option_or (option_map (λ refusal. (refusal, n)) b) rest ≡ None → b ≡ None
none_broken None n rest e = refl
none_broken (Some refusal) n rest e = elim (none-some (refusal, n) (sym e)) [ ]

-- an operation of a history that keeps the rules breaks none behind those before it
unbroken : (before after : List Operation) (o : Operation) → KeepsRules (before ++ o ∷ after) → broken before o ≡ None
unbroken before after o kept =
    none_broken (broken before o) (length before) (first_broken (before ++ o ∷ []) after) ((kept_by_both [] before (o ∷ after)).0 kept).1

otherwise : (test : Bool) (refusal : Refusal) (rest : Option Refusal) → (if test then Some refusal else rest) ≡ None → rest ≡ None
otherwise true refusal rest e = elim (none-some refusal (sym e)) [ ]
otherwise false refusal rest e = e

not_refused : (test : Bool) (refusal : Refusal) → (if test then Some refusal else None) ≡ None → test ≡ false
not_refused true refusal e = elim (none-some refusal (sym e)) [ ]
not_refused false refusal e = refl

new_by :
    (invokes : Bool) (es : List Operation) (o : Operation)
    → is_invoke o.kind ≡ invokes
    → broken es o ≡ None
    → AreNew (written es) (if invokes then writes_of o.mops else [])
new_by true es o kind e =
    let judged = otherwise (nat_le MAX_EVENTS (length es)) TooManyEvents (if is_invoke o.kind then invocation_refusal es o else completion_refusal o.kind o.mops (open_invocation o.process es)) e in
    let refused : invocation_refusal es o ≡ None =
    subst (λ b. (if b then invocation_refusal es o else completion_refusal o.kind o.mops (open_invocation o.process es)) ≡ None) kind judged in
    let rewritten : Option Refusal = if rewrites (written es) (writes_of o.mops) then Some Rewritten else None in
    let retired = otherwise (is_some (open_invocation o.process es)) Busy (if is_retired o.process es then Some Retired else rewritten) refused in
    are_new (written es) (writes_of o.mops)
    (not_refused (rewrites (written es) (writes_of o.mops)) Rewritten (otherwise (is_retired o.process es) Retired rewritten retired))
new_by false es o kind e = (tt, λ w i j. i)

written_more : (es : List Operation) (o : Operation) → AreApart (written es) → broken es o ≡ None → AreApart (written (es ++ o ∷ []))
written_more es o apart e =
    let ws : List Write = if is_invoke o.kind then writes_of o.mops else [] in
    let new : AreNew (written es) ws = new_by (is_invoke o.kind) es o refl e in
    subst AreApart (sym (written-append es (o ∷ []) ∙ ap (λ vs. written es ++ vs) (append-nil ws)))
    (apart_append (written es) ws apart new.0 (λ w i j. new.1 w j i))

written_apart : (es os : List Operation) → first_broken es os ≡ None → AreApart (written es) → AreApart (written (es ++ os))
written_apart es [] e apart = subst (λ events. AreApart (written events)) (sym (append-nil es)) apart
written_apart es (o ∷ os) e apart =
    let parts = (kept_by_both es (o ∷ []) os).0 e in
    let here : broken es o ≡ None = none_broken (broken es o) (length es) None parts.0 in
    subst (λ events. AreApart (written events)) (append_assoc es (o ∷ []) os)
    (written_apart (es ++ o ∷ []) os parts.1 (written_more es o apart here))

-- ---- a transaction writes what its invocation wrote

alike : (ms ns : List Mop) → pointwise same_mop ms ns ≡ true → writes_of ns ≡ writes_of ms
alike [] [] e = refl
alike [] (n ∷ ns) e = elim (false≢true e) [ ]
alike (m ∷ ms) [] e = elim (false≢true e) [ ]
alike (m ∷ ms) (n ∷ ns) e =
    let both = and_parts (same_mop m n) (pointwise same_mop ms ns) e in
    one_more m n both.0 (alike ms ns both.1)
  where
    one_more : (m n : Mop) → same_mop m n ≡ true → writes_of ns ≡ writes_of ms → writes_of (n ∷ ns) ≡ writes_of (m ∷ ms)
    one_more (read k v) (read l w) e rest = rest
    one_more (write k v) (write l w) e rest =
        let both = and_parts (atom_eq k l) (atom_eq v w) e in
        ap (λ u. u ∷ writes_of ns)
        (same_write (record { key = l; value = w }) (record { key = k; value = v }) (sym (atom_eq-same k l both.0)) (sym (atom_eq-same v w both.1)))
        ∙ ap (λ ws. record { key = k; value = v } ∷ ws) rest
    one_more (read k v) (write l w) e rest = elim (false≢true e) [ ]
    one_more (write k v) (read l w) e rest = elim (false≢true e) [ ]

matches :
    (before after : List Operation) (invocation completion : Operation)
    → KeepsRules (before ++ completion ∷ after)
    → open_invocation completion.process before ≡ Some invocation
    → completion.kind ≡ kinds.Ok
    → pointwise same_mop invocation.mops completion.mops ≡ true
matches before after invocation completion kept is_open kind =
    let opened : Option Operation = open_invocation completion.process before in
    let judged = otherwise (nat_le MAX_EVENTS (length before)) TooManyEvents
    (if is_invoke completion.kind then invocation_refusal before completion else completion_refusal completion.kind completion.mops opened)
    (unbroken before after completion kept) in
    let refused : completion_refusal kinds.Ok completion.mops (Some invocation) ≡ None =
    subst (λ o. completion_refusal kinds.Ok completion.mops o ≡ None) is_open
    (subst (λ k. (if is_invoke k then invocation_refusal before completion else completion_refusal k completion.mops opened) ≡ None) kind judged) in
    passed (pointwise same_mop invocation.mops completion.mops) refused
  where
    passed : (test : Bool) → (if test then None else Some Mismatch) ≡ None → test ≡ true
    passed true e = refl
    passed false e = elim (none-some Mismatch (sym e)) [ ]

invocation_open :
    (before between : List Operation) (invocation : Operation)
    → is_invoke invocation.kind ≡ true
    → All (IsOfAnother invocation.process) between
    → open_invocation invocation.process (before ++ invocation ∷ between) ≡ Some invocation
invocation_open before between invocation invokes others =
    let last = (last_event-last invocation.process (before ++ invocation ∷ between) invocation).1 (before, between, refl, refl, others) in
    ap (λ o. option_and_then (λ (event : Operation). if is_invoke event.kind then Some event else None) o) last
    ∙ ap (λ b. if b then Some invocation else None) invokes

same_writes_by :
    (kind : OpKind) (before events : List Operation) (index : ℕ) (event : Operation) (found : Indexed)
    → KeepsRules (before ++ event ∷ events)
    → is_invoke event.kind ≡ true
    → completion_in event.process (index + 1) events ≡ Some found
    → found.event.kind ≡ kind
    → writes_of (mops_by (status_by kind) event.mops found.event.mops) ≡ writes_of event.mops
same_writes_by kinds.Invoke before events index event found kept invokes e kind = refl
same_writes_by kinds.Fail before events index event found kept invokes e kind = refl
same_writes_by kinds.Info before events index event found kept invokes e kind = refl
same_writes_by kinds.Ok before events index event found kept invokes e kind =
    let next = ((completion_in-next event.process (index + 1) events found).0 e).0 in
    let between : List Operation = next.0 in
    let after : List Operation = next.1 in
    let kept' : KeepsRules ((before ++ event ∷ between) ++ found.event ∷ after) =
    subst KeepsRules (ap (λ es. before ++ event ∷ es) next.2 ∙ sym (append_assoc before (event ∷ between) (found.event ∷ after))) kept in
    let opened : open_invocation found.event.process (before ++ event ∷ between) ≡ Some event =
    subst (λ p. open_invocation p (before ++ event ∷ between) ≡ Some event) (sym next.4) (invocation_open before between event invokes next.3) in
    alike event.mops found.event.mops (matches (before ++ event ∷ between) after event found.event kept' opened kind)

pub same_writes :
    (before events : List Operation) (index : ℕ) (event : Operation) (completion : Option Indexed)
    → KeepsRules (before ++ event ∷ events)
    → is_invoke event.kind ≡ true
    → completion_in event.process (index + 1) events ≡ completion
    → writes_of (transaction_by index event completion).mops ≡ writes_of event.mops
same_writes before events index event None kept invokes e = refl
same_writes before events index event (Some found) kept invokes e =
    same_writes_by found.event.kind before events index event found kept invokes e refl

writes_by :
    (invokes : Bool) (index : ℕ) (event : Operation) (events : List Operation)
    → (invokes ≡ true → writes_of (transaction_by index event (completion_in event.process (index + 1) events)).mops ≡ writes_of event.mops)
    → writes_of_all (transactions_from (index + 1) events) ≡ written events
    → writes_of_all (if invokes then transaction_by index event (completion_in event.process (index + 1) events) ∷ transactions_from (index + 1) events else transactions_from (index + 1) events)
    ≡ (if invokes then writes_of event.mops else []) ++ written events
writes_by true index event events own rest =
    ap (λ ws. ws ++ writes_of_all (transactions_from (index + 1) events)) (own refl) ∙ ap (λ ws. writes_of event.mops ++ ws) rest
writes_by false index event events own rest = rest

-- the writes of the transactions are those of their invocations
writes_written :
    (before events : List Operation) (index : ℕ)
    → KeepsRules (before ++ events)
    → writes_of_all (transactions_from index events) ≡ written events
writes_written before [] index kept = refl
writes_written before (event ∷ events) index kept =
    writes_by (is_invoke event.kind) index event events
    (λ invokes. same_writes before events index event (completion_in event.process (index + 1) events) kept invokes refl)
    (writes_written (before ++ event ∷ []) events (index + 1) (subst KeepsRules (sym (append_assoc before (event ∷ []) events)) kept))

pub all_written : (events : List Operation) → KeepsRules events → writes_of_all (transactions_of events) ≡ written events
all_written events kept = writes_written [] events 0 kept

all_writes_apart : (events : List Operation) → KeepsRules events → AreApart (writes_of_all (transactions_of events))
all_writes_apart events kept =
    subst AreApart (sym (all_written events kept)) (written_apart [] events kept tt)

-- ---- transactions

apart_by :
    (invokes : Bool) (index : ℕ) (event : Operation) (events : List Operation)
    → AreApart (transactions_from (index + 1) events)
    → AreApart (if invokes then transaction_by index event (completion_in event.process (index + 1) events) ∷ transactions_from (index + 1) events else transactions_from (index + 1) events)
apart_by true index event events rest =
    let first : Transaction = transaction_by index event (completion_in event.process (index + 1) events) in (
      λ i.
          let later : index + 1 ≤ first.invocation = (timed_from (index + 1) events).from first i in
          let at : first.invocation ≡ index = invocation_by index event (completion_in event.process (index + 1) events) in
          let none : ⊥ = omega arith in
          none,
      rest,
    )
apart_by false index event events rest = rest

apart_from : (index : ℕ) (events : List Operation) → AreApart (transactions_from index events)
apart_from index [] = tt
apart_from index (event ∷ events) = apart_by (is_invoke event.kind) index event events (apart_from (index + 1) events)

pub all_apart : (events : List Operation) → AreApart (transactions_of events)
all_apart events = apart_from 0 events

-- ---- versions that are written

one_write_of : (a b : Write) → version_of a ≡ version_of b → a ≡ b
one_write_of a b e =
    same_write a b (ap (λ (v : Version). v.key) e) (same_Some a.value b.value (ap (λ (v : Version). v.value) e))

-- the write that makes the version
made_by : (ws : List Write) (v : Version) → has_version (map version_of ws) v ≡ true → (w : Write) × In w ws × (version_of w ≡ v)
made_by ws v e = in_map version_of v ws (in_from_has v (map version_of ws) e)

made : (ws : List Write) (w : Write) (v : Version) → In w ws → version_of w ≡ v → has_version (map version_of ws) v ≡ true
made ws w v i e = subst (λ u. has_version (map version_of ws) u ≡ true) e (has_from_in (version_of w) (map version_of ws) (in_mapped version_of w ws i))

pub one_writer :
    (events : List Operation)
    → KeepsRules events
    → (t u : Transaction)
    → Contains (transactions_of events) t
    → Contains (transactions_of events) u
    → (v : Version)
    → IsTrue (writes t v)
    → IsTrue (writes u v)
    → t ≡ u
one_writer events kept t u i j v e d =
    let ts : List Transaction = transactions_of events in
    let first = made_by (writes_of t.mops) v e in
    let second = made_by (writes_of u.mops) v d in
    let one : second.0 ≡ first.0 = one_write_of second.0 first.0 (second.2 ∙ sym first.2) in
    one_of_each (λ (t : Transaction). writes_of t.mops) ts (all_writes_apart events kept) t u first.0
    (in_from_Contains t ts i) (in_from_Contains u ts j) first.1 (subst (λ w. In w (writes_of u.mops)) one second.1)

pub none_twice : {X : Type 0} (xs : List X) → AreApart xs → NoneTwice xs
none_twice [] a = tt
none_twice (x ∷ xs) a = (λ c. a.0 (in_from_Contains x xs c), none_twice xs a.1)

pub written_once : (events : List Operation) → KeepsRules events → NoneTwice (writes_of_all (transactions_of events))
written_once events kept = none_twice (writes_of_all (transactions_of events)) (all_writes_apart events kept)

-- ---- installed, or written over

among_by :
    (again : Bool) (u w : Write) (ws last over : List Write)
    → (In w last → In w ws)
    → (In w over → In w ws)
    → (In w (if again then last else u ∷ last) → In w (u ∷ ws)) × (In w (if again then u ∷ over else over) → In w (u ∷ ws))
among_by true u w ws last over f g = (λ i. inr (f i), λ i. elim i [ inl e ↦ inl e | inr j ↦ inr (g j) ])
among_by false u w ws last over f g = (λ i. elim i [ inl e ↦ inl e | inr j ↦ inr (f j) ], λ i. inr (g i))

among : (ws : List Write) (w : Write) → (In w (last_writes ws) → In w ws) × (In w (earlier_writes ws) → In w ws)
among [] w = (λ i. i, λ i. i)
among (u ∷ ws) w = let rest = among ws w in among_by (has_key u.key ws) u w ws (last_writes ws) (earlier_writes ws) rest.0 rest.1

either_by :
    (again : Bool) (u w : Write) (last over : List Write)
    → (u ≡ w) ⊎ (In w last ⊎ In w over)
    → In w (if again then last else u ∷ last) ⊎ In w (if again then u ∷ over else over)
either_by true u w last over (inl e) = inr (inl e)
either_by true u w last over (inr (inl i)) = inl i
either_by true u w last over (inr (inr i)) = inr (inr i)
either_by false u w last over (inl e) = inl (inl e)
either_by false u w last over (inr (inl i)) = inl (inr i)
either_by false u w last over (inr (inr i)) = inr i

either : (ws : List Write) (w : Write) → In w ws → In w (last_writes ws) ⊎ In w (earlier_writes ws)
either [] w i = elim i [ ]
either (u ∷ ws) w (inl e) = either_by (has_key u.key ws) u w (last_writes ws) (earlier_writes ws) (inl e)
either (u ∷ ws) w (inr i) = either_by (has_key u.key ws) u w (last_writes ws) (earlier_writes ws) (inr (either ws w i))

not_both_by :
    (again : Bool) (u w : Write) (last over : List Write)
    → (u ≡ w → In w last ⊎ In w over → ⊥)
    → (In w last → In w over → ⊥)
    → In w (if again then last else u ∷ last)
    → In w (if again then u ∷ over else over)
    → ⊥
not_both_by true u w last over first rest i (inl e) = first e (inl i)
not_both_by true u w last over first rest i (inr j) = rest i j
not_both_by false u w last over first rest (inl e) j = first e (inr j)
not_both_by false u w last over first rest (inr i) j = rest i j

not_both : (ws : List Write) (w : Write) → AreApart ws → In w (last_writes ws) → In w (earlier_writes ws) → ⊥
not_both [] w a i j = i
not_both (u ∷ ws) w a i j =
    not_both_by (has_key u.key ws) u w (last_writes ws) (earlier_writes ws)
    (λ e k. a.0 (subst (λ x. In x ws) (sym e) (elim k [ inl l ↦ (among ws w).0 l | inr l ↦ (among ws w).1 l ])))
    (not_both ws w a.1) i j

pub over_is_written : (t : Transaction) (v : Version) → wrote_intermediate t v ≡ true → writes t v ≡ true
over_is_written t v e =
    let found = made_by (intermediate_writes t) v e in
    made (writes_of t.mops) found.0 v ((among (writes_of t.mops) found.0).1 found.1) found.2

installed_is_written : (t : Transaction) (v : Version) → installs t v ≡ true → writes t v ≡ true
installed_is_written t v e =
    let found = made_by (external_writes t) v e in
    made (writes_of t.mops) found.0 v ((among (writes_of t.mops) found.0).0 found.1) found.2

pub installed_or_over : (t : Transaction) (v : Version) → IsTrue (writes t v) ↔ (IsTrue (installs t v) ⊎ IsTrue (wrote_intermediate t v))
installed_or_over t v = (
  λ e.
      let found = made_by (writes_of t.mops) v e in
      elim (either (writes_of t.mops) found.0 found.1) [
        | inl i ↦ inl (made (external_writes t) found.0 v i found.2)
        | inr i ↦ inr (made (intermediate_writes t) found.0 v i found.2)
      ],
  λ c. elim c [ inl e ↦ installed_is_written t v e | inr e ↦ over_is_written t v e ],
)

-- a version that its writer wrote over is not the one that it installs
pub not_installed_over :
    (events : List Operation)
    → KeepsRules events
    → (t : Transaction) (v : Version)
    → Contains (transactions_of events) t
    → IsTrue (wrote_intermediate t v)
    → IsFalse (installs t v)
not_installed_over events kept t v c over =
    let ts : List Transaction = transactions_of events in
    let apart : AreApart (writes_of t.mops) = apart_one (λ (u : Transaction). writes_of u.mops) ts (all_writes_apart events kept) t (in_from_Contains t ts c) in
    let second = made_by (intermediate_writes t) v over in
    elim (cases_Bool (installs t v)) [
      | inl e ↦ (
          let first = made_by (external_writes t) v e in
          let one : first.0 ≡ second.0 = one_write_of first.0 second.0 (first.2 ∙ sym second.2) in
          elim (not_both (writes_of t.mops) second.0 apart (subst (λ w. In w (external_writes t)) one first.1) second.1) [ ])
      | inr e ↦ e
    ]

pub nil_unwritten : (t : Transaction) (v : Version) → IsTrue (writes t v) → ¬ (v.value ≡ None)
nil_unwritten t v e nil =
    let found = made_by (writes_of t.mops) v e in
    none-some found.0.value (sym nil ∙ sym (ap (λ (u : Version). u.value) found.2))
