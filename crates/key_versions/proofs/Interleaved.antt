-- Followers by steps among those that are known, as lists and as rows.
use Rattle.std.proofs.Common.{◌≡◌, inl, inr, ◌<◌, ◌≤◌, ◌+◌, ℕ, zero, suc, List, [], ◌∷◌, ◌++◌, length, map, take, drop, get_or, Bool, true, false, cond, All, Some, refl, sym, ◌∙◌, ap, subst, arith}
use Rattle.std.specs.Prelude.{slice_get, filter, ◌||◌, ◌==◌}
use Rattle.std.specs.List.{list_any}
use Rattle.std.proofs.lemmas.Bool.{eqb-true, eq-eqb, true≢false, false_from_ne_true}
use Rattle.std.proofs.lemmas.List.{append-nil}
use Rattle.hist_types.proofs.Members.{In, in_append, in_filter, passes_filter}
use Rattle.flat_groups.specs.Groups.{group, groups_from, IsNumbered}
use Rattle.key_versions.specs.declared.pending.Written.{Written}
use Rattle.key_versions.specs.declared.types.Follower.{Follower}
use Rattle.key_versions.specs.Pending.{writer_in, known_from, AreInOrder}
use Rattle.key_versions.specs.Rows.{Accessed, Known}
use Rattle.key_versions.specs.Steps.{has_earlier, behind_once, behind_all, behind_steps, of_place, run_of, followers_from, or_one, followed_at, followers_by, stepped_rows, FollowersAreUpTo, AreBelow}
use Rattle.key_versions.proofs.Changed.{all_cons}
use Rattle.key_versions.proofs.Places.{same_item}

-- ---- in all places

pub all_in : {A : Type 0} (P : A → Type 0) (xs : List A) → ((x : A) → In x xs → P x) → All P xs
all_in P [] each = λ k d below. absurd (omega arith)
all_in P (x ∷ xs) each = all_cons P x xs (each x (inl refl)) (all_in P xs (λ y i. each y (inr i)))

pub in_all : {A : Type 0} (P : A → Type 0) (xs : List A) → All P xs → (x : A) → In x xs → P x
in_all P [] all x i = elim i [ ]
in_all {A} P (y ∷ xs) all x (inl e) =
    let first : P y = all 0 y (omega arith) in
    subst P e first
in_all P (y ∷ xs) all x (inr i) = in_all P xs (λ k d below. all (suc k) d (omega arith)) x i

pub all_taken : {A : Type 0} (xs : List A) (i : ℕ) → length xs ≤ i → take i xs ≡ xs
all_taken [] zero enough = refl
all_taken [] (suc i) enough = refl
all_taken (x ∷ xs) zero enough = absurd (omega arith)
all_taken {A} (x ∷ xs) (suc i) enough = ap (λ (ys : List A). x ∷ ys) (all_taken xs i (omega arith))

-- ---- lists

pub length-groups : {A : Type 0} (first n : ℕ) (ps : List (ℕ × A)) → length (groups_from first n ps) ≡ n
length-groups first zero ps = refl
length-groups first (suc n) ps = ap suc (length-groups (first + 1) n ps)

pub group_at : {A : Type 0} (first n i : ℕ) (ps : List (ℕ × A)) → i < n → slice_get (groups_from first n ps) i ≡ Some (group (first + i) ps)
group_at first zero i ps below = absurd (omega arith)
group_at first (suc n) zero ps below = let at : first ≡ first + 0 = omega arith in ap (λ k. Some (group k ps)) at
group_at first (suc n) (suc i) ps below =
    let at : first + 1 + i ≡ first + suc i = omega arith in
    group_at (first + 1) n i ps (omega arith) ∙ ap (λ k. Some (group k ps)) at

pub installs_at :
    (accesses : List Accessed) (place : ℕ) (installs : List ℕ) (d : Accessed) → place < length accesses
    → slice_get (map (λ (a : Accessed). a.installs) accesses) place ≡ Some installs → (get_or accesses place d).installs ≡ installs
installs_at [] place installs d below at = absurd (omega arith)
installs_at (a ∷ accesses) zero installs d below at = same_item a.installs installs at
installs_at (a ∷ accesses) (suc place) installs d below at = installs_at accesses place installs d (omega arith) at

-- ---- one group of them

pub group-append : {A : Type 0} (n : ℕ) (ps qs : List (ℕ × A)) → group n (ps ++ qs) ≡ group n ps ++ group n qs
group-append n [] qs = refl
group-append {A} n (p ∷ ps) qs =
    ap (λ (xs : List A). cond (p.0 == n) (p.1 ∷ xs) xs) (group-append n ps qs) ∙ by (p.0 == n)
  where
    by : (b : Bool) → cond b (p.1 ∷ (group n ps ++ group n qs)) (group n ps ++ group n qs) ≡ cond b (p.1 ∷ group n ps) (group n ps) ++ group n qs
    by true = refl
    by false = refl

abbrev is_placed : ℕ → Follower → Bool
is_placed place f = f.txn == place

group-of_place : (n place : ℕ) (followers : List (ℕ × Follower)) → group n (of_place place followers) ≡ filter (is_placed place) (group n followers)
group-of_place n place [] = refl
group-of_place n place (p ∷ followers) = by (group-of_place n place followers) (p.1.txn == place) (p.0 == n) refl refl
  where
    by :
        group n (of_place place followers) ≡ filter (is_placed place) (group n followers) → (b b' : Bool) → (p.1.txn == place) ≡ b → (p.0 == n) ≡ b'
        → group n (cond b (p ∷ of_place place followers) (of_place place followers)) ≡ filter (is_placed place) (cond b' (p.1 ∷ group n followers) (group n followers))
    by rest true true e e' =
        ap (λ t. cond t (p.1 ∷ group n (of_place place followers)) (group n (of_place place followers))) e'
        ∙ ap (λ (fs : List Follower). p.1 ∷ fs) rest
        ∙ sym (ap (λ t. cond t (p.1 ∷ filter (is_placed place) (group n followers)) (filter (is_placed place) (group n followers))) e)
    by rest true false e e' =
        ap (λ t. cond t (p.1 ∷ group n (of_place place followers)) (group n (of_place place followers))) e' ∙ rest
    by rest false true e e' =
        rest
        ∙ sym (ap (λ t. cond t (p.1 ∷ filter (is_placed place) (group n followers)) (filter (is_placed place) (group n followers))) e)
    by rest false false e e' = rest

abbrev is_some_of : List Follower → Bool
is_some_of [] = false
is_some_of (f ∷ fs) = true

has_group : (n : ℕ) (known : List (ℕ × Follower)) → has_earlier n known ≡ is_some_of (group n known)
has_group n [] = refl
has_group n (p ∷ known) = by (p.0 == n) (has_group n known)
  where
    by : (b : Bool) → has_earlier n known ≡ is_some_of (group n known) → (b || has_earlier n known) ≡ is_some_of (cond b (p.1 ∷ group n known) (group n known))
    by true rest = refl
    by false rest = rest

where_some : (fs : List Follower) (f : Follower) → is_some_of fs ≡ true → fs ≡ or_one fs f
where_some [] f some = absurd (cc)
where_some (g ∷ fs) f some = refl

where_none : (fs : List Follower) (f : Follower) → is_some_of fs ≡ false → fs ++ f ∷ [] ≡ or_one fs f
where_none [] f none = refl
where_none (g ∷ fs) f none = absurd (cc)

one_twice : (fs : List Follower) (f : Follower) → or_one (or_one fs f) f ≡ or_one fs f
one_twice [] f = refl
one_twice (g ∷ fs) f = refl

group-once :
    (n : ℕ) (f : Follower) (known : List (ℕ × Follower)) (m : ℕ) → group n (behind_once f known m) ≡ cond (m == n) (or_one (group n known) f) (group n known)
group-once n f known m = by (has_earlier m known) refl
  where
    has_it : (b : Bool) → (m == n) ≡ true → has_earlier m known ≡ b → is_some_of (group n known) ≡ b
    has_it b is has = sym (has_group n known) ∙ ap (λ k. has_earlier k known) (sym (eqb-true m n is)) ∙ has

    there : (b : Bool) → (m == n) ≡ b → has_earlier m known ≡ true → group n known ≡ cond b (or_one (group n known) f) (group n known)
    there true is has = where_some (group n known) f (has_it true is has)
    there false differ has = refl

    new : (b : Bool) → (m == n) ≡ b → has_earlier m known ≡ false → group n known ++ cond b (f ∷ []) [] ≡ cond b (or_one (group n known) f) (group n known)
    new true is none = where_none (group n known) f (has_it false is none)
    new false differ none = append-nil (group n known)

    by : (b : Bool) → has_earlier m known ≡ b → group n (cond b known (known ++ (m, f) ∷ [])) ≡ cond (m == n) (or_one (group n known) f) (group n known)
    by true has = there (m == n) refl has
    by false none = group-append n known ((m, f) ∷ []) ∙ new (m == n) refl none

group-all :
    (n : ℕ) (f : Follower) (earlier : List ℕ) (known : List (ℕ × Follower))
    → group n (behind_all f known earlier) ≡ cond (list_any (λ e. e == n) earlier) (or_one (group n known) f) (group n known)
group-all n f [] known = refl
group-all n f (e ∷ earlier) known =
    group-all n f earlier (behind_once f known e)
    ∙ ap (λ (fs : List Follower). cond (list_any (λ e. e == n) earlier) (or_one fs f) fs) (group-once n f known e)
    ∙ by (e == n) (list_any (λ e. e == n) earlier) (group n known)
  where
    by :
        (b b' : Bool) (fs : List Follower)
        → cond b' (or_one (cond b (or_one fs f) fs) f) (cond b (or_one fs f) fs) ≡ cond (b || b') (or_one fs f) fs
    by true true fs = one_twice fs f
    by true false fs = refl
    by false b' fs = refl

group-steps :
    (earlier : List (List ℕ)) (n place : ℕ) (installs : List ℕ) (known : List (ℕ × Follower))
    → group n (behind_steps earlier place known installs) ≡ followed_at earlier n place (group n known) installs
group-steps earlier n place [] known = refl
group-steps earlier n place (v ∷ installs) known =
    let f : Follower = record { txn = place; version = v } in
    group-steps earlier n place installs (behind_all f known (get_or earlier v []))
    ∙ ap (λ (fs : List Follower). followed_at earlier n place fs installs) (group-all n f (get_or earlier v []) known)

pub grouped :
    (earlier : List (List ℕ)) (n : ℕ) (followers : List (ℕ × Follower)) (place : ℕ) (accesses : List Accessed)
    → group n (followers_from earlier followers place accesses) ≡ followers_by earlier n (group n followers) place accesses
grouped earlier n followers place [] = refl
grouped earlier n followers place (a ∷ accesses) =
    let known = of_place place followers in
    let rest = followers_from earlier followers (place + 1) accesses in
    let fs = filter (is_placed place) (group n followers) in
    group-append n (behind_steps earlier place known a.installs) rest
    ∙ ap (λ (xs : List Follower). xs ++ group n rest) (group-steps earlier n place a.installs known)
    ∙ ap (λ (xs : List Follower). followed_at earlier n place xs a.installs ++ group n rest) (group-of_place n place followers)
    ∙ ap (λ (xs : List Follower). followed_at earlier n place fs a.installs ++ xs) (grouped earlier n followers (place + 1) accesses)

-- ---- rows

pub known_stepped :
    (earlier : List (List ℕ)) (accesses : List Accessed) (first : ℕ) (ws : List Written) (rs : List (ℕ × ℕ)) (fs : List (ℕ × Follower))
    → known_from first ws rs (followers_from earlier fs 0 accesses) ≡ stepped_rows earlier accesses first (known_from first ws rs fs)
known_stepped earlier accesses first [] rs fs = refl
known_stepped earlier accesses first (w ∷ ws) rs fs =
    let known : List Follower → Known = λ followers. record { writer = writer_in w; readers = group first rs; followers = followers } in
    ap (λ (xs : List Follower). known xs ∷ known_from (first + 1) ws rs (followers_from earlier fs 0 accesses)) (grouped earlier first fs 0 accesses)
    ∙ ap (λ (ks : List Known). known (followers_by earlier first (group first fs) 0 accesses) ∷ ks) (known_stepped earlier accesses (first + 1) ws rs fs)

-- ---- what is in range

in_group : {A : Type 0} (n : ℕ) (x : A) (ps : List (ℕ × A)) → In (n, x) ps → In x (group n ps)
in_group n x [] i = elim i [ ]
in_group {A} n x (p ∷ ps) (inl e) =
    let here : (p.0 == n) ≡ true = eq-eqb p.0 n (ap (λ (q : ℕ × A). q.0) e) in
    subst (λ b. In x (cond b (p.1 ∷ group n ps) (group n ps))) (sym here) (inl (ap (λ (q : ℕ × A). q.1) e))
in_group {A} n x (p ∷ ps) (inr i) = by (p.0 == n) (in_group n x ps i)
  where
    by : (b : Bool) → In x (group n ps) → In x (cond b (p.1 ∷ group n ps) (group n ps))
    by true there = inr there
    by false there = there

known_in_row :
    (first k : ℕ) (ws : List Written) (rs : List (ℕ × ℕ)) (fs : List (ℕ × Follower)) → k < length ws
    → (row : Known) × In row (known_from first ws rs fs) × (row.followers ≡ group (first + k) fs)
known_in_row first k [] rs fs below = absurd (omega arith)
known_in_row first zero (w ∷ ws) rs fs below =
    let at : first ≡ first + 0 = omega arith in
    (record { writer = writer_in w; readers = group first rs; followers = group first fs }, inl refl, ap (λ n. group n fs) at)
known_in_row first (suc k) (w ∷ ws) rs fs below =
    let at : first + 1 + k ≡ first + suc k = omega arith in
    let (row, i, is) = known_in_row (first + 1) k ws rs fs (omega arith) in
    (row, inr i, is ∙ ap (λ n. group n fs) at)

pub followers_up_to :
    (n : ℕ) (ws : List Written) (rs : List (ℕ × ℕ)) (fs : List (ℕ × Follower)) → All (IsNumbered (length ws)) fs
    → All (FollowersAreUpTo n) (known_from 0 ws rs fs) → (p : ℕ × Follower) → In p fs → p.1.txn ≤ n
followers_up_to n ws rs fs numbered rows p i =
    let below : p.0 < length ws = in_all (IsNumbered (length ws)) fs numbered p i in
    let (row, among, is) = known_in_row 0 p.0 ws rs fs below in
    let at : 0 + p.0 ≡ p.0 = omega arith in
    let there : In p.1 row.followers = subst (In p.1) (sym (is ∙ ap (λ k. group k fs) at)) (in_group p.0 p.1 fs i) in
    in_all (λ (f : Follower). f.txn ≤ n) row.followers (in_all (FollowersAreUpTo n) (known_from 0 ws rs fs) rows row among) p.1 there

pub numbered_at : (n place : ℕ) (fs : List (ℕ × Follower)) → All (IsNumbered n) fs → All (IsNumbered n) (of_place place fs)
numbered_at n place fs all =
    all_in (IsNumbered n) (of_place place fs) (λ p i. in_all (IsNumbered n) fs all p (in_filter (λ (q : ℕ × Follower). q.1.txn == place) p fs i))

in_or_none : (x : ℕ) (xss : List (List ℕ)) (i : ℕ) → In x (get_or xss i []) → (xs : List ℕ) × In xs xss × In x xs
in_or_none x [] i among = elim among [ ]
in_or_none x (xs ∷ xss) zero among = (xs, inl refl, among)
in_or_none x (xs ∷ xss) (suc i) among =
    let (ys, there, here) = in_or_none x xss i among in
    (ys, inr there, here)

module _ (P : ℕ × Follower → Type 0) where
  once_all :
      (f : Follower) (known : List (ℕ × Follower)) (m : ℕ) → ((p : ℕ × Follower) → In p known → P p) → P (m, f)
      → (p : ℕ × Follower) → In p (behind_once f known m) → P p
  once_all f known m all one p i = by (has_earlier m known) i
    where
      by : (b : Bool) → In p (cond b known (known ++ (m, f) ∷ [])) → P p
      by true i = all p i
      by false i = elim (in_append p known ((m, f) ∷ []) i) [
        | inl was ↦ all p was
        | inr new ↦ elim new [
          | inl is ↦ subst P is one
          | inr none ↦ absurd none
        ]
      ]

  each_all :
      (f : Follower) (earlier : List ℕ) (known : List (ℕ × Follower)) → ((p : ℕ × Follower) → In p known → P p) → ((e : ℕ) → In e earlier → P (e, f))
      → (p : ℕ × Follower) → In p (behind_all f known earlier) → P p
  each_all f [] known all new p i = all p i
  each_all f (e ∷ earlier) known all new p i =
      each_all f earlier (behind_once f known e) (once_all f known e all (new e (inl refl))) (λ m j. new m (inr j)) p i

  steps_all :
      (earlier : List (List ℕ)) (place : ℕ) (installs : List ℕ) (known : List (ℕ × Follower)) → ((p : ℕ × Follower) → In p known → P p)
      → ((e v : ℕ) → In e (get_or earlier v []) → P (e, record { txn = place; version = v }))
      → (p : ℕ × Follower) → In p (behind_steps earlier place known installs) → P p
  steps_all earlier place [] known all new p i = all p i
  steps_all earlier place (v ∷ installs) known all new p i =
      let f : Follower = record { txn = place; version = v } in
      steps_all earlier place installs (behind_all f known (get_or earlier v [])) (each_all f (get_or earlier v []) known all (λ e j. new e v j)) new p i

pub all_numbered :
    (n : ℕ) (earlier : List (List ℕ)) (fs : List (ℕ × Follower)) (place : ℕ) (accesses : List Accessed) → All (IsNumbered n) fs
    → All (AreBelow n) earlier → All (IsNumbered n) (followers_from earlier fs place accesses)
all_numbered n earlier fs place accesses known below = all_in (IsNumbered n) (followers_from earlier fs place accesses) (each place accesses)
  where
    each : (place : ℕ) (accesses : List Accessed) (p : ℕ × Follower) → In p (followers_from earlier fs place accesses) → IsNumbered n p
    each place [] p i = elim i [ ]
    each place (a ∷ accesses) p i =
        let own = of_place place fs in
        elim (in_append p (behind_steps earlier place own a.installs) (followers_from earlier fs (place + 1) accesses) i) [
          | inl here ↦ steps_all (IsNumbered n) earlier place a.installs own (in_all (IsNumbered n) own (numbered_at n place fs known))
              (λ e v j.
              let (es, among, there) = in_or_none e earlier v j in
              in_all (λ (m : ℕ). m < n) es (in_all (AreBelow n) earlier below es among) e there) p here
          | inr further ↦ each (place + 1) accesses p further
        ]

-- ---- in the order of their places

pub in_order_more :
    (k : ℕ) (fs : List (ℕ × Follower)) (p : ℕ × Follower) → AreInOrder k fs → ((q : ℕ × Follower) → In q fs → q.1.txn ≤ p.1.txn) → k ≤ p.1.txn
    → AreInOrder k (fs ++ p ∷ [])
in_order_more k [] p order up_to first = (first, tt)
in_order_more k (q ∷ fs) p order up_to first = (order.0, in_order_more q.1.txn fs p order.1 (λ r i. up_to r (inr i)) (up_to q (inl refl)))

in_order_wider : (j k : ℕ) (fs : List (ℕ × Follower)) → j ≤ k → AreInOrder k fs → AreInOrder j fs
in_order_wider j k [] wider order = tt
in_order_wider j k (p ∷ fs) wider order = let first : k ≤ p.1.txn = order.0 in (omega arith, order.1)

in_order_append :
    (k : ℕ) (fs gs : List (ℕ × Follower)) → ((p : ℕ × Follower) → In p fs → p.1.txn ≡ k) → AreInOrder k gs → AreInOrder k (fs ++ gs)
in_order_append k [] gs at order = order
in_order_append k (p ∷ fs) gs at order =
    let first : p.1.txn ≡ k = at p (inl refl) in
    let rest : AreInOrder k (fs ++ gs) = in_order_append k fs gs (λ q i. at q (inr i)) order in
    (omega (arith, first), subst (λ n. AreInOrder n (fs ++ gs)) (sym first) rest)

pub all_in_order :
    (earlier : List (List ℕ)) (fs : List (ℕ × Follower)) (place : ℕ) (accesses : List Accessed) → AreInOrder place (followers_from earlier fs place accesses)
all_in_order earlier fs place [] = tt
all_in_order earlier fs place (a ∷ accesses) =
    let own = of_place place fs in
    let rest = followers_from earlier fs (place + 1) accesses in
    in_order_append place (behind_steps earlier place own a.installs) rest
    (steps_all (λ p. p.1.txn ≡ place) earlier place a.installs own
    (λ p i. eqb-true p.1.txn place (passes_filter (λ (q : ℕ × Follower). q.1.txn == place) p fs i)) (λ e v j. refl))
    (in_order_wider place (place + 1) rest (omega arith) (all_in_order earlier fs (place + 1) accesses))

none_before : (p k : ℕ) (fs : List (ℕ × Follower)) → AreInOrder k fs → p < k → of_place p fs ≡ []
none_before p k [] order before = refl
none_before p k (q ∷ fs) order before =
    let first : k ≤ q.1.txn = order.0 in
    let apart : (q.1.txn == p) ≡ false = false_from_ne_true (q.1.txn == p) (λ is. let same = eqb-true q.1.txn p is in absurd (omega (arith, same, first, before))) in
    ap (λ b. cond b (q ∷ of_place p fs) (of_place p fs)) apart ∙ none_before p q.1.txn fs order.1 (omega (arith, first, before))

pub run_within : (p : ℕ) (fs : List (ℕ × Follower)) → run_of p fs ≤ length fs
run_within p [] = omega arith
run_within p (q ∷ fs) = by (q.1.txn == p) (run_within p fs)
  where
    by : (b : Bool) → run_of p fs ≤ length fs → cond b (suc (run_of p fs)) 0 ≤ suc (length fs)
    by true rest = omega arith
    by false rest = omega arith

-- the followers of a transaction come first, where those of the ones before it are left out
pub record IsSplit (p : ℕ) (fs known later : List (ℕ × Follower)) : Type 0 where
  pub first : known ≡ of_place p fs
  pub order : AreInOrder (p + 1) later
  pub same : (q : ℕ) → p < q → of_place q fs ≡ of_place q later

pub split : (p : ℕ) (fs : List (ℕ × Follower)) → AreInOrder p fs → IsSplit p fs (take (run_of p fs) fs) (drop (run_of p fs) fs)
split p [] order = record { first = refl; order = tt; same = λ q later. refl }
split p (f ∷ fs) order = by (f.1.txn == p) refl (split p fs)
  where
    by :
        (b : Bool) → (f.1.txn == p) ≡ b → (AreInOrder p fs → IsSplit p fs (take (run_of p fs) fs) (drop (run_of p fs) fs))
        → IsSplit p (f ∷ fs) (take (cond b (suc (run_of p fs)) 0) (f ∷ fs)) (drop (cond b (suc (run_of p fs)) 0) (f ∷ fs))
    by true is behind =
        let at : f.1.txn ≡ p = eqb-true f.1.txn p is in
        let rest = behind (subst (λ n. AreInOrder n fs) at order.1) in
        record {
          first = ap (λ (xs : List (ℕ × Follower)). f ∷ xs) rest.first ∙ ap (λ b. cond b (f ∷ of_place p fs) (of_place p fs)) (sym is);
          order = rest.order;
          same = λ q later.
              let apart : (f.1.txn == q) ≡ false = false_from_ne_true (f.1.txn == q) (λ one. let other = eqb-true f.1.txn q one in absurd (omega (arith, at, other, later))) in
              ap (λ b. cond b (f ∷ of_place q fs) (of_place q fs)) apart ∙ rest.same q later;
        }
    by false differ behind =
        let first : p ≤ f.1.txn = order.0 in
        let other : f.1.txn ≡ p → ⊥ = λ same. true≢false (sym (eq-eqb f.1.txn p same) ∙ differ) in
        let next : p + 1 ≤ f.1.txn = omega (arith, first, other) in
        record {
          first = sym (ap (λ b. cond b (f ∷ of_place p fs) (of_place p fs)) differ ∙ none_before p f.1.txn fs order.1 (omega (arith, next)));
          order = (next, order.1);
          same = λ q later. refl;
        }
