-- The place of a process's open transaction, as transactions begin and complete.
use Rattle.std.proofs.Common.{◌≡◌, ◌⊎◌, inl, inr, ℕ, zero, suc, ◌<◌, List, [], ◌∷◌, ◌++◌, length, slice_get, Bool, true, false, ◌&&◌, ◌||◌, ◌==◌, cond, Option, Some, None, option_map, refl, sym, ap, ◌∙◌, set}
use Rattle.std.proofs.lemmas.Bool.{eqb-true, or_parts}
use Rattle.std.proofs.lemmas.Option.{same_Some, slice_get_within}
use Rattle.hist_types.specs.Journal.{is_invoke}
use Rattle.hist_types.specs.Operations.{Operation}
use Rattle.hist_types.specs.Transactions.{Transaction, Status, Open, status_by}
use Rattle.hist_types.specs.declared.types.OpKind.{OpKind}
use Rattle.hist_types.specs.declared.types.OpKind.TheVariants as kinds
use Rattle.txn_pairs.specs.Places.{is_open, is_open_status, has_process, open_place, completed, completed_at, with_completed}

-- A choice between two that are the same.
pub cond-same : {A : Type 0} (b : Bool) (x : A) → cond b x x ≡ x
cond-same true x = refl
cond-same false x = refl

-- A test or no test is the test.
or_nothing : (b : Bool) → (b || false) ≡ b
or_nothing true = refl
or_nothing false = refl

-- Three tests, grouped either way.
or_grouped : (a b c : Bool) → (a || (b || c)) ≡ ((a || b) || c)
or_grouped true b c = refl
or_grouped false b c = refl

-- Two tests, asked one after the other.
and_cond : {A : Type 0} (a b : Bool) (x y : A) → cond (a && b) x y ≡ cond a (cond b x y) y
and_cond true b x y = refl
and_cond false b x y = refl

-- Only an invocation leaves its transaction open.
pub status_by-open : (k : OpKind) → is_open_status (status_by k) ≡ is_invoke k
status_by-open kinds.Invoke = refl
status_by-open kinds.Ok = refl
status_by-open kinds.Fail = refl
status_by-open kinds.Info = refl

-- ---- one more transaction

-- One more transaction is of its own process.
has_process-more :
    (p : ℕ) (ts : List Transaction) (u : Transaction)
    → has_process p (ts ++ u ∷ []) ≡ (has_process p ts || (u.process == p))
has_process-more p [] u = or_nothing (u.process == p)
has_process-more p (t ∷ ts) u =
    ap (λ b. (t.process == p) || b) (has_process-more p ts u)
    ∙ or_grouped (t.process == p) (has_process p ts) (u.process == p)

-- A change of the places behind one more transaction.
one_behind :
    (mine has unended : Bool) (n : ℕ) (first place more : Option ℕ)
    → more ≡ cond mine (cond unended (Some n) None) place
    → cond (has || mine) (option_map suc more) first
    ≡ cond mine (cond unended (Some (suc n)) None) (cond has (option_map suc place) first)
one_behind true true true n first place more is = ap (option_map suc) is
one_behind true false true n first place more is = ap (option_map suc) is
one_behind true true false n first place more is = ap (option_map suc) is
one_behind true false false n first place more is = ap (option_map suc) is
one_behind false true unended n first place more is = ap (option_map suc) is
one_behind false false unended n first place more is = refl

-- After one more transaction its process has the last place if it is open, and none if it is not. Other processes keep theirs.
pub open_place-more :
    (p : ℕ) (ts : List Transaction) (u : Transaction)
    → open_place p (ts ++ u ∷ []) ≡ cond (u.process == p) (cond (is_open u) (Some (length ts)) None) (open_place p ts)
open_place-more p [] u = and_cond (u.process == p) (is_open u) (Some 0) None
open_place-more p (t ∷ ts) u =
    let first : Option ℕ = cond ((t.process == p) && is_open t) (Some 0) None in
    ap (λ b. cond b (option_map suc (open_place p (ts ++ u ∷ []))) first) (has_process-more p ts u)
    ∙ one_behind (u.process == p) (has_process p ts) (is_open u) (length ts) first (open_place p ts)
    (open_place p (ts ++ u ∷ [])) (open_place-more p ts u)

-- ---- a completion

-- A process without a transaction has none open.
pub open_place-unseen : (p : ℕ) (ts : List Transaction) → has_process p ts ≡ false → open_place p ts ≡ None
open_place-unseen p [] unseen = refl
open_place-unseen p (t ∷ ts) unseen =
    let parts = or_parts (t.process == p) (has_process p ts) unseen in
    ap (λ b. cond b (option_map suc (open_place p ts)) (cond ((t.process == p) && is_open t) (Some 0) None)) parts.1
    ∙ ap (λ b. cond (b && is_open t) (Some 0) None) parts.0

-- A completion leaves each transaction to its process.
has_process-at :
    (p place j : ℕ) (e : Operation) (ts : List Transaction)
    → has_process p (completed_at place j e ts) ≡ has_process p ts
has_process-at p place j e [] = refl
has_process-at p zero j e (t ∷ ts) = refl
has_process-at p (suc place) j e (t ∷ ts) = ap (λ b. (t.process == p) || b) (has_process-at p place j e ts)

has_process-completed :
    (p : ℕ) (place : Option ℕ) (j : ℕ) (e : Operation) (ts : List Transaction)
    → has_process p (with_completed place j e ts) ≡ has_process p ts
has_process-completed p None j e ts = refl
has_process-completed p (Some place) j e ts = has_process-at p place j e ts

-- A completion behind one more transaction.
pub with_completed-behind :
    (place : Option ℕ) (j : ℕ) (e : Operation) (t : Transaction) (ts : List Transaction)
    → with_completed (option_map suc place) j e (t ∷ ts) ≡ t ∷ with_completed place j e ts
with_completed-behind None j e t ts = refl
with_completed-behind (Some place) j e t ts = refl

-- The places of a process `p` where the transaction of `q` behind the first one is completed.
place_behind :
    (same has_q has_p : Bool) (first place more : Option ℕ) → (same ≡ true → has_q ≡ has_p) → has_q ≡ true
    → more ≡ cond same None place
    → cond has_p (option_map suc more) first ≡ cond same None (cond has_p (option_map suc place) first)
place_behind true has_q true first place more both has is = ap (option_map suc) is
place_behind true true false first place more both has is = ap (λ b. cond b first None) (both refl)
place_behind true false false first place more both has is = ap (λ b. cond b None first) has
place_behind false has_q has_p first place more both has is = ap (λ o. cond has_p (option_map suc o) first) is

-- No transaction that is completed is open.
completed-closed :
    (t : Transaction) (j : ℕ) (e : Operation) → is_invoke e.kind ≡ false → is_open (completed t j e) ≡ false
completed-closed t j e completes = status_by-open e.kind ∙ completes

-- A test with one that fails.
and_false : (b : Bool) → (b && false) ≡ false
and_false true = refl
and_false false = refl

-- The places behind the last transaction of `q`, which is completed.
last_completed :
    (same has_p mine unended : Bool) (first place : Option ℕ) → (same ≡ true → has_p ≡ false)
    → (same ≡ false → mine ≡ false)
    → cond has_p (option_map suc place) None
    ≡ cond same None (cond has_p (option_map suc place) (cond (mine && unended) (Some 0) None))
last_completed true true mine unended first place gone other =
    ap (λ b. cond b (option_map suc place) None) (gone refl)
last_completed true false mine unended first place gone other = refl
last_completed false true mine unended first place gone other = refl
last_completed false false mine unended first place gone other =
    ap (λ b. cond (b && unended) (Some 0) None) (sym (other refl))

none_there : (same : Bool) (place : Option ℕ) → (same ≡ true → place ≡ None) → place ≡ cond same None place
none_there true place none = none refl
none_there false place none = refl

-- The last transaction of `q` is not open, so nothing is completed.
not_completed :
    (p q : ℕ) (t : Transaction) (ts : List Transaction) → has_process q ts ≡ false
    → ((t.process == q) && is_open t) ≡ false
    → open_place p (t ∷ ts) ≡ cond (q == p) None (open_place p (t ∷ ts))
not_completed p q t ts last closed =
    none_there (q == p) (open_place p (t ∷ ts))
    (λ same. ap (λ r. open_place r (t ∷ ts)) (sym (eqb-true q p same))
    ∙ ap (λ b. cond b (option_map suc (open_place q ts)) (cond ((t.process == q) && is_open t) (Some 0) None)) last
    ∙ ap (λ b. cond b (Some 0) None) closed)

-- The places after the first transaction may have been completed, which is the last one of `q`.
first_completed :
    (p q j : ℕ) (e : Operation) (t : Transaction) (ts : List Transaction) → is_invoke e.kind ≡ false
    → has_process q ts ≡ false
    → (mine unended : Bool) → (t.process == q) ≡ mine → is_open t ≡ unended
    → open_place p (with_completed (cond (mine && unended) (Some 0) None) j e (t ∷ ts))
    ≡ cond (q == p) None (open_place p (t ∷ ts))
first_completed p q j e t ts completes last true true is_mine is_open_first =
    let closed : is_open (completed t j e) ≡ false = completed-closed t j e completes in
    ap (λ b. cond (has_process p ts) (option_map suc (open_place p ts)) (cond ((t.process == p) && b) (Some 0) None))
    closed
    ∙ ap (λ b. cond (has_process p ts) (option_map suc (open_place p ts)) (cond b (Some 0) None))
    (and_false (t.process == p))
    ∙ last_completed (q == p) (has_process p ts) (t.process == p) (is_open t) None (open_place p ts)
    (λ same. ap (λ r. has_process r ts) (sym (eqb-true q p same)) ∙ last)
    (λ apart. ap (λ r. r == p) (eqb-true t.process q is_mine) ∙ apart)
first_completed p q j e t ts completes last true false is_mine is_open_first =
    not_completed p q t ts last (ap (λ b. b && is_open t) is_mine ∙ is_open_first)
first_completed p q j e t ts completes last false unended is_mine is_open_first =
    not_completed p q t ts last (ap (λ b. b && is_open t) is_mine)

-- The places after a completion, by whether `q` has a transaction behind the first one.
completed_front :
    (p q j : ℕ) (e : Operation) (t : Transaction) (ts : List Transaction) → is_invoke e.kind ≡ false
    → (has : Bool) → has_process q ts ≡ has
    → open_place p (with_completed (open_place q ts) j e ts) ≡ cond (q == p) None (open_place p ts)
    → open_place p (with_completed (open_place q (t ∷ ts)) j e (t ∷ ts)) ≡ cond (q == p) None (open_place p (t ∷ ts))
completed_front p q j e t ts completes true is behind =
    let later = with_completed (open_place q ts) j e ts in
    let first : Option ℕ = cond ((t.process == p) && is_open t) (Some 0) None in
    ap (λ b. open_place p (with_completed (cond b (option_map suc (open_place q ts)) (cond ((t.process == q) && is_open t) (Some 0) None)) j e (t ∷ ts)))
    is
    ∙ ap (open_place p) (with_completed-behind (open_place q ts) j e t ts)
    ∙ ap (λ b. cond b (option_map suc (open_place p later)) first) (has_process-completed p (open_place q ts) j e ts)
    ∙ place_behind (q == p) (has_process q ts) (has_process p ts) first (open_place p ts) (open_place p later)
    (λ same. ap (λ r. has_process r ts) (eqb-true q p same)) is behind
completed_front p q j e t ts completes false is behind =
    ap (λ b. open_place p (with_completed (cond b (option_map suc (open_place q ts)) (cond ((t.process == q) && is_open t) (Some 0) None)) j e (t ∷ ts)))
    is
    ∙ first_completed p q j e t ts completes is (t.process == q) (is_open t) refl refl

-- After the completion of its open transaction a process has none open. Other processes keep theirs.
pub open_place-completed :
    (p q j : ℕ) (e : Operation) (ts : List Transaction) → is_invoke e.kind ≡ false
    → open_place p (with_completed (open_place q ts) j e ts) ≡ cond (q == p) None (open_place p ts)
open_place-completed p q j e [] completes = sym (cond-same (q == p) None)
open_place-completed p q j e (t ∷ ts) completes =
    completed_front p q j e t ts completes (has_process q ts) refl (open_place-completed p q j e ts completes)

-- ---- places in the list

-- where the last transaction of the process `p` is, if that is open: behind the first one, or the first one
abbrev LaterOrFirst : (p : ℕ) → Transaction → List Transaction → (k : ℕ) → Type 0
LaterOrFirst p t ts k =
    ((j : ℕ) × (open_place p ts ≡ Some j) × (k ≡ suc j))
    ⊎ ((has_process p ts ≡ false) × (t.process ≡ p) × (is_open t ≡ true) × (k ≡ 0))

later_or_first :
    (p : ℕ) (t : Transaction) (ts : List Transaction) (k : ℕ) (has mine unended : Bool) (place : Option ℕ)
    → has_process p ts ≡ has → (t.process == p) ≡ mine → is_open t ≡ unended → open_place p ts ≡ place
    → cond has (option_map suc place) (cond (mine && unended) (Some 0) None) ≡ Some k → LaterOrFirst p t ts k
later_or_first p t ts k true mine unended None has same status at is = cc
later_or_first p t ts k true mine unended (Some j) has same status at is = inl (j, at, sym (same_Some (suc j) k is))
later_or_first p t ts k false true true place has same status at is =
    inr (has, eqb-true t.process p same, status, sym (same_Some 0 k is))
later_or_first p t ts k false true false place has same status at is = cc
later_or_first p t ts k false false unended place has same status at is = cc

pub open_place-front :
    (p : ℕ) (t : Transaction) (ts : List Transaction) (k : ℕ) → open_place p (t ∷ ts) ≡ Some k
    → LaterOrFirst p t ts k
open_place-front p t ts k is =
    later_or_first p t ts k (has_process p ts) (t.process == p) (is_open t) (open_place p ts) refl refl refl refl is

open_status : (status : Status) → is_open_status status ≡ true → status ≡ Open
open_status Open is = refl
open_status status is = cc

-- An open transaction is one of the list.
pub open_place-there :
    (p : ℕ) (ts : List Transaction) (k : ℕ) → open_place p ts ≡ Some k
    → (t : Transaction) × (slice_get ts k ≡ Some t) × (t.process ≡ p) × (t.status ≡ Open)
open_place-there p [] k is = cc
open_place-there p (u ∷ us) k is = elim (open_place-front p u us k is) [
  | inl later ↦
      let (t, there, own, unended) = open_place-there p us later.0 later.1 in
      (t, ap (slice_get (u ∷ us)) later.2 ∙ there, own, unended)
  | inr here ↦ (u, ap (slice_get (u ∷ us)) here.3, here.1, open_status u.status here.2)
]

pub open_place-within : (p : ℕ) (ts : List Transaction) (k : ℕ) → open_place p ts ≡ Some k → k < length ts
open_place-within p ts k is =
    let (t, there, own, unended) = open_place-there p ts k is in
    slice_get_within ts k t there

-- A write of the completed transaction at its place.
pub completed_at-set :
    (ts : List Transaction) (place j : ℕ) (e : Operation) (t : Transaction) → slice_get ts place ≡ Some t
    → completed_at place j e ts ≡ set ts place (completed t j e)
completed_at-set [] place j e t there = cc
completed_at-set (u ∷ us) zero j e t there = ap (λ v. completed v j e ∷ us) (same_Some u t there)
completed_at-set (u ∷ us) (suc place) j e t there = ap (λ vs. u ∷ vs) (completed_at-set us place j e t there)

-- A completion adds no transaction.
pub length-completed_at :
    (place j : ℕ) (e : Operation) (ts : List Transaction) → length (completed_at place j e ts) ≡ length ts
length-completed_at place j e [] = refl
length-completed_at zero j e (t ∷ ts) = refl
length-completed_at (suc place) j e (t ∷ ts) = ap suc (length-completed_at place j e ts)
