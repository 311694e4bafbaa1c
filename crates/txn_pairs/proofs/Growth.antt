-- The transactions of events and one more, by those of the events.
use Rattle.std.proofs.Common.{◌≡◌, ℕ, suc, ◌+◌, List, [], ◌∷◌, ◌++◌, length, Bool, true, false, not, ◌&&◌, ◌||◌, ◌==◌, cond, Option, Some, None, option_map, refl, sym, ap, ◌∙◌, arith, add-zero, zero-add}
use Rattle.std.proofs.lemmas.Bool.{eqb-true, eqb-false, eq-eqb, ne_eqb, or_parts}
use Rattle.hist_types.specs.Journal.{is_invoke}
use Rattle.hist_types.specs.Operations.{Operation}
use Rattle.hist_types.specs.Transactions.{Transaction, Indexed, completion_in, transaction_by, transactions_from, transactions_of}
use Rattle.hist_types.specs.declared.types.OpKind.{OpKind}
use Rattle.hist_types.specs.declared.types.OpKind.TheVariants as kinds
use Rattle.hist_types.specs.declared.types.Outcome.{Outcome}
use Rattle.txn_pairs.specs.Outcomes.{outcome_by}
use Rattle.txn_pairs.specs.Growth.{TakesEvent}
use Rattle.txn_pairs.specs.Places.{is_open, has_process, open_place, completed, with_completed}
use Rattle.txn_pairs.proofs.Places.{cond-same, status_by-open, open_place-unseen, with_completed-behind, open_place-more, open_place-completed}

-- an event and its index
abbrev indexed : ℕ → Operation → Indexed
indexed index event = record { index = index; event = event }

-- whether an event is of the process
abbrev pub is_seen : ℕ → List Operation → Bool
is_seen process [] = false
is_seen process (event ∷ events) = (event.process == process) || is_seen process events

-- ---- completions

-- A process without an event has no completion.
pub completion-unseen : (p index : ℕ) (es : List Operation) → is_seen p es ≡ false → completion_in p index es ≡ None
completion-unseen p index [] unseen = refl
completion-unseen p index (e ∷ es) unseen =
    let parts = or_parts (e.process == p) (is_seen p es) unseen in
    ap (λ b. cond b (cond (is_invoke e.kind) None (Some (indexed index e))) (completion_in p (index + 1) es)) parts.0
    ∙ completion-unseen p (index + 1) es parts.1

-- Where the process has no event, there is none to be found, so that the question may be asked first.
completion-seen :
    (p index : ℕ) (es : List Operation) (seen : Bool) → is_seen p es ≡ seen
    → cond seen (completion_in p index es) None ≡ completion_in p index es
completion-seen p index es true is = refl
completion-seen p index es false is = sym (completion-unseen p index es is)

-- One more invocation completes nothing.
completion-invoke :
    (p index : ℕ) (es : List Operation) (e : Operation) → is_invoke e.kind ≡ true
    → completion_in p index (es ++ e ∷ []) ≡ completion_in p index es
completion-invoke p index [] e invokes =
    ap (λ b. cond (e.process == p) (cond b None (Some (indexed index e))) None) invokes
    ∙ cond-same (e.process == p) None
completion-invoke p index (x ∷ es) e invokes =
    ap (cond (x.process == p) (cond (is_invoke x.kind) None (Some (indexed index x))))
    (completion-invoke p (index + 1) es e invokes)

-- The first that passes is the first of one more, else it is looked for behind.
first_or :
    {A : Type 0} (here seen : Bool) (x rest more last : A) → more ≡ cond seen rest last
    → cond here x more ≡ cond (here || seen) (cond here x rest) last
first_or true seen x rest more last is = refl
first_or false seen x rest more last is = is

-- One more completion is that of its process, where it is the first event of the process.
completion-more :
    (p index : ℕ) (es : List Operation) (e : Operation) → is_invoke e.kind ≡ false
    → completion_in p index (es ++ e ∷ []) ≡ cond (is_seen p es) (completion_in p index es)
    (cond (e.process == p) (Some (indexed (index + length es) e)) None)
completion-more p index [] e completes =
    ap (λ b. cond (e.process == p) (cond b None (Some (indexed index e))) None) completes
    ∙ ap (λ n. cond (e.process == p) (Some (indexed n e)) None) (sym (add-zero index))
completion-more p index (x ∷ es) e completes =
    let same : (index + 1) + length es ≡ index + length (x ∷ es) = omega arith in
    first_or (x.process == p) (is_seen p es) (cond (is_invoke x.kind) None (Some (indexed index x)))
    (completion_in p (index + 1) es) (completion_in p (index + 1) (es ++ e ∷ []))
    (cond (e.process == p) (Some (indexed (index + length (x ∷ es)) e)) None)
    (completion-more p (index + 1) es e completes ∙ ap (λ n. cond (is_seen p es) (completion_in p (index + 1) es) (cond (e.process == p) (Some (indexed n e)) None)) same)

-- ---- one more invocation

-- What is put behind a list is put behind it with one more in front.
push_cond :
    {A : Type 0} (b : Bool) (t : A) (ts more last : List A) → more ≡ ts ++ last
    → cond b (t ∷ more) more ≡ cond b (t ∷ ts) ts ++ last
push_cond true t ts more last is = ap (λ xs. t ∷ xs) is
push_cond false t ts more last is = is

-- One more invocation is one more transaction, which is open.
transactions-invoke :
    (index : ℕ) (es : List Operation) (e : Operation) → is_invoke e.kind ≡ true
    → transactions_from index (es ++ e ∷ []) ≡ transactions_from index es ++ transaction_by (index + length es)
    e None ∷ []
transactions-invoke index [] e invokes =
    ap (λ b. cond b (transaction_by index e None ∷ []) []) invokes
    ∙ ap (λ n. transaction_by n e None ∷ []) (sym (add-zero index))
transactions-invoke index (x ∷ es) e invokes =
    let same : (index + 1) + length es ≡ index + length (x ∷ es) = omega arith in
    ap (λ c. cond (is_invoke x.kind) (transaction_by index x c ∷ transactions_from (index + 1) (es ++ e ∷ [])) (transactions_from (index + 1) (es ++ e ∷ [])))
    (completion-invoke x.process (index + 1) es e invokes)
    ∙ push_cond (is_invoke x.kind) (transaction_by index x (completion_in x.process (index + 1) es))
    (transactions_from (index + 1) es) (transactions_from (index + 1) (es ++ e ∷ []))
    (transaction_by (index + length (x ∷ es)) e None ∷ [])
    (transactions-invoke (index + 1) es e invokes ∙ ap (λ n. transactions_from (index + 1) es ++ transaction_by n e None ∷ []) same)

-- ---- one more completion

-- what one more completion does to the transaction of the first event
completed-first :
    (index j : ℕ) (x e : Operation) (es : List Operation) → (index + 1) + length es ≡ j
    → is_invoke e.kind ≡ false → (same : Bool) → (x.process == e.process) ≡ same → (seen : Bool)
    → is_seen e.process es ≡ seen
    → transaction_by index x (completion_in x.process (index + 1) (es ++ e ∷ []))
    ≡ cond (same && not seen) (completed (transaction_by index x (completion_in x.process (index + 1) es)) j e)
    (transaction_by index x (completion_in x.process (index + 1) es))
completed-first index j x e es at completes true is_same true is_seen_after =
    let p : x.process ≡ e.process = eqb-true x.process e.process is_same in
    ap (transaction_by index x)
    (completion-more x.process (index + 1) es e completes ∙ ap (λ b. cond b (completion_in x.process (index + 1) es) (cond (e.process == x.process) (Some (indexed ((index + 1) + length es) e)) None)) (ap (λ q. is_seen q es) p ∙ is_seen_after))
completed-first index j x e es at completes true is_same false is_seen_after =
    let p : x.process ≡ e.process = eqb-true x.process e.process is_same in
    let unseen : is_seen x.process es ≡ false = ap (λ q. is_seen q es) p ∙ is_seen_after in
    ap (transaction_by index x)
    (completion-more x.process (index + 1) es e completes
    ∙ ap
    (λ b. cond b (completion_in x.process (index + 1) es) (cond (e.process == x.process) (Some (indexed ((index + 1) + length es) e)) None))
    unseen
    ∙ ap (λ b. cond b (Some (indexed ((index + 1) + length es) e)) None) (eq-eqb e.process x.process (sym p))
    ∙ ap (λ n. Some (indexed n e)) at)
    ∙ ap (λ c. completed (transaction_by index x c) j e) (sym (completion-unseen x.process (index + 1) es unseen))
completed-first index j x e es at completes false is_same seen is_seen_after =
    let apart : (e.process == x.process) ≡ false = ne_eqb e.process x.process (λ p. eqb-false x.process e.process is_same (sym p)) in
    ap (transaction_by index x)
    (completion-more x.process (index + 1) es e completes
    ∙ ap
    (λ b. cond (is_seen x.process es) (completion_in x.process (index + 1) es) (cond b (Some (indexed ((index + 1) + length es) e)) None))
    apart
    ∙ completion-seen x.process (index + 1) es (is_seen x.process es) refl)

-- A transaction is of its invocation's process.
pub process_by : (index : ℕ) (x : Operation) (c : Option Indexed) → (transaction_by index x c).process ≡ x.process
process_by index x None = refl
process_by index x (Some c) = refl

-- A transaction is open where it has no completion.
open_by :
    (index : ℕ) (x : Operation) (i : ℕ) (e : Operation)
    → is_open (transaction_by index x (Some (indexed i e))) ≡ is_invoke e.kind
open_by index x i e = status_by-open e.kind

has_process-cond :
    (p : ℕ) (invokes : Bool) (t : Transaction) (ts : List Transaction)
    → has_process p (cond invokes (t ∷ ts) ts) ≡ ((invokes && (t.process == p)) || has_process p ts)
has_process-cond p true t ts = refl
has_process-cond p false t ts = refl

-- the processes of events' transactions
has_process-from :
    (p index : ℕ) (e : Operation) (es : List Operation)
    → has_process p (transactions_from index (e ∷ es)) ≡ ((is_invoke e.kind && (e.process == p)) || has_process p (transactions_from (index + 1) es))
has_process-from p index e es =
    let c = completion_in e.process (index + 1) es in
    has_process-cond p (is_invoke e.kind) (transaction_by index e c) (transactions_from (index + 1) es)
    ∙ ap (λ q. (is_invoke e.kind && (q == p)) || has_process p (transactions_from (index + 1) es))
    (process_by index e c)

none_of_both :
    (a mine b seen : Bool) → (seen ≡ false → b ≡ false) → (mine || seen) ≡ false → ((a && mine) || b) ≡ false
none_of_both a true b seen unseen neither = cc
none_of_both true false b seen unseen neither = unseen neither
none_of_both false false b seen unseen neither = unseen neither

-- A process without an event has no transaction.
unseen_has_none :
    (p index : ℕ) (es : List Operation) → is_seen p es ≡ false
    → has_process p (transactions_from index es) ≡ false
unseen_has_none p index [] unseen = refl
unseen_has_none p index (e ∷ es) unseen =
    has_process-from p index e es
    ∙ none_of_both (is_invoke e.kind) (e.process == p) (has_process p (transactions_from (index + 1) es))
    (is_seen p es) (unseen_has_none p (index + 1) es) unseen

seen_by :
    (p index : ℕ) (es : List Operation) (seen : Bool) → is_seen p es ≡ seen
    → has_process p (transactions_from index es) ≡ true → is_seen p es ≡ true
seen_by p index es true is has = is
seen_by p index es false is has = let none = unseen_has_none p index es is in cc

-- the first event of a process decides, where no invocation of the process follows
closed_by :
    (index i p : ℕ) (x e : Operation) (rest : Option Indexed) (mine invokes seen has : Bool)
    → is_invoke e.kind ≡ invokes → (mine || seen) ≡ true → ((invokes && mine) || has) ≡ false
    → (seen ≡ true → has ≡ false → is_open (transaction_by index x rest) ≡ false)
    → is_open (transaction_by index x (cond mine (cond invokes None (Some (indexed i e))) rest)) ≡ false
closed_by index i p x e rest true true seen has is some none behind = cc
closed_by index i p x e rest true false seen has is some none behind = open_by index x i e ∙ is
closed_by index i p x e rest false true seen has is some none behind = behind some none
closed_by index i p x e rest false false seen has is some none behind = behind some none

-- A transaction is completed where events of its process follow, and no invocation.
pub closed-seen :
    (index i p : ℕ) (x : Operation) (es : List Operation) → is_seen p es ≡ true
    → has_process p (transactions_from i es) ≡ false
    → is_open (transaction_by index x (completion_in p i es)) ≡ false
closed-seen index i p x [] some none = cc
closed-seen index i p x (e ∷ es) some none =
    closed_by index i p x e (completion_in p (i + 1) es) (e.process == p) (is_invoke e.kind) (is_seen p es)
    (has_process p (transactions_from (i + 1) es)) refl some (sym (has_process-from p i e es) ∙ none)
    (closed-seen index (i + 1) p x es)

-- A process's last transaction is open where no event of the process follows its invocation.
last_open :
    (index q : ℕ) (x : Operation) (es : List Operation)
    → has_process q (transactions_from (index + 1) es) ≡ false → (same : Bool) → (x.process == q) ≡ same
    → (seen : Bool) → is_seen q es ≡ seen
    → (((transaction_by index x (completion_in x.process (index + 1) es)).process == q) && is_open (transaction_by index x (completion_in x.process (index + 1) es)))
    ≡ (same && not seen)
last_open index q x es none true is true is_seen_after =
    let p : x.process ≡ q = eqb-true x.process q is in
    let t = transaction_by index x (completion_in x.process (index + 1) es) in
    ap (λ r. (r == q) && is_open t) (process_by index x (completion_in x.process (index + 1) es))
    ∙ ap (λ b. b && is_open t) is
    ∙ closed-seen index (index + 1) x.process x es (ap (λ r. is_seen r es) p ∙ is_seen_after)
    (ap (λ r. has_process r (transactions_from (index + 1) es)) p ∙ none)
last_open index q x es none true is false is_seen_after =
    let p : x.process ≡ q = eqb-true x.process q is in
    let t = transaction_by index x (completion_in x.process (index + 1) es) in
    ap (λ r. (r == q) && is_open t) (process_by index x (completion_in x.process (index + 1) es))
    ∙ ap (λ b. b && is_open t) is
    ∙ ap (λ c. is_open (transaction_by index x c))
    (completion-unseen x.process (index + 1) es (ap (λ r. is_seen r es) p ∙ is_seen_after))
last_open index q x es none false is seen is_seen_after =
    let t = transaction_by index x (completion_in x.process (index + 1) es) in
    ap (λ r. (r == q) && is_open t) (process_by index x (completion_in x.process (index + 1) es))
    ∙ ap (λ b. b && is_open t) is

cond_completed :
    (done : Bool) (j : ℕ) (e : Operation) (t : Transaction) (ts : List Transaction)
    → cond done (completed t j e) t ∷ ts ≡ with_completed (cond done (Some 0) None) j e (t ∷ ts)
cond_completed true j e t ts = refl
cond_completed false j e t ts = refl

not_done : {A : Type 0} (same : Bool) (t u : A) → cond (same && false) t u ≡ u
not_done true t u = refl
not_done false t u = refl

-- the transactions of an invocation and of the events behind it, after one more completion
complete_front :
    (index j : ℕ) (x e : Operation) (es : List Operation) → (index + 1) + length es ≡ j
    → is_invoke e.kind ≡ false → (has : Bool) → has_process e.process (transactions_from (index + 1) es) ≡ has
    → transaction_by index x (completion_in x.process (index + 1) (es ++ e ∷ [])) ∷ with_completed
    (open_place e.process (transactions_from (index + 1) es)) j e (transactions_from (index + 1) es)
    ≡ with_completed
    (open_place e.process (transaction_by index x (completion_in x.process (index + 1) es) ∷ transactions_from (index + 1) es))
    j e (transaction_by index x (completion_in x.process (index + 1) es) ∷ transactions_from (index + 1) es)
complete_front index j x e es at completes true is =
    let t = transaction_by index x (completion_in x.process (index + 1) es) in
    let ts = transactions_from (index + 1) es in
    let seen = seen_by e.process (index + 1) es (is_seen e.process es) refl is in
    ap (λ u. u ∷ with_completed (open_place e.process ts) j e ts)
    (completed-first index j x e es at completes (x.process == e.process) refl true seen ∙ not_done (x.process == e.process) (completed t j e) t)
    ∙ sym (with_completed-behind (open_place e.process ts) j e t ts)
    ∙ ap
    (λ b. with_completed (cond b (option_map suc (open_place e.process ts)) (cond ((t.process == e.process) && is_open t) (Some 0) None)) j e (t ∷ ts))
    (sym is)
complete_front index j x e es at completes false is =
    let t = transaction_by index x (completion_in x.process (index + 1) es) in
    let more = transaction_by index x (completion_in x.process (index + 1) (es ++ e ∷ [])) in
    let ts = transactions_from (index + 1) es in
    let done = (x.process == e.process) && not (is_seen e.process es) in
    ap (λ o. more ∷ with_completed o j e ts) (open_place-unseen e.process ts is)
    ∙ ap (λ u. u ∷ ts)
    (completed-first index j x e es at completes (x.process == e.process) refl (is_seen e.process es) refl)
    ∙ cond_completed done j e t ts
    ∙ ap (λ b. with_completed (cond b (Some 0) None) j e (t ∷ ts))
    (sym (last_open index e.process x es is (x.process == e.process) refl (is_seen e.process es) refl))
    ∙ ap
    (λ b. with_completed (cond b (option_map suc (open_place e.process ts)) (cond ((t.process == e.process) && is_open t) (Some 0) None)) j e (t ∷ ts))
    (sym is)

complete_cond :
    (invokes : Bool) (j : ℕ) (e : Operation) (more t : Transaction) (later ts : List Transaction)
    → later ≡ with_completed (open_place e.process ts) j e ts
    → more ∷ with_completed (open_place e.process ts) j e ts
    ≡ with_completed (open_place e.process (t ∷ ts)) j e (t ∷ ts)
    → cond invokes (more ∷ later) later
    ≡ with_completed (open_place e.process (cond invokes (t ∷ ts) ts)) j e (cond invokes (t ∷ ts) ts)
complete_cond true j e more t later ts is front = ap (λ us. more ∷ us) is ∙ front
complete_cond false j e more t later ts is front = is

-- One more completion completes its process's open transaction, if there is one.
transactions-complete :
    (index j : ℕ) (es : List Operation) (e : Operation) → index + length es ≡ j → is_invoke e.kind ≡ false
    → transactions_from index (es ++ e ∷ [])
    ≡ with_completed (open_place e.process (transactions_from index es)) j e (transactions_from index es)
transactions-complete index j [] e at completes = ap (λ b. cond b (transaction_by index e None ∷ []) []) completes
transactions-complete index j (x ∷ es) e at completes =
    let ts = transactions_from (index + 1) es in
    let behind_at : (index + 1) + length es ≡ j = omega arith in
    complete_cond (is_invoke x.kind) j e
    (transaction_by index x (completion_in x.process (index + 1) (es ++ e ∷ [])))
    (transaction_by index x (completion_in x.process (index + 1) es))
    (transactions_from (index + 1) (es ++ e ∷ [])) ts
    (transactions-complete (index + 1) j es e behind_at completes)
    (complete_front index j x e es behind_at completes (has_process e.process ts) refl)

-- ---- one more event

pub takes_invocation :
    (index : ℕ) (e : Operation) (before after : List Transaction) → is_invoke e.kind ≡ true
    → after ≡ before ++ transaction_by index e None ∷ [] → TakesEvent index e before after
takes_invocation index e before after invokes listed events at is =
    listed ∙ ap (λ ts. ts ++ transaction_by index e None ∷ []) is
    ∙ ap (λ n. transactions_of events ++ transaction_by n e None ∷ []) (sym (zero-add (length events) ∙ at))
    ∙ sym (transactions-invoke 0 events e invokes)

pub takes_completion :
    (index : ℕ) (e : Operation) (before after : List Transaction) → is_invoke e.kind ≡ false
    → after ≡ with_completed (open_place e.process before) index e before → TakesEvent index e before after
takes_completion index e before after completes listed events at is =
    listed ∙ ap (λ ts. with_completed (open_place e.process ts) index e ts) is
    ∙ sym (transactions-complete 0 index events e (zero-add (length events) ∙ at) completes)

-- ---- one more event, and the places

pub outcome_completes : (k : OpKind) (outcome : Outcome) → outcome_by k ≡ Some outcome → is_invoke k ≡ false
outcome_completes kinds.Invoke outcome is = cc
outcome_completes kinds.Ok outcome is = refl
outcome_completes kinds.Fail outcome is = refl
outcome_completes kinds.Info outcome is = refl

-- The places are those of open transactions.
abbrev pub AreOpenPlaces : (ℕ → Option ℕ) → List Transaction → Type 0
AreOpenPlaces places ts = (p : ℕ) → places p ≡ open_place p ts

-- after an invocation
pub begun_places :
    (ts more : List Transaction) (places after : ℕ → Option ℕ) (e : Operation) (index process place : ℕ)
    → AreOpenPlaces places ts → process ≡ e.process → place ≡ length ts
    → more ≡ ts ++ transaction_by index e None ∷ []
    → ((q : ℕ) → after q ≡ cond (process == q) (Some place) (places q)) → AreOpenPlaces after more
begun_places ts more places after e index process place held is at listed placed p =
    placed p
    ∙ ap (λ r. cond (r == p) (Some place) (places p)) is
    ∙ ap (λ n. cond (e.process == p) (Some n) (places p)) at
    ∙ ap (cond (e.process == p) (Some (length ts))) (held p)
    ∙ sym (open_place-more p ts (transaction_by index e None))
    ∙ ap (open_place p) (sym listed)

-- after a completion
pub completed_places :
    (ts more : List Transaction) (places after : ℕ → Option ℕ) (e : Operation) (index process : ℕ)
    → is_invoke e.kind ≡ false → AreOpenPlaces places ts → process ≡ e.process
    → more ≡ with_completed (open_place e.process ts) index e ts
    → ((q : ℕ) → after q ≡ cond (process == q) None (places q)) → AreOpenPlaces after more
completed_places ts more places after e index process completes held is listed placed p =
    placed p
    ∙ ap (λ r. cond (r == p) None (places p)) is
    ∙ ap (cond (e.process == p) None) (held p)
    ∙ sym (open_place-completed p e.process index e ts completes)
    ∙ ap (open_place p) (sym listed)

-- the place that was looked up
pub place_found :
    (ts : List Transaction) (places : ℕ → Option ℕ) (e : Operation) (process : ℕ) (place : Option ℕ)
    → AreOpenPlaces places ts → process ≡ e.process → place ≡ places process → place ≡ open_place e.process ts
place_found ts places e process place held is found = found ∙ held process ∙ ap (λ r. open_place r ts) is
