-- A seat that sees no blocks but its own is answered as if it were alone.
use Rattle.std.proofs.Common.{◌≡◌, ◌⊎◌, inl, inr, ℕ, zero, suc, ◌<◌, List, [], ◌∷◌, ◌++◌, length, Contains, slice_index_or, Ok, Err, sym, subst, arith}
use Rattle.std.proofs.lemmas.List.{append-nil, length-append}
use Rattle.std.proofs.lemmas.List.Elements.{Contains-append_cases}
use Rattle.hist_types.specs.LegalAnswers as journal
use Rattle.hist_types.specs.LegalAnswers.{StampedBlock, View, with_more, with_own, Request, Answer, IsLegal, IsLegalAt}
use Rattle.hist_types.specs.Sessions.{Saying, overlong, quit, verdict, read, import, saying_of, IsReply, AreReplies}
use Rattle.hist_types.specs.declared.types.KeyOrder.{KeyOrder}
use Rattle.verdict_serve.specs.Alone.{HasSeenItsOwn}

-- ---- what a call changes

-- the view has seen these blocks more, and perhaps one of its own
abbrev HasChanged : View → List StampedBlock → View → Type 0
HasChanged old more new = (new ≡ with_more old more) ⊎ ((b : StampedBlock) × (new ≡ with_own (with_more old more) b))

changed :
    (keys : KeyOrder) (cells seat : ℕ) (request : Request) (answer : Answer) (old new : View) (more : List StampedBlock)
    → IsLegalAt keys cells seat request answer (with_more old more) new
    → HasChanged old more new
changed keys cells seat (journal.write (Ok os)) (journal.accepted index) old new more legal = inr (_, legal.2)
changed keys cells seat (journal.write (Ok os)) (journal.returned events) old new more legal = inl legal.1
changed keys cells seat (journal.write (Ok os)) (journal.counted blocks) old new more legal = inl legal.1
changed keys cells seat (journal.write (Ok os)) (journal.reported report) old new more legal = inl legal.1
changed keys cells seat (journal.write (Ok os)) journal.learnt old new more legal = inl legal.1
changed keys cells seat (journal.write (Ok os)) (journal.refused fault) old new more legal = inl legal.1
changed keys cells seat (journal.write (Err handed)) answer old new more legal = inl legal.1
changed keys cells seat (journal.read from to) answer old new more legal = inl legal.1
changed keys cells seat journal.snapshot answer old new more legal = inl legal.1
changed keys cells seat journal.verdict answer old new more legal = inl legal.1
changed keys cells seat (journal.learn known) answer old new more legal = inl legal.1

-- ---- positions

-- own positions are among those seen
abbrev OwnAreSeen : View → Type 0
OwnAreSeen v = (k : ℕ) → Contains v.own k → k < length v.seen

-- a position that was seen, and is none of the seat's own
abbrev IsAnothers : View → ℕ → Type 0
IsAnothers v k = (k < length v.seen) × (¬ Contains v.own k)

one_of : (x k : ℕ) → Contains (x ∷ []) k → x ≡ k
one_of x k c = at_zero c.0 c.1 c.2
  where
    at_zero : (i : ℕ) → i < 1 → slice_index_or (x ∷ []) i k ≡ k → x ≡ k
    at_zero zero within e = e
    at_zero (suc i) within e = absurd (omega arith)

own_or_added : (own : List ℕ) (x k : ℕ) → Contains (own ++ x ∷ []) k → Contains own k ⊎ (x ≡ k)
own_or_added own x k c = by_case (Contains-append_cases own (x ∷ []) k c)
  where
    by_case : Contains own k ⊎ Contains (x ∷ []) k → Contains own k ⊎ (x ≡ k)
    by_case (inl before) = inl before
    by_case (inr last) = inr (one_of x k last)

stay_seen : (old new : View) (more : List StampedBlock) → OwnAreSeen old → HasChanged old more new → OwnAreSeen new
stay_seen old new more seen (inl same) = subst OwnAreSeen (sym same) (λ k c. omega (arith, seen k c, length-append old.seen more))
stay_seen old new more seen (inr own) = subst OwnAreSeen (sym own.1) (λ k c. by_case k (own_or_added old.own _ k c))
  where
    by_case : (k : ℕ) → Contains old.own k ⊎ (length (old.seen ++ more) ≡ k) → k < length ((old.seen ++ more) ++ own.0 ∷ [])
    by_case k (inl before) = omega (arith, seen k before, length-append old.seen more, length-append (old.seen ++ more) (own.0 ∷ []))
    by_case k (inr last) = omega (arith, last, length-append (old.seen ++ more) (own.0 ∷ []))

stays_anothers : (old new : View) (more : List StampedBlock) (k : ℕ) → HasChanged old more new → IsAnothers old k → IsAnothers new k
stays_anothers old new more k (inl same) is = subst (λ (v : View). IsAnothers v k) (sym same) (omega (arith, is.0, length-append old.seen more), is.1)
stays_anothers old new more k (inr own) is = subst (λ (v : View). IsAnothers v k) (sym own.1) (
  omega (arith, is.0, length-append old.seen more, length-append (old.seen ++ more) (own.0 ∷ [])),
  (λ c. by_case (own_or_added old.own _ k c)),
)
  where
    by_case : Contains old.own k ⊎ (length (old.seen ++ more) ≡ k) → ⊥
    by_case (inl before) = is.1 before
    by_case (inr last) = absurd (omega (arith, last, is.0, length-append old.seen more))

-- the first of more blocks that are seen is another's
new_anothers : (old new : View) (b : StampedBlock) (more : List StampedBlock) → OwnAreSeen old → HasChanged old (b ∷ more) new → IsAnothers new (length old.seen)
new_anothers old new b more seen (inl same) = subst (λ (v : View). IsAnothers v (length old.seen)) (sym same) (
  omega (arith, length-append old.seen (b ∷ more)),
  (λ c. absurd (omega (arith, seen (length old.seen) c))),
)
new_anothers old new b more seen (inr own) = subst (λ (v : View). IsAnothers v (length old.seen)) (sym own.1) (
  omega (arith, length-append old.seen (b ∷ more), length-append (old.seen ++ b ∷ more) (own.0 ∷ [])),
  (λ c. by_case (own_or_added old.own _ (length old.seen) c)),
)
  where
    by_case : Contains old.own (length old.seen) ⊎ (length (old.seen ++ b ∷ more) ≡ length old.seen) → ⊥
    by_case (inl before) = absurd (omega (arith, seen (length old.seen) before))
    by_case (inr last) = absurd (omega (arith, last, length-append old.seen (b ∷ more)))

-- ---- calls

-- what holds of the view before a line and after it
reply_keeps :
    (keys : KeyOrder) (cells seat : ℕ) (P : View → Type 0)
    → ((request : Request) (answer : Answer) (v w : View) → IsLegal keys cells seat request answer v w → P v → P w)
    → (saying : Saying) (reply : List ℕ) (old new : View)
    → IsReply (IsLegal keys cells seat) saying reply old new
    → P old
    → P new
reply_keeps keys cells seat P keeps overlong reply old new is p = subst P (sym is.1) p
reply_keeps keys cells seat P keeps quit reply old new is p = subst P (sym is.1) p
reply_keeps keys cells seat P keeps verdict reply old new is p = keeps journal.verdict is.0 old new is.1 p
reply_keeps keys cells seat P keeps (read from to) reply old new is p = keeps (journal.read from to) is.0 old new is.1 p
reply_keeps keys cells seat P keeps (import text) reply old new is p = keeps (journal.write is.0) is.2.0 old new is.2.1 p

replies_keep :
    (keys : KeyOrder) (cells seat : ℕ) (P : View → Type 0)
    → ((request : Request) (answer : Answer) (v w : View) → IsLegal keys cells seat request answer v w → P v → P w)
    → (lines replies : List (List ℕ)) (old new : View)
    → AreReplies (IsLegal keys cells seat) lines replies old new
    → P old
    → P new
replies_keep keys cells seat P keeps [] [] old new are p = subst P (sym are) p
replies_keep keys cells seat P keeps [] (r ∷ replies) old new are p = absurd are
replies_keep keys cells seat P keeps (l ∷ lines) [] old new are p = absurd are
replies_keep keys cells seat P keeps (l ∷ lines) (r ∷ replies) old new are p =
    replies_keep keys cells seat P keeps lines replies are.0 new are.2 (reply_keeps keys cells seat P keeps (saying_of l) r old are.0 are.1 p)

-- a call that saw no more
call_alone :
    (keys : KeyOrder) (cells seat : ℕ) (request : Request) (answer : Answer) (old new : View)
    → OwnAreSeen old
    → ((k : ℕ) → ¬ IsAnothers new k)
    → IsLegal keys cells seat request answer old new
    → IsLegalAt keys cells seat request answer old new
call_alone keys cells seat request answer old new seen none legal = by_more legal.0 legal.1
  where
    by_more : (more : List StampedBlock) → IsLegalAt keys cells seat request answer (with_more old more) new → IsLegalAt keys cells seat request answer old new
    by_more [] at = subst (λ (blocks : List StampedBlock). IsLegalAt keys cells seat request answer (record { seen = blocks; own = old.own }) new) (append-nil old.seen) at
    by_more (b ∷ more) at = absurd (none (length old.seen) (new_anothers old new b more seen (changed keys cells seat request answer old new (b ∷ more) at)))

reply_alone :
    (keys : KeyOrder) (cells seat : ℕ) (saying : Saying) (reply : List ℕ) (old new : View)
    → OwnAreSeen old
    → ((k : ℕ) → ¬ IsAnothers new k)
    → IsReply (IsLegal keys cells seat) saying reply old new
    → IsReply (IsLegalAt keys cells seat) saying reply old new
reply_alone keys cells seat overlong reply old new seen none is = is
reply_alone keys cells seat quit reply old new seen none is = is
reply_alone keys cells seat verdict reply old new seen none is = (is.0, call_alone keys cells seat journal.verdict is.0 old new seen none is.1, is.2)
reply_alone keys cells seat (read from to) reply old new seen none is = (is.0, call_alone keys cells seat (journal.read from to) is.0 old new seen none is.1, is.2)
reply_alone keys cells seat (import text) reply old new seen none is = (is.0, is.1, (is.2.0, call_alone keys cells seat (journal.write is.0) is.2.0 old new seen none is.2.1, is.2.2))

replies_alone :
    (keys : KeyOrder) (cells seat : ℕ) (lines replies : List (List ℕ)) (old new : View)
    → OwnAreSeen old
    → ((k : ℕ) → ¬ IsAnothers new k)
    → AreReplies (IsLegal keys cells seat) lines replies old new
    → AreReplies (IsLegalAt keys cells seat) lines replies old new
replies_alone keys cells seat [] [] old new seen none are = are
replies_alone keys cells seat [] (r ∷ replies) old new seen none are = absurd are
replies_alone keys cells seat (l ∷ lines) [] old new seen none are = absurd are
replies_alone keys cells seat (l ∷ lines) (r ∷ replies) old new seen none are =
    let next : View = are.0 in
    let none_next : (k : ℕ) → ¬ IsAnothers next k = λ k is.
    none k (replies_keep keys cells seat (λ (v : View). IsAnothers v k) (λ request answer v w legal. stays_anothers v w legal.0 k (changed keys cells seat request answer v w legal.0 legal.1)) lines replies next new are.2 is) in
    let seen_next : OwnAreSeen next =
    reply_keeps keys cells seat OwnAreSeen (λ request answer v w legal p. stay_seen v w legal.0 p (changed keys cells seat request answer v w legal.0 legal.1)) (saying_of l) r old next are.1 seen in
    (next, reply_alone keys cells seat (saying_of l) r old next seen none_next are.1, replies_alone keys cells seat lines replies next new seen_next none are.2)

-- at first there is nothing to be seen, and at last nothing of others
pub session_alone :
    (keys : KeyOrder) (cells seat : ℕ) (lines replies : List (List ℕ)) (new : View)
    → HasSeenItsOwn new
    → AreReplies (IsLegal keys cells seat) lines replies (record { seen = []; own = [] }) new
    → AreReplies (IsLegalAt keys cells seat) lines replies (record { seen = []; own = [] }) new
session_alone keys cells seat lines replies new own are =
    replies_alone keys cells seat lines replies _ new (λ k c. absurd (omega (arith, c.1))) (λ k is. is.1 (own k is.0)) are
