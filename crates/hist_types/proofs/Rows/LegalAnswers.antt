-- Legal answers of a seat, one for each kind of request and answer, and near misses beside them.
use Rattle.std.proofs.Common.{◌≡◌, inl, inr, ℕ, ◌≤◌, List, [], ◌∷◌, ◌++◌, length, Some, None, Ok, Err, refl, ap, sym, subst, arith}
use Rattle.std.proofs.lemmas.Option.{same_Some}
use Rattle.hist_types.specs.LegalAnswers.{StampedBlock, View, with_more, Request, write, read, snapshot, verdict, learn, Answer, accepted, returned, counted, reported, learnt, refused, row_events, CountAfter, JournalAnswers, IsLegal}
use Rattle.hist_types.specs.Operations.{Operation}
use Rattle.hist_types.specs.Refusals.{without_place, memory_fault}
use Rattle.hist_types.specs.Reports.{AreFindings, Report}
use Rattle.hist_types.specs.Tokens.{byte_fault}
use Rattle.hist_types.specs.Transactions.{transactions_of}
use Rattle.hist_types.specs.declared.types.At.TheVariants.{Event}
use Rattle.hist_types.specs.declared.types.Fault.{Fault}
use Rattle.hist_types.specs.declared.types.Level.TheVariants.{Plain, Process, Realtime}
use Rattle.hist_types.specs.declared.types.Phenomenon.TheVariants.{G0, G1c, GSingle, G2Item}
use Rattle.hist_types.specs.declared.types.Refusal.{Refusal}
use Rattle.hist_types.specs.declared.types.Refusal.TheVariants.{Busy, Idle, Full, BadRange, NotAMap}
use Rattle.hist_types.specs.declared.types.KeyOrder.TheVariants.{Basic}
use Rattle.hist_types.proofs.Rows.Absence.{no_ww, no_wr, no_rw, no_single_rw, at_no_level}
use Rattle.hist_types.proofs.Rows.History.{x, y, sets, invoke, ok}

-- ---- blocks and views

-- the invocation of a write to x, by process 0
abbrev pub begin_x : List Operation
begin_x = invoke 0 (sets x 1 ∷ []) ∷ []

abbrev pub end_x : List Operation
end_x = ok 0 (sets x 1 ∷ []) ∷ []

-- and of one to y, by process 1
abbrev pub begin_y : List Operation
begin_y = invoke 1 (sets y 1 ∷ []) ∷ []

-- a block of a seat by its number and that of its call
abbrev pub block : (seat call : ℕ) → List Operation → StampedBlock
block seat call os = record { seat = seat; call = call; operations = os }

abbrev pub view : List StampedBlock → List ℕ → View
view seen own = record { seen = seen; own = own }

abbrev pub at_event : Refusal → ℕ → Fault
at_event refusal index = record { refusal = refusal; at = Event index }

-- ---- what a near miss would need

-- nothing more was seen where the seat has seen no more than before
none_more : {X : Type 0} (xs more : List X) → xs ≡ xs ++ more → more ≡ []
none_more [] more e = sym e
none_more (x ∷ xs) more e = none_more xs more (cc e)

-- An answer that adds nothing, to a seat that sees nothing more, is not legal where the journal doesn't give it.
not_given :
    (cells : ℕ) (request : Request) (given : Answer) (v : View)
    → ¬ JournalAnswers Basic cells v.seen request given
    → (more : List StampedBlock)
    → JournalAnswers Basic cells (v.seen ++ more) request given
    → v ≡ with_more v more
    → ⊥
not_given cells request given v never more answers same =
    let none : v.seen ++ more ≡ v.seen = sym (ap (λ (v : View). v.seen) same) in
    never (subst (λ blocks. JournalAnswers Basic cells blocks request given) none answers)

-- of two lists that end in one thing each, one has no other
nothing_before : {X : Type 0} (a b : X) (more : List X) → a ∷ [] ≡ more ++ b ∷ [] → (more ≡ []) × (a ≡ b)
nothing_before a b [] e = (refl, cc e)
nothing_before a b (c ∷ []) e = absurd (cc e)
nothing_before a b (c ∷ d ∷ more) e = absurd (cc e)

-- some thing was added
not_nothing : {X : Type 0} (xs : List X) (x : X) → [] ≡ xs ++ x ∷ [] → ⊥
not_nothing [] x e = absurd (cc e)
not_nothing (y ∷ xs) x e = absurd (cc e)

-- ---- a write that is accepted

-- The first block of a row.
first_write : IsLegal Basic 2 0 (write (Ok begin_x)) (accepted 0) (view [] []) (view (block 0 0 begin_x ∷ []) (0 ∷ []))
first_write = ([], (refl, refl, refl))

-- Another seat's block was found, and this one added after it.
second_write :
    IsLegal Basic 2 0 (write (Ok begin_x)) (accepted 1) (view [] []) (view (block 1 0 begin_y ∷ block 0 0 begin_x ∷ []) (1 ∷ []))
second_write = (block 1 0 begin_y ∷ [], (refl, refl, refl))

-- The second write of a seat has a stamp of its own.
next_write :
    IsLegal Basic 2 0 (write (Ok end_x)) (accepted 1)
    (view (block 0 0 begin_x ∷ []) (0 ∷ []))
    (view (block 0 0 begin_x ∷ block 0 1 end_x ∷ []) (0 ∷ 1 ∷ []))
next_write = ([], (refl, refl, refl))

-- Not another index.
not-first_write-index : ¬ IsLegal Basic 2 0 (write (Ok begin_x)) (accepted 1) (view [] []) (view (block 0 0 begin_x ∷ []) (0 ∷ []))
not-first_write-index h =
    let added = nothing_before (block 0 0 begin_x) (block 0 0 begin_x) h.0 (ap (λ (v : View). v.seen) h.1.2) in
    let index : 1 ≡ length (row_events ([] ++ [])) = subst (λ more. 1 ≡ length (row_events ([] ++ more))) added.0 h.1.1 in
    absurd (omega arith)

-- Not without a block, without the position of the block, with a block of another seat, or with another stamp.
not-first_write :
    (¬ IsLegal Basic 2 0 (write (Ok begin_x)) (accepted 0) (view [] []) (view [] []))
    × (¬ IsLegal Basic 2 0 (write (Ok begin_x)) (accepted 0) (view [] []) (view (block 0 0 begin_x ∷ []) []))
    × (¬ IsLegal Basic 2 0 (write (Ok begin_x)) (accepted 0) (view [] []) (view (block 1 0 begin_x ∷ []) (0 ∷ [])))
    × (¬ IsLegal Basic 2 0 (write (Ok begin_x)) (accepted 0) (view [] []) (view (block 0 1 begin_x ∷ []) (0 ∷ [])))
not-first_write = (
  (λ h. not_nothing h.0 (block 0 0 begin_x) (ap (λ (v : View). v.seen) h.1.2)),
  (λ h. absurd (cc (ap (λ (v : View). v.own) h.1.2))),
  (λ h. let added = nothing_before (block 1 0 begin_x) (block 0 0 begin_x) h.0 (ap (λ (v : View). v.seen) h.1.2) in
      absurd (let seat : 1 ≡ 0 = ap (λ (b : StampedBlock). b.seat) added.1 in omega arith)),
  (λ h. let added = nothing_before (block 0 1 begin_x) (block 0 0 begin_x) h.0 (ap (λ (v : View). v.seen) h.1.2) in
      absurd (let call : 1 ≡ 0 = ap (λ (b : StampedBlock). b.call) added.1 in omega arith)),
)

-- Not where a rule is broken.
not-broken_write :
    ¬ IsLegal Basic 2 0 (write (Ok end_x)) (accepted 0) (view [] []) (view (block 0 0 end_x ∷ []) (0 ∷ []))
not-broken_write h =
    let added = nothing_before (block 0 0 end_x) (block 0 0 end_x) h.0 (ap (λ (v : View). v.seen) h.1.2) in
    let kept : CountAfter ([] ++ []) end_x = subst (λ more. CountAfter ([] ++ more) end_x) added.0 h.1.0 in
    absurd (cc kept)

-- ---- a write that breaks a rule

-- The process has an open invocation, which another seat's block holds.
busy_write :
    IsLegal Basic 2 1 (write (Ok (invoke 0 [] ∷ []))) (refused (at_event Busy 1)) (view [] []) (view (block 0 0 begin_x ∷ []) [])
busy_write = (block 0 0 begin_x ∷ [], (inr (inl refl), refl))

-- A rule that the second operation breaks is reported at its own index.
second_operation :
    IsLegal Basic 2 0 (write (Ok (invoke 0 [] ∷ ok 1 [] ∷ []))) (refused (at_event Idle 1)) (view [] []) (view [] [])
second_operation = ([], (inr (inl refl), refl))

-- Not at another index, and not where the seat has seen no invocation of the process.
not-busy_write :
    (¬ IsLegal Basic 2 1 (write (Ok (invoke 0 [] ∷ []))) (refused (at_event Busy 0)) (view (block 0 0 begin_x ∷ []) []) (view (block 0 0 begin_x ∷ []) []))
    × (¬ IsLegal Basic 2 1 (write (Ok (invoke 0 [] ∷ []))) (refused (at_event Busy 1)) (view [] []) (view [] []))
not-busy_write = (
  (λ h. not_given 2 (write (Ok (invoke 0 [] ∷ []))) (refused (at_event Busy 0)) (view (block 0 0 begin_x ∷ []) []) other_index h.0 h.1.0 h.1.1),
  (λ h. not_given 2 (write (Ok (invoke 0 [] ∷ []))) (refused (at_event Busy 1)) (view [] []) not_open h.0 h.1.0 h.1.1),
)
  where
    other_index : ¬ JournalAnswers Basic 2 (block 0 0 begin_x ∷ []) (write (Ok (invoke 0 [] ∷ []))) (refused (at_event Busy 0))
    other_index a = elim a [
      | inl e ↦ absurd (cc (ap (λ (f : Fault). f.refusal) e))
      | inr r ↦ elim r [
        | inl e ↦ let same : Some (at_event Busy 1) ≡ Some (at_event Busy 0) = e in absurd (cc (ap (λ (f : Fault). f.at) (same_Some _ _ same)))
        | inr full ↦ absurd (cc full.0)
      ]
    ]

    not_open : ¬ JournalAnswers Basic 2 [] (write (Ok (invoke 0 [] ∷ []))) (refused (at_event Busy 1))
    not_open a = elim a [
      | inl e ↦ absurd (cc (ap (λ (f : Fault). f.refusal) e))
      | inr r ↦ elim r [
        | inl e ↦ absurd (cc e)
        | inr full ↦ absurd (cc (ap (λ (f : Fault). f.refusal) full.2))
      ]
    ]

-- ---- a write that finds no empty cell

-- The only cell is filled, and the write breaks no rule.
full_row : IsLegal Basic 1 1 (write (Ok begin_y)) (refused (without_place Full)) (view [] []) (view (block 0 0 begin_x ∷ []) [])
full_row = (block 0 0 begin_x ∷ [], (inr (inr (refl, refl, refl)), refl))

-- Not where there is one more cell, and not where a rule is broken.
not-full_row :
    (¬ IsLegal Basic 2 1 (write (Ok begin_y)) (refused (without_place Full)) (view (block 0 0 begin_x ∷ []) []) (view (block 0 0 begin_x ∷ []) []))
    × (¬ IsLegal Basic 1 1 (write (Ok begin_x)) (refused (without_place Full)) (view (block 0 0 begin_x ∷ []) []) (view (block 0 0 begin_x ∷ []) []))
not-full_row = (
  (λ h. not_given 2 (write (Ok begin_y)) (refused (without_place Full)) (view (block 0 0 begin_x ∷ []) []) empty_cell h.0 h.1.0 h.1.1),
  (λ h. not_given 1 (write (Ok begin_x)) (refused (without_place Full)) (view (block 0 0 begin_x ∷ []) []) broken h.0 h.1.0 h.1.1),
)
  where
    empty_cell : ¬ JournalAnswers Basic 2 (block 0 0 begin_x ∷ []) (write (Ok begin_y)) (refused (without_place Full))
    empty_cell a = elim a [
      | inl e ↦ absurd (cc (ap (λ (f : Fault). f.refusal) e))
      | inr r ↦ elim r [
        | inl e ↦ absurd (cc e)
        | inr full ↦ absurd (let filled : 1 ≡ 2 = full.1 in omega arith)
      ]
    ]

    broken : ¬ JournalAnswers Basic 1 (block 0 0 begin_x ∷ []) (write (Ok begin_x)) (refused (without_place Full))
    broken a = elim a [
      | inl e ↦ absurd (cc (ap (λ (f : Fault). f.refusal) e))
      | inr r ↦ elim r [
        | inl e ↦ let same : Some (at_event Busy 1) ≡ Some (without_place Full) = e in absurd (cc (ap (λ (f : Fault). f.refusal) (same_Some _ _ same)))
        | inr full ↦ absurd (cc full.0)
      ]
    ]

-- ---- a write that hands over a fault

-- That fault is the answer.
faulty_write : IsLegal Basic 2 0 (write (Err (byte_fault NotAMap 7))) (refused (byte_fault NotAMap 7)) (view [] []) (view [] [])
faulty_write = ([], (inr refl, refl))

-- Not another one, and no index, whatever was seen or added.
not-faulty_write :
    (¬ IsLegal Basic 2 0 (write (Err (byte_fault NotAMap 7))) (refused (byte_fault NotAMap 8)) (view [] []) (view [] []))
    × (¬ IsLegal Basic 2 0 (write (Err (byte_fault NotAMap 7))) (refused (without_place Full)) (view [] []) (view [] []))
    × ((new : View) → ¬ IsLegal Basic 2 0 (write (Err (byte_fault NotAMap 7))) (accepted 0) (view [] []) new)
not-faulty_write = (
  (λ h. elim h.1.0 [
    | inl e ↦ absurd (cc (ap (λ (f : Fault). f.refusal) e))
    | inr e ↦ absurd (cc (ap (λ (f : Fault). f.at) e))
  ]),
  (λ h. elim h.1.0 [
    | inl e ↦ absurd (cc (ap (λ (f : Fault). f.refusal) e))
    | inr e ↦ absurd (cc (ap (λ (f : Fault). f.refusal) e))
  ]),
  (λ new h. h.1.0),
)

-- ---- a read

-- The events of a range, and an empty range.
range :
    IsLegal Basic 2 1 (read 0 1) (returned begin_x) (view [] []) (view (block 0 0 begin_x ∷ []) [])
    × IsLegal Basic 2 1 (read 1 2) (returned end_x) (view [] []) (view (block 0 0 (begin_x ++ end_x) ∷ []) [])
    × IsLegal Basic 2 1 (read 0 0) (returned []) (view [] []) (view [] [])
range = (
  (block 0 0 begin_x ∷ [], (((omega arith, omega arith), refl), refl)),
  (block 0 0 (begin_x ++ end_x) ∷ [], (((omega arith, omega arith), refl), refl)),
  ([], (((omega arith, omega arith), refl), refl)),
)

-- No range goes past the events or backwards.
bad_range :
    IsLegal Basic 2 1 (read 0 2) (refused (without_place BadRange)) (view [] []) (view (block 0 0 begin_x ∷ []) [])
    × IsLegal Basic 2 1 (read 1 0) (refused (without_place BadRange)) (view [] []) (view (block 0 0 begin_x ∷ []) [])
bad_range = (
  (block 0 0 begin_x ∷ [], (inr ((λ r. absurd (let within : 2 ≤ 1 = r.1 in omega arith)), refl), refl)),
  (block 0 0 begin_x ∷ [], (inr ((λ r. absurd (let forwards : 1 ≤ 0 = r.0 in omega arith)), refl), refl)),
)

-- Not another event, not fewer of them, and not a refusal where there is such a range.
not-range :
    (¬ IsLegal Basic 2 1 (read 0 1) (returned end_x) (view (block 0 0 begin_x ∷ []) []) (view (block 0 0 begin_x ∷ []) []))
    × (¬ IsLegal Basic 2 1 (read 0 1) (returned []) (view (block 0 0 begin_x ∷ []) []) (view (block 0 0 begin_x ∷ []) []))
    × (¬ IsLegal Basic 2 1 (read 0 1) (refused (without_place BadRange)) (view (block 0 0 begin_x ∷ []) []) (view (block 0 0 begin_x ∷ []) []))
not-range = (
  (λ h. not_given 2 (read 0 1) (returned end_x) (view (block 0 0 begin_x ∷ []) []) other h.0 h.1.0 h.1.1),
  (λ h. not_given 2 (read 0 1) (returned []) (view (block 0 0 begin_x ∷ []) []) fewer h.0 h.1.0 h.1.1),
  (λ h. not_given 2 (read 0 1) (refused (without_place BadRange)) (view (block 0 0 begin_x ∷ []) []) no_fault h.0 h.1.0 h.1.1),
)
  where
    other : ¬ JournalAnswers Basic 2 (block 0 0 begin_x ∷ []) (read 0 1) (returned end_x)
    other a = absurd (cc a.1)

    fewer : ¬ JournalAnswers Basic 2 (block 0 0 begin_x ∷ []) (read 0 1) (returned [])
    fewer a = absurd (cc a.1)

    no_fault : ¬ JournalAnswers Basic 2 (block 0 0 begin_x ∷ []) (read 0 1) (refused (without_place BadRange))
    no_fault a = elim a [
      | inl e ↦ absurd (cc (ap (λ (f : Fault). f.refusal) e))
      | inr r ↦ r.0 (omega arith, omega arith)
    ]

-- ---- a snapshot

-- Blocks that count, without one between them that breaks a rule.
counting :
    IsLegal Basic 3 1 snapshot (counted (block 0 0 begin_x ∷ block 1 0 end_x ∷ []))
    (view [] [])
    (view (block 0 0 begin_x ∷ block 2 0 begin_x ∷ block 1 0 end_x ∷ []) [])
counting = (block 0 0 begin_x ∷ block 2 0 begin_x ∷ block 1 0 end_x ∷ [], (refl, refl))

-- Not with that block, and not without one that counts.
not-counting :
    (¬ IsLegal Basic 3 1 snapshot (counted (block 0 0 begin_x ∷ block 2 0 begin_x ∷ [])) (view (block 0 0 begin_x ∷ block 2 0 begin_x ∷ []) []) (view (block 0 0 begin_x ∷ block 2 0 begin_x ∷ []) []))
    × (¬ IsLegal Basic 3 1 snapshot (counted []) (view (block 0 0 begin_x ∷ []) []) (view (block 0 0 begin_x ∷ []) []))
not-counting = (
  (λ h. not_given 3 snapshot (counted (block 0 0 begin_x ∷ block 2 0 begin_x ∷ [])) (view (block 0 0 begin_x ∷ block 2 0 begin_x ∷ []) []) (λ a. absurd (cc a)) h.0 h.1.0 h.1.1),
  (λ h. not_given 3 snapshot (counted []) (view (block 0 0 begin_x ∷ []) []) (λ a. absurd (cc a)) h.0 h.1.0 h.1.1),
)

-- ---- a verdict

-- a report that shows nothing, by how many events and transactions there are
abbrev nothing_found : (prefix txns : ℕ) → Report
nothing_found prefix txns =
    record {
      prefix = prefix;
      txns = txns;
      findings = record { g0 = None; g1c = None; single = None; item = None };
      g1a = None;
      g1b = None;
      stray = 0;
    }

-- The verdict names the number of events that its seat has then seen.
one_event : IsLegal Basic 2 1 verdict (reported (nothing_found 1 1)) (view [] []) (view (block 0 0 begin_x ∷ []) [])
one_event =
    (block 0 0 begin_x ∷ [], (record { prefix = refl; txns = refl; findings = found; g1a = refl; g1b = refl; stray = refl }, refl))
  where
    found : AreFindings Basic (transactions_of begin_x) (record { g0 = None; g1c = None; single = None; item = None })
    found G0 = at_no_level G0 (transactions_of begin_x) (no_ww Plain (transactions_of begin_x) refl) (no_ww Process (transactions_of begin_x) refl) (no_ww Realtime (transactions_of begin_x) refl)
    found G1c = at_no_level G1c (transactions_of begin_x) (no_wr Plain (transactions_of begin_x) refl) (no_wr Process (transactions_of begin_x) refl) (no_wr Realtime (transactions_of begin_x) refl)
    found GSingle = at_no_level GSingle (transactions_of begin_x) (no_single_rw Plain (transactions_of begin_x) refl) (no_single_rw Process (transactions_of begin_x) refl) (no_single_rw Realtime (transactions_of begin_x) refl)
    found G2Item = at_no_level G2Item (transactions_of begin_x) (no_rw Plain (transactions_of begin_x) refl) (no_rw Process (transactions_of begin_x) refl) (no_rw Realtime (transactions_of begin_x) refl)

-- Not an earlier number, and not a later one.
not-one_event :
    (¬ IsLegal Basic 2 1 verdict (reported (nothing_found 0 0)) (view [] []) (view (block 0 0 begin_x ∷ []) []))
    × (¬ IsLegal Basic 2 1 verdict (reported (nothing_found 1 1)) (view [] []) (view [] []))
not-one_event = (
  (λ h.
      let seen : block 0 0 begin_x ∷ [] ≡ [] ++ h.0 = ap (λ (v : View). v.seen) h.1.1 in
      let prefix : 0 ≡ length (row_events ([] ++ h.0)) = h.1.0.prefix in
      let one : length (row_events ([] ++ h.0)) ≡ 1 = ap (λ blocks. length (row_events blocks)) (sym seen) in
      absurd (omega arith)),
  (λ h.
      let seen : [] ≡ [] ++ h.0 = ap (λ (v : View). v.seen) h.1.1 in
      let prefix : 1 ≡ length (row_events ([] ++ h.0)) = h.1.0.prefix in
      let none : length (row_events ([] ++ h.0)) ≡ 0 = ap (λ blocks. length (row_events blocks)) (sym seen) in
      absurd (omega arith)),
)

-- ---- learning what another seat knew

-- The seat has then seen what it learns, and may know more.
learnt_block :
    IsLegal Basic 2 1 (learn (block 0 0 begin_x ∷ [])) learnt (view [] []) (view (block 0 0 begin_x ∷ []) [])
    × IsLegal Basic 2 1 (learn []) learnt (view (block 0 0 begin_x ∷ []) []) (view (block 0 0 begin_x ∷ []) [])
learnt_block = (
  (block 0 0 begin_x ∷ [], (([], refl), refl)),
  ([], ((block 0 0 begin_x ∷ [], refl), refl)),
)

-- Not without having seen it.
not-learnt_block : ¬ IsLegal Basic 2 1 (learn (block 0 0 begin_x ∷ [])) learnt (view [] []) (view [] [])
not-learnt_block h =
    not_given 2 (learn (block 0 0 begin_x ∷ [])) learnt (view [] []) (λ begins. absurd (cc begins.1)) h.0 h.1.0 h.1.1

-- ---- out of memory

-- Any request may be answered so, also once more was seen.
out_of_memory :
    (cells seat : ℕ) (request : Request) (more : List StampedBlock)
    → IsLegal Basic cells seat request (refused memory_fault) (view [] []) (view more [])
out_of_memory cells seat (write (Ok os)) more = (more, (inl refl, refl))
out_of_memory cells seat (write (Err fault)) more = (more, (inl refl, refl))
out_of_memory cells seat (read from to) more = (more, (inl refl, refl))
out_of_memory cells seat snapshot more = (more, (inl refl, refl))
out_of_memory cells seat verdict more = (more, (inl refl, refl))
out_of_memory cells seat (learn known) more = (more, (inl refl, refl))

-- Not where the call has filled a cell.
not-out_of_memory :
    ¬ IsLegal Basic 2 0 (write (Ok begin_x)) (refused memory_fault) (view [] []) (view (block 0 0 begin_x ∷ []) (0 ∷ []))
not-out_of_memory h = absurd (cc (ap (λ (v : View). v.own) h.1.1))
