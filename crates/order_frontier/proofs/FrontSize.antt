-- A frontier has no more members than transactions were open at once: all were open when the last of them was invoked.
use Rattle.std.proofs.Common.{◌≡◌, inl, inr, ℕ, ◌<◌, ◌≤◌, nat_lt, nat_le, true, false, not, Some, unwrap_or, List, [], ◌∷◌, length, map, filter, refl, ap, sym, subst, ◌∙◌, arith}
use Rattle.std.specs.Option.{option_map_or}
use Rattle.std.proofs.lemmas.Bool.{not-true, and_from, cases_lt, cases_order, le-leb, lt-ltb}
use Rattle.std.proofs.lemmas.Bool.Decides.{Decides-eqb}
use Rattle.std.proofs.lemmas.Cmp.{nat_eq_equiv}
use Rattle.std.proofs.lemmas.List.{length-map}
use Rattle.std.proofs.lemmas.List.Kept.{AllPairs-from_increasing}
use Rattle.std.proofs.lemmas.List.Sums.{length-filter}
use Rattle.std.proofs.lemmas.Map.Made.{IsDistinct-from_AllPairs, is_member-Decides, length-le_from_is_member}
use Rattle.hist_types.proofs.Members.{In, in_from_Contains, Contains_from_in, in_mapped, in_map, in_filter, in_filtered, passes_filter}
use Rattle.history_laws.proofs.ThinningBound.{open_at_most}
use Rattle.history_laws.proofs.ThinningTimes.{transactions_sequential}
use Rattle.hist_types.specs.Operations.{Operation}
use Rattle.hist_types.specs.Transactions.{Transaction, transactions_of}
use Rattle.history_laws.specs.OpenAtOnce.{is_open_at, most_open}
use Rattle.order_frontier.specs.declared.types.Predecessor.{Predecessor}
use Rattle.order_frontier.specs.declared.types.Completed.{Completed}
use Rattle.order_frontier.specs.Completions.{completed_of, all_completed, predecessor_of, is_passed, frontier_of}
use Rattle.order_frontier.specs.Predecessors.{AreFrontier}
use Rattle.order_frontier.proofs.Advancing.{completed-to}
use Rattle.order_frontier.proofs.Lists.{none_to}
use Rattle.order_frontier.proofs.Seen.{done-parts}

-- ---- the one that was invoked last

record IsLatest (ps : List Predecessor) (v : Predecessor) : Type 0 where
  member : In v ps
  last : (p : Predecessor) → In p ps → p.invocation ≤ v.invocation

latest : (p : Predecessor) (ps : List Predecessor) → (v : Predecessor) × IsLatest (p ∷ ps) v
latest p [] = (
  p,
  record {
    member = inl refl;
    last = λ q i. elim i [
      | inl same ↦ let at : p.invocation ≡ q.invocation = ap (λ (x : Predecessor). x.invocation) same in omega arith
      | inr none ↦ elim none [ ]
    ];
  },
)
latest p (q ∷ ps) = elim (cases_lt p.invocation (latest q ps).0.invocation) [
  | inl before ↦
      let v : Predecessor = (latest q ps).0 in (
        v,
        record {
          member = inr (latest q ps).1.member;
          last = λ x i. elim i [
            | inl same ↦ let at : p.invocation ≡ x.invocation = ap (λ (x : Predecessor). x.invocation) same in omega (arith, before)
            | inr j ↦ (latest q ps).1.last x j
          ];
        },
      )
  | inr after ↦ (
    p,
    record {
      member = inl refl;
      last = λ x i. elim i [
        | inl same ↦ let at : p.invocation ≡ x.invocation = ap (λ (x : Predecessor). x.invocation) same in omega arith
        | inr j ↦ let up = (latest q ps).1.last x j in omega (arith, up, after)
      ];
    },
  )
]

-- ---- all are open then

module _ (es : List Operation) (ps : List Predecessor) (front : AreFrontier (transactions_of es) ps) where
  abbrev all : List Completed
  all = all_completed (transactions_of es)

  -- the ok transaction of a member
  record IsOf (p : Predecessor) : Type 0 where
    t : Transaction
    d : Completed
    among : In t (transactions_of es)
    completed : In d all
    done : completed_of t ≡ Some d
    is : predecessor_of d ≡ p
    clear : is_passed all d ≡ false

  is_of : (p : Predecessor) → In p ps → IsOf p
  is_of p i =
      let (d, inside, is) = in_map predecessor_of p (filter (λ d. not (is_passed all d)) all) (in_from_Contains p (frontier_of all) ((front.members p).0 (Contains_from_in p ps i))) in
      let completed = in_filter (λ d. not (is_passed all d)) d all inside in
      let (t, among, done) = completed-to (transactions_of es) d completed in record {
        t = t;
        d = d;
        among = among;
        completed = completed;
        done = done;
        is = is;
        clear = not-true (is_passed all d) (passes_filter (λ d. not (is_passed all d)) d all inside);
      }

  open_then : (v p : Predecessor) → IsLatest ps v → In p ps
      → (t : Transaction) × In t (transactions_of es) × (t.completion ≡ Some p.completion) × (is_open_at v.invocation t ≡ true)
  open_then v p latest i =
      let m = is_of p i in
      let n = is_of v latest.member in
      let t : Transaction = m.t in
      let own = done-parts t m.d m.done in
      let other = done-parts n.t n.d n.done in
      let begins : m.d.invocation ≡ p.invocation = ap (λ (p : Predecessor). p.invocation) m.is in
      let begins' : n.d.invocation ≡ v.invocation = ap (λ (p : Predecessor). p.invocation) n.is in
      let ends : m.d.completion ≡ p.completion = ap (λ (p : Predecessor). p.completion) m.is in
      let ended : t.completion ≡ Some p.completion = own.completion ∙ ap Some ends in
      let begun : t.invocation ≤ v.invocation = let up = latest.last p i in omega (arith, up, own.invocation, begins) in
      let later : v.invocation < p.completion = elim (cases_order p.completion v.invocation) [
        | inl met ↦ absurd ((transactions_sequential es).other t n.t p.completion m.among n.among ended (met ∙ sym (other.invocation ∙ begins')))
        | inr (inl over) ↦ absurd (none_to (λ (w : Completed). nat_lt m.d.completion w.invocation) all m.clear n.d n.completed (lt-ltb m.d.completion n.d.invocation (omega (arith, over, ends, begins'))))
        | inr (inr later) ↦ later
      ] in (
        t,
        m.among,
        ended,
        and_from (nat_le t.invocation v.invocation) (option_map_or (λ c. nat_lt v.invocation c) t.completion true) (le-leb t.invocation v.invocation begun)
            (subst (λ o. option_map_or (λ c. nat_lt v.invocation c) o true ≡ true) (sym ended) (lt-ltb v.invocation p.completion later)),
      )

  abbrev completion_or_zero : Transaction → ℕ
  completion_or_zero t = unwrap_or t.completion 0

  few_open : (v : Predecessor) → IsLatest ps v → length ps ≤ most_open (transactions_of es)
  few_open v latest =
      let ts = transactions_of es in
      let open_ones = filter (is_open_at v.invocation) ts in
      let xs = map (λ (p : Predecessor). p.completion) ps in
      let ys = map completion_or_zero open_ones in
      let apart = IsDistinct-from_AllPairs Decides-eqb xs (λ i j d earlier below. λ same. let up = AllPairs-from_increasing xs front.order i j d earlier below in omega (arith, up, same)) in
      let among : (n : ℕ) → In n xs → In n ys = λ n i.
      let (p, j, is) = in_map (λ (p : Predecessor). p.completion) n ps i in
      let (t, k, ended, still) = open_then v p latest j in
      subst (λ m. In m ys) (ap (λ o. unwrap_or o 0) ended ∙ is)
      (in_mapped completion_or_zero t open_ones (in_filtered (is_open_at v.invocation) t ts k still)) in
      let fewer = length-le_from_is_member nat_eq_equiv xs ys apart (λ n has. (is_member-Decides Decides-eqb ys n).1 (Contains_from_in n ys (among n (in_from_Contains n xs ((is_member-Decides Decides-eqb xs n).0 has))))) in
      omega (arith, fewer, length-map ps (λ (p : Predecessor). p.completion), length-map open_ones completion_or_zero, length-filter (is_open_at v.invocation) ts, open_at_most ts v.invocation)

pub few_members : (es : List Operation) (ps : List Predecessor) → AreFrontier (transactions_of es) ps → length ps ≤ most_open (transactions_of es)
few_members es [] front = omega arith
few_members es (p ∷ ps) front = let found = latest p ps in few_open es (p ∷ ps) front found.0 found.1
