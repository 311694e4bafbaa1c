-- A phenomenon that a history has is there, it or another one, once more events have come.
use Rattle.std.proofs.Common.{◌≡◌, inl, inr, List, [], ◌∷◌, ◌++◌, fold, Bool, true, false, if◌then◌else◌, is_some, map, Contains, append-nil, append_assoc, refl, sym, ◌∙◌, ap, subst}
use Rattle.std.specs.Option.{is_none}
use Rattle.std.proofs.lemmas.Bool.{false≢true, and_parts, cases_Bool, or_cases, or_left, or_right}
use Rattle.std.proofs.lemmas.List.Elements.{All-weaker}
use Rattle.std.proofs.lemmas.List.Sums.{fold-append}
use Rattle.hist_types.specs.Edges.{edges_at}
use Rattle.hist_types.specs.Journal.{first_broken, KeepsRules, events_after, events_of}
use Rattle.hist_types.specs.Operations.{Operation}
use Rattle.hist_types.specs.Phenomena.{IsThere, BadRead, first_of, aborted_reads, g1a, intermediate_reads, g1b, HasPhenomenon}
use Rattle.hist_types.specs.Transactions.{Transaction, Version, version_of, has_version, is_ok, external_reads, earlier_writes, transactions_of, is_known_to_read}
use Rattle.hist_types.specs.declared.types.Level.{Level}
use Rattle.hist_types.specs.declared.types.Phenomenon.{Phenomenon}
use Rattle.hist_types.specs.declared.types.KeyOrder.{KeyOrder}
use Rattle.hist_types.proofs.Members.{in_from_Contains, Contains_from_in}
use Rattle.history_laws.proofs.BadReads.{aborted_by_writer, intermediate_by_writer}
use Rattle.history_laws.proofs.Blocks.{events_of-kept}
use Rattle.report_laws.specs.Growing.{PhenomenaStay}
use Rattle.report_laws.proofs.Growing.{AllGrow, ok_is_there, failed_is_there, all_grow}
use Rattle.report_laws.proofs.GrowingEdges.{NodesGrow, nodes_grow, pairs_stay, edges_stay}
use Rattle.report_laws.proofs.GrowingSteps.{ProcessPairsStay, process_pairs_stay}

-- ---- aborted and intermediate reads

some_first : {A : Type 0} (xs : List A) → is_some (first_of xs) ≡ true → (x : A) × Contains xs x
some_first [] e = elim (false≢true e) [ ]
some_first (x ∷ xs) e = (x, Contains_from_in x (x ∷ xs) (inl refl))

first_some : {A : Type 0} (xs : List A) (x : A) → Contains xs x → is_some (first_of xs) ≡ true
first_some [] x c = elim (in_from_Contains x [] c) [ ]
first_some (y ∷ xs) x c = refl

reader_ok : (reader : Transaction) (v : Version) → is_known_to_read reader v ≡ true → is_ok reader ≡ true
reader_ok reader v known = (and_parts (is_ok reader) (has_version (external_reads reader) v) known).0

aborted_stays : (ts laters : List Transaction) → AllGrow ts laters → (r : BadRead) → Contains (aborted_reads ts) r → Contains (aborted_reads laters) r
aborted_stays ts laters grow r c =
    let (reader, writer, i, j, is, known, failed, wrote) = (aborted_by_writer ts r).0 c in
    (aborted_by_writer laters r).1 (
      reader,
      writer,
      Contains_from_in reader laters (ok_is_there ts laters grow reader (in_from_Contains reader ts i) (reader_ok reader r.version known)),
      Contains_from_in writer laters (failed_is_there ts laters grow writer (in_from_Contains writer ts j) failed),
      is,
      known,
      failed,
      wrote,
    )

intermediate_stays : (ts laters : List Transaction) → AllGrow ts laters → (r : BadRead) → Contains (intermediate_reads ts) r → Contains (intermediate_reads laters) r
intermediate_stays ts laters grow r c =
    let (reader, writer, i, j, is, known, apart, over) = (intermediate_by_writer ts r).0 c in
    let (later, k, g) = grow writer (in_from_Contains writer ts j) in
    (intermediate_by_writer laters r).1 (
      reader,
      later,
      Contains_from_in reader laters (ok_is_there ts laters grow reader (in_from_Contains reader ts i) (reader_ok reader r.version known)),
      Contains_from_in later laters k,
      is ∙ ap (λ n. record { reader = reader.invocation; version = r.version; writer = n }) g.invocation,
      known,
      λ same. apart (g.invocation ∙ same),
      subst (λ ws. has_version (map version_of (earlier_writes ws)) r.version ≡ true) g.writes over,
    )

g1a_stays : (ts laters : List Transaction) → AllGrow ts laters → is_some (g1a ts) ≡ true → is_some (g1a laters) ≡ true
g1a_stays ts laters grow e =
    let (r, c) = some_first (aborted_reads ts) e in
    first_some (aborted_reads laters) r (aborted_stays ts laters grow r c)

g1b_stays : (ts laters : List Transaction) → AllGrow ts laters → is_some (g1b ts) ≡ true → is_some (g1b laters) ≡ true
g1b_stays ts laters grow e =
    let (r, c) = some_first (intermediate_reads ts) e in
    first_some (intermediate_reads laters) r (intermediate_stays ts laters grow r c)

-- ---- cycles

cycle_stays :
    (keys : KeyOrder) (ts laters : List Transaction)
    → AllGrow ts laters
    → ProcessPairsStay keys ts laters
    → is_some (g1a laters) ≡ false
    → (phenomenon : Phenomenon) (level : Level)
    → IsThere keys phenomenon level ts
    → IsThere keys phenomenon level laters
cycle_stays keys ts laters grow steps none phenomenon level (walk, shows) =
    let nodes_too : NodesGrow ts laters = nodes_grow ts laters grow (λ r c. false≢true (sym none ∙ first_some (aborted_reads laters) r c)) in (
      walk,
      record {
        closed = shows.closed;
        within = All-weaker (Contains (edges_at keys level ts)) (Contains (edges_at keys level laters)) (edges_stay keys level ts laters nodes_too (pairs_stay keys ts laters grow nodes_too steps)) walk shows.within;
        kinds = shows.kinds;
      },
    )

stays :
    (keys : KeyOrder) (ts laters : List Transaction)
    → AllGrow ts laters
    → ProcessPairsStay keys ts laters
    → HasPhenomenon keys ts
    → HasPhenomenon keys laters
stays keys ts laters grow steps (inl (phenomenon, level, there)) = elim (cases_Bool (is_some (g1a laters))) [
  | inl aborted ↦ inr (or_left (is_some (g1a laters)) (is_some (g1b laters)) aborted)
  | inr none ↦ inl (phenomenon, level, cycle_stays keys ts laters grow steps none phenomenon level there)
]
stays keys ts laters grow steps (inr bad) = elim (or_cases (is_some (g1a ts)) (is_some (g1b ts)) bad) [
  | inl e ↦ inr (or_left (is_some (g1a laters)) (is_some (g1b laters)) (g1a_stays ts laters grow e))
  | inr e ↦ inr (or_right (is_some (g1a laters)) (is_some (g1b laters)) (g1b_stays ts laters grow e))
]

-- ---- the law

pub stay_after_more : (keys : KeyOrder) (events more : List Operation) → KeepsRules (events ++ more) → PhenomenaStay keys events (events ++ more)
stay_after_more keys events more kept =
    stays keys (transactions_of events) (transactions_of (events ++ more)) (all_grow events more kept) (process_pairs_stay keys events more)

-- blocks add events, or none
adds : (test : Bool) (events block : List Operation) → (rest : List Operation) × ((if test then events ++ block else events) ≡ events ++ rest)
adds true events block = (block, refl)
adds false events block = ([], sym (append-nil events))

add : (events : List Operation) (blocks : List (List Operation)) → (rest : List Operation) × (fold events_after events blocks ≡ events ++ rest)
add events [] = ([], sym (append-nil events))
add events (block ∷ blocks) =
    let (front, first) = adds (is_none (first_broken events block)) events block in
    let (back, further) = add (events_after events block) blocks in
    (front ++ back, further ∙ (ap (λ es. es ++ back) first ∙ append_assoc events front back))

pub stay_after_blocks : (keys : KeyOrder) (blocks more : List (List Operation)) → PhenomenaStay keys (events_of blocks) (events_of (blocks ++ more))
stay_after_blocks keys blocks more =
    let (rest, added) = add (events_of blocks) more in
    let is : events_of (blocks ++ more) ≡ events_of blocks ++ rest = fold-append events_after [] blocks more ∙ added in
    subst (PhenomenaStay keys (events_of blocks)) (sym is)
    (stay_after_more keys (events_of blocks) rest (subst KeepsRules is (events_of-kept (blocks ++ more))))
