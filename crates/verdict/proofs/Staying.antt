-- A verdict says refuted exactly where the history has a phenomenon.
use Rattle.std.proofs.Common.{◌≡◌, inl, inr, List, Bool, true, ◌||◌, if◌then◌else◌, Option, Some, None, is_some, refl, ap}
use Rattle.std.proofs.lemmas.Bool.{or_left, or_right}
use Rattle.hist_types.specs.Operations.{Operation}
use Rattle.hist_types.specs.Phenomena.{g1a, g1b, IsThere, HasPhenomenon}
use Rattle.hist_types.specs.Reports.{Findings, finding, Report, IsVerdictOf, names_cycle, names_phenomenon}
use Rattle.hist_types.specs.Transactions.{Transaction, transactions_of}
use Rattle.hist_types.specs.Witness.{Finding, IsFinding}
use Rattle.hist_types.specs.declared.types.KeyOrder.{KeyOrder}
use Rattle.hist_types.specs.declared.types.Level.{Level}
use Rattle.hist_types.specs.declared.types.Phenomenon.{Phenomenon}
use Rattle.hist_types.specs.declared.types.Phenomenon.TheVariants.{G0, G1c, GSingle, G2Item}
use Rattle.hist_types.specs.declared.types.Strict.TheVariants.{Refuted, Open}
use Rattle.report_laws.specs.Growing.{PhenomenaStay}
use Rattle.report_laws.proofs.ExplainedVerdicts.{named, phenomenon_there}
use Rattle.verdict.specs.Staying.{RefutationStays}

is_named : (keys : KeyOrder) (phenomenon : Phenomenon) (level : Level) (ts : List Transaction) (found : Option Finding) → IsFinding keys phenomenon ts found → IsThere keys phenomenon level ts → is_some found ≡ true
is_named keys phenomenon level ts None is there = absurd (is.0 level there)
is_named keys phenomenon level ts (Some found) is there = refl

cycle_named : (found : Findings) (phenomenon : Phenomenon) → is_some (finding found phenomenon) ≡ true → names_cycle found ≡ true
cycle_named found G0 e = rw e refl
cycle_named found G1c e =
    or_left (is_some found.g0 || is_some found.g1c || is_some found.single) (is_some found.item)
    (or_left (is_some found.g0 || is_some found.g1c) (is_some found.single) (or_right (is_some found.g0) (is_some found.g1c) e))
cycle_named found GSingle e =
    or_left (is_some found.g0 || is_some found.g1c || is_some found.single) (is_some found.item)
    (or_right (is_some found.g0 || is_some found.g1c) (is_some found.single) e)
cycle_named found G2Item e = or_right (is_some found.g0 || is_some found.g1c || is_some found.single) (is_some found.item) e

names_it : (keys : KeyOrder) (events : List Operation) (r : Report) → IsVerdictOf keys events r → HasPhenomenon keys (transactions_of events) → names_phenomenon r ≡ true
names_it keys events r is (inl (phenomenon, level, there)) =
    or_left (names_cycle r.findings) (is_some r.g1a || is_some r.g1b)
    (cycle_named r.findings phenomenon (is_named keys phenomenon level (transactions_of events) (finding r.findings phenomenon) (is.findings phenomenon) there))
names_it keys events r is (inr bad) =
    or_right (names_cycle r.findings) (is_some r.g1a || is_some r.g1b) (rw (is.g1a, is.g1b) bad)

pub stays : (keys : KeyOrder) (events later : List Operation) → PhenomenaStay keys events later → RefutationStays keys events later
stays keys events later stay early late is is' says =
    ap (λ (b : Bool). if b then Refuted else Open) (names_it keys later late is' (stay (phenomenon_there keys events early is (named early says))))
