-- Points after one more event, of which only what the event moved was looked at.
use Rattle.std.proofs.Common.{◌≡◌, ◌⊎◌, inl, inr, ℕ, ◌<◌, ◌≤◌, List, [], ◌∷◌, ◌++◌, length, true, not, ◌&&◌, ◌==◌, map, Contains, sym, ◌∙◌, subst, arith}
use Rattle.std.specs.List.{list_any}
use Rattle.std.proofs.lemmas.Bool.{and_parts, and_from, or_cases, or_left, or_right, cases_Bool, eqb-true, eqb-false}
use Rattle.hist_types.specs.Edges.{edge, dependency_edges}
use Rattle.hist_types.specs.Journal.{writes_of, KeepsRules}
use Rattle.hist_types.specs.Operations.{Operation}
use Rattle.hist_types.specs.Transactions.{Transaction, Version, version_of, transactions_of, is_ok, is_failed, installs, is_known_to_read, was_read, is_node, nodes}
use Rattle.hist_types.specs.declared.types.KeyOrder.TheVariants.{Basic}
use Rattle.hist_types.proofs.Members.{In, in_from_Contains, Contains_from_in, in_map, in_filtered, passes_filter}
use Rattle.history_laws.proofs.ThinningPaths.{any_passes}
use Rattle.history_laws.proofs.ThinningTimes.{transactions_timed}
use Rattle.history_laws.proofs.VersionMembers.{in_from_has}
use Rattle.history_laws.proofs.WrittenOnce.{installed_or_over}
use Rattle.clean_order.specs.ByVersion.{IsAnother, DependsBy, Rises}
use Rattle.clean_order.specs.Points.{IsNotBefore, IsNotAfter, ArePoints}
use Rattle.clean_order.proofs.CleanReads.{reader_is_ok}
use Rattle.clean_order.proofs.Dependencies.{node_among, ends_by, edge_by, rises_between}
use Rattle.clean_order.proofs.Points.{by_points, point_begun, point_ended, points_rise}
use Rattle.serial_points.specs.NextPoints.{IsOfEvent, HasMoved, AreNextPoints, PointsMove}
use Rattle.serial_points.proofs.OneEvent.{others_stay}

-- ---- nodes

pub ok_is_node : (ts : List Transaction) (t : Transaction) → In t ts → is_ok t ≡ true → In t (nodes ts)
ok_is_node ts t i ok = in_filtered (is_node ts) t ts i (or_left (is_ok t) (not (is_failed t) && was_read ts t) ok)

-- who installed what another one reads was read
pub installer_was_read :
    (ts : List Transaction) (t u : Transaction) (v : Version)
    → In u ts → installs t v ≡ true → is_known_to_read u v ≡ true → was_read ts t ≡ true
installer_was_read ts t u v j installed read =
    let (w, wrote, makes) = in_map version_of v (writes_of t.mops) (in_from_has v (map version_of (writes_of t.mops)) ((installed_or_over t v).1 (inl installed))) in
    any_passes (λ w. list_any (λ reader. is_known_to_read reader (version_of w)) ts) w (writes_of t.mops) wrote
    (any_passes (λ reader. is_known_to_read reader (version_of w)) u ts j (subst (λ x. is_known_to_read u x ≡ true) (sym makes) read))

-- ---- edges that were there

at_most : (m n : ℕ) {end : ℕ} → m ≤ n → n < end → m < end
at_most m n lower before = omega (arith, lower, before)

module _ (events : List Operation) (event : Operation) (t : Transaction) (kept : KeepsRules (events ++ event ∷ [])) (among : Contains (transactions_of (events ++ event ∷ [])) t)
    (of : IsOfEvent (length events) t) where
  abbrev before : List Transaction
  before = transactions_of events

  abbrev after : List Transaction
  after = transactions_of (events ++ event ∷ [])

  stays : (u : Transaction) → Contains (nodes after) u → IsAnother t u → In u before
  stays u j other = others_stay events event t u (in_from_Contains t after among) of (node_among after u j) other

  -- the first end of an edge into a node that is another one's was a node before
  was_node :
      (s u : Transaction) (v : Version)
      → Contains (nodes after) s
      → IsAnother t s
      → In u before
      → DependsBy v s u
      → Contains (nodes before) s
  was_node s u v i other j (inr (read, follows)) = Contains_from_in s (nodes before) (ok_is_node before s (stays s i other) (reader_is_ok s v read))
  was_node s u v i other j (inl (installed, read)) =
      let there : In s before = stays s i other in
      let node : is_node after s ≡ true = passes_filter (is_node after) s after (in_from_Contains s (nodes after) i) in
      Contains_from_in s (nodes before) (elim (or_cases (is_ok s) (not (is_failed s) && was_read after s) node) [
        | inl ok ↦ ok_is_node before s there ok
        | inr open_or_info ↦
            in_filtered (is_node before) s before there
            (or_right (is_ok s) (not (is_failed s) && was_read before s)
            (and_from (not (is_failed s)) (was_read before s) (and_parts (not (is_failed s)) (was_read after s) open_or_info).0 (installer_was_read before s u v j installed read)))
      ])

  -- ---- the next points

  module _ (point next : ℕ → ℕ) (are : ArePoints Basic before point) (looked : AreNextPoints before after t point next) where
    -- a node, and whether it moved
    moved_or_not :
        (u : Transaction)
        → Contains (nodes after) u
        → HasMoved before t point next u ⊎ (IsAnother t u × Contains (nodes before) u × (next u.invocation ≡ point u.invocation))
    moved_or_not u i = elim (cases_Bool (u.invocation == t.invocation)) [
      | inl own ↦ inl (inl (eqb-true u.invocation t.invocation own))
      | inr other ↦ elim (cases_Bool (is_node before u)) [
        | inr none ↦ inl (inr (inl none))
        | inl node ↦ elim (cases_Bool (next u.invocation == point u.invocation)) [
          | inr differ ↦ inl (inr (inr (eqb-false (next u.invocation) (point u.invocation) differ)))
          | inl same ↦ (
              let another : IsAnother t u = λ e. eqb-false u.invocation t.invocation other (sym e) in
              inr (another, Contains_from_in u (nodes before) (in_filtered (is_node before) u before (stays u i another) node), eqb-true (next u.invocation) (point u.invocation) same))
        ]
      ]
    ]

    begun : (u : Transaction) → Contains (nodes after) u → IsNotBefore (next u.invocation) u
    begun u i = elim (moved_or_not u i) [
      | inl moved ↦ looked.begun u i moved
      | inr (other, there, same) ↦ (let was = point_begun Basic before point are u there in omega (arith, was, same))
    ]

    ended : (u : Transaction) → Contains (nodes after) u → IsNotAfter (next u.invocation) u
    ended u i = elim (cases_Bool (u.invocation == t.invocation)) [
      | inl own ↦ (
          let same : t ≡ u = (transactions_timed (events ++ event ∷ [])).apart t u (in_from_Contains t after among) (node_among after u i) (sym (eqb-true u.invocation t.invocation own)) in
          subst (λ x. IsNotAfter (next x.invocation) x) same looked.ended)
      | inr other ↦ (λ completion ok at.
          let another : IsAnother t u = λ e. eqb-false u.invocation t.invocation other (sym e) in
          let there : Contains (nodes before) u = Contains_from_in u (nodes before) (ok_is_node before u (stays u i another) ok) in
          let was = point_ended Basic before point are u there completion ok at in
          let lower = looked.falls u there another in
          at_most (next u.invocation) (point u.invocation) lower was)
    ]

    forward : Rises next (dependency_edges Basic after)
    forward e c =
        let (s, u, v, ends) = ends_by (events ++ event ∷ []) e kept c in
        elim (cases_Bool (s.invocation == t.invocation)) [
          | inl own ↦ looked.out e c (ends.from ∙ eqb-true s.invocation t.invocation own)
          | inr other ↦ elim (moved_or_not u ends.second) [
            | inl moved ↦ looked.into u ends.second moved e c ends.to
            | inr (another, there, same) ↦ (
                let first : IsAnother t s = λ e. eqb-false s.invocation t.invocation other (sym e) in
                let node : Contains (nodes before) s = was_node s u v ends.first first (node_among before u there) ends.depends in
                let (label, old) = edge_by Basic before v s u node there ends.other ends.depends in
                let was = points_rise Basic before point are (edge s u label) old in
                let lower = looked.falls s node first in
                let rises : next s.invocation < next u.invocation = omega (arith, was, lower, same) in
                rises_between next e s.invocation u.invocation ends.from ends.to rises)
          ]
        ]

pub points_move :
    (events : List Operation) (event : Operation)
    → KeepsRules (events ++ event ∷ [])
    → PointsMove events event
points_move events event kept t point next i of are looked =
    by_points Basic (transactions_of (events ++ event ∷ [])) next (begun events event t kept i of point next are looked)
    (ended events event t kept i of point next are looked) (forward events event t kept i of point next are looked)
