-- Two transactions that depend on each other do so by way of versions, and a walk of two edges that
-- shows a phenomenon is of two such transactions.
use Rattle.std.proofs.Common.{◌≡◌, ◌∙◌, ◌<◌, ◌≤◌, ◌+◌, ◌⊎◌, inl, inr, ℕ, List, [], ◌∷◌, ◌++◌, length, get_or, map, true, false, Option, Some, None, All, Contains, refl, sym, ap, subst, arith}
use Rattle.std.specs.List.{AllByRecursion, list_all}
use Rattle.std.specs.Option.{is_some}
use Rattle.std.specs.Prelude.{slice_get}
use Rattle.std.proofs.lemmas.Bool.{false≢true, cases_lt, and_parts}
use Rattle.std.proofs.lemmas.List.{get_or_default, length-map}
use Rattle.std.proofs.lemmas.Option.{slice_get_within, slice_get-get_or, get_or_from_slice_get}
use Rattle.flat_groups.specs.Groups.{group, groups_from}
use Rattle.hist_types.specs.Edges.{Label, ww, wr, rw, process, realtime, Edge, dependency_edges, edges_at}
use Rattle.hist_types.specs.Phenomena.{Leads, is_rw}
use Rattle.hist_types.specs.Transactions.{Transaction, Version, is_node, nodes, installs, installed_by, is_known_to_read, writes}
use Rattle.hist_types.specs.Versions.{pair, version_pairs, process_pairs}
use Rattle.hist_types.specs.Witness.{dependencies_in}
use Rattle.hist_types.specs.declared.types.KeyOrder.{KeyOrder}
use Rattle.hist_types.specs.declared.types.Level.TheVariants.{Plain}
use Rattle.hist_types.specs.declared.types.Phenomenon.{Phenomenon}
use Rattle.hist_types.specs.declared.types.Phenomenon.TheVariants.{G0, G1c, GSingle, G2Item}
use Rattle.hist_types.proofs.Members.{In, in_from_Contains, Contains_from_in, in_mapped, in_map, in_filter, in_append, in_front, in_back}
use Rattle.history_laws.specs.Dependencies.{Depends}
use Rattle.history_laws.specs.WaysBack.{is_needed, may_lead_back}
use Rattle.history_laws.proofs.DependencyEdges.{edges_by_versions}
use Rattle.history_laws.proofs.Fewest.{few_by_one}
use Rattle.history_laws.proofs.ThinningPaths.{any_passes}
use Rattle.history_laws.proofs.ThinningWalks.{within_in}
use Rattle.history_laws.proofs.VersionMembers.{in_from_has}
use Rattle.history_laws.proofs.WrittenOnce.{one_writer}
use Rattle.key_versions.specs.Histories.{read_by, writer_of, readers_of, followers_of, installs_behind}
use Rattle.key_versions.specs.Tables.{IsTableOf, versions_at}
use Rattle.key_versions.specs.declared.types.Follower.{Follower}
use Rattle.key_versions.specs.declared.types.Writer.{Writer}
use Rattle.dep_edges.specs.Histories.{AreOfHistory, History}
use Rattle.dep_edges.specs.Tables.{IsPlace, IsNumber, txn_at, version_at, later_in, IsBehind}
use Rattle.dep_edges.proofs.Lists.{all_in}
use Rattle.dep_edges.proofs.Marks.{to_some_place, each_of}
use Rattle.dep_edges.proofs.Out.{pair_is_behind}
use Rattle.dep_edges.proofs.Places.{from_some_place, versions_told, numbers_within, named_once, installed_written}
use Rattle.dep_edges.proofs.Writers.{has_writer, writer_wrote}
use Rattle.edge_graph.specs.Kinds.{includes, kinds_of, has_ww, has_wr, has_rw}
use Rattle.edge_graph.specs.declared.types.Dependencies.{Dependencies}
use Rattle.edge_graph.specs.declared.types.Dependencies.TheVariants as dependencies
use Rattle.edge_graph.proofs.Txns.{txn_there, txn_in, place_by, one_place, reader_at, at_reader, read_to}
use Rattle.cycle_find.specs.Dependencies.{needed, way_back, direct_back}
use Rattle.cycle_find.specs.Found.{NeedsMoreThan}
use Rattle.cycle_find.specs.Single.{HasDependency, IsDependencyBetween, AreMutual}
use Rattle.cycle_find.proofs.Closing.{back_kind}
use Rattle.cycle_find.proofs.Grouped.{group_has, group_at}
use Rattle.cycle_find.proofs.Returning.{needed_label as is_label}
use Rattle.cycle_find.proofs.ThereAndBack.{depend}
use Rattle.cycle_find.proofs.TwoEdges.{no_loop, all_counted}
use Rattle.cycle_find.specs.TwoDependencies.{IsReader, IsFollower, IsInstaller, IsStart, IsEnd, IsWay, IsTwoOr, NoPair, NoneBy, NoneByTwo, HasFollowers, AreFollowed, places_of}
use Rattle.cycle_find.specs.declared.two_dependencies.TwoDependencies.{TwoDependencies}

module _ (h : History) where
  -- the transactions at the ends of a dependency edge
  pub ends_of : (e : Edge) → Contains (dependency_edges h.table.keys h.txns) e
      → (from to : ℕ) × IsPlace h.txns from × IsPlace h.txns to × (¬ (from ≡ to)) × (e.from ≡ (txn_at h.txns from).invocation) × (e.to ≡ (txn_at h.txns to).invocation)
      × Depends h.table.keys h.txns (txn_at h.txns from) (txn_at h.txns to) e.label
  ends_of e c =
      let (t, u, first, second, other, is, depends) = (edges_by_versions h.table.keys h.txns e).0 c in
      let (from, h', at) = place_by h.txns t (in_filter (is_node h.txns) t h.txns (in_from_Contains t (nodes h.txns) first)) in
      let (to, k', at') = place_by h.txns u (in_filter (is_node h.txns) u h.txns (in_from_Contains u (nodes h.txns) second)) in
      let invocation = λ (x : Transaction). x.invocation in (
        from,
        to,
        h',
        k',
        (λ same. other (ap invocation (sym at) ∙ ap (λ n. (txn_at h.txns n).invocation) same ∙ ap invocation at')),
        ap (λ (d : Edge). d.from) is ∙ ap invocation (sym at),
        ap (λ (d : Edge). d.to) is ∙ ap invocation (sym at'),
        subst (λ x. Depends h.table.keys h.txns x (txn_at h.txns to) e.label) (sym at) (subst (λ x. Depends h.table.keys h.txns t x e.label) (sym at') depends),
      )

  -- ---- what rows list

  follows_at : (version place : ℕ) (w : Version) → IsPlace h.txns place → In w (installs_behind (process_pairs h.table.keys h.txns) (txn_at h.txns place) (version_at h.table version)) → IsFollower h version place
  follows_at version place w there behind =
      let v = version_at h.table version in
      let at : 0 + place ≡ place = omega arith in
      let f = λ (place : ℕ) (t : Transaction). map (λ w. (place, w)) (installs_behind (process_pairs h.table.keys h.txns) t v) in (
        w,
        Contains_from_in (place, w) (followers_of h.table.keys h.txns v)
            (to_some_place f 0 h.txns place (txn_at h.txns place) (place, w) (txn_there h.txns place there)
            (subst (λ n. In (place, w) (f n (txn_at h.txns place))) (sym at) (in_mapped (λ (w : Version). (place, w)) w (installs_behind (process_pairs h.table.keys h.txns) (txn_at h.txns place) v) behind))),
      )

  pub follower_place : (version place : ℕ) → IsFollower h version place → IsPlace h.txns place
  follower_place version place (w, there) =
      let steps = process_pairs h.table.keys h.txns in
      let v = version_at h.table version in
      let (j, u, get, among) = from_some_place (λ place t. map (λ w. (place, w)) (installs_behind steps t v)) 0 h.txns (place, w) (in_from_Contains (place, w) _ there) in
      let (w', behind, is) = in_map (λ (w : Version). (0 + j, w)) (place, w) (installs_behind steps u v) among in
      omega (arith, slice_get_within h.txns j u get, ap (λ (p : ℕ × Version). p.0) is)

  -- followers by their places
  pub places_listed :
      (version : ℕ) (fs : List Follower) → map (later_in h.table) fs ≡ followers_of h.table.keys h.txns (version_at h.table version)
      → (place : ℕ) → IsFollower h version place → Contains (places_of fs) place
  places_listed version fs told place (w, there) =
      let (f, among, is) = in_map (later_in h.table) (place, w) fs (subst (In (place, w)) (sym told) (in_from_Contains (place, w) _ there)) in
      Contains_from_in place (places_of fs) (subst (λ p. In p (places_of fs)) (ap (λ (p : ℕ × Version). p.0) is) (in_mapped (λ (f : Follower). f.txn) f fs among))

  pub places_within : (v : Version) (fs : List Follower) → All (IsBehind h.txns h.table v) fs → All (IsPlace h.txns) (places_of fs)
  places_within v fs behind =
      all_in (IsPlace h.txns) (places_of fs) (λ p i.
      let (f, among, is) = in_map (λ (f : Follower). f.txn) p fs i in
      subst (IsPlace h.txns) is (each_of (IsBehind h.txns h.table v) fs f behind among).place)

  pub follower_listed :
      (version place : ℕ) (fs : List Follower) → map (later_in h.table) fs ≡ followers_of h.table.keys h.txns (version_at h.table version) → IsFollower h version place
      → (k : ℕ) × (k < length fs) × ((get_or fs k (record { txn = 0; version = 0 })).txn ≡ place)
  follower_listed version place fs told (w, there) =
      let (f, among, is) = in_map (later_in h.table) (place, w) fs (subst (In (place, w)) (sym told) (in_from_Contains (place, w) _ there)) in
      let (k, below, same) = Contains_from_in f fs among in
      (k, below, ap (λ (f : Follower). f.txn) (get_or_default fs k (record { txn = 0; version = 0 }) f below ∙ same) ∙ ap (λ (p : ℕ × Version). p.0) is)

  -- ---- a walk of two edges is of two such transactions

  abbrev es : List Edge
  es = edges_at h.table.keys Plain h.txns

  abbrev Mutual : Phenomenon → (from to : ℕ) → Type 0
  Mutual phenomenon = AreMutual h (needed phenomenon) (way_back phenomenon)

  closes :
      (phenomenon : Phenomenon) (e : Edge) (rest : List Edge) → In e es → is_needed phenomenon e ≡ true → Leads e.to rest e.from → AllByRecursion (λ (d : Edge). In d es) rest
      → list_all (may_lead_back phenomenon) rest ≡ true → length rest ≤ 1 → (from to : ℕ) × Mutual phenomenon from to
  closes phenomenon e [] i is leads within back few = absurd (no_loop h.table.keys h.txns e (depend h e i) leads)
  closes phenomenon e (f ∷ []) i is leads within back few =
      let c = Contains_from_in e _ (depend h e i) in
      let d = Contains_from_in f _ (depend h f within.0) in
      let (from, to, first, last, other, begins, ends, depends) = ends_of e c in (
        from,
        to,
        record {
          first = first;
          last = last;
          leads = (e, record { among = c; kind = is_label phenomenon e.from e.to e.label is; joins = record { begins = begins; ends = ends } });
          returns = (
            f,
            record {
              among = d;
              kind = sym (back_kind phenomenon Plain f) ∙ (and_parts (may_lead_back phenomenon f) true back).0;
              joins = record { begins = leads.0 ∙ ends; ends = leads.1 ∙ begins };
            },
          );
        },
      )
  closes phenomenon e (f ∷ d ∷ rest) i is leads within back few = absurd (omega (arith, few))

  pub needs_more : (phenomenon : Phenomenon) → ((from to : ℕ) → ¬ Mutual phenomenon from to) → NeedsMoreThan 2 phenomenon es
  needs_more phenomenon none walk is = elim (cases_lt 2 (dependencies_in walk)) [
    | inl more ↦ more
    | inr few ↦
        let (e, among, needs, rest, back, fewer) = (few_by_one phenomenon es 1).0 (walk, is, few) in
        let within = within_in es rest back.within in
        let (from, to, both) = closes phenomenon e rest (in_from_Contains e es among) needs back.leads within back.kinds (omega (arith, fewer, all_counted h.table.keys h.txns es (depend h) rest within)) in
        absurd (none from to both)
  ]

module _ (h : History) (kept : AreOfHistory h.txns) where
  -- what the ends of an edge between two places depend on each other for
  pub depends_between :
      (kind : Dependencies) (from to : ℕ) → IsPlace h.txns from → IsPlace h.txns to → (e : Edge) → IsDependencyBetween h (kinds_of kind Plain) from to e
      → (¬ (from ≡ to)) × Depends h.table.keys h.txns (txn_at h.txns from) (txn_at h.txns to) e.label
  depends_between kind from to first last e is =
      let (from', to', first', last', other, begins, ends, depends) = ends_of h e is.among in
      let one : from' ≡ from = one_place h.txns kept from' from first' first (sym begins ∙ is.joins.begins) in
      let two : to' ≡ to = one_place h.txns kept to' to last' last (sym ends ∙ is.joins.ends) in (
        (λ same. other (one ∙ same ∙ sym two)),
        subst (λ n. Depends h.table.keys h.txns (txn_at h.txns n) (txn_at h.txns to) e.label) one (subst (λ n. Depends h.table.keys h.txns (txn_at h.txns from') (txn_at h.txns n) e.label) two depends),
      )

  module _ (table : IsTableOf h.table.keys h.txns h.table) where
    -- what a transaction reads or installs has a number
    numbered :
        (f : Transaction → List Version) (lists : List (List ℕ)) → map (versions_at h.table.versions) lists ≡ map (λ t. map Some (f t)) h.txns
        → (place : ℕ) → IsPlace h.txns place → (v : Version) → In v (f (txn_at h.txns place)) → (n : ℕ) × IsNumber h.table n × (version_at h.table n ≡ v)
    numbered f lists are place there v i =
        let count : length lists ≡ length h.txns = sym (length-map lists (versions_at h.table.versions)) ∙ ap length are ∙ length-map h.txns (λ t. map Some (f t)) in
        let ns = get_or lists place [] in
        let at : slice_get lists place ≡ Some ns = slice_get-get_or lists place [] (omega (arith, count, there)) in
        let told = versions_told f h.txns h.table lists place ns are at in
        let (n, among, is) = in_map (version_at h.table) v ns (subst (In v) (sym told) i) in
        (n, each_of (IsNumber h.table) ns n (numbers_within f h.txns h.table lists place ns are at) among, is)

    abbrev By : (Start End : ℕ → Type 0) → Type 0
    By Start End = (n : ℕ) × IsNumber h.table n × Start n × End n

    installed : (place : ℕ) (v : Version) → IsPlace h.txns place → installs (txn_at h.txns place) v ≡ true → (n : ℕ) × IsNumber h.table n × IsInstaller h n place × (version_at h.table n ≡ v)
    installed place v there does =
        let among = in_from_has v (installed_by (txn_at h.txns place)) does in
        let (n, number, is) = numbered installed_by h.table.installs table.installs place there v among in
        (n, number, (there, subst (Contains (installed_by (txn_at h.txns place))) (sym is) (Contains_from_in v (installed_by (txn_at h.txns place)) among)), is)

    follower : (n place : ℕ) (v w : Version) → IsPlace h.txns place → version_at h.table n ≡ v → installs (txn_at h.txns place) w ≡ true → Contains (version_pairs h.table.keys h.txns) (pair v w) → IsFollower h n place
    follower n place v w there is does paired =
        follows_at h n place w there
        (subst (λ x. In w (installs_behind (process_pairs h.table.keys h.txns) (txn_at h.txns place) x)) (sym is)
        (pair_is_behind h.table.keys h.txns kept (txn_at h.txns place) v w (txn_in h.txns place there) does paired))

    reader : (n place : ℕ) (v : Version) → IsPlace h.txns place → version_at h.table n ≡ v → is_known_to_read (txn_at h.txns place) v ≡ true → IsReader h n place
    reader n place v there is does =
        Contains_from_in place (readers_of h.txns (version_at h.table n)) (at_reader h.txns (version_at h.table n) place there (subst (λ x. is_known_to_read (txn_at h.txns place) x ≡ true) (sym is) does))

    by_ww : (from to : ℕ) (v w : Version) → IsPlace h.txns from → IsPlace h.txns to → Depends h.table.keys h.txns (txn_at h.txns from) (txn_at h.txns to) (ww v w) → By (λ n. IsInstaller h n from) (λ n. IsFollower h n to)
    by_ww from to v w first last (paired, before, after) =
        let (n, number, start, is) = installed from v first before in
        (n, number, start, follower n to v w last is after paired)

    by_wr : (from to : ℕ) (v : Version) → IsPlace h.txns from → IsPlace h.txns to → Depends h.table.keys h.txns (txn_at h.txns from) (txn_at h.txns to) (wr v) → By (λ n. IsInstaller h n from) (λ n. IsReader h n to)
    by_wr from to v first last (before, after) =
        let (n, number, start, is) = installed from v first before in
        (n, number, start, reader n to v last is after)

    by_rw : (from to : ℕ) (v w : Version) → IsPlace h.txns from → IsPlace h.txns to → Depends h.table.keys h.txns (txn_at h.txns from) (txn_at h.txns to) (rw v w) → By (λ n. IsReader h n from) (λ n. IsFollower h n to)
    by_rw from to v w first last (paired, before, after) =
        let (n, number, is) = numbered read_by h.table.reads table.reads from first v (read_to (txn_at h.txns from) v before) in
        (n, number, reader n from v first is before, follower n to v w last is after paired)

    -- ---- an edge goes by way of a version

    abbrev Way : Dependencies → (from to : ℕ) → Type 0
    Way kind from to = (version : ℕ) × IsWay h kind from version to

    way : (kind : Dependencies) (from to : ℕ) → (¬ (from ≡ to)) → By (λ n. IsStart h kind n from) (λ n. IsEnd h kind n to) → Way kind from to
    way kind from to other (n, number, start, end) = (n, record { number = number; start = start; end = end; other = other })

    way_of :
        (kind : Dependencies) (from to : ℕ) (label : Label) → IsPlace h.txns from → IsPlace h.txns to → (¬ (from ≡ to)) → (¬ (kind ≡ dependencies.All))
        → includes (kinds_of kind Plain) label ≡ true → Depends h.table.keys h.txns (txn_at h.txns from) (txn_at h.txns to) label → Way kind from to
    way_of kind from to (process p) first last other few is depends = absurd depends
    way_of kind from to (realtime p q) first last other few is depends = absurd depends
    way_of dependencies.Ww from to (ww v w) first last other few is depends =
        let (n, number, start, end) = by_ww from to v w first last depends in
        way dependencies.Ww from to other (n, number, start, inr (refl, end))
    way_of dependencies.Wr from to (wr v) first last other few is depends =
        let (n, number, start, end) = by_wr from to v first last depends in
        way dependencies.Wr from to other (n, number, start, inl (refl, end))
    way_of dependencies.Rw from to (rw v w) first last other few is depends =
        let (n, number, start, end) = by_rw from to v w first last depends in
        way dependencies.Rw from to other (n, number, start, inr (refl, end))
    way_of dependencies.WrAndWw from to (ww v w) first last other few is depends =
        let (n, number, start, end) = by_ww from to v w first last depends in
        way dependencies.WrAndWw from to other (n, number, start, inr (refl, end))
    way_of dependencies.WrAndWw from to (wr v) first last other few is depends =
        let (n, number, start, end) = by_wr from to v first last depends in
        way dependencies.WrAndWw from to other (n, number, start, inl (refl, end))
    way_of dependencies.None from to (ww v w) first last other few is depends = absurd (false≢true is)
    way_of dependencies.None from to (wr v) first last other few is depends = absurd (false≢true is)
    way_of dependencies.None from to (rw v w) first last other few is depends = absurd (false≢true is)
    way_of dependencies.Ww from to (wr v) first last other few is depends = absurd (false≢true is)
    way_of dependencies.Ww from to (rw v w) first last other few is depends = absurd (false≢true is)
    way_of dependencies.Wr from to (ww v w) first last other few is depends = absurd (false≢true is)
    way_of dependencies.Wr from to (rw v w) first last other few is depends = absurd (false≢true is)
    way_of dependencies.Rw from to (ww v w) first last other few is depends = absurd (false≢true is)
    way_of dependencies.Rw from to (wr v) first last other few is depends = absurd (false≢true is)
    way_of dependencies.WrAndWw from to (rw v w) first last other few is depends = absurd (false≢true is)
    way_of dependencies.All from to (ww v w) first last other few is depends = absurd (few refl)
    way_of dependencies.All from to (wr v) first last other few is depends = absurd (few refl)
    way_of dependencies.All from to (rw v w) first last other few is depends = absurd (few refl)

    pub way_there : (kind : Dependencies) (from to : ℕ) → (¬ (kind ≡ dependencies.All)) → IsPlace h.txns from → IsPlace h.txns to → HasDependency h kind from to → Way kind from to
    way_there kind from to few first last (e, is) =
        let (other, depends) = depends_between kind from to first last e is in
        way_of kind from to e.label first last other few is.kind depends

    -- ---- rows by number

    pub reads_listed : (place : ℕ) (ns : List ℕ) → map (version_at h.table) ns ≡ read_by (txn_at h.txns place) → All (IsNumber h.table) ns → (n : ℕ) → IsNumber h.table n → IsReader h n place → Contains ns n
    reads_listed place ns told within n number reads =
        let (there, does) = reader_at h.txns (version_at h.table n) place (in_from_Contains place _ reads) in
        let (m, among, is) = in_map (version_at h.table) (version_at h.table n) ns (subst (In (version_at h.table n)) (sym told) (read_to (txn_at h.txns place) (version_at h.table n) does)) in
        let same : m ≡ n = named_once h.table.keys h.txns h.table table m n (each_of (IsNumber h.table) ns m within among) number is in
        subst (Contains ns) same (Contains_from_in m ns among)

    pub installs_listed : (place : ℕ) (ns : List ℕ) → map (version_at h.table) ns ≡ installed_by (txn_at h.txns place) → All (IsNumber h.table) ns → (n : ℕ) → IsNumber h.table n → IsInstaller h n place → Contains ns n
    installs_listed place ns told within n number (there, does) =
        let (m, among, is) = in_map (version_at h.table) (version_at h.table n) ns (subst (In (version_at h.table n)) (sym told) (in_from_Contains _ _ does)) in
        let same : m ≡ n = named_once h.table.keys h.txns h.table table m n (each_of (IsNumber h.table) ns m within among) number is in
        subst (Contains ns) same (Contains_from_in m ns among)

  -- one transaction wrote what a transaction installs
  pub installer_writes :
      (version place : ℕ) (r : Option Writer) → r ≡ writer_of h.txns (version_at h.table version) → IsInstaller h version place
      → (w : Writer) × (r ≡ Some w) × (w.txn ≡ place)
  installer_writes version place None is (there, does) =
      let v = version_at h.table version in
      let t = txn_at h.txns place in
      let wrote = installed_written t v (in_from_Contains v (installed_by t) does) in
      absurd (false≢true (ap is_some is ∙ has_writer h.txns v ∙ any_passes (λ (u : Transaction). writes u v) t h.txns (txn_in h.txns place there) wrote))
  installer_writes version place (Some w) is (there, does) =
      let v = version_at h.table version in
      let t = txn_at h.txns place in
      let wrote = installed_written t v (in_from_Contains v (installed_by t) does) in
      let at = writer_wrote h.txns v w (sym is) in
      let (events, keeps, of) = kept in
      let one : txn_at h.txns w.txn ≡ t = one_writer events keeps (txn_at h.txns w.txn) t (subst (λ us. Contains us (txn_at h.txns w.txn)) of at.among) (subst (λ us. Contains us t) of (Contains_from_in t h.txns (txn_in h.txns place there))) v at.wrote wrote in
      (w, refl, one_place h.txns kept w.txn place (slice_get_within h.txns w.txn (txn_at h.txns w.txn) at.place) there (ap (λ (x : Transaction). x.invocation) one))

pub all_both : (P : ℕ → Type 0) (xs ys : List ℕ) → All P xs → All P ys → All P (xs ++ ys)
all_both P xs ys first second = all_in P (xs ++ ys) (λ x i. elim (in_append x xs ys i) [ inl j ↦ each_of P xs x first j | inr j ↦ each_of P ys x second j ])

pub in_either : (xs ys : List ℕ) (x : ℕ) → Contains xs x ⊎ Contains ys x → Contains (xs ++ ys) x
in_either xs ys x (inl i) = Contains_from_in x (xs ++ ys) (in_front x xs ys (in_from_Contains x xs i))
in_either xs ys x (inr i) = Contains_from_in x (xs ++ ys) (in_back x xs ys (in_from_Contains x ys i))

-- an rw edge leads to a follower
pub rw_end : (h : History) (version place : ℕ) → IsEnd h dependencies.Rw version place → IsFollower h version place
rw_end h version place (inl (is, reads)) = absurd (false≢true is)
rw_end h version place (inr (is, follows)) = follows

-- ---- what searches find

needed_few : (phenomenon : Phenomenon) → ¬ (needed phenomenon ≡ dependencies.All)
needed_few G0 same = absurd (false≢true (ap has_wr same))
needed_few G1c same = absurd (false≢true (ap has_ww same))
needed_few GSingle same = absurd (false≢true (ap has_ww same))
needed_few G2Item same = absurd (false≢true (ap has_ww same))

direct_few : (phenomenon : Phenomenon) → ¬ (direct_back phenomenon ≡ dependencies.All)
direct_few G0 same = absurd (false≢true (ap has_wr same))
direct_few G1c same = absurd (false≢true (ap has_rw same))
direct_few GSingle same = absurd (false≢true (ap has_rw same))
direct_few G2Item same = absurd (false≢true (ap has_rw same))

rw_or_direct :
    (keys : KeyOrder) (ts : List Transaction) (t u : Transaction) (label : Label) → Depends keys ts t u label
    → (includes (kinds_of dependencies.Rw Plain) label ≡ true) ⊎ (includes (kinds_of dependencies.WrAndWw Plain) label ≡ true)
rw_or_direct keys ts t u (ww v w) depends = inr refl
rw_or_direct keys ts t u (wr v) depends = inr refl
rw_or_direct keys ts t u (rw v w) depends = inl refl
rw_or_direct keys ts t u (process p) depends = absurd depends
rw_or_direct keys ts t u (realtime p q) depends = absurd depends

-- a ww or wr edge leaves one that installs
pub starts_installed : (h : History) (kind : Dependencies) (version place : ℕ) → ¬ (kind ≡ dependencies.Rw) → IsStart h kind version place → IsInstaller h version place
starts_installed h dependencies.None version place other start = start
starts_installed h dependencies.Ww version place other start = start
starts_installed h dependencies.Wr version place other start = start
starts_installed h dependencies.Rw version place other start = absurd (other refl)
starts_installed h dependencies.WrAndWw version place other start = start
starts_installed h dependencies.All version place other start = start

pub direct_start : (h : History) (phenomenon : Phenomenon) (version place : ℕ) → IsStart h (direct_back phenomenon) version place → IsInstaller h version place
direct_start h G0 version place start = start
direct_start h G1c version place start = start
direct_start h GSingle version place start = start
direct_start h G2Item version place start = start

pub same_back : (phenomenon : Phenomenon) → ¬ (phenomenon ≡ G2Item) → direct_back phenomenon ≡ way_back phenomenon
same_back G0 other = refl
same_back G1c other = refl
same_back GSingle other = refl
same_back G2Item other = absurd (other refl)

-- ---- a walk, or nothing

pub two_or : (search : TwoDependencies) (A B : Type 0) (found : Option (List Edge)) → (A → B) → IsTwoOr search A found → IsTwoOr search B found
two_or search A B None f is = f is
two_or search A B (Some walk) f is = is

pub two_otherwise : (search : TwoDependencies) (A : Type 0) (found : Option (List Edge)) → is_some found ≡ false → IsTwoOr search A found → A
two_otherwise search A None none is = is
two_otherwise search A (Some walk) none is = absurd (false≢true (sym none))

-- the way back of G2-item is by an rw edge, or by another one
pub none_at_all : (search : TwoDependencies) → search.phenomenon ≡ G2Item → NoPair search dependencies.Rw → NoPair search (direct_back search.phenomenon) → NoPair search (way_back search.phenomenon)
none_at_all search item by_two directly from to pair =
    let h = search.deps.now in
    let (e, is) = pair.returns in
    let (t, u, first, second, other, same, depends) = (edges_by_versions h.table.keys h.txns e).0 is.among in
    elim (rw_or_direct h.table.keys h.txns t u e.label depends) [
      | inl is_rw ↦ by_two from to (record { first = pair.first; last = pair.last; leads = pair.leads; returns = (e, record { among = is.among; kind = is_rw; joins = is.joins }) })
      | inr direct ↦ directly from to (record {
        first = pair.first;
        last = pair.last;
        leads = pair.leads;
        returns = (e, record { among = is.among; kind = subst (λ p. includes (kinds_of (direct_back p) Plain) e.label ≡ true) (sym item) direct; joins = is.joins });
      })
    ]

module _ (search : TwoDependencies) (kept : AreOfHistory search.deps.now.txns) (table : IsTableOf search.deps.now.table.keys search.deps.now.txns search.deps.now.table) where
  pub none_by_versions : ((version : ℕ) → IsNumber search.deps.now.table version → NoneBy search version) → NoPair search (direct_back search.phenomenon)
  none_by_versions none from to pair =
      let h = search.deps.now in
      let (version, there) = way_there h kept table (needed search.phenomenon) from to (needed_few search.phenomenon) pair.first pair.last pair.leads in
      let (other, back) = way_there h kept table (direct_back search.phenomenon) to from (direct_few search.phenomenon) pair.last pair.first pair.returns in
      none version there.number other from to there back pair

  pub none_by_two : search.phenomenon ≡ G2Item → ((version : ℕ) → IsNumber search.deps.now.table version → NoneByTwo search version) → NoPair search dependencies.Rw
  none_by_two item none from to pair =
      let h = search.deps.now in
      let few : ¬ (dependencies.Rw ≡ dependencies.All) = needed_few GSingle in
      let (version, there) = way_there h kept table dependencies.Rw from to few pair.first pair.last (subst (λ p. HasDependency h (needed p) from to) item pair.leads) in
      let (other, back) = way_there h kept table dependencies.Rw to from few pair.last pair.first pair.returns in
      none version there.number from other to there back pair

  pub all_followed :
      (pairs : List (ℕ × ℕ)) (followed : List (List ℕ)) → followed ≡ groups_from 0 (length search.deps.now.txns) pairs
      → ((version : ℕ) → IsNumber search.deps.now.table version → HasFollowers search version pairs) → AreFollowed search followed
  all_followed pairs followed is all version place number follows =
      let n = length search.deps.now.txns in
      let there = follower_place search.deps.now version place follows in
      let group_is = get_or_from_slice_get (groups_from 0 n pairs) place (group (0 + place) pairs) [] (group_at 0 n place pairs there) in
      let zero : 0 + place ≡ place = omega arith in
      subst (λ xs. Contains xs version) (sym (ap (λ gs. get_or gs place []) is ∙ group_is ∙ ap (λ n. group n pairs) zero))
      (Contains_from_in version (group place pairs) (group_has place version pairs (in_from_Contains (place, version) pairs (all version number place follows))))
