-- What a look at each version gives, and what all looks rule out.
use Rattle.std.proofs.Common.{◌≡◌, ℕ, ◌+◌, ◌<◌, List, [], ◌∷◌, length, Bool, true, false, not, ◌&&◌, ◌||◌, ◌==◌, if◌then◌else◌, Contains, map, flat_map, fold, ◌++◌, Option, Some, None, option_to_list, refl, sym, ◌∙◌, ap, subst, arith, inl, inr}
use Rattle.std.specs.List.{list_any}
use Rattle.std.proofs.lemmas.Bool.{false≢true, not-true, cases_lt}
use Rattle.std.proofs.lemmas.List.Elements.{Contains-append_cases, Contains-append_left, Contains-append_right}
use Rattle.std.proofs.lemmas.Option.{none-some, same_Some}
use Rattle.hist_types.specs.Atoms.{Atom, atom_eq}
use Rattle.hist_types.specs.Operations.{Mop, read, write}
use Rattle.hist_types.specs.Phenomena.{for_each_read, first_of, bad_read, aborted_writers, intermediate_writers, is_stray, g1a, g1b, stray}
use Rattle.hist_types.specs.Transactions.{Transaction, Version, is_ok, is_known_to_read, reads_after, external_reads, has_version}
use Rattle.hist_types.specs.declared.types.KeyOrder.{KeyOrder}
use Rattle.hist_types.proofs.Members.{In, in_from_Contains, Contains_from_in}
use Rattle.history_laws.proofs.ThinningPaths.{any_passes}
use Rattle.history_laws.proofs.VersionMembers.{in_from_has, has_from_in}
use Rattle.key_versions.specs.Histories.{named_in, named_by, read_by, readers_of, writer_of}
use Rattle.key_versions.specs.Tables.{Table, IsTableOf}
use Rattle.key_versions.specs.declared.types.Writer.{Writer}
use Rattle.dep_edges.specs.Histories.{History}
use Rattle.dep_edges.specs.Pieces.{Piece, ArePiecesOf, Sees, possible_in, read_writer, unfailed_place}
use Rattle.dep_edges.specs.Possible.{RulesOut, RulesOutReads, either}
use Rattle.dep_edges.specs.Tables.{version_at}
use Rattle.dep_edges.specs.declared.possible.Possible.{Possible}
use Rattle.dep_edges.proofs.Lists.{within_at}
use Rattle.dep_edges.proofs.Marks.{place_in, to_some_place, has_one, in_if, version_is}
use Rattle.dep_edges.proofs.Writers.{reads_by_transaction}

pub and_none : (b : Bool) → (b && false) ≡ false
and_none true = refl
and_none false = refl

neither : (a b : Bool) → (a || b) ≡ false → (a ≡ false) × (b ≡ false)
neither true b e = elim (false≢true (sym e)) [ ]
neither false b e = (refl, e)

-- ---- what is possible may grow

pub out_before : (ts : List Transaction) (v : Version) (p q : Possible) → RulesOut ts v p → RulesOut ts v (either p q)
out_before ts v p q out = record {
  aborted = λ e. out.aborted (neither p.aborted q.aborted e).0;
  intermediate = λ e. out.intermediate (neither p.intermediate q.intermediate e).0;
  stray = λ e. out.stray (neither p.stray q.stray e).0;
}

pub out_behind : (ts : List Transaction) (v : Version) (p q : Possible) → RulesOut ts v q → RulesOut ts v (either p q)
out_behind ts v p q out = record {
  aborted = λ e. out.aborted (neither p.aborted q.aborted e).1;
  intermediate = λ e. out.intermediate (neither p.intermediate q.intermediate e).1;
  stray = λ e. out.stray (neither p.stray q.stray e).1;
}

more_ruled : (ts : List Transaction) (v : Version) (start : Possible) (pieces : List Piece) → RulesOut ts v start → RulesOut ts v (fold (λ p (piece : Piece). either p piece.possible) start pieces)
more_ruled ts v start [] out = out
more_ruled ts v start (piece ∷ pieces) out = more_ruled ts v (either start piece.possible) pieces (out_before ts v start piece.possible out)

one_ruled : (ts : List Transaction) (v : Version) (start : Possible) (pieces : List Piece) (piece : Piece) → In piece pieces → RulesOut ts v piece.possible → RulesOut ts v (fold (λ p (piece : Piece). either p piece.possible) start pieces)
one_ruled ts v start (q ∷ pieces) piece (inl e) out =
    more_ruled ts v (either start q.possible) pieces (out_behind ts v start q.possible (subst (λ (r : Piece). RulesOut ts v r.possible) (sym e) out))
one_ruled ts v start (q ∷ pieces) piece (inr i) out = one_ruled ts v (either start q.possible) pieces piece i out
one_ruled ts v start [] piece i out = elim i [ ]

-- ---- what is read has readers, and is among the versions

reads_it : (ok : Bool) (v : Version) (vs : List Version) → In v (if ok then vs else []) → (ok && has_version vs v) ≡ true
reads_it true v vs i = has_from_in v vs i
reads_it false v vs i = elim i [ ]

pub read_by_some : (ts : List Transaction) (t : Transaction) (v : Version) → Contains ts t → Contains (read_by t) v → not (length (readers_of ts v) == 0) ≡ true
read_by_some ts t v there seen =
    let (j, get) = place_in ts t (in_from_Contains t ts there) in
    let does : is_known_to_read t v ≡ true = reads_it (is_ok t) v (external_reads t) (in_from_Contains v (read_by t) seen) in
    has_one (readers_of ts v) (0 + j) (to_some_place (λ place x. if is_known_to_read x v then place ∷ [] else []) 0 ts j t (0 + j) get (in_if (is_known_to_read t v) (0 + j) does))

unless : (test : Bool) (v w : Version) (vs : List Version) → In v (if test then vs else w ∷ vs) → In v (w ∷ vs)
unless true v w vs i = inr i
unless false v w vs i = i

named_read : (v : Version) (written : List Atom) (mops : List Mop) → In v (reads_after written mops) → In v (named_in true mops)
named_read v written [] i = elim i [ ]
named_read v written (read key value ∷ mops) i =
    elim (unless (list_any (atom_eq key) written) v (record { key = key; value = value }) (reads_after written mops) i) [
      | inl e ↦ inr (inl e)
      | inr j ↦ inr (inr (named_read v written mops j))
    ]
named_read v written (write key value ∷ mops) i = inr (inr (named_read v (key ∷ written) mops i))

named_if_ok : (ok : Bool) (v : Version) (mops : List Mop) → In v (if ok then reads_after [] mops else []) → In v (named_in ok mops)
named_if_ok true v mops i = named_read v [] mops i
named_if_ok false v mops i = elim i [ ]

among_versions : (keys : KeyOrder) (ts : List Transaction) (table : Table) → IsTableOf keys ts table → (t : Transaction) (v : Version) → Contains ts t → Contains (read_by t) v → In v table.versions
among_versions keys ts table told t v there seen =
    let named : In v (named_by t) = named_if_ok (is_ok t) v t.mops (in_from_Contains v (read_by t) seen) in
    in_from_has v table.versions
    (told.named v
    ∙ any_passes (λ (u : Transaction). has_version (named_by u) v) t ts (in_from_Contains t ts there)
    (has_from_in v (named_by t) named))

-- all versions were looked at
pub all_ruled : (h : History) (pieces : List Piece) → IsTableOf h.table.keys h.txns h.table → ArePiecesOf h pieces → RulesOutReads h.txns (possible_in pieces)
all_ruled h pieces told are = record {
  each = λ v t there seen.
      let (number, at) = place_in h.table.versions v (among_versions h.table.keys h.txns h.table told t v there seen) in
      let (piece, among, is) = are.seen number (within_at h.table.versions number v at) in
      one_ruled h.txns v (record { aborted = false; intermediate = false; stray = false }) pieces piece (in_from_Contains piece pieces among)
      (subst (λ u. RulesOut h.txns u piece.possible) (version_is h.table number v at)
      (is.possible t there (subst (Contains (read_by t)) (sym (version_is h.table number v at)) seen)));
}

-- ---- one look

unread : (ts : List Transaction) (v : Version) → (length (readers_of ts v) == 0) ≡ true → read_writer ts v ≡ None
unread ts v none = ap (λ b. unfailed_place ts (writer_of ts v) (not b)) none ∙ nobody (writer_of ts v)
  where
    nobody : (o : Option Writer) → unfailed_place ts o false ≡ None
    nobody None = refl
    nobody (Some w) = refl

-- a version that nobody read adds nothing
pub sees_unread : (h : History) (piece : Piece) (number : ℕ) → (length (readers_of h.txns (version_at h.table number)) == 0) ≡ true → Sees h piece piece number
sees_unread h piece number none =
    let v = version_at h.table number in
    record {
      by = λ place there. inl there;
      kept = λ w seen. seen;
      seen = record {
        possible = λ t there seen. elim (false≢true (sym (ap not none) ∙ read_by_some h.txns t v there seen)) [ ];
        writer = λ place e. elim (none-some place (sym (unread h.txns v none) ∙ e)) [ ];
      };
    }

-- what reads of it may be is added, and the place of the transaction that wrote it
pub sees_read :
    (h : History) (before after : Piece) (number : ℕ) (q : Possible)
    → after.possible ≡ either before.possible q
    → RulesOut h.txns (version_at h.table number) q
    → after.writers ≡ before.writers ++ option_to_list (read_writer h.txns (version_at h.table number))
    → Sees h before after number
sees_read h before after number q possible out writers =
    let v = version_at h.table number in
    let place = read_writer h.txns v in
    record {
      by = λ p has. elim (Contains-append_cases before.writers (option_to_list place) p (subst (λ ps. Contains ps p) writers has)) [
        | inl old ↦ inl old
        | inr new ↦ inr (only place p (in_from_Contains p (option_to_list place) new))
      ];
      kept = λ w seen. record {
        possible = λ t there reads. subst (RulesOut h.txns w) (sym possible) (out_before h.txns w before.possible q (seen.possible t there reads));
        writer = λ p e. subst (λ ps. Contains ps p) (sym writers) (Contains-append_left before.writers (option_to_list place) p (seen.writer p e));
      };
      seen = record {
        possible = λ t there reads. subst (RulesOut h.txns v) (sym possible) (out_behind h.txns v before.possible q out);
        writer = λ p e.
            subst (λ ps. Contains ps p) (sym writers)
            (Contains-append_right before.writers (option_to_list place) p (Contains_from_in p (option_to_list place) (has place p e)));
      };
    }
  where
    only : (o : Option ℕ) (p : ℕ) → In p (option_to_list o) → o ≡ Some p
    only None p i = elim i [ ]
    only (Some n) p (inl e) = ap Some e
    only (Some n) p (inr i) = elim i [ ]

    has : (o : Option ℕ) (p : ℕ) → o ≡ Some p → In p (option_to_list o)
    has None p e = elim (none-some p e) [ ]
    has (Some n) p e = inl (same_Some n p e)

-- what holds below n and at n
pub one_further : (P : ℕ → Type 0) (n : ℕ) → ((m : ℕ) → m < n → P m) → P n → (m : ℕ) → m < n + 1 → P m
one_further P n before here m below = elim (cases_lt m n) [
  | inl less ↦ before m less
  | inr not_less ↦ subst P (sym (omega (arith, below, not_less))) here
]

-- ---- what is ruled out isn't found

nothing : {X A : Type 0} (f : X → List A) (xs : List X) → ((x : X) → In x xs → f x ≡ []) → flat_map f xs ≡ []
nothing f [] none = refl
nothing f (x ∷ xs) none = ap (λ ys. ys ++ flat_map f xs) (none x (inl refl)) ∙ nothing f xs (λ y i. none y (inr i))

no_reads :
    {A : Type 0} (ts : List Transaction) (p : Possible) (f : Transaction → Version → List A)
    → RulesOutReads ts p
    → ((t : Transaction) (v : Version) → RulesOut ts v p → f t v ≡ [])
    → for_each_read ts f ≡ []
no_reads ts p f out none =
    reads_by_transaction f ts
    ∙ nothing (λ t. flat_map (f t) (read_by t)) ts (λ t i.
    nothing (f t) (read_by t) (λ v j. none t v (out.each v t (Contains_from_in t ts i) (Contains_from_in v (read_by t) j))))

pub none_aborted : (ts : List Transaction) (p : Possible) → RulesOutReads ts p → not p.aborted ≡ true → None ≡ g1a ts
none_aborted ts p out unset =
    sym (ap first_of (no_reads ts p (λ reader v. map (bad_read reader v) (aborted_writers ts v)) out (λ t v ruled. ap (map (bad_read t v)) (ruled.aborted (not-true p.aborted unset)))))

pub none_intermediate : (ts : List Transaction) (p : Possible) → RulesOutReads ts p → not p.intermediate ≡ true → None ≡ g1b ts
none_intermediate ts p out unset =
    sym (ap first_of (no_reads ts p (λ reader v. map (bad_read reader v) (intermediate_writers ts reader v)) out (λ t v ruled. ap (map (bad_read t v)) (ruled.intermediate (not-true p.intermediate unset) t))))

pub none_stray : (ts : List Transaction) (p : Possible) → RulesOutReads ts p → not p.stray ≡ true → 0 ≡ stray ts
none_stray ts p out unset =
    sym (ap length (no_reads ts p (λ reader v. if is_stray ts v then v ∷ [] else []) out (λ t v ruled. ap (λ b. if b then v ∷ [] else []) (ruled.stray (not-true p.stray unset)))))
