-- A closed walk that is followed from behind an edge that it needs, without what it does twice, shows what it showed.
use Rattle.std.proofs.Common.{◌≡◌, inl, inr, ℕ, List, [], ◌∷◌, ◌++◌, fold, Bool, true, false, not, ◌&&◌, ◌||◌, ◌==◌, nat_eq, if◌then◌else◌, refl, sym, ◌∙◌, ap, subst}
use Rattle.std.specs.List.{AllByRecursion, IsDistinct, list_any}
use Rattle.std.proofs.lemmas.Bool.{false≢true, and_parts, and_from, cases_Bool, eqb-true, or_from}
use Rattle.std.proofs.lemmas.Cmp.{nat_eq_equiv}
use Rattle.std.proofs.lemmas.Map.Keys.{IsDistinct-push}
use Rattle.hist_types.specs.Edges.{Label, Edge}
use Rattle.hist_types.specs.Phenomena.{Leads, is_ww_label, is_wr_label, is_rw_label, is_order}
use Rattle.hist_types.specs.Witness.{stations, alternates, ends_in_order}
use Rattle.hist_types.proofs.Members.{In}
use Rattle.history_laws.proofs.ThinningPaths.{leads_on, all_of_both}
use Rattle.history_laws.proofs.ThinningWitnesses.{IsOff, IsSimple, after, ends_after, alternate_both, stations-append}
use Rattle.dep_edges.specs.Labels.{joined_label, joined}
use Rattle.cycle_show.specs.Paths.{last_joined, path_to, extended, followed}
use Rattle.cycle_show.proofs.Places.{path_to_off}

-- ---- two order edges joined

abbrev IsOrderLabel : Label → Type 0
IsOrderLabel l = not (is_ww_label l || is_wr_label l || is_rw_label l) ≡ true

order_joined : (l l' : Label) → IsOrderLabel l → IsOrderLabel (joined_label l l')
order_joined (Label.ww v w) l' e = elim (false≢true e) [ ]
order_joined (Label.wr v) l' e = elim (false≢true e) [ ]
order_joined (Label.rw v w) l' e = elim (false≢true e) [ ]
order_joined (Label.process p) l' e = refl
order_joined (Label.realtime c i) (Label.ww v w) e = refl
order_joined (Label.realtime c i) (Label.wr v) e = refl
order_joined (Label.realtime c i) (Label.rw v w) e = refl
order_joined (Label.realtime c i) (Label.process p) e = refl
order_joined (Label.realtime c i) (Label.realtime c' i') e = refl

pub joined_is_order : (e f : Edge) → is_order e ≡ true → is_order (joined e f) ≡ true
joined_is_order e f order = order_joined e.label f.label order

-- what is asked of the edges and of the test, so that two may become one
abbrev pub JoinsTwo : List Edge → (Edge → Bool) → Type 0
JoinsTwo es p =
    (e f : Edge)
    → In e es
    → In f es
    → is_order e ≡ true
    → is_order f ≡ true
    → f.from ≡ e.to
    → In (joined e f) es × (p (joined e f) ≡ true)

-- ---- a path without what is done twice

abbrev pub Passes : List Edge → (Edge → Bool) → Edge → Type 0
Passes es p e = In e es × (p e ≡ true)

pub record IsShort (es : List Edge) (p : Edge → Bool) (from at : ℕ) (path : List Edge) : Type 0 where
  pub leads : Leads from path at
  pub passes : AllByRecursion (Passes es p) path
  pub different : IsDistinct nat_eq (stations path)
  pub apart : alternates false path ≡ true

-- ---- back to a transaction

off_before : (n t : ℕ) (path : List Edge) → IsOff n (stations path) → IsOff n (stations (path_to t path))
off_before n t [] off = tt
off_before n t (e ∷ path) off = elim (cases_Bool (e.from == t)) [
  | inl there ↦ rw there tt
  | inr further ↦
      subst (λ b. IsOff n (stations (if b then [] else e ∷ path_to t path))) (sym further) (off.0, off_before n t path off.1)
]

different_before : (t : ℕ) (path : List Edge) → IsDistinct nat_eq (stations path) → IsDistinct nat_eq (stations (path_to t path))
unfolding IsDistinct
different_before t [] d = tt
different_before t (e ∷ path) d = elim (cases_Bool (e.from == t)) [
  | inl there ↦ rw there tt
  | inr further ↦
      subst (λ b. IsDistinct nat_eq (stations (if b then [] else e ∷ path_to t path))) (sym further)
      (off_before e.from t path d.0, different_before t path d.1)
]

apart_before : (before : Bool) (t : ℕ) (path : List Edge) → alternates before path ≡ true → alternates before (path_to t path) ≡ true
apart_before before t [] a = refl
apart_before before t (e ∷ path) a = elim (cases_Bool (e.from == t)) [
  | inl there ↦ rw there refl
  | inr further ↦
      let parts = and_parts (not (before && is_order e)) (alternates (is_order e) path) a in
      subst (λ b. alternates before (if b then [] else e ∷ path_to t path) ≡ true) (sym further)
      (and_from (not (before && is_order e)) (alternates (is_order e) (path_to t path)) parts.0 (apart_before (is_order e) t path parts.1))
]

all_before : (P : Edge → Type 0) (t : ℕ) (path : List Edge) → AllByRecursion P path → AllByRecursion P (path_to t path)
all_before P t [] all = all
all_before P t (e ∷ path) all = elim (cases_Bool (e.from == t)) [
  | inl there ↦ rw there tt
  | inr further ↦
      subst (λ b. AllByRecursion P (if b then [] else e ∷ path_to t path)) (sym further) (all.0, all_before P t path all.1)
]

leads_before : (from t : ℕ) (path : List Edge) → Leads from path t → Leads from (path_to t path) t
leads_before from t [] leads = leads
leads_before from t (e ∷ path) leads = elim (cases_Bool (e.from == t)) [
  | inl there ↦
      subst (λ b. Leads from (if b then [] else e ∷ path_to t path) t) (sym there) (sym leads.0 ∙ eqb-true e.from t there)
  | inr further ↦
      subst (λ b. Leads from (if b then [] else e ∷ path_to t path) t) (sym further) (leads.0, leads_before e.to t path leads.1)
]

short_before :
    (es : List Edge) (p : Edge → Bool) (from t : ℕ) (path : List Edge)
    → IsShort es p from t path
    → IsShort es p from t (path_to t path)
short_before es p from t path s = record {
  leads = leads_before from t path s.leads;
  passes = all_before (Passes es p) t path s.passes;
  different = different_before t path s.different;
  apart = apart_before false t path s.apart;
}

-- ---- one edge more

joined_leads :
    (from : ℕ) (path : List Edge) (f : Edge)
    → ends_in_order path ≡ true
    → Leads from path f.from
    → Leads from (last_joined path f) f.to
joined_leads from [] f ends leads = absurd (false≢true ends)
joined_leads from (e ∷ []) f ends leads = (leads.0, refl)
joined_leads from (e ∷ d ∷ path) f ends leads = (leads.0, joined_leads e.to (d ∷ path) f ends leads.1)

joined_passes :
    (es : List Edge) (p : Edge → Bool) (from : ℕ) (path : List Edge) (f : Edge)
    → JoinsTwo es p
    → In f es
    → is_order f ≡ true
    → ends_in_order path ≡ true
    → Leads from path f.from
    → AllByRecursion (Passes es p) path
    → AllByRecursion (Passes es p) (last_joined path f)
joined_passes es p from [] f joins i order ends leads all = tt
joined_passes es p from (e ∷ []) f joins i order ends leads all =
    (joins e f all.0.0 i ends order (sym leads.1), tt)
joined_passes es p from (e ∷ d ∷ path) f joins i order ends leads all =
    (all.0, joined_passes es p e.to (d ∷ path) f joins i order ends leads.1 all.1)

joined_stations : (path : List Edge) (f : Edge) → stations (last_joined path f) ≡ stations path
joined_stations [] f = refl
joined_stations (e ∷ []) f = refl
joined_stations (e ∷ d ∷ path) f = ap (λ ns. e.from ∷ ns) (joined_stations (d ∷ path) f)

joined_apart :
    (before : Bool) (path : List Edge) (f : Edge)
    → ends_in_order path ≡ true
    → alternates before path ≡ true
    → alternates before (last_joined path f) ≡ true
joined_apart before [] f ends a = refl
joined_apart before (e ∷ []) f ends a =
    subst (λ b. (not (before && b) && true) ≡ true) (ends ∙ sym (joined_is_order e f ends)) a
joined_apart before (e ∷ d ∷ path) f ends a =
    let parts = and_parts (not (before && is_order e)) (alternates (is_order e) (d ∷ path)) a in
    and_from (not (before && is_order e)) (alternates (is_order e) (last_joined (d ∷ path) f)) parts.0 (joined_apart (is_order e) (d ∷ path) f ends parts.1)

none_from_off : (n : ℕ) (ns : List ℕ) → IsOff n ns → list_any (nat_eq n) ns ≡ false
none_from_off n [] off = refl
none_from_off n (m ∷ ns) off = or_from (nat_eq n m) (list_any (nat_eq n) ns) off.0 (none_from_off n ns off.1)

after_path : (path : List Edge) → after false path ≡ ends_in_order path
after_path [] = refl
after_path (e ∷ path) = sym (ends_after e path)

apart_pushed :
    (path : List Edge) (f : Edge)
    → (is_order f && ends_in_order path) ≡ false
    → alternates false path ≡ true
    → alternates false (path ++ f ∷ []) ≡ true
apart_pushed path f other a =
    alternate_both false path (f ∷ []) a
    (subst (λ b. (not (b && is_order f) && true) ≡ true) (sym (after_path path)) (by (ends_in_order path) (is_order f) other))
  where
    by : (a b : Bool) → (b && a) ≡ false → (not (a && b) && true) ≡ true
    by true true e = elim (false≢true (sym e)) [ ]
    by true false e = refl
    by false b e = refl

-- the path goes on along one more edge that begins where it ends, at a transaction that is new to it
short_extended :
    (es : List Edge) (p : Edge → Bool) (from : ℕ) (path : List Edge) (f : Edge)
    → JoinsTwo es p
    → Passes es p f
    → IsOff f.from (stations path)
    → IsShort es p from f.from path
    → IsShort es p from f.to (extended path f)
short_extended es p from path f joins pass off s = elim (cases_Bool (is_order f && ends_in_order path)) [
  | inl both ↦
      let orders = and_parts (is_order f) (ends_in_order path) both in
      subst (λ b. IsShort es p from f.to (if b then last_joined path f else path ++ f ∷ [])) (sym both) (record {
        leads = joined_leads from path f orders.1 s.leads;
        passes = joined_passes es p from path f joins pass.0 orders.0 orders.1 s.leads s.passes;
        different = subst (IsDistinct nat_eq) (sym (joined_stations path f)) s.different;
        apart = joined_apart false path f orders.1 s.apart;
      })
  | inr other ↦
      subst (λ b. IsShort es p from f.to (if b then last_joined path f else path ++ f ∷ [])) (sym other) (record {
        leads = leads_on from f.from f.to path (f ∷ []) s.leads (refl, refl);
        passes = all_of_both (Passes es p) path (f ∷ []) s.passes (pass, tt);
        different = subst (IsDistinct nat_eq) (sym (stations-append path (f ∷ []))) (IsDistinct-push nat_eq_equiv (stations path) f.from s.different (none_from_off f.from (stations path) off));
        apart = apart_pushed path f other s.apart;
      })
]

pub short_followed :
    (es : List Edge) (p : Edge → Bool) (from : ℕ) (path : List Edge) (f : Edge)
    → JoinsTwo es p
    → Passes es p f
    → IsShort es p from f.from path
    → IsShort es p from f.to (followed path f)
short_followed es p from path f joins pass s =
    short_extended es p from (path_to f.from path) f joins pass (path_to_off f.from path) (short_before es p from f.from path s)

pub short_all :
    (es : List Edge) (p : Edge → Bool) (from at to : ℕ) (path walk : List Edge)
    → JoinsTwo es p
    → Leads at walk to
    → AllByRecursion (Passes es p) walk
    → IsShort es p from at path
    → IsShort es p from to (fold followed path walk)
short_all es p from at to path [] joins leads all s = subst (λ n. IsShort es p from n path) leads s
short_all es p from at to path (f ∷ walk) joins leads all s =
    short_all es p from f.to to (followed path f) walk joins leads.1 all.1
    (short_followed es p from path f joins all.0 (subst (λ n. IsShort es p from n path) (sym leads.0) s))

pub short_none : (es : List Edge) (p : Edge → Bool) (from : ℕ) → IsShort es p from from []
unfolding IsDistinct
short_none es p from = record { leads = refl; passes = tt; different = tt; apart = refl }

-- ---- closed by its last edge

all_within : (es : List Edge) (p : Edge → Bool) (path : List Edge) → AllByRecursion (Passes es p) path → AllByRecursion (λ e. In e es) path
all_within es p [] all = tt
all_within es p (e ∷ path) all = (all.0.0, all_within es p path all.1)

all_passing : (es : List Edge) (p : Edge → Bool) (path : List Edge) → AllByRecursion (Passes es p) path → AllByRecursion (λ e. p e ≡ true) path
all_passing es p [] all = tt
all_passing es p (e ∷ path) all = (all.0.1, all_passing es p path all.1)

-- up to the edge that closes the walk, the path is simple
pub simple_before :
    (es : List Edge) (p : Edge → Bool) (from to : ℕ) (path : List Edge)
    → IsShort es p from to path
    → IsSimple es p from to (path_to to path)
simple_before es p from to path s =
    let b = short_before es p from to path s in record {
      leads = b.leads;
      within = all_within es p (path_to to path) b.passes;
      passes = all_passing es p (path_to to path) b.passes;
      different = b.different;
      off_end = path_to_off to path;
      apart = b.apart;
    }

-- the edge that closes the walk is no order edge, and stays as it is
pub closed_by : (path : List Edge) (e : Edge) → is_order e ≡ false → followed path e ≡ path_to e.from path ++ e ∷ []
closed_by path e itself =
    ap (λ b. if b && ends_in_order (path_to e.from path) then last_joined (path_to e.from path) e else path_to e.from path ++ e ∷ []) itself
