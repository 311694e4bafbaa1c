-- An edge from one transaction to another among those that leave the first, and an order edge rather than a dependency.
use Rattle.std.proofs.Common.{◌≡◌, ◌∙◌, ◌⊎◌, inl, inr, ℕ, List, [], ◌∷◌, ◌++◌, true, false, Option, Some, None, is_some, refl, sym, ap, subst}
use Rattle.std.specs.Iterator.{Yields}
use Rattle.std.specs.Vec.Iter.{into_iter_items, into_iter_steps}
use Rattle.std.specs.declared.vec.IntoIter.{IntoIter}
use Rattle.std.proofs.lemmas.Bool.{false≢true}
use Rattle.hist_types.specs.Edges.{Label, ww, wr, rw, process, realtime, Edge}
use Rattle.hist_types.specs.Phenomena.{is_order}
use Rattle.hist_types.specs.Transactions.{Transaction}
use Rattle.hist_types.specs.declared.types.Level.{Level}
use Rattle.hist_types.proofs.Members.{In, in_from_Contains, Contains_from_in, in_front, in_back, in_append}
use Rattle.dep_edges.specs.Tables.{IsPlace, txn_at}
use Rattle.edge_graph.specs.Parts.{Parts, AddsEdgesFrom}
use Rattle.edge_graph.specs.Kinds.{includes, kinds_of}
use Rattle.edge_graph.specs.Walks.{IsEdgeBetween, IsEdgeIfAny, IsOrderEdgeIfAny}
use Rattle.edge_graph.specs.declared.types.Dependencies.TheVariants as dependencies
use Rattle.edge_graph.specs.declared.types.Kinds.{Kinds}
use Rattle.edge_graph.proofs.EdgesIn.{listed, is_order_label}
use Rattle.edge_graph.proofs.Txns.{txn_there, txn_of}

-- what the iterator of a vector has given is a front of its items
pub given_front : {X A : Type 0} (s : IntoIter X A) (xs : List X) (t : IntoIter X A) → Yields into_iter_steps s xs t → into_iter_items s ≡ xs ++ into_iter_items t
given_front s [] t y = ap into_iter_items y
given_front s (x ∷ xs) t y = y.1.0 ∙ ap (λ ys. x ∷ ys) (given_front y.0 xs t y.2)

-- no edge so far leads to the transaction
abbrev pub NoneLeads : ℕ → List Edge → Type 0
NoneLeads invocation es = (e : Edge) → In e es → ¬ (e.to ≡ invocation)

pub none_more : (invocation : ℕ) (es : List Edge) (e : Edge) → NoneLeads invocation es → ¬ (e.to ≡ invocation) → NoneLeads invocation (es ++ e ∷ [])
none_more invocation es e none other d i same =
    elim (in_append d es (e ∷ []) i) [
      | inl j ↦ none d j same
      | inr j ↦ elim j [ inl is ↦ other (ap (λ (x : Edge). x.to) is ∙ same) | inr k ↦ absurd k ]
    ]

-- ---- order edges first

-- of the order alone are the order edges
of_order : (level : Level) (label : Label) → includes (kinds_of dependencies.None level) label ≡ is_order_label label
of_order level (ww earlier later) = refl
of_order level (wr v) = refl
of_order level (rw earlier later) = refl
of_order level (process number) = refl
of_order level (realtime completion invocation) = refl

pub is_of_order : (order : Kinds) (level : Level) (label : Label) (e : Edge) → order ≡ kinds_of dependencies.None level → label ≡ e.label → includes order label ≡ is_order e
is_of_order order level label e is same = ap (λ kinds. includes kinds label) is ∙ ap (includes (kinds_of dependencies.None level)) same ∙ of_order level e.label

order_is_included : (kinds : Kinds) (label : Label) → is_order_label label ≡ true → includes kinds label ≡ true
order_is_included kinds (ww earlier later) e = absurd (false≢true e)
order_is_included kinds (wr v) e = absurd (false≢true e)
order_is_included kinds (rw earlier later) e = absurd (false≢true e)
order_is_included kinds (process number) e = refl
order_is_included kinds (realtime completion invocation) e = refl

-- none leads to the transaction, or one does, and it is an order edge if any of those is
abbrev pub IsBest : ℕ → List Edge → Option Edge → Type 0
IsBest invocation es None = NoneLeads invocation es
IsBest invocation es (Some e) =
    In e es × (e.to ≡ invocation) × ((d : Edge) → In d es → d.to ≡ invocation → is_order d ≡ true → is_order e ≡ true)

-- the next one leads elsewhere
pub best_elsewhere : (invocation : ℕ) (es : List Edge) (found : Option Edge) (e : Edge) → IsBest invocation es found → ¬ (e.to ≡ invocation) → IsBest invocation (es ++ e ∷ []) found
best_elsewhere invocation es None e none other = none_more invocation es e none other
best_elsewhere invocation es (Some f) e (i, to, best) other = (
  in_front f es (e ∷ []) i,
  to,
  λ d j same ordered.
      elim (in_append d es (e ∷ []) j) [
        | inl k ↦ best d k same ordered
        | inr k ↦ elim k [ inl is ↦ absurd (other (ap (λ (x : Edge). x.to) is ∙ same)) | inr l ↦ absurd l ]
      ],
)

-- it is no order edge
pub best_kept : (invocation : ℕ) (es : List Edge) (found : Option Edge) (e : Edge) → IsBest invocation es found → is_some found ≡ true → is_order e ≡ false → IsBest invocation (es ++ e ∷ []) found
best_kept invocation es None e none some no_order = absurd (false≢true some)
best_kept invocation es (Some f) e (i, to, best) some no_order = (
  in_front f es (e ∷ []) i,
  to,
  λ d j same ordered.
      elim (in_append d es (e ∷ []) j) [
        | inl k ↦ best d k same ordered
        | inr k ↦ elim k [ inl is ↦ absurd (false≢true (sym no_order ∙ ap is_order is ∙ ordered)) | inr l ↦ absurd l ]
      ],
)

-- it is the first, or an order edge
pub best_new : (invocation : ℕ) (es : List Edge) (found : Option Edge) (e : Edge) → IsBest invocation es found → e.to ≡ invocation → (is_some found ≡ false) ⊎ (is_order e ≡ true) → IsBest invocation (es ++ e ∷ []) (Some e)
best_new invocation es found e best to (inr ordered) = (in_back e es (e ∷ []) (inl refl), to, λ d j same other. ordered)
best_new invocation es (Some f) e best to (inl first) = absurd (false≢true (sym first))
best_new invocation es None e none to (inl first) = (
  in_back e es (e ∷ []) (inl refl),
  to,
  λ d j same ordered.
      elim (in_append d es (e ∷ []) j) [
        | inl k ↦ absurd (none d k same)
        | inr k ↦ elim k [ inl is ↦ ap is_order is ∙ ordered | inr l ↦ absurd l ]
      ],
)

-- ---- all of them

module _ (g : Parts) (kinds : Kinds) (from to invocation : ℕ) (items : List Edge) (first : IsPlace g.txns from) (last : IsPlace g.txns to) (added : AddsEdgesFrom g kinds from [] items) (at : invocation ≡ (txn_at g.txns to).invocation) where
  pub one_found : (e : Edge) → In e items → e.to ≡ invocation → IsEdgeBetween g kinds from to e
  one_found e i leads =
      let (es, is, are) = added in
      let (has, of_kind, (t, there, begins)) = (are.exactly e).0 (Contains_from_in e es (subst (In e) is i)) in
      record {
        edge = record { among = (listed g kinds.level e).1 has; kind = of_kind };
        leads = record { first = first; last = last; begins = begins ∙ ap (λ (x : Transaction). x.invocation) (sym (txn_of g.txns from t there)); ends = leads ∙ at };
      }

  pub none_found : NoneLeads invocation items → (e : Edge) → ¬ IsEdgeBetween g kinds from to e
  none_found none e is =
      let (es, all, are) = added in
      let leaves : (t : Transaction) × _ × _ = (txn_at g.txns from, txn_there g.txns from first, is.leads.begins) in
      let c = (are.exactly e).1 ((listed g kinds.level e).0 is.edge.among, is.edge.kind, leaves) in
      none e (subst (In e) (sym all) (in_from_Contains e es c)) (is.leads.ends ∙ sym at)

  pub best_edge : (found : Option Edge) → IsBest invocation items found → IsEdgeIfAny g kinds from to found
  best_edge None none = none_found none
  best_edge (Some e) (i, leads, best) = one_found e i leads

  pub best_order : (found : Option Edge) → IsBest invocation items found → IsOrderEdgeIfAny g kinds.level from to found
  best_order None none = tt
  best_order (Some e) (i, leads, best) = λ (d, is).
      let (es, all, are) = added in
      let ordered : is_order d ≡ true = sym (of_order kinds.level d.label) ∙ is.edge.kind in
      let leaves : (t : Transaction) × _ × _ = (txn_at g.txns from, txn_there g.txns from first, is.leads.begins) in
      let c = (are.exactly d).1 ((listed g kinds.level d).0 is.edge.among, order_is_included kinds d.label ordered, leaves) in
      best d (subst (In d) (sym all) (in_from_Contains d es c)) (is.leads.ends ∙ sym at) ordered
