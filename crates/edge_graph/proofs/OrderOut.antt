-- Order edges that are added place by place.
use Rattle.std.proofs.Common.{◌≡◌, ◌∙◌, ◌<◌, ◌+◌, ℕ, List, [], ◌∷◌, ◌++◌, length, get_or, take, flat_map, ap, sym, append_assoc, append-nil}
use Rattle.std.proofs.lemmas.Grind.{flat_map-append}
use Rattle.std.proofs.lemmas.List.{take_more}
use Rattle.hist_types.specs.Edges.{Edge}
use Rattle.hist_types.specs.Transactions.{Transaction}
use Rattle.hist_types.specs.declared.types.Level.{Level}
use Rattle.dep_edges.specs.Tables.{txn_at}
use Rattle.edge_graph.specs.Made.{order_edges_to, order_edges_over}

pub one_more :
    (ts : List Transaction) (level : Level) (from i place : ℕ) (places : List ℕ) (before mid after : List Edge) (t u : Transaction)
    → i < length places
    → get_or places i 0 ≡ place
    → mid ≡ before ++ order_edges_over ts level from (take i places)
    → t ≡ txn_at ts from
    → u ≡ txn_at ts place
    → after ≡ mid ++ order_edges_to level t u
    → after ≡ before ++ order_edges_over ts level from (take (i + 1) places)
one_more ts level from i place places before mid after t u h at so_far t_is u_is added =
    let f = λ (p : ℕ). order_edges_to level (txn_at ts from) (txn_at ts p) in
    added ∙ ap (λ x. mid ++ order_edges_to level x u) t_is ∙ ap (λ x. mid ++ order_edges_to level (txn_at ts from) x) u_is
    ∙ ap (λ xs. xs ++ f place) so_far ∙ append_assoc before (flat_map f (take i places)) (f place)
    ∙ ap (λ xs. before ++ xs)
    (ap (λ xs. flat_map f (take i places) ++ xs) (sym (append-nil (f place))) ∙ sym (flat_map-append f (take i places) (place ∷ []))
    ∙ ap (flat_map f) (ap (λ p. take i places ++ p ∷ []) (sym at) ∙ sym (take_more places i 0 h)))
