-- Lists of places.
use Rattle.std.proofs.Common.{◌≡◌, ◌∙◌, ◌<◌, ℕ, List, [], ◌∷◌, length, get_or, map, refl, ap, sym}
use Rattle.std.proofs.lemmas.List.{get_or_default}
use Rattle.std.proofs.lemmas.Option.{unwrap_or-slice_get}
use Rattle.hist_types.specs.Transactions.{Transaction, Version, Open}
use Rattle.std.specs.Prelude.{None}
use Rattle.key_versions.specs.Tables.{Table}
use Rattle.key_versions.specs.declared.types.Follower.{Follower}
use Rattle.dep_edges.specs.Tables.{txn_at, later_in}

abbrev pub place_in : ℕ × Version → ℕ
place_in p = p.0

-- the places of followers
pub places_later : (table : Table) (fs : List Follower) → map (λ (f : Follower). f.txn) fs ≡ map place_in (map (later_in table) fs)
places_later table [] = refl
places_later table (f ∷ fs) = ap (λ ps. f.txn ∷ ps) (places_later table fs)

-- a transaction that is read at a place
pub txn_read : (ts : List Transaction) (place : ℕ) (t : Transaction) → place < length ts → t ≡ get_or ts place t → t ≡ txn_at ts place
txn_read ts place t h is =
    let none : Transaction = record { process = 0; invocation = 0; completion = None; status = Open; mops = [] } in
    is ∙ get_or_default ts place t none h ∙ sym (unwrap_or-slice_get ts place none)
