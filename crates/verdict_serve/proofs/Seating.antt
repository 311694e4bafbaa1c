-- Clients with their seats, one after the other.
use Rattle.std.proofs.Common.{◌≡◌, ℕ, suc, ◌+◌, List, [], ◌∷◌, ◌++◌, length, map, refl, ap, sym, subst, ◌∙◌, arith, append_assoc, append-nil}
use Rattle.std.proofs.lemmas.List.{nil_from_length, map-append}
use Rattle.std.specs.List.{AllZip}
use Rattle.std.specs.Prelude.{Result}
use Rattle.hist_types.specs.declared.device.Sink.{Ghosts as Sink}
use Rattle.hist_types.specs.declared.device.Source.{Ghosts as Source}
use Rattle.verdict_serve.specs.Places.{HasEnd, seated_from, Serving, place_of, IsEndAt}
use Rattle.hist_types.specs.LegalAnswers.{View}
use Rattle.hist_types.specs.declared.types.KeyOrder.{KeyOrder}
use Rattle.live_journal.specs.Callers.{new_seat}
use Rattle.live_journal.specs.Seats.{Journal, Seat, new_view}
use Rattle.verdict_serve.specs.Served.{WereServed}
use Rattle.verdict_serve.specs.declared.clients.Client.{Client}
use Rattle.verdict_serve.specs.declared.clients.Place.{Place}
use Rattle.verdict_serve.specs.declared.session.Ended.{Ended}
use Rattle.verdict_serve.specs.declared.session.SessionFault.{SessionFault}

new_is : (journal : Journal) (seat : Seat) → seat.row ≡ journal.row → seat.keys ≡ journal.keys → seat.view ≡ new_view → seat ≡ new_seat journal seat.number
new_is journal seat row keys view =
    ap (λ (row : List ℕ). record { row = row; keys = seat.keys; number = seat.number; view = seat.view }) row
    ∙ ap (λ (keys : KeyOrder). record { row = journal.row; keys = keys; number = seat.number; view = seat.view }) keys
    ∙ ap (λ (view : View). record { row = journal.row; keys = journal.keys; number = seat.number; view = view }) view

-- one more was taken of what is left
pub taken_more : {X : Type 0} (taken rest rest' all : List X) (x : X) → taken ++ rest ≡ all → rest ≡ x ∷ rest' → (taken ++ x ∷ []) ++ rest' ≡ all
taken_more taken rest rest' all x before next = append_assoc taken (x ∷ []) rest' ∙ ap (λ (xs : List _). taken ++ xs) (sym next) ∙ before

pub taken_all : {X : Type 0} (taken rest all : List X) → taken ++ rest ≡ all → length rest ≡ 0 → taken ≡ all
taken_all taken rest all before none = sym (append-nil taken) ∙ ap (λ (xs : List _). taken ++ xs) (sym (nil_from_length rest none)) ∙ before

module _ {S T : Type 0} where
  pub seated_more :
      (journal : Journal) (first n : ℕ) (clients : List (Client S T)) (c : Client S T)
      → n ≡ first + length clients
      → seated_from journal first (clients ++ c ∷ []) ≡ seated_from journal first clients ++ record { seat = new_seat journal n; client = c } ∷ []
  seated_more journal first n [] c e = let same : first ≡ n = omega arith in ap (λ (k : ℕ). record { seat = new_seat journal k; client = c } ∷ []) same
  seated_more journal first n (d ∷ clients) c e = ap (λ (places : List (Place S T)). record { seat = new_seat journal first; client = d } ∷ places) (seated_more journal (suc first) n clients c (omega arith))

  pub length-seated : (journal : Journal) (first : ℕ) (clients : List (Client S T)) → length (seated_from journal first clients) ≡ length clients
  length-seated journal first [] = refl
  length-seated journal first (c ∷ clients) = ap suc (length-seated journal (suc first) clients)

  pub seated_push :
      (journal : Journal) (clients : List (Client S T)) (places : List (Place S T)) (seat : Seat) (c : Client S T)
      → places ≡ seated_from journal 0 clients
      → seat.row ≡ journal.row
      → seat.keys ≡ journal.keys
      → seat.number ≡ length places
      → seat.view ≡ new_view
      → places ++ record { seat = seat; client = c } ∷ [] ≡ seated_from journal 0 (clients ++ c ∷ [])
  seated_push journal clients places seat c so_far row keys number view =
      let many = ap (λ (places : List (Place S T)). length places) so_far ∙ length-seated journal 0 clients in
      let new : seat ≡ new_seat journal seat.number = new_is journal seat row keys view in
      ap (λ (places : List (Place S T)). places ++ record { seat = seat; client = c } ∷ []) so_far
      ∙ ap (λ (s : Seat). seated_from journal 0 clients ++ record { seat = s; client = c } ∷ []) new
      ∙ sym (seated_more journal 0 seat.number clients c (omega arith))

  pub all_served :
      (reads : Source S) (prints : Sink T) (journal : Journal) (first : ℕ) (clients : List (Client S T)) (ends : List (Result Ended SessionFault))
      → AllZip (HasEnd reads prints) (seated_from journal first clients) ends
      → WereServed reads prints journal first clients ends
  all_served reads prints journal first [] [] h = tt
  all_served reads prints journal first [] (e ∷ ends) h = absurd h
  all_served reads prints journal first (c ∷ clients) [] h = absurd h
  all_served reads prints journal first (c ∷ clients) (e ∷ ends) h = (h.0, all_served reads prints journal (suc first) clients ends h.1)

zip_before_map : {X Y Z : Type 0} (R : Y → Z → Type 0) (f : X → Y) (xs : List X) (zs : List Z) → AllZip (λ x z. R (f x) z) xs zs → AllZip R (map f xs) zs
zip_before_map R f [] [] h = tt
zip_before_map R f [] (z ∷ zs) h = absurd h
zip_before_map R f (x ∷ xs) [] h = absurd h
zip_before_map R f (x ∷ xs) (z ∷ zs) h = (h.0, zip_before_map R f xs zs h.1)

zip_more : {X Z : Type 0} (R : X → Z → Type 0) (xs : List X) (zs : List Z) (x : X) (z : Z) → AllZip R xs zs → R x z → AllZip R (xs ++ x ∷ []) (zs ++ z ∷ [])
zip_more R [] [] x z h r = (r, tt)
zip_more R [] (z' ∷ zs) x z h r = absurd h
zip_more R (x' ∷ xs) [] x z h r = absurd h
zip_more R (x' ∷ xs) (z' ∷ zs) x z h r = (h.0, zip_more R xs zs x z h.1 r)

-- ---- threads

module _ {S T : Type 0} where
  -- one thread more was started
  pub started_more :
      (threads threads' : List (Serving S T)) (places : List (Place S T)) (thread : Serving S T) (place : Place S T)
      → map place_of threads ≡ places
      → place_of thread ≡ place
      → threads' ≡ threads ++ thread ∷ []
      → map place_of threads' ≡ places ++ place ∷ []
  started_more threads threads' places thread place before one more =
      ap (λ (ts : List (Serving S T)). map place_of ts) more
      ∙ map-append place_of threads (thread ∷ [])
      ∙ ap (λ (ps : List (Place S T)). ps ++ place_of thread ∷ []) before
      ∙ ap (λ (p : Place S T). places ++ p ∷ []) one

module _ {S T : Type 0} (reads : Source S) (prints : Sink T) where
  -- one thread more has ended
  pub joined_more :
      (threads : List (Serving S T)) (ends ends' : List (Result Ended SessionFault)) (thread : Serving S T) (end : Result Ended SessionFault)
      → AllZip (IsEndAt reads prints) threads ends
      → IsEndAt reads prints thread end
      → ends' ≡ ends ++ end ∷ []
      → AllZip (IsEndAt reads prints) (threads ++ thread ∷ []) ends'
  joined_more threads ends ends' thread end before one more =
      subst (λ (es : List (Result Ended SessionFault)). AllZip (IsEndAt reads prints) (threads ++ thread ∷ []) es) (sym more)
      (zip_more (IsEndAt reads prints) threads ends thread end before one)

  pub served_by :
      (journal : Journal) (clients : List (Client S T)) (places : List (Place S T)) (threads : List (Serving S T)) (ends : List (Result Ended SessionFault))
      → places ≡ seated_from journal 0 clients
      → map place_of threads ≡ places
      → AllZip (IsEndAt reads prints) threads ends
      → WereServed reads prints journal 0 clients ends
  served_by journal clients places threads ends seated started joined =
      all_served reads prints journal 0 clients ends
      (subst (λ (ps : List (Place S T)). AllZip (HasEnd reads prints) ps ends) (started ∙ seated)
      (zip_before_map (HasEnd reads prints) place_of threads ends joined))
