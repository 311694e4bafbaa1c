-- The numbers of writes, as far as they are known, while transactions are taken.
use Rattle.std.proofs.Common.{◌≡◌, ◌+◌, ℕ, zero, suc, List, [], ◌∷◌, ◌++◌, length, map, Bool, true, Option, Some, option_map, refl, sym, ◌∙◌, ap, subst, arith}
use Rattle.std.specs.Prelude.{slice_get}
use Rattle.std.proofs.lemmas.Bool.{false≢true}
use Rattle.std.proofs.lemmas.List.{length-map}
use Rattle.std.proofs.lemmas.Option.{slice_get-map}
use Rattle.hist_types.specs.Journal.{Write, writes_of}
use Rattle.hist_types.specs.Operations.{Mop, read, write}
use Rattle.hist_types.specs.Transactions.{Version, version_of}
use Rattle.edn_ops.specs.Shapes.{is_write}
use Rattle.key_versions.specs.Given.{numbers_after, HasNumber, HaveNumbers}
use Rattle.key_versions.specs.Histories.{named_in}
use Rattle.key_versions.specs.Named.{version_named}
use Rattle.key_versions.specs.Numbering.{Numbers, key_at, version_by, versions_of, AreAccesses}
use Rattle.key_versions.specs.declared.pending.Access.{Access}
use Rattle.key_versions.specs.declared.write_numbers.WriteNumbers.{WriteNumbers}
use Rattle.key_versions.specs.declared.write_numbers.WriteNumbers.TheVariants.{Unknown, Consecutive, Invoked}
use Rattle.key_versions.proofs.Accessing.{AreTaken, versions_stay}
use Rattle.key_versions.proofs.Places.{same_item, slice_get_front}

-- ---- versions that keep their numbers

abbrev Stay : List Version → List Version → Type 0
Stay vs us = (n : ℕ) (v : Version) → slice_get vs n ≡ Some v → slice_get us n ≡ Some v

number_stays : (numbers : WriteNumbers) (vs us : List Version) → Stay vs us → (place : ℕ) (v : Version) → HasNumber numbers vs place v → HasNumber numbers us place v
number_stays Unknown vs us stay place v is = tt
number_stays (Consecutive first) vs us stay place v is = stay (first + place) v is
number_stays (Invoked writes) vs us stay place v is = tt

pub numbers_stay : (numbers : WriteNumbers) (vs us : List Version) → Stay vs us → (ws : List Write) → HaveNumbers numbers vs ws → HaveNumbers numbers us ws
numbers_stay numbers vs us stay ws have place w at = number_stays numbers vs us stay place (version_of w) (have place w at)

-- ---- the writes of some transactions and those of others after them

pub numbers_before : (numbers : WriteNumbers) (vs : List Version) (ws us : List Write) → HaveNumbers numbers vs (ws ++ us) → HaveNumbers numbers vs ws
numbers_before numbers vs ws us have place w at = have place w (slice_get_front ws us place w at)

item_behind : (ws us : List Write) (n m : ℕ) (w : Write) → m ≡ length ws + n → slice_get us n ≡ Some w → slice_get (ws ++ us) m ≡ Some w
item_behind [] us n m w e at = let same : m ≡ n = omega arith in ap (slice_get us) same ∙ at
item_behind (v ∷ ws) us n zero w e at = absurd (omega arith)
item_behind (v ∷ ws) us n (suc m) w e at = item_behind ws us n m w (omega arith) at

pub numbers_behind :
    (numbers : WriteNumbers) (vs : List Version) (ws us : List Write) (n : ℕ) → n ≡ length ws → HaveNumbers numbers vs (ws ++ us) → HaveNumbers (numbers_after numbers n) vs us
numbers_behind Unknown vs ws us n count have place w at = tt
numbers_behind (Consecutive first) vs ws us n count have place w at =
    let there : slice_get (ws ++ us) (length ws + place) ≡ Some w = item_behind ws us place (length ws + place) w refl at in
    let same : (first + n) + place ≡ first + (length ws + place) = omega arith in
    ap (slice_get vs) same ∙ have (length ws + place) w there
numbers_behind (Invoked writes) vs ws us n count have place w at = tt

-- ---- the next write of a transaction

pub accesses_count : (vs : List Version) (named : List Version) (accesses : List Access) → AreAccesses vs named accesses → length accesses ≡ length named
accesses_count vs [] [] are = refl
accesses_count vs (v ∷ named) (a ∷ accesses) are = ap suc (accesses_count vs named accesses are.1)
accesses_count vs [] (a ∷ accesses) are = absurd are
accesses_count vs (v ∷ named) [] are = absurd are

next_write :
    (ms rest : List Mop) (m : Mop) → is_write m ≡ true
    → (w : Write) × (slice_get (writes_of (ms ++ m ∷ rest)) (length (writes_of ms)) ≡ Some w) × (version_of w ≡ version_named m)
next_write [] rest (read key value) writes = absurd (false≢true writes)
next_write [] rest (write key value) writes = (record { key = key; value = value }, refl, refl)
next_write (read key value ∷ ms) rest m writes = next_write ms rest m writes
next_write (write key value ∷ ms) rest m writes = next_write ms rest m writes

pub number_of_next :
    (numbers : WriteNumbers) (base : List Version) (is_ok : Bool) (ms rest mops : List Mop) (m : Mop) (vs : List Version) (ws rs : List Access) (place : ℕ)
    → HaveNumbers numbers base (writes_of mops) → mops ≡ ms ++ m ∷ rest → AreTaken base is_ok ms vs ws rs → place ≡ length ws
    → is_write m ≡ true → HasNumber numbers vs place (version_named m)
number_of_next numbers base is_ok ms rest mops m vs ws rs place have whole taken count writes =
    let (w, at, is) = next_write ms rest m writes in
    let there : place ≡ length (writes_of ms) = count ∙ accesses_count vs (map version_of (writes_of ms)) ws taken.writes ∙ length-map (writes_of ms) version_of in
    let here : slice_get (writes_of mops) place ≡ Some w =
    ap (λ (us : List Mop). slice_get (writes_of us) place) whole ∙ ap (slice_get (writes_of (ms ++ m ∷ rest))) there ∙ at in
    number_stays numbers base vs (λ n v h. ap (λ (xs : List Version). slice_get xs n) taken.versions ∙ versions_stay base (named_in is_ok ms) n v h) place (version_named m)
    (subst (λ (v : Version). HasNumber numbers base place v) is (have place w here))

-- ---- a version by its number

-- the key of the version with a number
pub key_of_number : (s : Numbers) (number : ℕ) (p : ℕ × Option ℕ) (v : Version) → slice_get s.pairs number ≡ Some p → slice_get (versions_of s) number ≡ Some v → key_at s.keys p.0 ≡ v.key
key_of_number s number p v at is =
    ap (λ (u : Version). u.key)
    (same_item (version_by s.keys s.values p) v
    (sym (slice_get-map (version_by s.keys s.values) s.pairs number ∙ ap (option_map (version_by s.keys s.values)) at) ∙ is))
