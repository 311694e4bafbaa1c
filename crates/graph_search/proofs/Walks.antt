-- Ranks along walks.
use Rattle.std.proofs.Common.{eq-eqb, ◌≡◌, ℕ, ◌+◌, ◌-◌, ◌<◌, ◌≤◌, List, length, All, get_or, suc, zero, subst, ap, ◌∙◌, arith}
use Rattle.std.proofs.lemmas.List.{get_or_default}
use Rattle.graph_search.specs.Graphs.{Graph, VertexSet, HasArc, HasArcInto, AreRanks, IsWalk, of_rank}

-- from one place of a walk to a later one
pub rises : (g : Graph) (ranks walk : List ℕ) (from to : ℕ) → AreRanks g ranks → IsWalk (HasArc g) from to walk → (j n : ℕ) → j + n < length walk
    → get_or ranks (get_or walk j 0) 0 ≤ get_or ranks (get_or walk (j + n) 0) 0
rises g ranks walk from to are is j zero h =
    let e : j ≡ j + 0 = omega arith in
    let start : get_or ranks (get_or walk j 0) 0 ≤ get_or ranks (get_or walk j 0) 0 = omega arith in
    subst (λ m. get_or ranks (get_or walk j 0) 0 ≤ get_or ranks (get_or walk m 0) 0) e start
rises g ranks walk from to are is j (suc n) h =
    let e : j + n + 1 ≡ j + suc n = omega arith in
    let before : get_or ranks (get_or walk j 0) 0 ≤ get_or ranks (get_or walk (j + n) 0) 0 = rises g ranks walk from to are is j n (omega arith) in
    let next : get_or ranks (get_or walk (j + n) 0) 0 ≤ get_or ranks (get_or walk (j + n + 1) 0) 0 =
    are.rising (get_or walk (j + n) 0) (get_or walk (j + n + 1) 0) (is.joined (j + n) (omega arith)) in
    let both : get_or ranks (get_or walk j 0) 0 ≤ get_or ranks (get_or walk (j + n + 1) 0) 0 = omega (arith, before, next) in
    subst (λ m. get_or ranks (get_or walk j 0) 0 ≤ get_or ranks (get_or walk m 0) 0) e both

pub from_first : (g : Graph) (ranks walk : List ℕ) (from to : ℕ) → AreRanks g ranks → IsWalk (HasArc g) from to walk → (k : ℕ) → k < length walk
    → get_or ranks from 0 ≤ get_or ranks (get_or walk k 0) 0
from_first g ranks walk from to are is k h =
    let e : 0 + k ≡ k = omega arith in
    let up : get_or ranks (get_or walk 0 0) 0 ≤ get_or ranks (get_or walk (0 + k) 0) 0 = rises g ranks walk from to are is 0 k (omega arith) in
    subst (λ m. get_or ranks from 0 ≤ get_or ranks (get_or walk m 0) 0) e (subst (λ v. get_or ranks v 0 ≤ get_or ranks (get_or walk (0 + k) 0) 0) is.begins up)

pub to_last : (g : Graph) (ranks walk : List ℕ) (from to : ℕ) → AreRanks g ranks → IsWalk (HasArc g) from to walk → (k : ℕ) → k < length walk
    → get_or ranks (get_or walk k 0) 0 ≤ get_or ranks to 0
to_last g ranks walk from to are is k h =
    let e : k + (length walk - 1 - k) ≡ length walk - 1 = omega arith in
    let up : get_or ranks (get_or walk k 0) 0 ≤ get_or ranks (get_or walk (k + (length walk - 1 - k)) 0) 0 =
    rises g ranks walk from to are is k (length walk - 1 - k) (omega arith) in
    subst (λ v. get_or ranks (get_or walk k 0) 0 ≤ get_or ranks v 0) (ap (λ m. get_or walk m 0) e ∙ is.ends) up

pub raise : (g : Graph) (ranks walk : List ℕ) (from to : ℕ) → AreRanks g ranks → IsWalk (HasArc g) from to walk
    → get_or ranks from 0 ≤ get_or ranks to 0
raise g ranks walk from to are is =
    let first : get_or ranks (get_or walk 0 0) 0 ≤ get_or ranks to 0 = to_last g ranks walk from to are is 0 is.some in
    subst (λ v. get_or ranks v 0 ≤ get_or ranks to 0) is.begins first

pub keep : (g : Graph) (ranks walk : List ℕ) (from to : ℕ) → AreRanks g ranks → IsWalk (HasArc g) from to walk
    → get_or ranks from 0 ≡ get_or ranks to 0 → All (λ v. get_or ranks v 0 ≡ get_or ranks to 0) walk
keep g ranks walk from to are is same k d h =
    let up : get_or ranks from 0 ≤ get_or ranks (get_or walk k 0) 0 = from_first g ranks walk from to are is k h in
    let on : get_or ranks (get_or walk k 0) 0 ≤ get_or ranks to 0 = to_last g ranks walk from to are is k h in
    let equal : get_or ranks (get_or walk k 0) 0 ≡ get_or ranks to 0 = omega (arith, up, on, same) in
    ap (λ v. get_or ranks v 0) (get_or_default walk k d 0 h) ∙ equal

pub arc : (g : Graph) (ranks walk : List ℕ) (v w : ℕ) → AreRanks g ranks → HasArc g v w → IsWalk (HasArc g) w v walk
    → get_or ranks w 0 ≡ get_or ranks v 0
arc g ranks walk v w are has is =
    let up : get_or ranks v 0 ≤ get_or ranks w 0 = are.rising v w has in
    let on : get_or ranks w 0 ≤ get_or ranks v 0 = raise g ranks walk w v are is in
    omega (arith, up, on)

pub least : (g : Graph) (ranks walk : List ℕ) (from to : ℕ) → AreRanks g ranks → IsWalk (HasArc g) from to walk
    → All (λ v. get_or ranks from 0 ≤ get_or ranks v 0) walk
least g ranks walk from to are is k d h =
    subst (λ v. get_or ranks from 0 ≤ get_or ranks v 0) (get_or_default walk k 0 d h) (from_first g ranks walk from to are is k h)

pub most : (g : Graph) (ranks walk : List ℕ) (from to : ℕ) → AreRanks g ranks → IsWalk (HasArc g) from to walk
    → All (λ v. get_or ranks v 0 ≤ get_or ranks to 0) walk
most g ranks walk from to are is k d h =
    subst (λ v. get_or ranks v 0 ≤ get_or ranks to 0) (get_or_default walk k 0 d h) (to_last g ranks walk from to are is k h)

pub inside : (g : Graph) (ranks walk : List ℕ) (from to : ℕ) → AreRanks g ranks → get_or ranks from 0 ≡ get_or ranks to 0 → IsWalk (HasArc g) from to walk
    → IsWalk (HasArcInto g (of_rank ranks (get_or ranks to 0))) from to walk
inside g ranks walk from to are same is = record {
  some = is.some;
  begins = is.begins;
  ends = is.ends;
  joined = λ k h. (is.joined k h, eq-eqb (get_or ranks (get_or walk (k + 1) 0) 0) (get_or ranks to 0) (keep g ranks walk from to are is same (k + 1) 0 h));
}

pub outside : (g : Graph) (allowed : VertexSet) (walk : List ℕ) (from to : ℕ) → IsWalk (HasArcInto g allowed) from to walk → IsWalk (HasArc g) from to walk
outside g allowed walk from to is = record { some = is.some; begins = is.begins; ends = is.ends; joined = λ k h. (is.joined k h).0 }
