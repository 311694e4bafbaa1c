-- What is kept of marks.
use Rattle.std.proofs.Common.{◌≡◌, ℕ, zero, suc, ◌-◌, ◌<◌, ◌≤◌, ◌==◌, List, [], ◌∷◌, Bool, true, false, ◌||◌, Option, refl, sym, ◌∙◌, ap, arith}
use Rattle.std.specs.Bool.{if◌then◌else◌}
use Rattle.std.specs.Option.{is_some}
use Rattle.std.proofs.lemmas.Bool.{eqb-true}
use Rattle.std.proofs.lemmas.Bool.Decides.{nat_tests}
use Rattle.hist_types.specs.Forms.{is_drop, has_drop, still_waiting}
use Rattle.hist_types.specs.Tokens.{Item}
use Rattle.edn_ops.specs.Marks.{Waits, any_mark, drops_among, up_to, FirstAt, LastAt}
use Rattle.edn_ops.proofs.Levels.{nothing_waits}

-- ---- how many wait

drops-left_out_if :
    (b : Bool) (marks : List Item) → (b || has_drop marks) ≡ true → (has_drop marks ≡ true → drops_among marks ≡ suc (drops_among (still_waiting marks))) →
    (if b then suc (drops_among marks) else drops_among marks) ≡ suc (drops_among (if b then marks else still_waiting marks))
drops-left_out_if true marks h more = refl
drops-left_out_if false marks h more = more h

pub drops-left_out : (marks : List Item) → has_drop marks ≡ true → drops_among marks ≡ suc (drops_among (still_waiting marks))
drops-left_out [] h = cc
drops-left_out (m ∷ marks) h = drops-left_out_if (is_drop m) marks h (drops-left_out marks)

drops-none_if : (b : Bool) (marks : List Item) → (b || has_drop marks) ≡ false → (has_drop marks ≡ false → drops_among marks ≡ 0) →
    (if b then suc (drops_among marks) else drops_among marks) ≡ 0
drops-none_if true marks h more = cc
drops-none_if false marks h more = more h

pub drops-none : (marks : List Item) → has_drop marks ≡ false → drops_among marks ≡ 0
drops-none [] h = refl
drops-none (m ∷ marks) h = drops-none_if (is_drop m) marks h (drops-none marks)

pub Waits-drops : (drops : ℕ) (tag : Option ℕ) (marks : List Item) → Waits drops tag marks → drops_among marks ≡ drops
Waits-drops zero tag marks h = drops-none marks h.0
Waits-drops (suc drops) tag marks h = drops-left_out marks h.0 ∙ ap suc (Waits-drops drops tag (still_waiting marks) h.1)

-- ---- whether some wait

-- ---- the last mark behind which so many wait

test_true : (a b : ℕ) → a ≡ b → (a == b) ≡ true
test_true a b h = grind (arith, nat_tests)

test_false : (a b : ℕ) → a < b → (a == b) ≡ false
test_false a b h = grind (arith, nat_tests)

pub LastAt-whole : (drops : ℕ) (m : Item) (ms : List Item) (place : ℕ) → drops_among (m ∷ ms) ≡ drops → LastAt drops (m ∷ ms) place → place ≡ m.start
LastAt-whole drops m ms place is h = h m ms (ap (λ b. if b then m ∷ ms else up_to drops ms) (test_true (drops_among (m ∷ ms)) drops is))

drops_among-less : (drops : ℕ) (b : Bool) (n : ℕ) → (if b then suc n else n) < drops → n < drops
drops_among-less drops true n h = omega arith
drops_among-less drops false n h = h

-- fewer than so many wait behind each
up_to-few : (drops : ℕ) (marks : List Item) → drops_among marks < drops → up_to drops marks ≡ []
up_to-few drops [] h = refl
up_to-few drops (m ∷ marks) h =
    let fewer : drops_among marks < drops = drops_among-less drops (is_drop m) (drops_among marks) h in
    ap (λ b. if b then m ∷ marks else up_to drops marks) (test_false (drops_among (m ∷ marks)) drops h) ∙ up_to-few drops marks fewer

FirstAt-none : (marks : List Item) (place : ℕ) → marks ≡ [] → FirstAt marks place
FirstAt-none marks place h = λ m ms e. absurd (let clash : [] ≡ m ∷ ms = sym h ∙ e in cc)

-- when a form has settled against all these, fewer wait
settled_few : (drops : ℕ) (marks : List Item) (place : ℕ) → drops_among marks ≡ drops → (b : Bool) → has_drop marks ≡ b → LastAt drops (still_waiting marks) place
settled_few drops marks place is true h =
    FirstAt-none _ place (up_to-few drops (still_waiting marks) (let e = drops-left_out marks h in omega arith))
settled_few drops marks place is false h = FirstAt-none _ place (ap (up_to drops) (nothing_waits marks h))

-- against a `#_`
settled-drop :
    (b : Bool) (drops : ℕ) (m : Item) (marks : List Item) (place : ℕ) → (suc (drops_among marks) == drops) ≡ b →
    FirstAt (if b then m ∷ marks else up_to drops marks) place → LastAt drops marks place
settled-drop true drops m marks place is h =
    FirstAt-none _ place (up_to-few drops marks (let e = eqb-true (suc (drops_among marks)) drops is in omega arith))
settled-drop false drops m marks place is h = h

-- against a tag, and then against what is before it
settled-tag :
    (b : Bool) (drops : ℕ) (m : Item) (marks : List Item) (place : ℕ) → (drops_among marks == drops) ≡ b →
    FirstAt (if b then m ∷ marks else up_to drops marks) place → (LastAt drops marks place → LastAt drops (still_waiting marks) place) →
    LastAt drops (still_waiting marks) place
settled-tag true drops m marks place is h more = settled_few drops marks place (eqb-true (drops_among marks) drops is) (has_drop marks) refl
settled-tag false drops m marks place is h more = more h

pub LastAt-settled : (drops : ℕ) (marks : List Item) (place : ℕ) → LastAt drops marks place → LastAt drops (still_waiting marks) place
LastAt-settled drops [] place h = h
LastAt-settled drops (m ∷ marks) place h =
    let n = drops_among marks in
    elim (is_drop m) as (λ b. FirstAt (if (if b then suc n else n) == drops then m ∷ marks else up_to drops marks) place → LastAt drops (if b then marks else still_waiting marks) place) [
      | true ↦ λ h. settled-drop (suc n == drops) drops m marks place refl h
      | false ↦ λ h. settled-tag (n == drops) drops m marks place refl h (LastAt-settled drops marks place)
    ] h

-- where no `#_` waits
pub Waits-by_tag : (drops : ℕ) (tag : Option ℕ) (marks : List Item) → drops ≤ 0 → Waits drops tag marks → is_some tag ≡ any_mark marks
Waits-by_tag drops tag marks h g = grind arith

-- a settled form leaves one `#_` less, if one waits
drops-settled_if : (b : Bool) (marks : List Item) → has_drop marks ≡ b → drops_among (still_waiting marks) ≡ drops_among marks - 1
drops-settled_if true marks h = let e = drops-left_out marks h in omega arith
drops-settled_if false marks h =
    let e = drops-none marks h in
    let none : drops_among (still_waiting marks) ≡ 0 = ap drops_among (nothing_waits marks h) in
    omega arith

pub drops-settled : (marks : List Item) → drops_among (still_waiting marks) ≡ drops_among marks - 1
drops-settled marks = drops-settled_if (has_drop marks) marks refl
